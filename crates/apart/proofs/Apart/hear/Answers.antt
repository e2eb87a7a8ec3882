-- `Apart::hear` meets its contract: what is heard changes the parts as the station's taking changes the whole.
use Rattle.apart.proofs.Heard.{refused, accepted}
use Rattle.apart.proofs.Apart.hear.Goals as goal

pub returns-in-Err : goal.returns-in-Err
returns-in-Err c = refused c.args.self c.args.columns.now c.args.frame.now _ c.in-Err.ensures c.requires

pub returns-in-Ok : goal.returns-in-Ok
returns-in-Ok c =
    accepted c.args.self c.args.columns.now c.args.frame.now _ _ _ c.in-Ok.ensures c.requires c.changed.ensures.station c.changed.ensures.rows
