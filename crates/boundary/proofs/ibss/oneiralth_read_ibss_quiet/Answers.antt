-- `oneiralth_read_ibss_quiet` meets its contract where the frame is accepted: the element at the index, of the addresses that the numbers stand for.
use Rattle.std.specs.Prelude.{Ok}
use Rattle.std.proofs.Common.{List, ap, sym, ℕ, ◌∙◌, ◌≡◌}
use Rattle.answer.specs.Checks.{Outcome, and_then}
use Rattle.element.specs.Quiet.{quiet_contents}
use Rattle.element.specs.declared.quiet.Quiet.{Quiet}
use Rattle.frame.specs.IbssFrames.{ibss_frame_means}
use Rattle.frame.specs.IbssLaid.{ibss_laid}
use Rattle.boundary.specs.Codes.{address_of}
use Rattle.boundary.specs.ElementFields.{quiet_of}
use Rattle.boundary.specs.IbssFields.{sent_in}
use Rattle.boundary.proofs.Coded.{given_from}
use Rattle.boundary.proofs.QuietsByIndex.{laid_in_ibss, quiet_held}
use Rattle.boundary.proofs.ibss.oneiralth_read_ibss_quiet.Goals as goal

abbrev fields : Outcome Quiet → Outcome (List ℕ)
fields o = and_then o (λ q. Ok (quiet_contents q))

pub returns-in-Ok : goal.returns-in-Ok
returns-in-Ok c =
    let a = c.args in
    let sent = ibss_frame_means (address_of a.own) (address_of a.bssid) a.interval a.frame.now in
    let read : (ibss_laid sent).received ≡ Ok c.in-Ok.received = cc in
    given_from (fields (quiet_of a.index (sent_in sent))) _ _ _ _ _ (ap fields (sym (quiet_held a.index (sent_in sent) (sym (laid_in_ibss sent) ∙ read)))) c.put_quiet.ensures c.wrote.ensures
