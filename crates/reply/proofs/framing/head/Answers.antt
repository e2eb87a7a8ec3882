-- `head` meets its contract: an address is its six octets.
-- Assumes nothing.
use Rattle.std.proofs.Common.{List, ap, ap₂, length, rules, ℕ, ◌∙◌, ◌≡◌}
use Rattle.octets.specs.Numbers.{octets_from}
use Rattle.reply.specs.Frames.{head_to}
use Rattle.reply.proofs.Framed.{six}
use Rattle.reply.proofs.framing.head.Goals as goal

pub returns : goal.returns
returns c =
    let own : length c.args.own ≡ 6 = search rules in
    let to : length c.args.to ≡ 6 = search rules in
    let bss : length c.args.bssid ≡ 6 = search rules in
    ap₂ (λ (o t : List ℕ). head_to o t (octets_from 6 0 c.args.bssid)) (six c.args.own own) (six c.args.to to)
    ∙ ap (head_to c.args.own c.args.to) (six c.args.bssid bss)
