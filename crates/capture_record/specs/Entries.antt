-- What a record notes (01, "Capture blocks and the evening list": kind 1 advance (2), 2 frame, 3 ask (2), 4 start (15: own address, AP, channel,
-- B)). An unknown kind or a wrong length is malformed.
use Rattle.std.specs.Prelude.{List, ℕ, eqb, length}
use Rattle.answer.specs.Checks.{pick}
use Rattle.octets.specs.Numbers.{octet, octets_from, number}
use Rattle.capture_record.specs.declared.entry.Entry.{Entry}
use Rattle.capture_record.specs.declared.entry.Settings.{Settings}

pub data Noted : Type 0 where
  malformed : Noted
  starting : Settings → Noted
  advancing : ℕ → Noted
  hearing : List ℕ → Noted
  asking : ℕ → Noted

abbrev pub settings_of : List ℕ → Settings
settings_of c = record { own = octets_from 6 0 c; ap = octets_from 6 6 c; channel = octet 12 c; interval = number 2 13 c }

unfoldable pub entry_means : ℕ → List ℕ → Noted
entry_means kind c =
    pick (eqb kind 1) (pick (eqb (length c) 2) (advancing (number 2 0 c)) malformed)
    (pick (eqb kind 2) (hearing c)
    (pick (eqb kind 3) (pick (eqb (length c) 2) (asking (number 2 0 c)) malformed)
    (pick (eqb kind 4) (pick (eqb (length c) 15) (starting (settings_of c)) malformed) malformed)))

-- the entry that each case of the answer stands for
abbrev pub entry_told : List ℕ → Entry → Noted
entry_told c Entry.Malformed = malformed
entry_told c Entry.Start = starting (settings_of c)
entry_told c (Entry.Advance n) = advancing n
entry_told c Entry.Frame = hearing c
entry_told c (Entry.Ask n) = asking n
