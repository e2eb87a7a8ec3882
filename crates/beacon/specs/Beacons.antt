-- Beacon and Probe Response bodies (01, "Order": timestamp 8, interval 2, capability 2, any missing 1, interval not B 12,
-- elements). Whole elements but 32, 35, 37 and 40 are skipped; a second 32, 35 or 37 is 10, and a ninth Quiet element 11. The place of
-- an element's fault is its ID octet, and that of another interval its field (02, One).
use Rattle.std.specs.Prelude.{not, List, [], ◌∷◌, ◌++◌, ℕ, ltb, leb, eqb, pos, length, drop, is_some, Ok, Err}
use Rattle.answer.specs.Checks.{Outcome, pick, ◌⇒◌, checked, judged, and_then}
use Rattle.answer.specs.Faults.{fault_at, fault_nowhere, Placed, placed_at}
use Rattle.answer.specs.declared.Refusal.{Refusal}
use Rattle.element.specs.ChannelSwitch.{switch_means}
use Rattle.element.specs.PowerConstraint.{power_means}
use Rattle.element.specs.Quiet.{quiet_means}
use Rattle.element.specs.TpcReport.{tpc_report_means}
use Rattle.element.specs.declared.quiet.Quiet.{Quiet}
use Rattle.element.specs.declared.tpc_report.TpcReport.{TpcReport}
use Rattle.octets.specs.Numbers.{number}
use Rattle.walk.specs.Elements.{Elements, end, cut_header, cut_contents, more, elements_in, past_element}
use Rattle.beacon.specs.Notices.{elementless, with_power, with_report, with_switch}
use Rattle.beacon.specs.declared.Notice.{Notice}
use Rattle.beacon.specs.declared.elements.Element.{Element}

-- the octets of the fixed fields, and how many stand before the interval
abbrev pub fixed_length : ℕ
fixed_length = 12

abbrev pub interval_field : ℕ
interval_field = 8

-- at most 8 Quiet elements in one frame
abbrev pub quiet_limit : ℕ
quiet_limit = 8

-- what a body says: the notice, and the Quiet elements in their order
pub record Told : Type 0 where
  pub notice : Notice
  pub quiets : List Quiet

abbrev pub tells : Notice → List Quiet → Told
tells n qs = record { notice = n; quiets = qs }

-- a TPC Report in a beacon or a probe response: its margin is set to 0 there, and is ignored (7.3.2.18)
abbrev pub without_margin : TpcReport → TpcReport
without_margin t = record { power = t.power; margin = pos 0 }

-- a whole element by its ID: length (8), value (9)
unfoldable pub element_means : ℕ → ℕ → List ℕ → Outcome Element
element_means b id c =
    pick (eqb id 32) (and_then (power_means c) (λ p. Ok (Element.Power p)))
    (pick (eqb id 35) (and_then (tpc_report_means c) (λ t. Ok (Element.Report (without_margin t))))
    (pick (eqb id 37) (and_then (switch_means c) (λ s. Ok (Element.Switch s)))
    (pick (eqb id 40) (and_then (quiet_means b c) (λ q. Ok (Element.Quiet q)))
    (Ok Element.Other))))

-- what was said, and one element more: a repeat (10 or 11), or what is said with it
abbrev pub adds : Told → Element → Outcome Told
adds t (Element.Power p) = judged (is_some t.notice.power ⇒ Refusal.Repeated ∷ []) (tells (with_power t.notice p) t.quiets)
adds t (Element.Report r) = judged (is_some t.notice.report ⇒ Refusal.Repeated ∷ []) (tells (with_report t.notice r) t.quiets)
adds t (Element.Switch s) = judged (is_some t.notice.switch ⇒ Refusal.Repeated ∷ []) (tells (with_switch t.notice s) t.quiets)
adds t (Element.Quiet q) = judged (leb quiet_limit (length t.quiets) ⇒ Refusal.TooManyQuiets ∷ []) (tells t.notice (t.quiets ++ (q ∷ [])))
adds t Element.Other = Ok t

unfoldable pub takes : ℕ → ℕ → List ℕ → Told → Outcome Told
takes b id c t = and_then (element_means b id c) (adds t)

-- all elements, in their order, each added by `step` to what was said before it; n octets stand before them
unfoldable pub says : {A : Type 0} → (ℕ → List ℕ → A → Outcome A) → ℕ → Elements → A → Placed A
says step n end t = Ok t
says step n (cut_header o) t = Err (fault_at n Refusal.ElementCut)
says step n (cut_contents id) t = Err (fault_at n Refusal.ElementCut)
says step n (more id c es) t = and_then (placed_at n (step id c t)) (says step (past_element n c) es)

-- a body: its fixed fields (1, 12), then the elements, where `before` is said before any of them
abbrev pub body_means : {A : Type 0} → (ℕ → List ℕ → A → Outcome A) → A → ℕ → List ℕ → Placed A
body_means step before b body =
    checked
    (ltb (length body) fixed_length ⇒ fault_nowhere Refusal.TooShort
    ∷ not (eqb (number 2 interval_field body) b) ⇒ fault_at interval_field Refusal.OtherInterval
    ∷ [])
    (says step fixed_length (elements_in (drop fixed_length body)) before)

-- before any element
abbrev pub opening : List ℕ → Told
opening body = tells (elementless (number 8 0 body) (number 2 10 body)) []

unfoldable pub beacon_means : ℕ → List ℕ → Placed Told
beacon_means b body = body_means (takes b) (opening body) b body
