-- An accepted body says nothing that is not allowed. Assumes nothing.
use Rattle.std.specs.Prelude.{Ok}
use mathlib.Core.Path.{◌≡◌, refl, sym, subst}
use mathlib.Core.Bool.{false}
use mathlib.Core.List.{List, [], ◌∷◌, ◌++◌}
use Prim.Native.Nat.{ℕ}
use native.Mathlib.Omega.{arith}
use borrow.Author.Tests.{leb-false}
use lib.Dec.{leb, eqb}
use lib.ListN.{length, drop}
use Rattle.answer.specs.Faults.{placed_at}
use Rattle.answer.proofs.Placing.{placed_value}
use Rattle.answer.proofs.Yielding.{Yields, of_refusal, of_value, either_way_lem, after_check, after_all, after_value}
use Rattle.element.proofs.FixedLength.{opened}
use Rattle.element.specs.ChannelSwitch.{switch_means, switch_in, switch_forbids}
use Rattle.element.specs.PowerConstraint.{power_means}
use Rattle.element.specs.Quiet.{quiet_means, quiet_in, quiet_forbids}
use Rattle.element.specs.TpcReport.{tpc_report_means}
use Rattle.element.specs.declared.channel_switch.ChannelSwitch.{ChannelSwitch}
use Rattle.element.specs.declared.quiet.Quiet.{Quiet}
use Rattle.walk.specs.Elements.{Elements, end, cut_header, cut_contents, more, elements_in, past_element}
use Rattle.beacon.specs.Allowed.{SwitchAllowed, QuietsAllowed, Allowed}
use Rattle.beacon.specs.Beacons.{Told, tells, opening, quiet_limit, fixed_length, element_means, adds, takes, says, beacon_means}
use Rattle.beacon.specs.Notices.{with_power, with_report, with_switch}
use Rattle.beacon.specs.declared.Notice.{Notice}
use Rattle.beacon.specs.declared.elements.Element.{Element}
use Rattle.beacon.proofs.Slots.{one_more}

-- the announcement of accepted contents is none that is forbidden
pub switch_allowed : (c : List ℕ) (w : ChannelSwitch) → switch_means c ≡ Ok w → switch_forbids w ≡ false
unfolding switch_means
switch_allowed c w e = (opened 3 switch_in switch_forbids c w e).2

module _ (b : ℕ) where
  quiet_allowed : (c : List ℕ) (q : Quiet) → quiet_means b c ≡ Ok q → quiet_forbids b q ≡ false
  unfolding quiet_means
  quiet_allowed c q e = (opened 6 quiet_in (quiet_forbids b) c q e).2

  -- ---- an element

  -- no value of it is forbidden
  abbrev ElementAllowed : Element → Type 0
  ElementAllowed (Element.Power p) = Unit {0}
  ElementAllowed (Element.Report t) = Unit {0}
  ElementAllowed (Element.Switch w) = switch_forbids w ≡ false
  ElementAllowed (Element.Quiet q) = quiet_forbids b q ≡ false
  ElementAllowed Element.Other = Unit {0}

  element_allowed : (id : ℕ) (c : List ℕ) → Yields ElementAllowed (element_means b id c)
  unfolding element_means
  element_allowed id c =
      either_way_lem _ (eqb id 32) _ _ (after_value _ (power_means c) _ (λ p e. of_value _ tt))
      (either_way_lem _ (eqb id 35) _ _ (after_value _ (tpc_report_means c) _ (λ t e. of_value _ tt))
      (either_way_lem _ (eqb id 37) _ _ (after_value _ (switch_means c) _ (λ w e. of_value _ (switch_allowed c w e)))
      (either_way_lem _ (eqb id 40) _ _ (after_value _ (quiet_means b c) _ (λ q e. of_value _ (quiet_allowed c q e)))
      (of_value _ tt))))

  one_more_allowed : (qs : List Quiet) (q : Quiet) → QuietsAllowed b qs → quiet_forbids b q ≡ false → QuietsAllowed b (qs ++ (q ∷ []))
  one_more_allowed [] q a e = (e, tt)
  one_more_allowed (x ∷ qs) q a e = (a.0, one_more_allowed qs q a.1 e)

  with_switch_lem : (t : Told) (w : ChannelSwitch) → Allowed b t → switch_forbids w ≡ false → Allowed b (tells (with_switch t.notice w) t.quiets)
  with_switch_lem t w a e = record { few = a.few; switch_allowed = e; quiets_allowed = a.quiets_allowed }

  with_quiet : (t : Told) (q : Quiet) → Allowed b t → quiet_forbids b q ≡ false → leb quiet_limit (length t.quiets) ≡ false
      → Allowed b (tells t.notice (t.quiets ++ (q ∷ [])))
  with_quiet t q a e room =
      record {
        few = rw one_more (omega (arith, leb-false quiet_limit (length t.quiets) room));
        switch_allowed = a.switch_allowed;
        quiets_allowed = one_more_allowed t.quiets q a.quiets_allowed e;
      }

  -- a notice of which the announcement stays
  same_switch : {t : Told} (n : Notice) → n.switch ≡ t.notice.switch → Allowed b t → Allowed b (tells n t.quiets)
  same_switch n e a = record { few = a.few; switch_allowed = subst SwitchAllowed (sym e) a.switch_allowed; quiets_allowed = a.quiets_allowed }

  allowed_adds : (t : Told) → Allowed b t → (e : Element) → ElementAllowed e → Yields (Allowed b) (adds t e)
  allowed_adds t a (Element.Power p) x = after_check _ _ _ _ (λ once. after_all _ _ (of_value _ (same_switch (with_power t.notice p) refl a)))
  allowed_adds t a (Element.Report r) x = after_check _ _ _ _ (λ once. after_all _ _ (of_value _ (same_switch (with_report t.notice r) refl a)))
  allowed_adds t a (Element.Switch w) x = after_check _ _ _ _ (λ once. after_all _ _ (of_value _ (with_switch_lem t w a x)))
  allowed_adds t a (Element.Quiet q) x = after_check _ _ _ _ (λ room. after_all _ _ (of_value _ (with_quiet t q a x room)))
  allowed_adds t a Element.Other x = of_value _ a

  -- ---- a body

  pub allowed_takes : (id : ℕ) (c : List ℕ) (t : Told) → Allowed b t → Yields (Allowed b) (takes b id c t)
  unfolding takes
  allowed_takes id c t a = after_value _ (element_means b id c) (adds t) (λ e same. allowed_adds t a e (element_allowed id c e same))

  allowed_says : (n : ℕ) (es : Elements) (t : Told) → Allowed b t → Yields (Allowed b) (says (takes b) n es t)
  unfolding says
  allowed_says n end t a = of_value (Allowed b) a
  allowed_says n (cut_header o) t a = of_refusal (Allowed b) _
  allowed_says n (cut_contents id) t a = of_refusal (Allowed b) _
  allowed_says n (more id c es) t a =
      after_value (Allowed b) (placed_at n (takes b id c t)) (says (takes b) (past_element n c) es)
      (λ next e. allowed_says (past_element n c) es next (allowed_takes id c t a next (placed_value n (takes b id c t) e)))

  pub opening_allowed : (body : List ℕ) → Allowed b (opening body)
  opening_allowed body = record { few = omega arith; switch_allowed = tt; quiets_allowed = tt }

  pub beacon_allowed : (body : List ℕ) → Yields (Allowed b) (beacon_means b body)
  unfolding beacon_means
  beacon_allowed body =
      after_check _ _ _ _ (λ w. after_check _ _ _ _ (λ x. after_all _ _
      (allowed_says fixed_length (elements_in (drop fixed_length body)) (opening body) (opening_allowed body))))
