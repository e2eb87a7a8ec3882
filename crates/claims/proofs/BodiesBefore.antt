-- The first octets of a body that is refused at an element are a body that is accepted, or one whose first element is absent. Assumes nothing.
use Rattle.std.specs.Prelude.{Ok, Err}
use mathlib.Core.Bool.{Bool, true, false, not}
use mathlib.Core.List.{List, [], ◌∷◌, ◌++◌}
use mathlib.Core.Path.{◌≡◌, refl, sym, ap, ap₂, subst, ◌∙◌}
use Prim.Native.Nat.{ℕ, zero, suc, ◌<◌, ◌≤◌}
use native.Mathlib.Omega.{arith}
use borrow.Author.Tests.{le-ltb, ltb-false}
use lib.Dec.{ltb, eqb}
use lib.ListN.{length, take, drop}
use lib.Seq.{take-append-add}
use Rattle.action.specs.Openings.{category_field, action_field, token_field, fixed_fields, switch_fixed_fields, forbids_token, opens_with}
use Rattle.answer.proofs.Judged.{never, past, through}
use Rattle.answer.specs.Checks.{pick, ◌⇒◌, judged, and_then}
use Rattle.answer.specs.Faults.{fault_at, fault_nowhere, Placed}
use Rattle.answer.specs.declared.Refusal.{Refusal}
use Rattle.beacon.specs.Beacons.{Told, fixed_length, interval_field, opening, takes, says, beacon_means, tells}
use Rattle.beacon.specs.Notices.{elementless}
use Rattle.element.specs.ChannelSwitch.{switch_means}
use Rattle.element.specs.TpcReport.{tpc_report_means}
use Rattle.element.specs.TpcRequest.{tpc_request_means}
use Rattle.frame.proofs.ActionParts.{Begins, begins, opens, opens_switch, by_lead}
use Rattle.frame.specs.Actions.{Body, requests, reports, tpc_request, tpc_report, switch, after_opening, action_means}
use Rattle.measurement_body.specs.Lists.{measurements_in}
use Rattle.measurement_body.specs.Reports.{report_sort}
use Rattle.measurement_body.specs.Requests.{request_sort}
use Rattle.octets.specs.Numbers.{octet, number, join}
use Rattle.single_body.specs.Singles.{single}
use Rattle.walk.specs.Elements.{elements_in}
use Rattle.walk.specs.Handed.{handed_in}
use Rattle.octets.proofs.Parts.{after_cut}
use Rattle.claims.proofs.Cut.{from_kept, long_kept}
use Rattle.claims.proofs.ElementsBefore.{Accepts, Reached, says_before, measurements_before, none_measured, single_before, none_single}
use Rattle.claims.proofs.RefusedAt.{unfailed, unchecked, refused_by, made_refused, same_place, some_place}
use Rattle.action.specs.declared.Opening.{Opening}

-- ---- a beacon or a probe response

module _ (b : ℕ) (body : List ℕ) (q : ℕ) (r : Refusal) (late : fixed_length ≤ q) where
  -- the fixed fields stand
  record Fixed : Type 0 where
    whole : fixed_length ≤ length body
    interval : not (eqb (number 2 interval_field body) b) ≡ false
    rest : says (takes b) fixed_length (elements_in (drop fixed_length body)) (opening body) ≡ Err (fault_at q r)

  fixed : beacon_means b body ≡ Err (fault_at q r) → Fixed
  unfolding beacon_means
  fixed e =
      let long = unfailed _ _ _ (some_place Refusal.TooShort q r) e in
      let due = unfailed _ _ _ (λ g. omega (arith, same_place interval_field q Refusal.OtherInterval r g)) long.1 in
      record { whole = ltb-false (length body) fixed_length long.0; interval = due.0; rest = unchecked _ due.1 }

  -- and so in the first octets
  same_opening : opening (take q body) ≡ opening body
  same_opening =
      ap₂ (λ (t c : List ℕ). tells (elementless (join t) (join c)) []) (from_kept q body 8 0 (omega arith)) (from_kept q body 2 10 (omega arith))

  pub notice_before : beacon_means b body ≡ Err (fault_at q r) → Accepts (beacon_means b (take q body))
  unfolding beacon_means
  notice_before e =
      let x = fixed e in
      let s = says_before b (elements_in (drop fixed_length body)) fixed_length (drop fixed_length body) (opening body) q r refl x.rest in
      let run : drop fixed_length (take q body) ≡ take s.own (drop fixed_length body) =
      ap (λ (n : ℕ). drop fixed_length (take n body)) s.place ∙ after_cut fixed_length s.own body x.whole in (
        s.holds.0,
        sym
            (past _ _ _ (le-ltb (length (take q body)) fixed_length (long_kept q body fixed_length late x.whole))
            (past _ _ _ (ap (λ (os : List ℕ). not (eqb (join os) b)) (from_kept q body 2 interval_field (omega arith)) ∙ x.interval)
            (through _
            (sym
            (ap₂ (λ (os : List ℕ) (t : Told). says (takes b) fixed_length (elements_in os) t) run same_opening ∙ s.holds.1))))),
      )

-- ---- an action body

-- the octets before its first element
abbrev pub fields_of : List ℕ → ℕ
fields_of body = pick (eqb (octet action_field body) 4) switch_fixed_fields fixed_fields

pub record ActionBefore (body : List ℕ) (q : ℕ) : Type 0 where
  pub absent : q ≡ fields_of body → action_means (take q body) ≡ Err (fault_at q Refusal.ElementAbsent)
  pub later : fields_of body < q → Accepts (action_means (take q body))

-- a body with these fixed fields, by what is said of the run after them
module _ {A : Type 0} (lead : List ℕ) (inner : List ℕ → Placed A) (make : A → Body)
    (means : (run : List ℕ) → action_means (lead ++ run) ≡ and_then (inner run) (λ a. Ok (make a)))
    (fields : (run : List ℕ) → fields_of (lead ++ run) ≡ length lead)
    (none : inner [] ≡ Err (fault_at (length lead) Refusal.ElementAbsent))
    (first : (run : List ℕ) (q : ℕ) (r : Refusal) → inner run ≡ Err (fault_at q r) → Reached (length lead) q (λ k. 0 < k → Accepts (inner (take k run)))) where
  front_before : (run : List ℕ) (q : ℕ) (r : Refusal) → action_means (lead ++ run) ≡ Err (fault_at q r) → ActionBefore (lead ++ run) q
  front_before run q r e =
      let x = first run q r (made_refused (inner run) make (sym (means run) ∙ e)) in
      let cut : action_means (take q (lead ++ run)) ≡ and_then (inner (take x.own run)) (λ a. Ok (make a)) =
      ap (λ (n : ℕ). action_means (take n (lead ++ run))) x.place ∙ ap action_means (take-append-add lead run x.own) ∙ means (take x.own run) in
      record {
        absent =
            λ h.
            let nothing : x.own ≡ 0 = omega (arith, x.place, h, fields run) in
            let place : length lead ≡ q = omega (arith, h, fields run) in
            cut ∙ ap (λ (n : ℕ). and_then (inner (take n run)) (λ a. Ok (make a))) nothing
            ∙ ap (λ (o : Placed A). and_then o (λ a. Ok (make a))) none
            ∙ ap (λ (n : ℕ). Err (fault_at n Refusal.ElementAbsent)) place;
        later =
            λ h.
            let y = x.holds (omega (arith, x.place, h, fields run)) in
            (make y.0, cut ∙ ap (λ (o : Placed A). and_then o (λ a. Ok (make a))) y.1);
      }

  led_before : (body run : List ℕ) (q : ℕ) (r : Refusal) → body ≡ lead ++ run → action_means body ≡ Err (fault_at q r) → ActionBefore body q
  led_before body run q r is e = subst (λ (os : List ℕ). ActionBefore os q) (sym is) (front_before run q r (sym (ap action_means is) ∙ e))

module _ (body : List ℕ) (q : ℕ) (r : Refusal) where
  at_least : (t : Bool) → 2 ≤ pick t switch_fixed_fields fixed_fields
  at_least true = omega arith
  at_least false = omega arith

  -- the fixed fields are at fault before the first element alone
  opens_before : fields_of body ≤ q → opens_with body ≡ Err (fault_at q r) → ⊥
  unfolding opens_with
  opens_before late e =
      let least = at_least (eqb (octet action_field body) 4) in
      let one = unfailed _ _ _ (some_place Refusal.TooShort q r) e in
      let category = unfailed _ _ _ (λ g. omega (arith, same_place category_field q Refusal.ForeignAction r g)) one.1 in
      let two = unfailed _ _ _ (some_place Refusal.TooShort q r) category.1 in
      let action = unfailed _ _ _ (λ g. omega (arith, same_place action_field q Refusal.ForeignAction r g)) two.1 in
      by (eqb (octet action_field body) 4) late (unchecked _ action.1)
    where
      by : (t : Bool) → pick t switch_fixed_fields fixed_fields ≤ q
          → pick t (Ok Opening.Switch)
          (judged
          (ltb (length body) fixed_fields ⇒ fault_nowhere Refusal.TooShort
          ∷ forbids_token (octet action_field body) (octet token_field body) ⇒ fault_at token_field Refusal.ForbiddenValue
          ∷ [])
          (Opening.Token (octet action_field body) (octet token_field body)))
          ≡ Err (fault_at q r)
          → ⊥
      by true h g = never (sym g)
      by false h g =
          let three = unfailed _ _ _ (some_place Refusal.TooShort q r) g in
          let token = unfailed _ _ _ (λ k. omega (arith, same_place token_field q Refusal.ForbiddenValue r k)) three.1 in
          never (sym (unchecked _ token.1))

  -- after them, by the action
  by_opening : (o : Opening) → Begins body o → action_means body ≡ Err (fault_at q r) → ActionBefore body q
  by_opening Opening.Switch b e =
      led_before (0 ∷ 4 ∷ []) (λ run. single switch_fixed_fields 37 switch_means (handed_in run)) switch
      (λ run. by_lead run _ _ (opens_switch run)) (λ run. refl) (none_single switch_fixed_fields 37 switch_means) (single_before switch_fixed_fields 37 switch_means)
      body (drop switch_fixed_fields body) q r b e
  by_opening (Opening.Token zero token) b e =
      led_before (0 ∷ 0 ∷ token ∷ []) (measurements_in request_sort) (requests token)
      (λ run. by_lead run _ _ (opens run 0 token (omega arith) b.2)) (λ run. refl) (none_measured request_sort) (measurements_before request_sort)
      body (drop fixed_fields body) q r b.0 e
  by_opening (Opening.Token (suc zero) token) b e =
      led_before (0 ∷ 1 ∷ token ∷ []) (measurements_in report_sort) (reports token)
      (λ run. by_lead run _ _ (opens run 1 token (omega arith) b.2)) (λ run. refl) (none_measured report_sort) (measurements_before report_sort)
      body (drop fixed_fields body) q r b.0 e
  by_opening (Opening.Token (suc (suc zero)) token) b e =
      led_before (0 ∷ 2 ∷ token ∷ []) (λ run. single fixed_fields 34 tpc_request_means (handed_in run)) (λ u. tpc_request token)
      (λ run. by_lead run _ _ (opens run 2 token (omega arith) b.2)) (λ run. refl) (none_single fixed_fields 34 tpc_request_means) (single_before fixed_fields 34 tpc_request_means)
      body (drop fixed_fields body) q r b.0 e
  by_opening (Opening.Token (suc (suc (suc zero))) token) b e =
      led_before (0 ∷ 3 ∷ token ∷ []) (λ run. single fixed_fields 35 tpc_report_means (handed_in run)) (tpc_report token)
      (λ run. by_lead run _ _ (opens run 3 token (omega arith) b.2)) (λ run. refl) (none_single fixed_fields 35 tpc_report_means) (single_before fixed_fields 35 tpc_report_means)
      body (drop fixed_fields body) q r b.0 e
  by_opening (Opening.Token (suc (suc (suc (suc n)))) token) b e = absurd (omega arith)

  pub action_before : fields_of body ≤ q → action_means body ≡ Err (fault_at q r) → ActionBefore body q
  unfolding action_means
  action_before late e =
      refused_by (opens_with body) (after_opening body) e (λ f. absurd (opens_before late f)) (λ o opened f. by_opening o (begins body o opened) e)
