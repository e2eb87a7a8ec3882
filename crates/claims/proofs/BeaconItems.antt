-- Bodies of beacons and probe responses over the plain list of their elements (01, "Octets": whole elements but 32, 35, 37 and 40 are skipped;
-- "Wrong programs that look right": only the first, or only the last, Quiet element is kept). Assumes nothing.
use Rattle.std.specs.Prelude.{Ok, Err, Some, Option, is_some}
use mathlib.Core.Bool.{Bool, true, false}
use mathlib.Core.List.{List, [], ◌∷◌, ◌++◌}
use mathlib.Core.Logic.{◌↔◌}
use mathlib.Core.Path.{◌≡◌, refl, sym, ap, subst, ◌∙◌}
use Prim.Native.Nat.{ℕ, ◌≤◌}
use native.Mathlib.Omega.{arith}
use borrow.Author.Tests.{eq-eqb, eqb-true, eqb-false, ne_eqb, le-ltb, ltb-false, lt-leb, not-false}
use lib.Dec.{leb, eqb}
use lib.ListN.{length, drop, length-append}
use Rattle.answer.specs.Checks.{Outcome, checked, and_then}
use Rattle.answer.specs.Faults.{placed_at}
use Rattle.answer.specs.declared.Refusal.{Refusal}
use Rattle.answer.proofs.Placing.{placed_value}
use Rattle.answer.proofs.Judged.{never, passed, stands, kept, followed, past, through}
use Rattle.beacon.proofs.Allowing.{beacon_allowed}
use Rattle.beacon.specs.Beacons.{Told, opening, fixed_length, quiet_limit, without_margin, element_means, adds, takes, says, beacon_means}
use Rattle.beacon.specs.declared.elements.Element.{Element}
use Rattle.element.specs.ChannelSwitch.{switch_means}
use Rattle.element.specs.PowerConstraint.{power_means}
use Rattle.element.specs.Quiet.{quiet_means}
use Rattle.element.specs.TpcReport.{tpc_report_means}
use Rattle.element.specs.declared.quiet.Quiet.{Quiet}
use Rattle.element.specs.declared.tpc_report.TpcReport.{TpcReport}
use Rattle.octets.specs.Numbers.{number}
use Rattle.walk.specs.Elements.{Elements, end, cut_header, cut_contents, more, elements_in, past_element}
use Rattle.claims.specs.FilteredFrames.{any_power, any_report, any_switch, notice_report_means, NoticeOf}
use Rattle.claims.specs.Filters.{Item, item, of_id, walked_as}
use Rattle.claims.proofs.NoticeFields.{one_power, one_report, one_switch, same_told, power_as, report_as, switch_as, quiets_as}
use Rattle.claims.proofs.ReadItems.{Grows, grows_none, grew_none, grows_all, grew_all, grows_first, grew_first, the_one, was_the_one}
use Rattle.claims.proofs.RunItems.{walk_whole}
use Rattle.claims.proofs.Same.{accepted_once}
use Rattle.element.specs.declared.power_constraint.PowerConstraint.{PowerConstraint}
use Rattle.element.specs.declared.channel_switch.ChannelSwitch.{ChannelSwitch}

made : {A B C : Type 0} (o : Outcome A) (make : A → B) (next : B → Outcome C) (r : C) → and_then (and_then o (λ a. Ok (make a))) next ≡ Ok r
    → (a : A) × (o ≡ Ok a) × (next (make a) ≡ Ok r)
made (Err x) make next r e = absurd (never e)
made (Ok a) make next r e = (a, refl, e)

-- an ID is one of these four, or another
by_id : (P : ℕ → Type 0) → P 32 → P 35 → P 37 → P 40
    → ((id : ℕ) → (id ≡ 32 → ⊥) → (id ≡ 35 → ⊥) → (id ≡ 37 → ⊥) → (id ≡ 40 → ⊥) → P id) → (id : ℕ) → P id
by_id P power report switch quiet other id =
    or_else 32 power (λ w. or_else 35 report (λ x. or_else 37 switch (λ y. or_else 40 quiet (λ z. other id w x y z))))
  where
    or_else : (k : ℕ) → P k → ((id ≡ k → ⊥) → P id) → P id
    or_else k p no_such = by (eqb id k) refl
      where
        by : (t : Bool) → eqb id k ≡ t → P id
        by true e = subst P (sym (eqb-true id k e)) p
        by false e = no_such (eqb-false id k e)

module _ (b : ℕ) where
  -- what elements of ID 32, 35, 37 and 40 add to what was said before them
  record Added (powers reports switches quieting : List Item) (before after : Told) : Type 0 where
    power : Grows power_means powers (any_power before.notice.power) (any_power after.notice.power)
    report : Grows notice_report_means reports (any_report before.notice.report) (any_report after.notice.report)
    switch : Grows switch_means switches (any_switch before.notice.switch) (any_switch after.notice.switch)
    quiet : Grows (quiet_means b) quieting before.quiets after.quiets
    timestamp : after.notice.timestamp ≡ before.notice.timestamp
    capability : after.notice.capability ≡ before.notice.capability

  abbrev Said : List Item → Told → Told → Type 0
  Said xs before after = Added (of_id 32 xs) (of_id 35 xs) (of_id 37 xs) (of_id 40 xs) before after

  -- other elements of one ID, from other values on

  module _ {powers reports switches quieting : List Item} {after : Told} (t : Told) where
    other_power : (m n : Option PowerConstraint) {others : List Item} → Grows power_means others (any_power n) (any_power after.notice.power)
        → Added powers reports switches quieting (power_as t m) after → Added others reports switches quieting (power_as t n) after
    other_power m n g s =
        record { power = g; report = s.report; switch = s.switch; quiet = s.quiet; timestamp = s.timestamp; capability = s.capability }

    other_report : (m n : Option TpcReport) {others : List Item} → Grows notice_report_means others (any_report n) (any_report after.notice.report)
        → Added powers reports switches quieting (report_as t m) after → Added powers others switches quieting (report_as t n) after
    other_report m n g s =
        record { power = s.power; report = g; switch = s.switch; quiet = s.quiet; timestamp = s.timestamp; capability = s.capability }

    other_switch : (m n : Option ChannelSwitch) {others : List Item} → Grows switch_means others (any_switch n) (any_switch after.notice.switch)
        → Added powers reports switches quieting (switch_as t m) after → Added powers reports others quieting (switch_as t n) after
    other_switch m n g s =
        record { power = s.power; report = s.report; switch = g; quiet = s.quiet; timestamp = s.timestamp; capability = s.capability }

    other_quiets : (l m : List Quiet) {others : List Item} → Grows (quiet_means b) others m after.quiets
        → Added powers reports switches quieting (quiets_as t l) after → Added powers reports switches others (quiets_as t m) after
    other_quiets l m g s =
        record { power = s.power; report = s.report; switch = s.switch; quiet = g; timestamp = s.timestamp; capability = s.capability }

  -- ---- an element in front, by its ID: it is taken, and the others go on from there

  module _ (c : List ℕ) (xs : List Item) (before after : Told) where
    abbrev Fore : ℕ → Type 0
    Fore id = (next : Told) × (takes b id c before ≡ Ok next) × Said xs next after

    abbrev Then : ℕ → Type 0
    Then id = Said (item id c ∷ xs) before after

    from : {next made : Told} → checked {R = Refusal} [] (Ok made) ≡ Ok next → Said xs next after → Said xs made after
    from e s = subst (λ (t : Told). Said xs t after) (sym (kept _ e)) s

    power_fore : Fore 32 → Then 32
    unfolding takes element_means of_id
    power_fore (next, e, s) =
        let p = made (power_means c) _ _ next e in
        let q = passed _ _ _ p.2 in
        let s' = from q.1 s in
        other_power before _ _ (the_one power_means any_power is_some one_power (item 32 c) (of_id 32 xs) before.notice.power q.0 p.1 s'.power) s'

    power_then : Then 32 → Fore 32
    unfolding takes element_means of_id checked
    power_then s =
        let p = was_the_one power_means any_power is_some one_power (item 32 c) (of_id 32 xs) before.notice.power after.notice.power s.power in
        (power_as before (Some p.1.0), simp (p.1.1, p.0), other_power before _ _ p.1.2 s)

    -- its margin is ignored before it is added, or after
    report_taken : takes b 35 c before ≡ and_then (and_then (notice_report_means c) (λ r. Ok (Element.Report r))) (adds before)
    unfolding takes element_means
    report_taken = by (tpc_report_means c)
      where
        by : (o : Outcome TpcReport)
            → and_then (and_then o (λ t. Ok (Element.Report (without_margin t)))) (adds before)
            ≡ and_then (and_then (and_then o (λ t. Ok (without_margin t))) (λ r. Ok (Element.Report r))) (adds before)
        by (Err r) = refl
        by (Ok t) = refl

    report_fore : Fore 35 → Then 35
    unfolding takes element_means of_id
    report_fore (next, e, s) =
        let p = made (notice_report_means c) _ _ next (sym report_taken ∙ e) in
        let q = passed _ _ _ p.2 in
        let s' = from q.1 s in
        other_report before _ _ (the_one notice_report_means any_report is_some one_report (item 35 c) (of_id 35 xs) before.notice.report q.0 p.1 s'.report) s'

    report_then : Then 35 → Fore 35
    unfolding takes element_means of_id checked
    report_then s =
        let p = was_the_one notice_report_means any_report is_some one_report (item 35 c) (of_id 35 xs) before.notice.report after.notice.report s.report in
        (report_as before (Some p.1.0), report_taken ∙ simp (p.1.1, p.0), other_report before _ _ p.1.2 s)

    switch_fore : Fore 37 → Then 37
    unfolding takes element_means of_id
    switch_fore (next, e, s) =
        let p = made (switch_means c) _ _ next e in
        let q = passed _ _ _ p.2 in
        let s' = from q.1 s in
        other_switch before _ _ (the_one switch_means any_switch is_some one_switch (item 37 c) (of_id 37 xs) before.notice.switch q.0 p.1 s'.switch) s'

    switch_then : Then 37 → Fore 37
    unfolding takes element_means of_id checked
    switch_then s =
        let p = was_the_one switch_means any_switch is_some one_switch (item 37 c) (of_id 37 xs) before.notice.switch after.notice.switch s.switch in
        (switch_as before (Some p.1.0), simp (p.1.1, p.0), other_switch before _ _ p.1.2 s)

    quiet_fore : Fore 40 → Then 40
    unfolding takes element_means of_id
    quiet_fore (next, e, s) =
        let p = made (quiet_means b c) _ _ next e in
        let q = passed _ _ _ p.2 in
        let s' = from q.1 s in
        other_quiets before _ _ (grows_first (quiet_means b) (item 40 c) (of_id 40 xs) p.1 s'.quiet) s'

    quiet_then : length after.quiets ≤ quiet_limit → Then 40 → Fore 40
    unfolding takes element_means of_id checked
    quiet_then few s =
        let p = grew_first (quiet_means b) (item 40 c) (of_id 40 xs) s.quiet in
        let some = before.quiets ++ (p.0 ∷ []) in
        let free : leb quiet_limit (length before.quiets) ≡ false =
        lt-leb quiet_limit (length before.quiets)
        (omega (arith, ap length p.2.joined, length-append some p.2.values, length-append before.quiets (p.0 ∷ []))) in
        (quiets_as before some, simp (p.1, free), other_quiets before _ _ p.2 s)

    -- any other is skipped
    module _ (id : ℕ) (v : id ≡ 32 → ⊥) (w : id ≡ 35 → ⊥) (x : id ≡ 37 → ⊥) (y : id ≡ 40 → ⊥) where
      skipped : takes b id c before ≡ Ok before
      unfolding takes element_means
      skipped = simp (ne_eqb id 32 v, ne_eqb id 35 w, ne_eqb id 37 x, ne_eqb id 40 y)

      other_fore : Fore id → Then id
      unfolding of_id
      other_fore (next, e, s) =
          let same : before ≡ next = accepted_once (sym skipped ∙ e) in
          simp (ne_eqb id 32 v, ne_eqb id 35 w, ne_eqb id 37 x, ne_eqb id 40 y) (subst (λ (t : Told). Said xs t after) (sym same) s)

      other_then : Then id → Fore id
      unfolding of_id
      other_then s = (before, skipped, simp (ne_eqb id 32 v, ne_eqb id 35 w, ne_eqb id 37 x, ne_eqb id 40 y) at s)

  fore : (id : ℕ) (c : List ℕ) (xs : List Item) (before after : Told) → Fore c xs before after id → Then c xs before after id
  fore id c xs before after =
      by_id (λ i. Fore c xs before after i → Then c xs before after i)
      (power_fore c xs before after) (report_fore c xs before after) (switch_fore c xs before after) (quiet_fore c xs before after)
      (other_fore c xs before after) id

  -- ---- all elements

  none : (t : Told) → Said [] t t
  unfolding of_id
  none t =
      record {
        power = grows_none power_means _;
        report = grows_none notice_report_means _;
        switch = grows_none switch_means _;
        quiet = grows_none (quiet_means b) _;
        timestamp = refl;
        capability = refl;
      }

  said : (n : ℕ) (es : Elements) (before after : Told) → says (takes b) n es before ≡ Ok after → (xs : List Item) × (es ≡ walked_as xs end) × Said xs before after
  unfolding says walked_as
  said n end before after e = ([], refl, subst (λ (t : Told). Said [] before t) (accepted_once e) (none before))
  said n (cut_header o) before after e = absurd (never e)
  said n (cut_contents id) before after e = absurd (never e)
  said n (more id c es) before after e =
      let p = followed (placed_at n (takes b id c before)) (says (takes b) (past_element n c) es) after e in
      let r = said (past_element n c) es p.0 after p.2 in
      (item id c ∷ r.0, ap (more id c) r.1, fore id c r.0 before after (p.0, placed_value n (takes b id c before) p.1, r.2))

  module _ (after : Told) (few : length after.quiets ≤ quiet_limit) where
    then : (id : ℕ) (c : List ℕ) (xs : List Item) (before : Told) → Then c xs before after id → Fore c xs before after id
    then id c xs before =
        by_id (λ i. Then c xs before after i → Fore c xs before after i)
        (power_then c xs before after) (report_then c xs before after) (switch_then c xs before after) (quiet_then c xs before after few)
        (other_then c xs before after) id

    nothing_added : (before : Told) → Said [] before after → before ≡ after
    unfolding of_id
    nothing_added before s =
        same_told before after (sym s.timestamp) (sym s.capability) (sym (grew_none power_means s.power))
        (sym (grew_none notice_report_means s.report)) (sym (grew_none switch_means s.switch)) (sym (grew_none (quiet_means b) s.quiet))

    says_all : (n : ℕ) (xs : List Item) (before : Told) → Said xs before after → says (takes b) n (walked_as xs end) before ≡ Ok after
    unfolding says walked_as
    says_all n [] before s = ap Ok (nothing_added before s)
    says_all n (x ∷ xs) before s =
        let p = then x.id x.contents xs before s in
        simp p.1 (says_all (past_element n x.contents) xs p.0 p.2)

-- ---- a body is accepted as what its elements say, and only so

module _ (b : ℕ) (body : List ℕ) (t : Told) where
  accepted_notice : beacon_means b body ≡ Ok t → NoticeOf b body t
  unfolding beacon_means
  accepted_notice e =
      let p = passed _ _ _ e in
      let q = passed _ _ _ p.1 in
      let r = said b fixed_length (elements_in (drop fixed_length body)) (opening body) t (stands _ q.1) in
      record {
        none_missing = ltb-false (length body) fixed_length p.0;
        interval_is = eqb-true (number 2 8 body) b (not-false (eqb (number 2 8 body) b) q.0);
        timestamp_is = r.2.timestamp;
        capability_is = r.2.capability;
        items = r.0;
        octets = (walk_whole (drop fixed_length body) r.0).0 r.1;
        quiets_are = grew_all (quiet_means b) r.2.quiet;
        few_quiets = (beacon_allowed b body t e).few;
        power_is = grew_all power_means r.2.power;
        report_is = grew_all notice_report_means r.2.report;
        switch_is = grew_all switch_means r.2.switch;
      }

  notice_accepted : NoticeOf b body t → beacon_means b body ≡ Ok t
  unfolding beacon_means
  notice_accepted n =
      let s : Said b n.items (opening body) t =
      record {
        power = grows_all power_means n.power_is;
        report = grows_all notice_report_means n.report_is;
        switch = grows_all switch_means n.switch_is;
        quiet = grows_all (quiet_means b) n.quiets_are;
        timestamp = n.timestamp_is;
        capability = n.capability_is;
      } in
      let w = (walk_whole (drop fixed_length body) n.items).1 n.octets in
      let whole : says (takes b) fixed_length (elements_in (drop fixed_length body)) (opening body) ≡ Ok t =
      ap (λ (es : Elements). says (takes b) fixed_length es (opening body)) w ∙ says_all b t n.few_quiets fixed_length n.items (opening body) s in
      sym (past _ _ _ (le-ltb (length body) fixed_length n.none_missing)
      (past _ _ _ (rw (eq-eqb (number 2 8 body) b n.interval_is)) (through _ (sym whole))))

  pub beacon_filtered : (beacon_means b body ≡ Ok t) ↔ NoticeOf b body t
  beacon_filtered = (accepted_notice, notice_accepted)
