-- The one way of every frame through a station comes to what each kind of frame changes. Assumes nothing.
use Rattle.std.specs.Prelude.{Some, None, Option}
use mathlib.Core.Bool.{Bool, true, false}
use mathlib.Core.List.{List, [], ◌∷◌, ◌++◌}
use mathlib.Core.Logic.{⊎_elim}
use mathlib.Core.Path.{◌≡◌, refl, sym, ap, ◌∙◌}
use Prim.Native.Nat.{ℕ, zero, suc, ◌+◌, ◌-◌, ◌≤◌}
use native.Mathlib.Omega.{arith}
use borrow.Author.Tests.{le-ltb, ltb-true, ltb-false}
use lib.Dec.{ltb, lit≤}
use lib.ListN.{length, take, drop, replicate, length-replicate, take-append-drop, replicate-append-replicate}
use lib.Seq.{take_at, drop_at, drop-drop, take-add}
use Rattle.answer.proofs.Booleans.{clash, either}
use Rattle.answer.specs.Checks.{pick}
use Rattle.beacon.specs.Beacons.{quiet_limit}
use Rattle.element.specs.declared.quiet.Quiet.{Quiet}
use Rattle.frame.specs.declared.hearing.Change.{Change}
use Rattle.schedule.proofs.Ends.{once_begun}
use Rattle.schedule.specs.Schedules.{end_begun}
use Rattle.schedule.specs.declared.Schedule.{Schedule}
use Rattle.station.specs.Clock.{switched}
use Rattle.station.specs.CodeTerms.Changing.{replaced_if, changed, extent_of, overlaid, with_rest}
use Rattle.station.specs.Rests.{at_once, rest_of, rest_constrained, rest_announced}
use Rattle.station.specs.Stations.{no_schedule, slotted}
use Rattle.station.specs.Taking.{passed, schedules_of, later, latest_end, constrained, announced, announced_if}
use Rattle.station.specs.Validity.{Valid}
use Rattle.station.specs.declared.Station.{Station}
use Rattle.station.specs.declared.changing.Rest.{Rest}
use Rattle.station.specs.declared.replacing.Extent.{Extent}
use Rattle.station.proofs.SlotBySlot.{as_many}
use Rattle.element.specs.declared.power_constraint.PowerConstraint.{PowerConstraint}
use Rattle.element.specs.declared.channel_switch.ChannelSwitch.{ChannelSwitch}

-- ---- blank slots

module _ (a b : ℕ) (x : Schedule) where
  drop_blank : drop a (replicate (a + b) x) ≡ replicate b x
  drop_blank =
      ap (drop a) (sym (replicate-append-replicate a b x)) ∙ drop_at (replicate a x) (replicate b x) a (length-replicate a x)

  take_blank : take a (replicate (a + b) x) ≡ replicate a x
  take_blank =
      ap (take a) (sym (replicate-append-replicate a b x)) ∙ take_at (replicate a x) (replicate b x) a (length-replicate a x)

-- what a blank slot began ends nothing
ends_nothing : (t e : ℕ) → later e (end_begun no_schedule t) ≡ e
ends_nothing t e = ap (later e) (once_begun no_schedule t (omega arith) refl) ∙ rw (le-ltb e 0 (omega arith))

latest_blank : (t e n : ℕ) → latest_end t e (replicate n no_schedule) ≡ e
unfolding latest_end
latest_blank t e zero = refl
latest_blank t e (suc n) = ap (λ (d : ℕ). latest_end t d (replicate n no_schedule)) (ends_nothing t e) ∙ latest_blank t e n

pub latest_append : (t e : ℕ) (xs ys : List Schedule) → latest_end t e (xs ++ ys) ≡ latest_end t (latest_end t e xs) ys
unfolding latest_end
latest_append t e [] ys = refl
latest_append t e (x ∷ xs) ys = latest_append t (later e (end_begun x t)) xs ys

-- slots that are blank from n on, and a place m among the blank ones
module _ (xs : List Schedule) (n m : ℕ) (h : n ≤ m) (room : m ≤ quiet_limit) (blank : drop n xs ≡ replicate (quiet_limit - n) no_schedule) where
  from_n : drop n xs ≡ replicate ((m - n) + (quiet_limit - m)) no_schedule
  from_n = blank ∙ ap (λ (k : ℕ). replicate k no_schedule) (let e : quiet_limit - n ≡ (m - n) + (quiet_limit - m) = omega arith in e)

  at_m : m ≡ n + (m - n)
  at_m = omega arith

  from_m : drop m xs ≡ replicate (quiet_limit - m) no_schedule
  from_m =
      ap (λ (k : ℕ). drop k xs) at_m
      ∙ sym (drop-drop (m - n) n xs)
      ∙ ap (drop (m - n)) from_n
      ∙ drop_blank (m - n) (quiet_limit - m) no_schedule

  latest_up_to : (t e : ℕ) → latest_end t e (take m xs) ≡ latest_end t e (take n xs)
  latest_up_to t e =
      ap (latest_end t e)
      (ap (λ (k : ℕ). take k xs) at_m
      ∙ take-add n (m - n) xs
      ∙ ap (λ (ys : List Schedule). take n xs ++ ys) (ap (take (m - n)) from_n ∙ take_blank (m - n) (quiet_limit - m) no_schedule))
      ∙ latest_append t e (take n xs) (replicate (m - n) no_schedule)
      ∙ latest_blank t (latest_end t e (take n xs)) (m - n)

-- what lies past the slots that were gone through is the same
laid_over : (n : ℕ) (xs ds : List Schedule) → drop n ds ≡ drop n xs → overlaid n xs ds ≡ xs
laid_over n xs ds e = ap (λ (ys : List Schedule). take n xs ++ ys) e ∙ take-append-drop n xs

-- schedules in their slots are blank past the last
blank_past : (xs : List Schedule) → drop (length xs) (slotted xs) ≡ replicate (quiet_limit - length xs) no_schedule
blank_past xs = drop_at xs (replicate (quiet_limit - length xs) no_schedule) (length xs) refl

-- ---- how far

larger : (n m : ℕ) → let top = pick (ltb n m) m n in (n ≤ top) × (m ≤ top) × ((k : ℕ) → n ≤ k → m ≤ k → top ≤ k)
larger n m =
    ⊎_elim
    (λ (y : ltb n m ≡ true). simp y (let l = ltb-true n m y in (omega arith, omega arith, λ k p q. q)))
    (λ (f : ltb n m ≡ false). simp f (let l = ltb-false n m f in (omega arith, l, λ k p q. p)))
    (either (ltb n m))

pub extent_fits : (now replaces : Bool) (before count : ℕ) → before ≤ quiet_limit → count ≤ quiet_limit
    → ((extent_of now replaces before count).top ≤ quiet_limit) × ((extent_of now replaces before count).used ≤ quiet_limit)
extent_fits true replaces before count h k = (h, lit≤ tt)
extent_fits false true before count h k = ((larger before count).2 quiet_limit h k, k)
extent_fits false false before count h k = (lit≤ tt, h)

-- ---- the rest of a station, where the announcement is none or not the switch itself

told : (s : Station) (p : Option PowerConstraint) (m : Option ChannelSwitch) → at_once m ≡ false
    → with_rest s (rest_announced (rest_constrained (rest_of s s.until) p) m) s.schedules s.count ≡ announced_if (constrained s p) m
unfolding announced
told s None None e = refl
told s (Some p) None e = refl
told s None (Some w) e = rw e refl
told s (Some p) (Some w) e = rw e refl

-- a switch leaves the same of a station, whatever was replaced before it
switched_same : (b : Bool) (s : Station) (qs : List Quiet) (p : Option PowerConstraint) (channel : ℕ)
    → switched s channel ≡ switched (constrained (replaced_if b s qs) p) channel
switched_same true s qs None channel = refl
switched_same true s qs (Some p) channel = refl
switched_same false s qs None channel = refl
switched_same false s qs (Some p) channel = refl

module _ (s : Station) (quiets : List Quiet) where
  abbrev lasting : Extent → ℕ
  lasting x = latest_end s.clock s.until (take x.top s.schedules)

  abbrev slots_by : Extent → List Schedule
  slots_by x = overlaid x.top (slotted (schedules_of (passed s) s.interval (take x.used quiets))) s.schedules

  abbrev rest_by : Change → ℕ → Rest
  rest_by c until = rest_announced (rest_constrained (rest_of s until) c.power) c.switch

  -- the station of a change and an extent
  abbrev gone_over : Change → Extent → Station
  gone_over c x = with_rest s (rest_by c (lasting x)) (slots_by x) x.used

  -- ---- the steps of the way

  module _ (c : Change) {x y : Extent} (e : x ≡ y) {xs : List Schedule} {until : ℕ} (slots : xs ≡ slots_by x) (lasts : until ≡ lasting x) where
    pub put_together : with_rest s (rest_by c until) xs x.used ≡ gone_over c y
    put_together =
        ap (λ (n : ℕ). with_rest s (rest_by c n) xs x.used) lasts
        ∙ ap (λ (ys : List Schedule). with_rest s (rest_by c (lasting x)) ys x.used) slots
        ∙ ap (gone_over c) e

module _ (s : Station) (v : Valid s) (quiets : List Quiet) (count : ℕ) (few : count ≤ quiet_limit) (eight : length quiets ≡ quiet_limit) where
  abbrev passed_over : Extent → Station
  passed_over x = with_rest s (rest_of s (lasting s quiets x)) (slots_by s quiets x) x.used

  passed_over_lem : (replaces : Bool) → passed_over (extent_of false replaces s.count count) ≡ replaced_if replaces s (take count quiets)
  unfolding latest_end
  passed_over_lem false = refl
  passed_over_lem true =
      let top = pick (ltb s.count count) count s.count in
      let l = larger s.count count in
      let room : top ≤ quiet_limit = l.2 quiet_limit v.few few in
      let many = as_many (passed s) s.interval quiets count few eight in
      let xs = schedules_of (passed s) s.interval (take count quiets) in
      let blank : drop count (slotted xs) ≡ replicate (quiet_limit - count) no_schedule =
      ap (λ (k : ℕ). drop k (slotted xs)) (sym many) ∙ blank_past xs ∙ ap (λ (k : ℕ). replicate (quiet_limit - k) no_schedule) many in
      let slots : overlaid top (slotted xs) s.schedules ≡ slotted xs =
      laid_over top (slotted xs) s.schedules
      (from_m s.schedules s.count top l.0 room v.rest_blank ∙ sym (from_m (slotted xs) count top l.1 room blank)) in
      rw (slots, latest_up_to s.schedules s.count top l.0 room v.rest_blank s.clock s.until, many) refl

  -- a switch at once leaves no schedule
  none_left : (x : Extent) → x ≡ record { top = s.count; used = 0 } → slots_by s quiets x ≡ slotted []
  none_left x e =
      ap (slots_by s quiets) e
      ∙ laid_over s.count (slotted []) s.schedules
      (v.rest_blank ∙ sym (from_m (slotted []) 0 s.count (omega arith) v.few (blank_past [])))

  at_once_lem : (r : Rest) (b : Bool) (p : Option PowerConstraint) (m : Option ChannelSwitch) → at_once m ≡ true
      → let x = extent_of true b s.count count in
      with_rest s (rest_announced r m) (slots_by s quiets x) x.used ≡ announced_if (constrained (replaced_if b s (take count quiets)) p) m
  unfolding announced
  at_once_lem r b p None y = clash (sym y)
  at_once_lem r b p (Some w) y =
      rw (y, none_left (extent_of true b s.count count) refl) (switched_same b s (take count quiets) p w.channel)

  pub one_way : (c : Change) → gone_over s quiets c (extent_of (at_once c.switch) c.replaces s.count count) ≡ changed s c (take count quiets)
  unfolding changed
  one_way c =
      ⊎_elim
      (λ (y : at_once c.switch ≡ true). rw y (at_once_lem _ c.replaces c.power c.switch y))
      (λ (n : at_once c.switch ≡ false). rw n
      (told (passed_over (extent_of false c.replaces s.count count)) c.power c.switch n
      ∙ ap (λ (next : Station). announced_if (constrained next c.power) c.switch) (passed_over_lem c.replaces)))
      (either (at_once c.switch))
