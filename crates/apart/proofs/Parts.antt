-- The parts of a station, and what a change of a part makes of the whole. Assumes nothing.
use Rattle.std.specs.Prelude.{Some, None, Option}
use mathlib.Core.Bool.{true, false}
use mathlib.Core.List.{List}
use mathlib.Core.Logic.{⊎_elim}
use mathlib.Core.Path.{◌≡◌, refl, sym, ap, ◌∙◌}
use Prim.Native.Nat.{ℕ, ◌/◌, ◌≤◌}
use lib.Dec.{eqb}
use lib.ListN.{length}
use lib.Seq.{take_at}
use Rattle.answer.proofs.Booleans.{either}
use Rattle.answer.specs.Checks.{pick}
use Rattle.beacon.specs.Beacons.{quiet_limit}
use Rattle.element.specs.declared.quiet.Quiet.{Quiet}
use Rattle.schedule.specs.declared.Schedule.{Schedule}
use Rattle.station.proofs.InUse.{in_use_slotted}
use Rattle.station.specs.Rests.{at_once, rest_constrained, rest_announced}
use Rattle.station.specs.Stations.{slotted, in_use, with_until}
use Rattle.station.specs.Taking.{schedules_of, latest_end, outlasting, rescheduled, constrained, announced, announced_if}
use Rattle.station.specs.Validity.{Valid}
use Rattle.station.specs.declared.Station.{Station}
use Rattle.station.specs.declared.changing.Rest.{Rest}
use Rattle.apart.specs.Apart.{apart_of, whole_of, HoldsSchedules}
use Rattle.apart.specs.Columns.{schedules_in}
use Rattle.apart.specs.declared.columns.Columns.{Columns}
use Rattle.apart.specs.declared.Apart.{Apart}
use Rattle.apart.proofs.Rows.{rows_many}
use Rattle.element.specs.declared.power_constraint.PowerConstraint.{PowerConstraint}
use Rattle.element.specs.declared.channel_switch.ChannelSwitch.{ChannelSwitch}

abbrev pub with_parts : Apart → Rest → ℕ → Apart
with_parts a r n = record { own = a.own; ap = a.ap; rest = r; count = n }

abbrev rest_until : Rest → ℕ → Rest
rest_until r e = record { interval = r.interval; clock = r.clock; channel = r.channel; power = r.power; pending = r.pending; until = e }

-- ---- a station that was taken apart is whole again

pub put_back : (s : Station) (c : Columns) → HoldsSchedules s c → s.count ≤ quiet_limit → slotted (in_use s) ≡ s.schedules → whole_of (apart_of s) c ≡ s
unfolding whole_of
put_back s c h few e = rw (h s.count few) (rw e refl)

pub put_back_valid : (s : Station) (c : Columns) → HoldsSchedules s c → Valid s → whole_of (apart_of s) c ≡ s
put_back_valid s c h v = put_back s c h v.few (in_use_slotted s v)

-- ---- the schedules in use are those of the rows in use

pub rows_in_use : (a : Apart) (c : Columns) → in_use (whole_of a c) ≡ schedules_in a.count c
unfolding whole_of
rows_in_use a c = take_at (schedules_in a.count c) _ a.count (rows_many a.count c)

-- ---- other schedules

module _ (a : Apart) (c : Columns) where
  abbrev with : List Schedule → ℕ → ℕ → Station
  with xs n until =
      record {
        own = a.own;
        ap = a.ap;
        interval = a.rest.interval;
        clock = a.rest.clock;
        channel = a.rest.channel;
        power = a.rest.power;
        pending = a.rest.pending;
        schedules = slotted xs;
        count = n;
        until = until;
      }

  pub replaced_whole : (after : Columns) (qs : List Quiet) (n until : ℕ)
      → schedules_in n after ≡ schedules_of (a.rest.clock / a.rest.interval) a.rest.interval qs
      → until ≡ latest_end a.rest.clock a.rest.until (schedules_in a.count c)
      → whole_of (with_parts a (rest_until a.rest until) n) after ≡ rescheduled (with_until (whole_of a c) (outlasting (whole_of a c))) qs
  unfolding whole_of
  replaced_whole after qs n until rows lasts =
      let xs = schedules_of (a.rest.clock / a.rest.interval) a.rest.interval qs in
      ap (λ (ys : List Schedule). with ys n until) rows
      ∙ ap (λ (k : ℕ). with xs k until) (sym (rows_many n after) ∙ ap length rows)
      ∙ ap (with xs (length xs)) (lasts ∙ ap (latest_end a.rest.clock a.rest.until) (sym (rows_in_use a c)))

-- ---- a Power Constraint and an announcement

pub told_whole : (a : Apart) (c : Columns) (p : Option PowerConstraint) (m : Option ChannelSwitch)
    → whole_of (with_parts a (rest_announced (rest_constrained a.rest p) m) (pick (at_once m) 0 a.count)) c ≡ announced_if (constrained (whole_of a c) p) m
unfolding whole_of announced schedules_in
told_whole a c None None = refl
told_whole a c (Some p) None = refl
told_whole a c None (Some w) =
    ⊎_elim (λ (y : eqb w.count 0 ≡ true). rw y refl) (λ (n : eqb w.count 0 ≡ false). rw n refl) (either (eqb w.count 0))
told_whole a c (Some p) (Some w) =
    ⊎_elim (λ (y : eqb w.count 0 ≡ true). rw y refl) (λ (n : eqb w.count 0 ≡ false). rw n refl) (either (eqb w.count 0))

-- ---- parts that make a valid station

module _ (a : Apart) (c : Columns) (v : Valid (whole_of a c)) where
  pub few_rows : a.count ≤ quiet_limit
  unfolding whole_of
  few_rows = v.few

  pub some_interval : 1 ≤ a.rest.interval
  unfolding whole_of
  some_interval = v.interval_positive
