-- What the calls leave is a valid table. Assumes nothing.
use Rattle.std.specs.Prelude.{All, Ok, Some, None, Option}
use Rattle.std.proofs.lemmas.List.Elements.{All-replicate}
use mathlib.Core.Bool.{Bool, true, false, ◌||◌}
use mathlib.Core.List.{List, map}
use mathlib.Core.Path.{◌≡◌, refl, sym, ap, ◌∙◌, subst}
use Prim.Native.Nat.{ℕ, zero, suc, ◌+◌}
use native.Mathlib.Omega.{arith}
use borrow.Author.Tests.{eqb-false, ne_eqb}
use lib.Dec.{ltb, eqb}
use lib.ListN.{length, replicate, length-map}
use Rattle.answer.proofs.Booleans.{clash, neither, or_go}
use Rattle.answer.proofs.Judged.{past, done}
use Rattle.answer.specs.Checks.{Outcome, pick, and_then}
use Rattle.channel.specs.Centres.{highest}
use Rattle.frame.specs.Allowed.{KindAllowed}
use Rattle.frame.specs.Frames.{Kind}
use Rattle.frame.specs.Laid.{frame_of, quiets_of}
use Rattle.octets.specs.Numbers.{bit, octet}
use Rattle.row.specs.Rows.{row_count, free, seated, is_free, row_ticked}
use Rattle.row.specs.declared.Row.{Row}
use Rattle.station.proofs.KeptThroughout.{Unchanged, heard_unchanged, KeptThroughout, advance_keeps}
use Rattle.station.proofs.StaysValid.{valid_fresh, advanced, valid_changed}
use Rattle.station.specs.Clock.{stepped as station_stepped, reached, clock_advance, advanced_to, advance_means, advance_of}
use Rattle.station.specs.Starting.{start_forbids as station_forbids}
use Rattle.station.specs.Stations.{clock_limit, unit_limit, fresh, with_clock}
use Rattle.station.specs.Taking.{heard}
use Rattle.station.specs.Validity.{PendingFits, Valid}
use Rattle.station.specs.declared.Station.{Station}
use Rattle.station.specs.declared.clock.Advanced.{Advanced}
use Rattle.station.specs.declared.clock.Stepped.{Stepped}
use Rattle.table.specs.Tables.{ticked_table, with_rows, on_first, is_joined, empty, start_forbids, newcomer, join_forbids, hearing}
use Rattle.table.specs.Validity.{Sits, Holds, RowOf, Apart, ValidTable}
use Rattle.table.specs.declared.Table.{Table}
use Rattle.table.proofs.StaysApart.{all_map, all_on_first, length_on_first, SameSeat, apart_same, seats_map, seats_on_first, apart_left, apart_joined}
use Rattle.pending.specs.declared.Switch.{Switch}

-- ---- start

apart_free : (n : ℕ) → Apart (replicate n free)
unfolding Apart
apart_free zero = tt
apart_free (suc n) = (λ j. clash (sym j), apart_free n)

pub valid_empty : (ap' : List ℕ) (b : ℕ) → start_forbids ap' b ≡ false → ValidTable (empty ap' b)
valid_empty ap' b n =
    let off = neither (eqb b 0) (bit 0 (octet 0 ap')) n in
    record {
      ap_single = off.1;
      interval_positive = let some : b ≡ 0 → ⊥ = eqb-false b 0 off.0 in omega (arith, some);
      sixteen = refl;
      each = All-replicate (RowOf (empty ap' b)) row_count free refl;
      apart = apart_free row_count;
    }

-- ---- who sits in a row, whatever its station hears and whenever

pub hearing_seat : (k : Kind) (w : Row) → SameSeat w (hearing k w)
unfolding hearing
hearing_seat k w = by w.joined refl
  where
    by : (b : Bool) → w.joined ≡ b → SameSeat w (pick b (seated (heard w.station k)) w)
    by true e = (sym e, ap (λ (z : Unchanged). z.0) (heard_unchanged w.station k))
    by false e = (refl, refl)

pub ticked_seat : (n : ℕ) (w : Row) → SameSeat w (row_ticked n w)
unfolding row_ticked
ticked_seat n w = by w.joined refl
  where
    by : (b : Bool) → w.joined ≡ b → SameSeat w (pick b (seated (advance_of w.station n).station) w)
    by true e = (sym e, ap (λ (z : KeptThroughout). z.0) (advance_keeps w.station n))
    by false e = (refl, refl)

-- the clock of a station that advances
pub goes_on : (s : Station) (n : ℕ) → (ltb unit_limit n || ltb clock_limit (s.clock + n)) ≡ false → (advance_of s n).station.clock ≡ s.clock + n
unfolding advance_means clock_advance
goes_on s n near =
    ap (λ (o : Outcome Advanced). (station_stepped s (and_then o (λ a. Ok (advanced_to s a)))).station.clock) (sym (past _ _ _ near (done _)))
    ∙ by_pending s.pending
  where
    by_test_lem : (b : Bool) (channel : ℕ) → (advanced_to s (pick b (Advanced.Goes (s.clock + n)) (Advanced.Switches (s.clock + n) channel))).clock ≡ s.clock + n
    by_test_lem true channel = refl
    by_test_lem false channel = refl

    by_pending : (p : Option Switch) → (advanced_to s (reached (s.clock + n) p)).clock ≡ s.clock + n
    by_pending None = refl
    by_pending (Some x) = by_test_lem (ltb (s.clock + n) x.at) x.channel

module _ (t : Table) (v : ValidTable t) where
  -- other rows in it, as many, each of this table and all apart
  pub valid_rows : (ws : List Row) → length ws ≡ length t.rows → All (RowOf t) ws → Apart ws → ValidTable (with_rows t ws)
  valid_rows ws l each apart = record {
    ap_single = v.ap_single;
    interval_positive = v.interval_positive;
    sixteen = l ∙ v.sixteen;
    each = each;
    apart = apart;
  }

  -- ---- joining and leaving

  pub newcomer_sits : (own : List ℕ) (channel : ℕ) → join_forbids own channel ≡ false → Sits t.ap t.interval t.clock (newcomer t own channel)
  newcomer_sits own channel n =
      let off = neither (bit 0 (octet 0 own)) (ltb highest channel) n in
      record {
        valid = valid_later (fresh own t.ap t.interval channel) (valid_fresh own t.ap t.interval channel (allowed off)) refl;
        same_ap = refl;
        same_interval = refl;
        same_clock = refl;
      }
    where
      some_interval : eqb t.interval 0 ≡ false
      some_interval = ne_eqb t.interval 0 (λ e. let p = v.interval_positive in omega (arith, e, p))

      allowed : (bit 0 (octet 0 own) ≡ false) × (ltb highest channel ≡ false) → station_forbids own t.ap t.interval channel ≡ false
      allowed off =
          or_go (eqb t.interval 0) some_interval ∙ or_go (ltb highest channel) off.1 ∙ or_go (bit 0 (octet 0 own)) off.0 ∙ v.ap_single

      valid_later : (s : Station) → Valid s → s.pending ≡ None → Valid (with_clock s t.clock)
      valid_later s w e = record {
        own_single = w.own_single;
        ap_single = w.ap_single;
        interval_positive = w.interval_positive;
        channel_known = w.channel_known;
        pending_fits = subst (PendingFits t.clock) (sym e) tt;
        slots = w.slots;
        few = w.few;
        rest_blank = w.rest_blank;
      }

  pub valid_joined : (s : Station) → Sits t.ap t.interval t.clock s → is_joined t s.own ≡ false
      → ValidTable (with_rows t (on_first is_free (λ w. seated s) t.rows))
  valid_joined s sits none =
      valid_rows (on_first is_free (λ w. seated s) t.rows) (length_on_first is_free (λ w. seated s) t.rows)
      (all_on_first (RowOf t) is_free (λ w. seated s) (λ w y h. sits) t.rows v.each) (apart_joined s t.rows none v.apart)

  pub valid_left : (p : Row → Bool) → ValidTable (with_rows t (on_first p (λ w. free) t.rows))
  valid_left p =
      valid_rows (on_first p (λ w. free) t.rows) (length_on_first p (λ w. free) t.rows)
      (all_on_first (RowOf t) p (λ w. free) (λ w y h. refl) t.rows v.each) (apart_left p t.rows v.apart)

  -- ---- frames

  module _ (k : Kind) (allowed : KindAllowed t.interval k) where
    heard_sits : (s : Station) → Sits t.ap t.interval t.clock s → Sits t.ap t.interval t.clock (heard s k)
    heard_sits s h =
        let same = heard_unchanged s k in
        record {
          valid = valid_changed s (frame_of k) (quiets_of k) h.valid (subst (λ (n : ℕ). KindAllowed n k) (sym h.same_interval) allowed);
          same_ap = ap (λ (z : Unchanged). z.1) same ∙ h.same_ap;
          same_interval = ap (λ (z : Unchanged). z.2) same ∙ h.same_interval;
          same_clock = ap (λ (z : Unchanged). z.3) same ∙ h.same_clock;
        }

    hearing_fits : (w : Row) → RowOf t w → RowOf t (hearing k w)
    unfolding hearing
    hearing_fits w h = by w.joined refl h
      where
        by : (b : Bool) → w.joined ≡ b → Holds t.ap t.interval t.clock b w.station → RowOf t (pick b (seated (heard w.station k)) w)
        by true e h = heard_sits w.station h
        by false e h = subst (λ (b : Bool). Holds t.ap t.interval t.clock b w.station) (sym e) h

    pub valid_all : ValidTable (with_rows t (map (hearing k) t.rows))
    valid_all =
        valid_rows (map (hearing k) t.rows) (length-map t.rows (hearing k)) (all_map (RowOf t) (RowOf t) (hearing k) hearing_fits t.rows v.each)
        (apart_same t.rows _ (seats_map (hearing k) (hearing_seat k) t.rows) v.apart)

    pub valid_one : (p : Row → Bool) → ValidTable (with_rows t (on_first p (hearing k) t.rows))
    valid_one p =
        valid_rows (on_first p (hearing k) t.rows) (length_on_first p (hearing k) t.rows)
        (all_on_first (RowOf t) p (hearing k) (λ w y h. hearing_fits w h) t.rows v.each)
        (apart_same t.rows _ (seats_on_first (hearing k) (hearing_seat k) p t.rows) v.apart)

  -- ---- the clock

  module _ (n : ℕ) (near : (ltb unit_limit n || ltb clock_limit (t.clock + n)) ≡ false) where
    advanced_sits : (s : Station) → Sits t.ap t.interval t.clock s → Sits t.ap t.interval (t.clock + n) (advance_of s n).station
    advanced_sits s h =
        let same = advance_keeps s n in
        record {
          valid = let w = advanced s n _ refl h.valid in subst (λ (x : Stepped). Valid x.station) w.0 w.1;
          same_ap = ap (λ (z : KeptThroughout). z.1) same ∙ h.same_ap;
          same_interval = ap (λ (z : KeptThroughout). z.2) same ∙ h.same_interval;
          same_clock = goes_on s n (ap (λ (m : ℕ). ltb unit_limit n || ltb clock_limit (m + n)) h.same_clock ∙ near) ∙ ap (λ (m : ℕ). m + n) h.same_clock;
        }

    ticked_fits : (w : Row) → RowOf t w → Holds t.ap t.interval (t.clock + n) (row_ticked n w).joined (row_ticked n w).station
    unfolding row_ticked
    ticked_fits w h = by w.joined refl h
      where
        by : (b : Bool) → w.joined ≡ b → Holds t.ap t.interval t.clock b w.station
            → Holds t.ap t.interval (t.clock + n) (pick b (seated (advance_of w.station n).station) w).joined (pick b (seated (advance_of w.station n).station) w).station
        by true e h = advanced_sits w.station h
        by false e h = subst (λ (b : Bool). Holds t.ap t.interval (t.clock + n) b w.station) (sym e) h

    pub valid_ticked : ValidTable (ticked_table t n)
    valid_ticked = record {
      ap_single = v.ap_single;
      interval_positive = v.interval_positive;
      sixteen = length-map t.rows (row_ticked n) ∙ v.sixteen;
      each = all_map (RowOf t) (λ w. Holds t.ap t.interval (t.clock + n) w.joined w.station) (row_ticked n) ticked_fits t.rows v.each;
      apart = apart_same t.rows _ (seats_map (row_ticked n) (ticked_seat n) t.rows) v.apart;
    }
