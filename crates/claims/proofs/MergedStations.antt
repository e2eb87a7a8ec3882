-- Advancing twice is advancing once (02, Seven) for document 01's station, for a station of an IBSS and for a table, over the code's own results. Assumes nothing.
use Rattle.std.specs.Prelude.{Ok, Err, Some, None, Option, All}
use mathlib.Core.Bool.{Bool, true, false, ◌||◌}
use mathlib.Core.List.{List, [], ◌∷◌, map}
use mathlib.Core.Logic.{⊎_elim}
use mathlib.Core.Path.{◌≡◌, refl, sym, ap, ap₂, ◌∙◌, subst}
use Prim.Native.Nat.{ℕ, zero, suc, ◌+◌, ◌≤◌, ◌/◌}
use native.Mathlib.Omega.{arith}
use borrow.Author.Tests.{ltb-false, lt-ltb, le-ltb}
use lib.Dec.{ltb}
use Rattle.answer.proofs.Booleans.{either, neither, or_go}
use Rattle.answer.proofs.Judged.{never}
use Rattle.answer.specs.Checks.{Outcome, pick, and_then, checked, Answer}
use Rattle.answer.specs.declared.Refusal.{Refusal}
use Rattle.member.specs.Members.{member_of, owner_past, member_advances, stepped as member_stepped, advance_of as member_advance}
use Rattle.member.specs.Validity.{ValidMember}
use Rattle.member.specs.declared.Member.{Member}
use Rattle.member.specs.declared.clock.Stepped.{Stepped as MemberStepped}
use Rattle.owner.proofs.CountingUnits.{passed_tbtts}
use Rattle.owner.specs.Owners.{at_tbtt, past_tbtts}
use Rattle.owner.specs.Tbtts.{tbtts_in}
use Rattle.owner.specs.declared.Owner.{Owner}
use Rattle.std.proofs.lemmas.List.Elements.{All-head, All-tail}
use Rattle.row.specs.Rows.{seated, row_ticked, ticked}
use Rattle.row.specs.declared.Row.{Row}
use Rattle.station.specs.Clock.{stepped, reached, clock_advance, advanced_to, advance_means, advance_of}
use Rattle.station.specs.Stations.{clock_limit, unit_limit, with_clock}
use Rattle.station.specs.Validity.{PendingFits, Valid}
use Rattle.station.specs.declared.Station.{Station}
use Rattle.station.specs.declared.clock.Advanced.{Advanced}
use Rattle.station.specs.declared.clock.Stepped.{Stepped}
use Rattle.table.specs.Tables.{stepped as table_stepped, ticked_table, tick_means, tick_of}
use Rattle.table.specs.Validity.{Holds, RowOf, ValidTable}
use Rattle.table.specs.declared.Stepped.{Stepped as TableStepped}
use Rattle.table.specs.declared.Table.{Table}
use Rattle.capture_record.specs.declared.entry.Settings.{Settings}
use Rattle.claims.specs.Histories.{Call, frame, advance, ask, History, clock_from}
use Rattle.claims.specs.MemberRuns.{MemberAdvances, member}
use Rattle.claims.specs.Merging.{TableTicks, Merges}
use Rattle.claims.specs.Runs.{Made, calls_of, Ran}
use Rattle.claims.specs.StationRuns.{Said, Advances, station}
use Rattle.claims.specs.TableHistories.{advances_of}
use Rattle.claims.specs.TableRuns.{tick, answered, TableMade, started_with, table}
use Rattle.claims.proofs.Demand3.{arrives, agreed}
use Rattle.claims.proofs.MemberDemand3.{arrives as member_arrives, agreed as member_agreed}
use Rattle.claims.proofs.MemberMeans.{advances_means as member_advances_means}
use Rattle.claims.proofs.Merged.{AddsUp, merges}
use Rattle.claims.proofs.StationMeans.{advances_means}
use Rattle.claims.proofs.TableMeans.{answered_once, does_means}
use Rattle.claims.proofs.TableStays.{reaches}
use Rattle.pending.specs.declared.Switch.{Switch}

-- an advance that is too far
abbrev too_far : ℕ → ℕ → Bool
too_far t n = ltb unit_limit n || ltb clock_limit (t + n)

near : (t n : ℕ) → too_far t n ≡ false → (n ≤ 65535) × (t + n ≤ 4294967295)
near t n e = let w = neither (ltb unit_limit n) (ltb clock_limit (t + n)) e in (ltb-false unit_limit n w.0, ltb-false clock_limit (t + n) w.1)

not_far : (t n : ℕ) → n ≤ 65535 → t + n ≤ 4294967295 → too_far t n ≡ false
not_far t n few within = or_go (ltb unit_limit n) (le-ltb unit_limit n few) ∙ le-ltb clock_limit (t + n) within

-- ---- document 01's station

-- after so many units, whatever the limits
abbrev gone_to : Station → ℕ → Option Switch → Station
gone_to s t p = advanced_to s (reached t p)

abbrev gone : Station → ℕ → Station
gone s n = gone_to s (s.clock + n) s.pending

-- by whether it is too far
means_by : Station → ℕ → Bool → Outcome Station
means_by s n far = and_then (pick far (Err Refusal.PastClock) (Ok (reached (s.clock + n) s.pending))) (λ a. Ok (advanced_to s a))

by_far : (s : Station) (n : ℕ) → advance_means s n ≡ means_by s n (too_far s.clock n)
unfolding advance_means clock_advance checked means_by
by_far s n = refl

far_refused : (s : Station) (n : ℕ) → too_far s.clock n ≡ true → advance_means s n ≡ Err Refusal.PastClock
unfolding means_by
far_refused s n y = by_far s n ∙ ap (means_by s n) y

near_gone : (s : Station) (n : ℕ) → too_far s.clock n ≡ false → advance_means s n ≡ Ok (gone s n)
unfolding means_by
near_gone s n e = by_far s n ∙ ap (means_by s n) e

gone_clock : (s : Station) (n : ℕ) → (gone s n).clock ≡ s.clock + n
gone_clock s n = by_pending s.pending
  where
    by : (b : Bool) (channel : ℕ) → (advanced_to s (pick b (Advanced.Goes (s.clock + n)) (Advanced.Switches (s.clock + n) channel))).clock ≡ s.clock + n
    by true channel = refl
    by false channel = refl

    by_pending : (p : Option Switch) → (gone_to s (s.clock + n) p).clock ≡ s.clock + n
    by_pending None = refl
    by_pending (Some x) = by (ltb (s.clock + n) x.at) x.channel

gone_interval : (s : Station) (n : ℕ) → (gone s n).interval ≡ s.interval
gone_interval s n = by_pending s.pending
  where
    by : (b : Bool) (channel : ℕ) → (advanced_to s (pick b (Advanced.Goes (s.clock + n)) (Advanced.Switches (s.clock + n) channel))).interval ≡ s.interval
    by true channel = refl
    by false channel = refl

    by_pending : (p : Option Switch) → (gone_to s (s.clock + n) p).interval ≡ s.interval
    by_pending None = refl
    by_pending (Some x) = by (ltb (s.clock + n) x.at) x.channel

-- the moment of the second advance, with what the first one left
gone_adds : (s : Station) (a b : ℕ) → gone (gone s a) b ≡ gone s (a + b)
gone_adds s a b = by_pending s.pending refl ∙ ap (λ (t : ℕ). gone_to s t s.pending) (let e : s.clock + a + b ≡ s.clock + (a + b) = omega arith in e)
  where
    t : ℕ
    t = s.clock + a

    u : ℕ
    u = s.clock + a + b

    by_pending : (p : Option Switch) → s.pending ≡ p → gone (gone s a) b ≡ gone_to s u s.pending
    by_pending None e =
        ap (λ (p : Option Switch). gone (gone_to s t p) b) e ∙ ap (gone_to (with_clock s t) u) e ∙ ap (gone_to s u) (sym e)
    by_pending (Some x) e =
        ⊎_elim
        (λ (y : ltb t x.at ≡ true).
        ap (λ (p : Option Switch). gone (gone_to s t p) b) e
        ∙ ap (λ (c : Bool). gone (advanced_to s (pick c (Advanced.Goes t) (Advanced.Switches t x.channel))) b) y
        ∙ ap (gone_to (with_clock s t) u) e ∙ same_switch (ltb u x.at) ∙ ap (gone_to s u) (sym e))
        (λ (n : ltb t x.at ≡ false).
        ap (λ (p : Option Switch). gone (gone_to s t p) b) e
        ∙ ap (λ (c : Bool). gone (advanced_to s (pick c (Advanced.Goes t) (Advanced.Switches t x.channel))) b) n
        ∙ ap (λ (c : Bool). advanced_to s (pick c (Advanced.Goes u) (Advanced.Switches u x.channel)))
        (sym (le-ltb u x.at (let l = ltb-false t x.at n in omega (arith, l))))
        ∙ ap (gone_to s u) (sym e))
        (either (ltb t x.at))
      where
        same_switch : (c : Bool) → advanced_to (with_clock s t) (pick c (Advanced.Goes u) (Advanced.Switches u x.channel))
            ≡ advanced_to s (pick c (Advanced.Goes u) (Advanced.Switches u x.channel))
        same_switch true = refl
        same_switch false = refl

-- a pending switch lies after the clock
gone_nowhere : (s : Station) → Valid s → gone s 0 ≡ s
gone_nowhere s v = ap (λ (t : ℕ). gone_to s t s.pending) (let e : s.clock + 0 ≡ s.clock = omega arith in e) ∙ by s.pending v.pending_fits
  where
    by : (p : Option Switch) → PendingFits s.clock p → gone_to s s.clock p ≡ s
    by None fits = refl
    by (Some x) fits =
        ap (λ (c : Bool). advanced_to s (pick c (Advanced.Goes s.clock) (Advanced.Switches s.clock x.channel))) (lt-ltb s.clock x.at fits.0)

-- what is accepted is not too far
accepted_near : (t n : ℕ) (answer : Answer) → (too_far t n ≡ true → answer ≡ Err Refusal.PastClock) → answer ≡ Ok tt → too_far t n ≡ false
accepted_near t n answer far e =
    ⊎_elim
    (λ (y : too_far t n ≡ true). absurd (never (sym (far y) ∙ e)))
    (λ (m : too_far t n ≡ false). m)
    (either (too_far t n))

advance_near : (s : Station) (n : ℕ) → (advance_of s n).answer ≡ Ok tt → too_far s.clock n ≡ false
advance_near s n e = accepted_near s.clock n (advance_of s n).answer (λ y. ap (λ (o : Outcome Station). (stepped s o).answer) (far_refused s n y)) e

station_goes : AddsUp Advances Valid (λ s. s.clock)
station_goes = record {
  gone = gone;
  adds = λ s v a b. gone_adds s a b;
  stays = gone_nowhere;
  clock_gone = gone_clock;
  accepted_goes = λ s next n v step.
      let m = advances_means step in
      let close = advance_near s n (sym m.0) in
      let w = near s.clock n close in
      (w.0, w.1, m.1 ∙ ap (λ (o : Outcome Station). (stepped s o).station) (near_gone s n close), m.2);
  near_accepted = λ s next n r v few within step.
      let m = advances_means step in
      let all = ap (stepped s) (near_gone s n (not_far s.clock n few within)) in
      (m.0 ∙ ap (λ (y : Stepped). y.answer) all, m.1 ∙ ap (λ (y : Stepped). y.station) all);
}

pub station_merges : Merges Advances Valid (λ s. s.clock)
station_merges = merges Advances Valid (λ s. s.clock) station_goes

-- the meanings alone, where both advances are accepted
pub advance_merged : (s : Station) (a b : ℕ) → (advance_of s a).answer ≡ Ok tt → (advance_of (advance_of s a).station b).answer ≡ Ok tt → a + b ≤ 65535
    → advance_of s (a + b) ≡ advance_of (advance_of s a).station b
advance_merged s a b one two few =
    let close = advance_near s a one in
    let mid : (advance_of s a).station ≡ gone s a = ap (λ (o : Outcome Station). (stepped s o).station) (near_gone s a close) in
    let close' = advance_near (gone s a) b (ap (λ (x : Station). (advance_of x b).answer) (sym mid) ∙ two) in
    let within = (near (gone s a).clock b close').1 in
    ap (stepped s) (near_gone s (a + b) (not_far s.clock (a + b) few (omega (arith, within, gone_clock s a))))
    ∙ ap (λ (x : Station). record { answer = Ok tt; station = x }) (sym (gone_adds s a b))
    ∙ sym (ap (stepped (gone s a)) (near_gone (gone s a) b close')) ∙ ap (λ (x : Station). advance_of x b) (sym mid)

-- ---- a station of an IBSS: the TBTTs of both advances are those of the one

past_adds : (m n : ℕ) (o : Option Owner) → past_tbtts n (past_tbtts m o) ≡ past_tbtts (m + n) o
unfolding past_tbtts
past_adds zero n o = ap (λ (k : ℕ). past_tbtts k o) (let e : n ≡ 0 + n = omega arith in e)
past_adds (suc m) n o = past_adds m n (at_tbtt o) ∙ ap (λ (k : ℕ). past_tbtts k o) (let e : suc (m + n) ≡ suc m + n = omega arith in e)

tbtts_add : (b : ℕ) → 1 ≤ b → (t m n : ℕ) → tbtts_in b t m + tbtts_in b (t + m) n ≡ tbtts_in b t (m + n)
tbtts_add b pos t m n =
    let first = passed_tbtts b pos t m in
    let second = passed_tbtts b pos (t + m) n in
    let whole = passed_tbtts b pos t (m + n) in
    let same : (t + m + n) / b ≡ (t + (m + n)) / b = ap (λ (u : ℕ). u / b) (let e : t + m + n ≡ t + (m + n) = omega arith in e) in
    omega (arith, first, second, whole, same)

abbrev member_gone : Member → ℕ → Member
member_gone m n = member_of (gone m.station n) (owner_past m n)

owner_adds : (m : Member) → 1 ≤ m.station.interval → (a b : ℕ) → owner_past (member_gone m a) b ≡ owner_past m (a + b)
owner_adds m pos a b =
    ap₂ (λ (i t : ℕ). past_tbtts (tbtts_in i t b) (owner_past m a)) (gone_interval m.station a) (gone_clock m.station a)
    ∙ past_adds (tbtts_in m.station.interval m.station.clock a) (tbtts_in m.station.interval (m.station.clock + a) b) m.owner
    ∙ ap (λ (n : ℕ). past_tbtts n m.owner) (tbtts_add m.station.interval pos m.station.clock a b)

no_tbtts : (b t : ℕ) (o : Option Owner) → past_tbtts (tbtts_in b t 0) o ≡ o
unfolding tbtts_in past_tbtts
no_tbtts b t o = refl

member_by : (m : Member) (n : ℕ) (o : Outcome Station) → advance_means m.station n ≡ o
    → member_advance m n ≡ member_stepped m (and_then o (λ s. Ok (member_of s (owner_past m n))))
unfolding member_advances
member_by m n o e = ap (λ (x : Outcome Station). member_stepped m (and_then x (λ s. Ok (member_of s (owner_past m n))))) e

member_goes : AddsUp MemberAdvances ValidMember (λ m. m.station.clock)
member_goes = record {
  gone = member_gone;
  adds = λ m v a b. ap₂ member_of (gone_adds m.station a b) (owner_adds m v.station_valid.interval_positive a b);
  stays = λ m v. ap₂ member_of (gone_nowhere m.station v.station_valid) (no_tbtts m.station.interval m.station.clock m.owner);
  clock_gone = λ m n. gone_clock m.station n;
  accepted_goes = λ m next n v step.
      let x = member_advances_means step in
      let close =
      accepted_near m.station.clock n (member_advance m n).answer
      (λ y. ap (λ (z : MemberStepped). z.answer) (member_by m n _ (far_refused m.station n y))) (sym x.0)
      in
      let w = near m.station.clock n close in
      (w.0, w.1, x.1 ∙ ap (λ (y : MemberStepped). y.member) (member_by m n _ (near_gone m.station n close)), x.2);
  near_accepted = λ m next n r v few within step.
      let x = member_advances_means step in
      let all = member_by m n _ (near_gone m.station n (not_far m.station.clock n few within)) in
      (x.0 ∙ ap (λ (y : MemberStepped). y.answer) all, x.1 ∙ ap (λ (y : MemberStepped). y.member) all);
}

pub member_merges : Merges MemberAdvances ValidMember (λ m. m.station.clock)
member_merges = merges MemberAdvances ValidMember (λ m. m.station.clock) member_goes

-- ---- a table: every row goes on

abbrev row_gone : ℕ → Row → Row
row_gone n w = pick w.joined (seated (gone w.station n)) w

abbrev table_gone : Table → ℕ → Table
table_gone t n = record { ap = t.ap; interval = t.interval; clock = t.clock + n; rows = map (row_gone n) t.rows }

row_adds : (a b : ℕ) (w : Row) → row_gone b (row_gone a w) ≡ row_gone (a + b) w
row_adds a b w = by w.joined refl
  where
    by : (j : Bool) → w.joined ≡ j → row_gone b (row_gone a w) ≡ row_gone (a + b) w
    by true e =
        ap (λ (c : Bool). row_gone b (pick c (seated (gone w.station a)) w)) e ∙ ap seated (gone_adds w.station a b)
        ∙ ap (λ (c : Bool). pick c (seated (gone w.station (a + b))) w) (sym e)
    by false e =
        ap (λ (c : Bool). row_gone b (pick c (seated (gone w.station a)) w)) e ∙ ap (λ (c : Bool). pick c (seated (gone w.station b)) w) e
        ∙ ap (λ (c : Bool). pick c (seated (gone w.station (a + b))) w) (sym e)

rows_add : (a b : ℕ) (ws : List Row) → map (row_gone b) (map (row_gone a) ws) ≡ map (row_gone (a + b)) ws
rows_add a b [] = refl
rows_add a b (w ∷ ws) = ap₂ (λ (v : Row) (vs : List Row). v ∷ vs) (row_adds a b w) (rows_add a b ws)

-- of a row that is joined, or of one that stays as it is
row_by : (f : Station → Station) (w : Row) → (w.joined ≡ true → f w.station ≡ w.station) → pick w.joined (seated (f w.station)) w ≡ w
row_by f w same = by w.joined refl
  where
    by : (j : Bool) → w.joined ≡ j → pick w.joined (seated (f w.station)) w ≡ w
    by true e =
        ap (λ (c : Bool). pick c (seated (f w.station)) w) e ∙ ap seated (same e)
        ∙ ap (λ (c : Bool). record { joined = c; station = w.station }) (sym e)
    by false e = ap (λ (c : Bool). pick c (seated (f w.station)) w) e

module _ (t : Table) where
  station_of_lem : (w : Row) → RowOf t w → w.joined ≡ true → Valid w.station × (w.station.clock ≡ t.clock)
  station_of_lem w h j = let s = subst (λ (c : Bool). Holds t.ap t.interval t.clock c w.station) j h in (s.valid, s.same_clock)

  rows_stay : (ws : List Row) → All (RowOf t) ws → map (row_gone 0) ws ≡ ws
  rows_stay [] v = refl
  rows_stay (w ∷ ws) v =
      ap₂ (λ (u : Row) (us : List Row). u ∷ us) (row_by (λ s. gone s 0) w (λ j. gone_nowhere w.station (station_of_lem w (All-head (RowOf t) w ws v) j).0)) (rows_stay ws (All-tail (RowOf t) w ws v))

  rows_tick : (n : ℕ) → too_far t.clock n ≡ false → (ws : List Row) → All (RowOf t) ws → ticked n ws ≡ map (row_gone n) ws
  unfolding row_ticked
  rows_tick n close [] v = refl
  rows_tick n close (w ∷ ws) v = ap₂ (λ (u : Row) (us : List Row). u ∷ us) (by w.joined refl) (rows_tick n close ws (All-tail (RowOf t) w ws v))
    where
      by : (j : Bool) → w.joined ≡ j → pick w.joined (seated (advance_of w.station n).station) w ≡ row_gone n w
      by true e =
          ap (λ (s : Station). pick w.joined (seated s) w)
          (ap (λ (o : Outcome Station). (stepped w.station o).station) (near_gone w.station n (ap (λ (c : ℕ). too_far c n) (station_of_lem w (All-head (RowOf t) w ws v) e).1 ∙ close)))
      by false e = ap (λ (c : Bool). pick c (seated (advance_of w.station n).station) w) e ∙ ap (λ (c : Bool). pick c (seated (gone w.station n)) w) (sym e)

  tick_by : ℕ → Bool → TableStepped
  tick_by n far = table_stepped t (pick far (Err Refusal.PastClock) (Ok (ticked_table t n)))

  by_tick : (n : ℕ) → tick_of t n ≡ tick_by n (too_far t.clock n)
  unfolding tick_means checked tick_by
  by_tick n = refl

  tick_far : (n : ℕ) → too_far t.clock n ≡ true → (tick_of t n).answer ≡ Err Refusal.PastClock
  unfolding tick_by
  tick_far n y = ap (λ (x : TableStepped). x.answer) (by_tick n ∙ ap (tick_by n) y)

  tick_near : ValidTable t → (n : ℕ) → too_far t.clock n ≡ false → ((tick_of t n).answer ≡ Ok tt) × ((tick_of t n).table ≡ table_gone t n)
  unfolding tick_by
  tick_near v n e =
      let all = by_tick n ∙ ap (tick_by n) e in (
        ap (λ (x : TableStepped). x.answer) all,
        ap (λ (x : TableStepped). x.table) all
            ∙ ap (λ (ws : List Row). record { ap = t.ap; interval = t.interval; clock = t.clock + n; rows = ws }) (rows_tick n e t.rows v.each),
      )

table_goes : AddsUp TableTicks ValidTable (λ t. t.clock)
table_goes = record {
  gone = table_gone;
  adds = λ t v a b.
      ap₂ (λ (c : ℕ) (ws : List Row). record { ap = t.ap; interval = t.interval; clock = c; rows = ws }) (let e : t.clock + a + b ≡ t.clock + (a + b) = omega arith in e) (rows_add a b t.rows);
  stays = λ t v.
      ap₂ (λ (c : ℕ) (ws : List Row). record { ap = t.ap; interval = t.interval; clock = c; rows = ws }) (let e : t.clock + 0 ≡ t.clock = omega arith in e) (rows_stay t t.rows v.each);
  clock_gone = λ t n. refl;
  accepted_goes = λ t next n v does.
      let m = does_means t (tick n) (answered (Ok tt)) next v does in
      let close = accepted_near t.clock n (tick_of t n).answer (tick_far t n) (answered_once (sym m.answers)) in
      let w = near t.clock n close in
      (w.0, w.1, m.leaves ∙ (tick_near t v n close).1, m.valid);
  near_accepted = λ t next n r v few within does.
      let m = does_means t (tick n) (answered r) next v does in
      let w = tick_near t v n (not_far t.clock n few within) in
      (answered_once m.answers ∙ w.0, m.leaves ∙ w.1);
}

pub table_merges : Merges TableTicks ValidTable (λ t. t.clock)
table_merges = merges TableTicks ValidTable (λ t. t.clock) table_goes

-- ---- what calls have reached has a clock within its limit, so zero changes nothing there

clock_within : (t : ℕ) (h : History) → t ≤ clock_limit → clock_from t h ≤ clock_limit
unfolding clock_from
clock_within t [] within = within
clock_within t (frame f ∷ h) within = clock_within t h within
clock_within t (ask n ∷ h) within = clock_within t h within
clock_within t (advance n ∷ h) within = by (too_far (clock_from t h) n) refl (clock_within t h within)
  where
    by : (far : Bool) → too_far (clock_from t h) n ≡ far → clock_from t h ≤ clock_limit → pick far (clock_from t h) (clock_from t h + n) ≤ clock_limit
    by true e rest = rest
    by false e rest = (near (clock_from t h) n e).1

pub station_zero : (s : Settings) (ms : List (Made Call Said)) (x : Station) → Ran station s ms x → (r : Answer) (next : Station) → Advances x 0 r next → (r ≡ Ok tt) × (next ≡ x)
station_zero s ms x ran r next step =
    let w = arrives s ms x ran in
    let clock = (agreed s ms x ran).as_heard.same_clock in
    station_merges.zero_nothing x w.1 (subst (λ (n : ℕ). n ≤ clock_limit) (sym clock) (clock_within 0 (calls_of ms) (omega arith))) r next step

pub member_zero : (s : Settings) (ms : List (Made Call Said)) (x : Member) → Ran member s ms x → (r : Answer) (next : Member) → MemberAdvances x 0 r next → (r ≡ Ok tt) × (next ≡ x)
member_zero s ms x ran r next step =
    let w = member_arrives s ms x ran in
    let clock = (member_agreed s ms x ran).as_heard.same_clock in
    member_merges.zero_nothing x w.1 (subst (λ (n : ℕ). n ≤ clock_limit) (sym clock) (clock_within 0 (calls_of ms) (omega arith))) r next step

pub table_zero : (ap' : List ℕ) (b : ℕ) (ms : List TableMade) (t : Table) → Ran table (started_with ap' b) ms t → (r : Answer) (next : Table) → TableTicks t 0 r next → (r ≡ Ok tt) × (next ≡ t)
table_zero ap' b ms t ran r next step =
    let w = reaches ap' b ms t ran in
    table_merges.zero_nothing t w.valid (subst (λ (n : ℕ). n ≤ clock_limit) (sym w.its_clock) (clock_within 0 (advances_of (calls_of ms)) (omega arith))) r next step
