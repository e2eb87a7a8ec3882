-- Demand 2 for Measurement Report. Assumes nothing.
use Rattle.std.specs.Prelude.{Ok}
use mathlib.Core.Path.{◌≡◌, refl, sym, ap, ap₂, subst, ◌∙◌}
use mathlib.Core.Bool.{Bool, true, false, not, ◌&&◌, ◌||◌, and-false}
use mathlib.Core.List.{List, [], ◌∷◌, ◌++◌}
use Prim.Native.Nat.{ℕ, ◌+◌, ◌*◌, ◌/◌, ◌%◌, ◌≤◌}
use native.Mathlib.Omega.{arith}
use borrow.Author.Tests.{le-ltb, lt-ltb, ltb-true, ltb-false, eq-eqb, eqb-true, eqb-false, not-true, not-false}
use lib.Dec.{eqb, ltb}
use lib.ListN.{length, replicate}
use Rattle.answer.specs.Checks.{pick}
use Rattle.octets.specs.Sums.{sum_of}
use Rattle.answer.proofs.Booleans.{clash, both, and_go}
use Rattle.answer.proofs.Judged.{passed, kept, past, done}
use Rattle.octets.proofs.SumLaws.{zero_sum}
use Rattle.octets.specs.Numbers.{Octets, octet, octets_from, bit}
use Rattle.octets.proofs.JoinSplit.{all_from}
use Rattle.octets.specs.Elements.{RoundTrip}
use Rattle.measurement_element.specs.Found.{found_by, found_size, found_agrees, found_clear, found_octets}
use Rattle.measurement_element.specs.MeasurementReport.{report_flags, report_measured, report_matter_in, no_densities, is_histogram, densities_in, report_of, report_in, report_misfits, report_forbids, report_means, report_mode, report_contents, matter_interpreted, report_interpreted, report_agrees, silent, report_may, report_octets, map_clear, report_clear, ReportMatterFits, ReportFits, report_size}
use Rattle.measurement_element.specs.Span.{span_in}
use Rattle.measurement_element.specs.declared.span.Span.{Span}
use Rattle.measurement_element.specs.declared.found.Found.{Found}
use Rattle.measurement_element.specs.declared.measurement_report.Matter.{Matter}
use Rattle.measurement_element.specs.declared.measurement_report.Reason.{Reason}
use Rattle.measurement_element.specs.declared.measurement_report.Report.{Report}
use Rattle.octets.proofs.Bits.{low_bit, bit_value, three_bits}
use Rattle.measurement_element.proofs.ReportLayout.{made, within, counted}
use Rattle.measurement_element.proofs.SpanTrip.{span_there, span_back, span_fits}

-- ---- what an accepted report says of its contents, and what is asked of contents to be accepted

record Opened (c : List ℕ) (r : Report) : Type 0 where
  same : report_in c ≡ r
  single : report_flags (octet 1 c) ≤ 1
  fitting : report_misfits (report_in c).matter (length c) ≡ false
  allowed : report_forbids (report_in c).matter ≡ false

opened : (c : List ℕ) (r : Report) → report_means c ≡ Ok r → Opened c r
unfolding report_means
opened c r e =
    let p = passed _ _ _ e in
    let q = passed _ _ _ p.1 in
    let s = passed _ _ _ q.1 in
    let u = passed _ _ _ s.1 in
    record { same = kept _ u.1; single = ltb-false 1 _ q.0; fitting = s.0; allowed = u.0 }

accepts : (c : List ℕ) (r : Report) → 3 ≤ length c → report_flags (octet 1 c) ≤ 1 → report_in c ≡ r
    → report_misfits r.matter (length c) ≡ false → report_forbids r.matter ≡ false → report_means c ≡ Ok r
unfolding report_means
accepts c r l o e m f =
    sym
    (past _ _ _ (le-ltb (length c) 3 l)
    (past _ _ _ (le-ltb 1 _ o)
    (past _ _ _ (ap (λ (x : Report). report_misfits x.matter (length c)) e ∙ m)
    (past _ _ _ (ap (λ (x : Report). report_forbids x.matter) e ∙ f) (done _)))))
    ∙ ap Ok e

-- ---- a matter's own mode and size

own_mode : (m : Matter) → report_flags (report_mode m) ≤ 1
own_mode (Matter.NotMeasured Reason.Late) = omega arith
own_mode (Matter.NotMeasured Reason.Incapable) = omega arith
own_mode (Matter.NotMeasured Reason.Refused) = omega arith
own_mode (Matter.Measured s f) = omega arith
own_mode Matter.Uninterpreted = omega arith

own_size : (m : Matter) → report_misfits m (report_size m) ≡ false
own_size m = simp (eq-eqb (report_size m) (report_size m) refl, and-false)

-- the length of what is interpreted
only_size : (m : Matter) (n : ℕ) → report_misfits m n ≡ false → matter_interpreted m ≡ true → n ≡ report_size m
only_size m n p i = eqb-true n (report_size m) (not-false (eqb n (report_size m)) (sym (and_go (matter_interpreted m) i) ∙ p))

-- ---- there

module _ (t k : ℕ) (ds : List ℕ) (eight : length ds ≡ 8) where
  sized : (m : Matter) → length (report_contents (made t k ds m)) ≡ report_size m
  unfolding report_octets
  sized m = let n = counted t k ds eight m in omega arith

  -- densities that add up to 0 are none
  none : eqb (sum_of ds) 0 ≡ true → no_densities ≡ ds
  none q = sym (zero_sum ds (eqb-true (sum_of ds) 0 q) ∙ ap (λ (n : ℕ). replicate n 0) eight)

  -- a histogram's densities stand in the contents; elsewhere there are none
  found_there : (s : Span) (f : Found) → silent (Matter.Measured s f) ds ≡ true
      → densities_in (Matter.Measured s f) (report_contents (made t k ds (Matter.Measured s f))) ≡ ds
  found_there s (Found.Map m) q = none q
  found_there s (Found.Busy x) q = none q
  found_there s Found.Densities q = all_from 8 ds eight

  densities_there : (m : Matter) → silent m ds ≡ true → densities_in m (report_contents (made t k ds m)) ≡ ds
  densities_there (Matter.NotMeasured r) q = none q
  densities_there (Matter.Measured s f) q = found_there s f q
  densities_there Matter.Uninterpreted q = none q

  -- what is found, by the type and the first octet that is written of it
  by_type : (f : Found) → found_agrees f k ≡ true → (ltb 2 k ≡ false) × (found_by k (octet 0 (found_octets f ds)) ≡ f)
  by_type (Found.Map m) a =
      let p = both (eqb k 0) (ltb m 32) a in
      let clear : m % 32 ≡ m = omega (arith, ltb-true m 32 p.1) in
      (le-ltb 2 k (omega (arith, eqb-true k 0 p.0)), simp p.0 (ap Found.Map clear))
  by_type (Found.Busy x) a = (le-ltb 2 k (omega (arith, eqb-true k 1 a)), ap (λ (j : ℕ). found_by j x) (eqb-true k 1 a))
  by_type Found.Densities a = (le-ltb 2 k (omega (arith, eqb-true k 2 a)), ap (λ (j : ℕ). found_by j (octet 0 ds)) (eqb-true k 2 a))

  matter_there : (m : Matter) → ReportMatterFits m → report_agrees m k ≡ true
      → report_matter_in (report_mode m) k (report_contents (made t k ds m)) ≡ m
  matter_there (Matter.NotMeasured Reason.Late) f a = refl
  matter_there (Matter.NotMeasured Reason.Incapable) f a = refl
  matter_there (Matter.NotMeasured Reason.Refused) f a = refl
  matter_there (Matter.Measured s x) f a =
      let p = by_type x a in
      simp p.0 (ap₂ Matter.Measured (span_there t 0 k s (found_octets x ds) f) p.1)
  matter_there Matter.Uninterpreted f a = clash (sym a)

  there_made : (m : Matter) → ReportMatterFits m → report_may (made t k ds m) ≡ true
      → report_means (report_contents (made t k ds m)) ≡ Ok (made t k ds m)
  unfolding report_may
  there_made m f w =
      let c = report_contents (made t k ds m) in
      let p = both (not (report_forbids m) && report_agrees m k) (silent m ds) w in
      let q = both (not (report_forbids m)) (report_agrees m k) p.0 in
      let same : report_in c ≡ made t k ds m =
      ap (λ x. report_of t k x c) (matter_there m f q.1) ∙ ap (λ d. made t k d m) (densities_there m p.1) in
      accepts c (made t k ds m) (omega (arith, sized m, within m)) (own_mode m) same (ap (report_misfits m) (sized m) ∙ own_size m) (not-true (report_forbids m) q.0)

there : (r : Report) → ReportFits r → report_may r ≡ true → report_means (report_contents r) ≡ Ok r
there r f w = there_made r.token r.kind r.densities f.1 r.matter f.0 w

-- ---- back: by which tests each matter came about, and what follows from them

module _ (c : List ℕ) where
  abbrev mode : ℕ
  mode = octet 1 c

  abbrev kind : ℕ
  kind = octet 2 c

  abbrev Unmarked : Type 0
  Unmarked = (mode % 2 ≡ 0) × (mode / 2 % 2 ≡ 0) × (mode / 4 % 2 ≡ 0)

  abbrev found : Found
  found = found_by kind (octet 14 c)

  data Came : Matter → Type 0 where
    late : mode % 2 ≡ 1 → Came (Matter.NotMeasured Reason.Late)
    incapable : mode / 2 % 2 ≡ 1 → Came (Matter.NotMeasured Reason.Incapable)
    refused : mode / 4 % 2 ≡ 1 → Came (Matter.NotMeasured Reason.Refused)
    measured : Unmarked → kind ≤ 2 → Came (Matter.Measured (span_in c) found)
    other : Came Matter.Uninterpreted

  came_measured : Unmarked → (x : Bool) → ltb 2 kind ≡ x → Came (pick x Matter.Uninterpreted (Matter.Measured (span_in c) found))
  came_measured u true p = other
  came_measured u false p = measured u (ltb-false 2 kind p)

  came_marked : (x y z : Bool) → bit 0 mode ≡ x → bit 1 mode ≡ y → bit 2 mode ≡ z
      → Came (pick x (Matter.NotMeasured Reason.Late) (pick y (Matter.NotMeasured Reason.Incapable) (pick z (Matter.NotMeasured Reason.Refused) (report_measured kind c))))
  came_marked true y z p q r = late (eqb-true (mode % 2) 1 (sym (low_bit mode) ∙ p))
  came_marked false true z p q r = incapable (eqb-true (mode / 2 % 2) 1 q)
  came_marked false false true p q r = refused (eqb-true (mode / 4 % 2) 1 r)
  came_marked false false false p q r =
      came_measured
      (bit_value mode false (sym (low_bit mode) ∙ p), bit_value (mode / 2) false q, bit_value (mode / 4) false r)
      (ltb 2 kind) refl

  came : Came (report_in c).matter
  came = came_marked (bit 0 mode) (bit 1 mode) (bit 2 mode) refl refl refl

  -- eight densities, whether they are read or none
  eight_back : (m : Matter) → length (densities_in m c) ≡ 8
  eight_back m = by (is_histogram m)
    where
      by : (t : Bool) → length (pick t (octets_from 8 14 c) no_densities) ≡ 8
      by true = refl
      by false = refl

  fits_back : {m : Matter} → Came m → Octets c → ReportMatterFits m
  fits_back (late h) o = tt
  fits_back (incapable h) o = tt
  fits_back (refused h) o = tt
  fits_back (measured u k) o = span_fits c o
  fits_back other o = tt

  -- what was found agrees with the type by which it was found
  found_agrees_lem : (x y : Bool) → eqb kind 0 ≡ x → eqb kind 1 ≡ y → kind ≤ 2
      → found_agrees (pick x (Found.Map (octet 14 c % 32)) (pick y (Found.Busy (octet 14 c)) Found.Densities)) kind ≡ true
  found_agrees_lem true y p q k = simp (p, lt-ltb (octet 14 c % 32) 32 (omega arith))
  found_agrees_lem false true p q k = q
  found_agrees_lem false false p q k = eq-eqb kind 2 (omega (arith, eqb-false kind 0 p, eqb-false kind 1 q))

  agrees_back : {m : Matter} → Came m → matter_interpreted m ≡ true → report_agrees m kind ≡ true
  agrees_back (late h) i = refl
  agrees_back (incapable h) i = refl
  agrees_back (refused h) i = refl
  agrees_back (measured u k) i = found_agrees_lem (eqb kind 0) (eqb kind 1) refl refl k
  agrees_back other i = clash (sym i)

  -- no densities stand beside what is no histogram
  silent_back : (m : Matter) → silent m (densities_in m c) ≡ true
  silent_back m = by (is_histogram m)
    where
      by : (t : Bool) → (t || eqb (sum_of (pick t (octets_from 8 14 c) no_densities)) 0) ≡ true
      by true = refl
      by false = refl

  -- the one mode bit that is set, where no reserved one is, is the matter's
  mode_back : {m : Matter} → Came m → mode ≡ mode % 2 + 2 * (mode / 2 % 2) + 4 * (mode / 4 % 2) → report_flags mode ≤ 1
      → matter_interpreted m ≡ true → report_mode m ≡ mode
  mode_back (late h) b f i = omega arith
  mode_back (incapable h) b f i = omega arith
  mode_back (refused h) b f i = omega arith
  mode_back (measured u k) b f i = omega arith
  mode_back other b f i = clash (sym i)

  after : {x : ℕ} {os os' : List ℕ} → x ≡ mode → os ≡ os' → octet 0 c ∷ x ∷ kind ∷ os ≡ octet 0 c ∷ mode ∷ kind ∷ os'
  after e f = ap₂ (λ x os. octet 0 c ∷ x ∷ kind ∷ os) e f

  -- what is written of what was found is what was read
  found_back : (x y : Bool) → (let f = pick x (Found.Map (octet 14 c % 32)) (pick y (Found.Busy (octet 14 c)) Found.Densities) in
      Octets c → report_mode (Matter.Measured (span_in c) f) ≡ mode → found_clear f (octet 14 c) ≡ true
      → report_contents (report_of (octet 0 c) kind (Matter.Measured (span_in c) f) c) ≡ octets_from (found_size f) 0 c)
  found_back true y o e k =
      let clear : octet 14 c % 32 ≡ octet 14 c = omega (arith, ltb-true (octet 14 c) 32 k) in
      after e (ap₂ (λ os x. os ++ (x ∷ [])) (span_back c o) clear)
  found_back false true o e k = after e (ap (λ os. os ++ (octet 14 c ∷ [])) (span_back c o))
  found_back false false o e k = after e (ap (λ os. os ++ octets_from 8 14 c) (span_back c o))

  octets_back : {m : Matter} → Came m → Octets c → report_mode m ≡ mode → map_clear m (octet 14 c) ≡ true → matter_interpreted m ≡ true
      → report_contents (report_of (octet 0 c) kind m c) ≡ octets_from (report_size m) 0 c
  octets_back (late h) o e k i = after e refl
  octets_back (incapable h) o e k i = after e refl
  octets_back (refused h) o e k i = after e refl
  octets_back (measured u h) o e k i = found_back (eqb kind 0) (eqb kind 1) o e k
  octets_back other o e k i = clash (sym i)

  module _ (r : Report) (e : report_means c ≡ Ok r) where
    fits : Octets c → ReportFits r
    fits o = subst ReportFits (opened c r e).same (fits_back came o, eight_back (report_in c).matter)

    module _ (i : report_interpreted r ≡ true) where
      interpreted : matter_interpreted (report_in c).matter ≡ true
      interpreted = ap report_interpreted (opened c r e).same ∙ i

      may_back : report_may r ≡ true
      unfolding report_may
      may_back =
          let p = opened c r e in
          let may : report_may (report_in c) ≡ true = simp (p.allowed, agrees_back came interpreted, silent_back (report_in c).matter) in
          ap report_may (sym p.same) ∙ may

      contents_back : Octets c → report_clear c ≡ true → report_contents r ≡ c
      contents_back o k =
          let p = opened c r e in
          let m = (report_in c).matter in
          let q = both (ltb mode 8) (map_clear m (octet 14 c)) k in
          let h = mode_back came (three_bits mode (ltb-true mode 8 q.0)) p.single interpreted in
          ap report_contents (sym p.same) ∙ octets_back came o h q.1 interpreted
          ∙ all_from (report_size m) c (only_size m (length c) p.fitting interpreted)

pub report_trip : RoundTrip report_means report_contents report_may ReportFits report_interpreted report_clear
report_trip =
    record {
      there = there;
      back = λ c r o e i k. (may_back c r e i, contents_back c r e i o k);
      exact = λ r f e i. may_back (report_contents r) r e i;
      fits = λ c r o e. fits c r e o;
    }
