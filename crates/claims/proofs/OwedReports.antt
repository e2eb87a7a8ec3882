-- The report that is owed for an element of a Measurement Request: its fields fit their types, it has the request's token and type, and where it is
-- measured it carries the caller's readings. Assumes nothing.
use Rattle.std.specs.Prelude.{Ok, Err}
use mathlib.Core.Bool.{Bool, true, false, not, ◌&&◌, ◌||◌}
use mathlib.Core.List.{List}
use mathlib.Core.Path.{◌≡◌, refl, sym, ap, ◌∙◌, subst₂}
use Prim.Native.Nat.{ℕ, ◌*◌, ◌<◌, ◌^◌}
use native.Mathlib.Omega.{arith}
use borrow.Author.Tests.{ltb-true, eqb-true, not-true}
use lib.Dec.{ltb, eqb}
use lib.ListN.{length, length-map}
use Rattle.answer.proofs.Booleans.{both, neither}
use Rattle.answer.proofs.Judged.{passed, kept}
use Rattle.answer.proofs.Yielding.{Yields, of_refusal, of_value, after_value}
use Rattle.answer.specs.Checks.{Outcome, pick}
use Rattle.answer.specs.declared.Refusal.{Refusal}
use Rattle.fraction.specs.Fractions.{fraction_of, busy_of, densities_of}
use Rattle.measured_report.specs.Reports.{plain, found, is_late, begun, by_matter, report_for}
use Rattle.measured_report.specs.declared.Finding.{Finding}
use Rattle.measured_report.specs.declared.Readings.{Readings}
use Rattle.measurement_element.specs.Found.{map_forbids}
use Rattle.measurement_element.specs.MeasurementReport.{ReportMatterFits, report_may}
use Rattle.measurement_element.specs.MeasurementRequest.{RequestFits}
use Rattle.measurement_element.specs.Span.{span_forbids, SpanFits}
use Rattle.measurement_element.specs.declared.found.Found.{Found}
use Rattle.measurement_element.specs.declared.measurement_report.Matter as Says
use Rattle.measurement_element.specs.declared.measurement_report.Reason.{Reason}
use Rattle.measurement_element.specs.declared.measurement_report.Report.{Report}
use Rattle.measurement_element.specs.declared.measurement_request.Matter as Asks
use Rattle.measurement_element.specs.declared.measurement_request.Request.{Request}
use Rattle.measurement_element.specs.declared.span.Span.{Span}
use Rattle.claims.specs.PossibleReadings.{AsAsked, basic, cca, rpi, Possible, incapable, late, refuses, carried}
use Rattle.claims.specs.RepliesRead.{CarriesReadings}

-- as many densities as times
densities_length : (duration : ℕ) (times ds : List ℕ) → densities_of duration times ≡ Ok ds → length ds ≡ length times
unfolding densities_of
densities_length duration times ds e = ap length (sym (kept _ (passed _ _ _ e).1)) ∙ length-map times (fraction_of duration)

pub record Owed (clock : ℕ) (readings : Readings) (request : Request) (report : Report) : Type 0 where
  pub eight : length readings.times ≡ 8 → length report.densities ≡ 8
  pub fits : clock < 2 ^ 32 → RequestFits request → ReportMatterFits report.matter
  pub same_token : report.token ≡ request.token
  pub same_type : report.kind ≡ request.kind
  -- where it may be written
  pub possible : report_may report ≡ true → Possible clock readings request
  pub carries : report_may report ≡ true → (span : Span) (f : Found) → report.matter ≡ Says.Matter.Measured span f
      → CarriesReadings clock readings request span f report.densities

-- a map that may be written
map_may : (token kind m : ℕ) (s : Span) → report_may (plain token kind (Says.Matter.Measured s (Found.Map m))) ≡ true → (m < 32) × (map_forbids m ≡ false)
unfolding report_may
map_may token kind m s may =
    let p = both (not (span_forbids s || map_forbids m) && (eqb kind 0 && ltb m 32)) true may in
    let q = both (not (span_forbids s || map_forbids m)) (eqb kind 0 && ltb m 32) p.0 in
    (ltb-true m 32 (both (eqb kind 0) (ltb m 32) q.1).1, (neither (span_forbids s) (map_forbids m) (not-true (span_forbids s || map_forbids m) q.0)).1)

module _ (clock token kind : ℕ) (finding : Finding) (times : List ℕ) where
  abbrev readings : Readings
  readings = record { finding = finding; times = times }

  abbrev request : Asks.Matter → Request
  request asks = record { token = token; kind = kind; matter = asks }

  unmeasured : (asks : Asks.Matter) (reason : Reason) → Possible clock readings (request asks) → Owed clock readings (request asks) (plain token kind (Says.Matter.NotMeasured reason))
  unmeasured asks reason possible =
      record {
        eight = λ times_eight. refl;
        fits = λ within fits. tt;
        same_token = refl;
        same_type = refl;
        possible = λ may. possible;
        carries = λ may span f e. absurd (let z : ◌≡◌ {A = ℕ} 0 1 = cc in omega arith);
      }

  module _ (s : Span) where
    abbrev P : Report → Type 0
    P = Owed clock readings (request (Asks.Matter.Measure s))

    -- a clock of 32 bits times 1,024 is a start of eight octets
    begins : clock < 2 ^ 32 → SpanFits s → (now : Bool) → pick now (clock * 1024) s.start < 256 ^ 8
    begins within fits true = omega arith
    begins within fits false = fits.0

    module _ (f : Found) (ds : List ℕ) where
      abbrev report : Report
      report = record { token = token; kind = kind; matter = Says.Matter.Measured (begun clock s) f; densities = ds }

      measured : (length times ≡ 8 → length ds ≡ 8) → (report_may report ≡ true → AsAsked s.duration times kind finding f ds) → P report
      measured so_many finds =
          record {
            eight = so_many;
            fits = λ within fits. (begins within fits (eqb s.start 0), fits.1);
            same_token = refl;
            same_type = refl;
            possible = λ may. carried refl (finds may);
            carries = λ may span g e.
                subst₂ (λ (t : Span) (h : Found). CarriesReadings clock readings (request (Asks.Matter.Measure s)) t h ds) (let k : begun clock s ≡ span = cc in k) (let k : f ≡ g = cc in k)
                (record { asked = s; asks = refl; same_channel = refl; same_duration = refl; start = refl; finds = finds may });
          }

    -- only where the type asks for it
    for_type : (type : ℕ) (o : Outcome Report) → (kind ≡ type → Yields P o) → Yields P (pick (eqb kind type) o (Err Refusal.Impossible))
    for_type type o h = by (eqb kind type) refl
      where
        by : (t : Bool) → eqb kind type ≡ t → Yields P (pick t o (Err Refusal.Impossible))
        by true e = h (eqb-true kind type e)
        by false e = of_refusal P Refusal.Impossible

    by_finding : (given : Finding) → finding ≡ given → Yields P (found token kind (begun clock s) given times)
    by_finding Finding.Refused e = of_value P (unmeasured (Asks.Matter.Measure s) Reason.Refused (refuses refl e))
    by_finding (Finding.Map m) e =
        for_type 0 _ (λ k. of_value P (measured _ _ (λ eight. refl) (λ may. let p = map_may token kind m (begun clock s) may in rw (k, e) (basic p.0 p.1))))
    by_finding (Finding.Busy time) e =
        for_type 1 _ (λ k. after_value P (busy_of s.duration time) _ (λ f b. of_value P (measured _ _ (λ eight. refl) (λ may. rw (k, e) (cca b)))))
    by_finding Finding.Times e =
        for_type 2 _
        (λ k. after_value P (densities_of s.duration times) _ (λ ds d. of_value P (measured _ _ (λ eight. densities_length _ _ _ d ∙ eight) (λ may. rw (k, e) (rpi d)))))

    by_late : (t : Bool) → is_late clock s ≡ t
        → Yields P (pick t (Ok (plain token kind (Says.Matter.NotMeasured Reason.Late))) (found token kind (begun clock s) finding times))
    by_late true e = of_value P (unmeasured (Asks.Matter.Measure s) Reason.Late (late refl e))
    by_late false e = by_finding finding refl

  by_asks : (asks : Asks.Matter) → Yields (Owed clock readings (request asks)) (by_matter asks token kind clock readings)
  by_asks (Asks.Matter.Enable q p) = of_refusal _ Refusal.NoReplyDue
  by_asks (Asks.Matter.Measure s) = by_late s (is_late clock s) refl
  by_asks Asks.Matter.Uninterpreted = of_value _ (unmeasured Asks.Matter.Uninterpreted Reason.Incapable (incapable refl))

pub owed : (clock : ℕ) (readings : Readings) (request : Request) (report : Report) → report_for clock readings request ≡ Ok report
    → Owed clock readings request report
owed clock readings request report e = by_asks clock request.token request.kind readings.finding readings.times request.matter report e
