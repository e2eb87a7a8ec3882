-- What a call of document 01's station answers and leaves, by its meaning, and so any calls of a run. Assumes nothing.
use Rattle.std.specs.Prelude.{Ok}
use mathlib.Core.List.{List, [], ◌∷◌}
use mathlib.Core.Path.{◌≡◌, refl, sym, ap, ◌∙◌, subst}
use Prim.Native.Nat.{ℕ}
use Rattle.answer.proofs.Judged.{passed, kept}
use Rattle.answer.specs.Checks.{Answer}
use Rattle.answer.specs.Faults.{Placed, Verdict}
use Rattle.capture_record.specs.declared.entry.Settings.{Settings}
use Rattle.frame.proofs.Allowing.{read_allowed}
use Rattle.frame.specs.Frames.{frame_means}
use Rattle.frame.specs.Laid.{frame_laid}
use Rattle.station.proofs.Received.{valid_heard, read_means}
use Rattle.station.proofs.StaysValid.{valid_fresh, advanced as advances_validly}
use Rattle.station.specs.Asking.{permission_of}
use Rattle.station.specs.Clock.{advance_means, advance_of}
use Rattle.station.specs.Starting.{start_means}
use Rattle.station.specs.Taking.{taken, take_of}
use Rattle.station.specs.Validity.{Valid}
use Rattle.station.specs.declared.Station.{Station}
use Rattle.station.specs.declared.asking.Permission.{Permission}
use Rattle.station.specs.declared.clock.Stepped.{Stepped}
use Rattle.station.specs.declared.taking.Taken.{Taken}
use Rattle.claims.specs.Histories.{Call, frame, advance, ask, History}
use Rattle.claims.specs.Records.{record_from, record_after}
use Rattle.claims.specs.StationRuns.{Said, answered, judged, asked, Starts, Takes, Advances, Asks, StationDoes, station}
use Rattle.claims.proofs.RunsMeant.{Meaning, kept_after, Meant, Exactly, Meets, meets_exactly}

-- ---- what each call means

abbrev said_by : Station → Call → Said
said_by r (frame f) = judged (take_of r f).verdict
said_by r (advance n) = answered (advance_of r n).answer
said_by r (ask n) = asked (Ok (permission_of r n))

abbrev left_by : Station → Call → Station
left_by r (frame f) = (take_of r f).station
left_by r (advance n) = (advance_of r n).station
left_by r (ask n) = r

abbrev pub station_means : Meaning Station Call Said
station_means = record { answers = said_by; leaves = left_by }

-- the record of a history is what its calls leave of the one at its beginning
pub recorded : (t : ℕ) (s : Settings) (h : History) → kept_after station_means (record_from t s []) h ≡ record_from t s h
unfolding kept_after record_from
recorded t s [] = refl
recorded t s (frame f ∷ h) = ap (λ (r : Station). (take_of r f).station) (recorded t s h)
recorded t s (advance n ∷ h) = ap (λ (r : Station). (advance_of r n).station) (recorded t s h)
recorded t s (ask n ∷ h) = recorded t s h

-- an advance and a frame leave a station valid
module _ (r : Station) (v : Valid r) where
  pub valid_advance : (n : ℕ) → Valid (advance_of r n).station
  unfolding advance_means
  valid_advance n = (advances_validly r n _ refl v).1

  pub valid_take : (f : List ℕ) → Valid (take_of r f).station
  valid_take f =
      let read = frame_laid (frame_means r.own r.ap r.interval f) in
      subst (λ (o : Placed Station). Valid (taken r o).station) (read_means r f read refl)
      (valid_heard r v read (read_allowed r.interval r.own r.ap f))

-- ---- what each promise allows

-- an accepted start gives a fresh record, which is valid
pub is_fresh : (s : Settings) (r : Station) → start_means s.own s.ap s.interval s.channel ≡ Ok r → Exactly Valid r (record_after s [])
unfolding start_means record_from
is_fresh s r e =
    let p = passed _ _ _ e in
    let same = kept (record_after s []) p.1 in
    (sym same, subst Valid same (valid_fresh s.own s.ap s.interval s.channel p.0))

pub starts_means : (s : Settings) (r : Station) → Starts s r → Exactly Valid r (record_after s [])
starts_means s r (κs, a, x, e, promise, (own, ap', interval, channel, accepts)) =
    let same : x ≡ start_means s.own s.ap s.interval s.channel = rw (← own, ← ap', ← interval, ← channel) promise.0 in
    is_fresh s r (sym same ∙ accepts)

pub takes_means : {before r : Station} {f : List ℕ} {v : Verdict} → Takes before f v r → (v ≡ (take_of before f).verdict) × (r ≡ (take_of before f).station) × Valid r
takes_means {before} {r} {f} (κs, a, x, e, promise, (self, octets, verdict, result)) =
    let same : x ≡ take_of before f = rw (← self, ← octets) promise.0 in
    (sym verdict ∙ ap (λ (y : Taken). y.verdict) same, sym result ∙ ap (λ (y : Taken). y.station) same, subst Valid result promise.1)

pub advances_means : {before r : Station} {n : ℕ} {v : Answer} → Advances before n v r → (v ≡ (advance_of before n).answer) × (r ≡ (advance_of before n).station) × Valid r
advances_means {before} {r} {n} (κs, a, x, e, promise, (self, units, answer, result)) =
    let same : x ≡ advance_of before n = rw (← self, ← units) promise.0 in
    (sym answer ∙ ap (λ (y : Stepped). y.answer) same, sym result ∙ ap (λ (y : Stepped). y.station) same, subst Valid result promise.1)

pub asks_means : {r : Station} {n : ℕ} {p : Permission} → Asks r n p → p ≡ permission_of r n
asks_means (κs, a, x, e, promise, (self, units, result)) = sym result ∙ rw (← self, ← units) promise

pub does_means : (r : Station) (c : Call) (x : Said) (next : Station) → Valid r → StationDoes r c x next → Meant station_means Valid r c x next
does_means r c x next v (StationDoes.takes y) = let w = takes_means y in record { answers = ap judged w.0; leaves = w.1; valid = w.2 }
does_means r c x next v (StationDoes.advances y) = let w = advances_means y in record { answers = ap answered w.0; leaves = w.1; valid = w.2 }
does_means r c x next v (StationDoes.asks y) = record { answers = ap (λ (p : Permission). asked (Ok p)) (asks_means y); leaves = refl; valid = v }

pub station_meets : (s : Settings) → Meets station station_means (Exactly Valid) s (record_after s [])
station_meets s = meets_exactly station station_means Valid does_means s (record_after s []) (starts_means s)
