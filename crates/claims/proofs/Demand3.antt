-- Demand 3, of the code: whatever calls were made after an accepted start, refused ones among them, the record is the one that the
-- history speaks of, and each question is answered as the history says. Assumes nothing.
use mathlib.Core.List.{List}
use mathlib.Core.Logic.{◌↔◌}
use mathlib.Core.Path.{◌≡◌, sym, ap, ◌∙◌, subst}
use Prim.Native.Nat.{ℕ, ◌≤◌}
use native.Mathlib.Omega.{arith}
use Rattle.station.proofs.KeptThroughout.{KeptThroughout}
use Rattle.station.specs.Asking.{permission_number, permission_of}
use Rattle.station.specs.Validity.{Valid}
use Rattle.station.specs.declared.Station.{Station}
use Rattle.station.specs.declared.asking.Permission.{Permission}
use Rattle.capture_record.specs.declared.entry.Settings.{Settings}
use Rattle.claims.specs.Histories.{Call, History, listener}
use Rattle.claims.specs.OpenUnits.{AllOpen, Applies}
use Rattle.claims.specs.Records.{record_after, Agrees}
use Rattle.claims.specs.Runs.{Made, calls_of, Ran}
use Rattle.claims.specs.StationRuns.{Said, Asks, station}
use Rattle.claims.proofs.Agreement.{agrees}
use Rattle.claims.proofs.Asked.{answered_from, granted_from}
use Rattle.claims.proofs.RunsMeant.{as_meant}
use Rattle.claims.proofs.StationFollows.{kept}
use Rattle.claims.proofs.StationMeans.{recorded, asks_means, station_meets}

module _ (s : Settings) (ms : List (Made Call Said)) (r : Station) (ran : Ran station s ms r) where
  abbrev h : History
  h = calls_of ms

  -- the functions, run call by call, arrive at the record that the history speaks of, and it is valid
  pub arrives : (r ≡ record_after s h) × Valid r
  arrives = let w = (as_meant (station_meets s) ran).stands in (w.0 ∙ recorded 0 s h, w.1)

  -- an accepted start has an interval
  interval_positive : 1 ≤ s.interval
  interval_positive =
      omega (arith, ap (λ (y : Station). y.interval) arrives.0, ap (λ (z : KeptThroughout). z.2) (kept 0 s h), arrives.1.interval_positive)

  -- every record that is reached is valid, and every field of it is what the history says
  pub valid : Valid r
  valid = arrives.1

  pub agreed : Agrees s h r
  agreed = subst (Agrees s h) (sym arrives.0) (agrees s interval_positive h)

  -- an answer is that of the record that the history speaks of
  as_recorded : (n : ℕ) (p : Permission) → Asks r n p → p ≡ permission_of (record_after s h) n
  as_recorded n p x = asks_means x ∙ ap (λ (y : Station). permission_of y n) arrives.0

  -- each of the answers is given exactly where the history says so
  pub asked : (n : ℕ) (p q : Permission) → Asks r n p → (p ≡ q) ↔ Applies (listener s) h n q
  asked n p q x =
      subst (λ (y : Permission). (y ≡ q) ↔ Applies (listener s) h n q) (sym (as_recorded n p x)) (answered_from 0 s interval_positive h n q)

  -- a question to send for 1 to 65,535 TU is granted exactly if each unit that it would cover is open
  pub granted : (n : ℕ) → 1 ≤ n → n ≤ 65535 → (p : Permission) → Asks r n p → (permission_number p ≡ 0) ↔ AllOpen (listener s) h n
  granted n lo hi p x =
      subst (λ (y : Permission). (permission_number y ≡ 0) ↔ AllOpen (listener s) h n) (sym (as_recorded n p x))
      (granted_from 0 s interval_positive h n lo hi)
