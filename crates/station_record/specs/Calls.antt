-- The calls on a record (02, Eight: "both give the same station and answer"): what the call by value comes to for the station that is held. Octets that
-- hold no station are refused with 16.
use Rattle.std.specs.Prelude.{List, [], ◌∷◌, ℕ, ltb, length, Ok, Err, Result}
use Rattle.answer.specs.Checks.{Outcome, ◌⇒◌, judged, and_then}
use Rattle.answer.specs.Faults.{Placed, nowhere}
use Rattle.answer.specs.declared.Refusal.{Refusal}
use Rattle.octets.specs.Writing.{filled}
use Rattle.station.specs.Asking.{permission_of}
use Rattle.station.specs.Clock.{advance_means}
use Rattle.station.specs.Starting.{start_means}
use Rattle.station.specs.Taking.{take_means}
use Rattle.station.specs.declared.Station.{Station}
use Rattle.station.specs.declared.asking.Permission.{Permission}
use Rattle.station_record.specs.Held.{held_in}
use Rattle.station_record.specs.Records.{size, record_of}

-- what is left of the octets: where a call is refused all stay as they were, else the record of its station stands in front
abbrev pub relaid : {R : Type 0} → List ℕ → Result Station R → List ℕ
relaid os (Err r) = os
relaid os (Ok s) = filled (record_of s) os

-- a start, into octets that need hold nothing: 15, then 13 where they have no room for a record
unfoldable pub started_in : List ℕ → List ℕ → ℕ → ℕ → List ℕ → Outcome Station
started_in own ap b channel os = and_then (start_means own ap b channel) (λ s. judged (ltb (length os) size ⇒ Refusal.BufferShort ∷ []) s)

abbrev pub advanced_in : ℕ → List ℕ → Outcome Station
advanced_in n os = and_then (held_in os) (λ s. advance_means s n)

abbrev pub taken_in : List ℕ → List ℕ → Placed Station
taken_in f os = and_then (nowhere (held_in os)) (λ s. take_means s f)

abbrev pub asked_in : ℕ → List ℕ → Outcome Permission
asked_in n os = and_then (held_in os) (λ s. Ok (permission_of s n))
