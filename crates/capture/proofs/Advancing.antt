-- What the list says of an advance, by its clock. Assumes nothing.
use Rattle.std.specs.Prelude.{Ok}
use mathlib.Core.Bool.{Bool, true}
use mathlib.Core.Path.{◌≡◌, ap, ◌∙◌}
use Prim.Native.Nat.{ℕ}
use Rattle.capture_record.specs.Entries.{advancing}
use Rattle.pen.specs.declared.words.Word.{Word}
use Rattle.station.proofs.StaysValid.{advanced}
use Rattle.station.specs.Stations.{with_clock}
use Rattle.station.specs.Clock.{clock_advance}
use Rattle.station.specs.Validity.{Valid}
use Rattle.station.specs.declared.Station.{Station}
use Rattle.station.specs.declared.clock.Advanced.{Advanced}
use Rattle.capture.specs.Listers.{with_station, following}
use Rattle.capture.specs.Lists.{line, stepped, noted}
use Rattle.capture.specs.CodeTerms.Plain.{clocked_at}
use Rattle.capture.specs.declared.lister.Lister.{Lister}
use Rattle.capture.specs.declared.response.Response.{Response}
use Rattle.capture.proofs.Answering.{an_advance}

module _ (l : Lister) (e : l.active ≡ true) (v : Valid l.station) (n : ℕ) where
  -- the lister that follows a station is as it was but for the station
  as_followed : (s : Station) → with_station l l.active s ≡ following l s
  as_followed s = ap (λ (b : Bool). with_station l b s) e

  module _ (t : ℕ) (k : clock_advance l.station.clock l.station.pending n ≡ Ok (Advanced.Goes t)) where
    pub clock_line : line (clocked_at l t) Word.Advance (Response.Call (Ok tt)) ≡ noted l (advancing n)
    clock_line =
        ap (λ (x : Lister). line x Word.Advance (Response.Call (Ok tt))) (as_followed (with_clock l.station t))
        ∙ ap (stepped l) (advanced l.station n (Ok (Advanced.Goes t)) k v).0 ∙ an_advance l e n
