-- What the list says of a record, with a station and without one. Assumes nothing.
use mathlib.Core.Bool.{Bool, true, false}
use mathlib.Core.List.{List}
use mathlib.Core.Path.{◌≡◌, sym, ap}
use Prim.Native.Nat.{ℕ}
use Rattle.answer.specs.Checks.{pick}
use Rattle.capture_record.specs.Entries.{advancing, hearing, asking}
use Rattle.pen.specs.declared.words.Word.{Word}
use Rattle.station.specs.Asking.{permission_of}
use Rattle.station.specs.Clock.{advance_of}
use Rattle.station.specs.Taking.{take_of}
use Rattle.capture.specs.Lists.{line, stepped, taken, no_station, noted}
use Rattle.capture.specs.declared.lister.Lister.{Lister}
use Rattle.capture.specs.declared.response.Response.{Response}

yes : {A : Type 0} (b : Bool) (x y : A) → b ≡ true → x ≡ pick b x y
yes {A} b x y e = ap (λ (t : Bool). pick t x y) (sym e)

none : {A : Type 0} (b : Bool) (x y : A) → b ≡ false → y ≡ pick b x y
none {A} b x y e = ap (λ (t : Bool). pick t x y) (sym e)

module _ (l : Lister) where
  module _ (e : l.active ≡ false) where
    pub no_advance : (n : ℕ) → no_station l Word.Advance ≡ noted l (advancing n)
    unfolding noted
    no_advance n = none l.active _ _ e

    pub no_frame : (f : List ℕ) → no_station l Word.Frame ≡ noted l (hearing f)
    unfolding noted
    no_frame f = none l.active _ _ e

    pub no_ask : (n : ℕ) → no_station l Word.Ask ≡ noted l (asking n)
    unfolding noted
    no_ask n = none l.active _ _ e

  module _ (e : l.active ≡ true) where
    pub an_advance : (n : ℕ) → stepped l (advance_of l.station n) ≡ noted l (advancing n)
    unfolding noted
    an_advance n = yes l.active _ _ e

    pub a_frame : (f : List ℕ) → taken l (take_of l.station f) ≡ noted l (hearing f)
    unfolding noted
    a_frame f = yes l.active _ _ e

    pub an_ask : (n : ℕ) → line l Word.Ask (Response.Question (permission_of l.station n)) ≡ noted l (asking n)
    unfolding noted
    an_ask n = yes l.active _ _ e
