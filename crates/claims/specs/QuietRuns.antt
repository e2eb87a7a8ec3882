-- The runs of a Quiet element, counted TBTT by TBTT (01, "The station"). `b` is B, and the element was accepted at t.
use Rattle.std.specs.Prelude.{◌⊎◌, ◌≡◌, ℕ, ◌+◌, ◌*◌, ◌<◌, ◌≤◌}
use Rattle.element.specs.declared.quiet.Quiet.{Quiet}
use Rattle.claims.specs.Tbtts.{CountedTo}

-- a run begins at the unit a: the first, at the element's offset past the TBTT that it counts to, or, where it has a period, one that comes so many
-- times that number of TBTTs later
pub record RunBegins (b t : ℕ) (q : Quiet) (a : ℕ) : Type 0 where
  pub later : ℕ
  pub may_repeat : (later ≡ 0) ⊎ (0 < q.period)
  pub tbtt : ℕ
  pub counted : CountedTo b t (q.count + later * q.period) tbtt
  pub begins : a ≡ tbtt + q.offset

-- the unit u lies in a run
abbrev pub CoversUnit : ℕ → ℕ → Quiet → ℕ → Type 0
CoversUnit b t q u = (a : ℕ) × RunBegins b t q a × (a ≤ u) × (u < a + q.duration)
