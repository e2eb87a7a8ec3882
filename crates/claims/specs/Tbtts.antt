-- TBTTs (01, "Numbers that hold": "Moment 0 and every multiple of B is a TBTT"), counted one after the other. `b` is B.
use Rattle.std.specs.Prelude.{◌≡◌, ℕ, zero, suc, ◌*◌, ◌<◌}

abbrev pub Tbtt : ℕ → ℕ → Type 0
Tbtt b m = (j : ℕ) × (m ≡ j * b)

-- m is the next TBTT after t
pub record NextTbtt (b t m : ℕ) : Type 0 where
  pub is_tbtt_lem : Tbtt b m
  pub after : t < m
  pub none_between : (u : ℕ) → t < u → u < m → Tbtt b u → ⊥

-- m is so many TBTTs after t: with a count of 0 it is t itself, and with each one more the next TBTT
unfoldable pub CountedTo : ℕ → ℕ → ℕ → ℕ → Type 0
CountedTo b t zero m = m ≡ t
CountedTo b t (suc n) m = (last : ℕ) × CountedTo b t n last × NextTbtt b last m
