-- The refusal of a frame has its place exactly where it is one of 5 to 12, 21 and 22 (02, One). Assumes nothing.
use Rattle.std.specs.Prelude.{Ok, Err}
use mathlib.Core.List.{List}
use mathlib.Core.Logic.{inl, inr}
use mathlib.Core.Path.{◌≡◌, refl}
use Prim.Native.Nat.{ℕ, ◌+◌, ◌<◌, ◌≤◌}
use native.Mathlib.Omega.{arith}
use lib.ListN.{length, length-drop}
use Rattle.answer.proofs.Placing.{nowhere_value}
use Rattle.answer.proofs.Refusing.{Refuses, by_value, by_refusal, by_check, by_none, by_then}
use Rattle.answer.specs.Checks.{Outcome}
use Rattle.answer.specs.Faults.{Placed, nowhere, fault_past, placed_past}
use Rattle.answer.specs.declared.Fault.{Fault}
use Rattle.beacon.specs.Beacons.{beacon_means}
use Rattle.frame.proofs.BodyFaults.{action_faults, notice_faults}
use Rattle.frame.specs.Actions.{action_means}
use Rattle.frame.specs.Frames.{kind_of, frame_means}
use Rattle.header.proofs.Heard.{has_header}
use Rattle.header.specs.Headers.{header_length, body_of, management_means, address_means, header_means}
use Rattle.header.specs.declared.address.Cell.{Cell}
use Rattle.header.specs.declared.management.Subtype.{Subtype}
use Rattle.claims.specs.Places.{BrokenNowhere, FaultIn}

-- ---- the header: 1 to 4

header_nowhere : (own ap' f : List ℕ) → Refuses BrokenNowhere (header_means Cell.Ap own ap' f)
unfolding header_means management_means address_means
header_nowhere own ap' f =
    by_then BrokenNowhere (management_means f) _
    (by_check BrokenNowhere _ _ _ (inl refl)
    (λ h. by_check BrokenNowhere _ _ _ (inr (inl refl))
    (λ k. by_check BrokenNowhere _ _ _ (inr (inr (inl refl))) (λ l. by_none BrokenNowhere _ (by_value BrokenNowhere _)))))
    (λ s e.
    by_then BrokenNowhere (address_means Cell.Ap own ap' f) _
    (by_check BrokenNowhere _ _ _ (inr (inr (inr refl))) (λ h. by_none BrokenNowhere _ (by_value BrokenNowhere _)))
    (λ t g. by_value BrokenNowhere _))

-- ---- the body, with the header before it

module _ (f : List ℕ) (long : header_length ≤ length f) where
  abbrev Lies : Fault → Type 0
  Lies x = FaultIn f (fault_past header_length x)

  size : header_length + length (body_of f) ≡ length f
  size = omega (arith, length-drop header_length f, long)

  inside : (n : ℕ) → n < length (body_of f) → (24 ≤ header_length + n) × (header_length + n < length f)
  inside n h = omega (arith, h, size)

  notice_lies : (b : ℕ) → Refuses Lies (beacon_means b (body_of f))
  notice_lies b =
      notice_faults Lies b (body_of f)
      (record {
        short = inl refl;
        interval = λ h. (refl, omega (arith, h, size));
        cut = inside;
        long = inside;
        value = inside;
        repeat = inside;
        many = inside;
      })

  action_lies : Refuses Lies (action_means (body_of f))
  action_lies =
      action_faults Lies (body_of f)
      (record {
        short = inl refl;
        category = λ h. (inl refl, omega (arith, h, size));
        action = λ h. (inr refl, omega (arith, h, size));
        token = λ h. inside 2 h;
        elements = record { cut = inside; absent = size; other = inside; long = inside; value = inside; repeat = inside; over = inside };
      })

  kind_lies : (b : ℕ) (s : Subtype) → Refuses Lies (kind_of b s (body_of f))
  kind_lies b Subtype.Beacon = by_then Lies (beacon_means b (body_of f)) _ (notice_lies b) (λ t e. by_value Lies _)
  kind_lies b Subtype.ProbeResponse = by_then Lies (beacon_means b (body_of f)) _ (notice_lies b) (λ t e. by_value Lies _)
  kind_lies b Subtype.Action = by_then Lies (action_means (body_of f)) _ action_lies (λ a e. by_value Lies _)

  past_lies : {A : Type 0} (o : Placed A) → Refuses Lies o → Refuses (FaultIn f) (placed_past header_length o)
  past_lies (Err x) h = by_refusal (FaultIn f) (h x refl)
  past_lies (Ok a) h = by_value (FaultIn f) a

nowhere_lies : {A : Type 0} (f : List ℕ) (o : Outcome A) → Refuses BrokenNowhere o → Refuses (FaultIn f) (nowhere o)
nowhere_lies f (Err r) h = by_refusal (FaultIn f) (h r refl)
nowhere_lies f (Ok a) h = by_value (FaultIn f) a

-- ---- a frame

pub fault_placed : (own ap' : List ℕ) (b : ℕ) (f : List ℕ) (x : Fault) → frame_means own ap' b f ≡ Err x → FaultIn f x
unfolding frame_means
fault_placed own ap' b f =
    by_then (FaultIn f) (nowhere (header_means Cell.Ap own ap' f)) _ (nowhere_lies f (header_means Cell.Ap own ap' f) (header_nowhere own ap' f))
    (λ h e.
    let long = has_header Cell.Ap own ap' f h (nowhere_value (header_means Cell.Ap own ap' f) e) in
    by_then (FaultIn f) (placed_past header_length (kind_of b h.subtype (body_of f))) _
    (past_lies f long (kind_of b h.subtype (body_of f)) (kind_lies f long b h.subtype)) (λ k g. by_value (FaultIn f) _))
