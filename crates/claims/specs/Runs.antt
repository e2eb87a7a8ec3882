-- Runs of the code (00, demand 3: "Start a station and make any calls"), of whatever is started and then called: each call is made on what the call before it left,
-- and does what its function's own promise allows. Nothing more is known of it.
use Rattle.std.specs.Prelude.{List, [], ◌∷◌, map, ◌≡◌, ℕ}
use borrow.Fn.Kinds.{ParamKind, ResultKind, Dens, res_t, ended_of, Out}
use contract.Lifetimes.{Lfts}
use denote.Triple.Clauses.{AtExit}

-- a call that a promise allows, of which something is said: of its arguments, its result, and what was lent to it at exit
abbrev pub Called : (n : ℕ) (ps : List (ParamKind n)) (r : ResultKind n) → Out n ps r → ((κs : Lfts n) → Dens κs ps → (res_t r κs).Denot → AtExit (ended_of n ps r) κs → Type 0) → Type 0
Called n ps r Promise About =
    (κs : Lfts n) × (a : Dens κs ps) × (x : (res_t r κs).Denot) × (e : AtExit (ended_of n ps r) κs) × Promise κs a x e × About κs a x e

-- what can be run: what it is started with, what is kept from call to call, what a call is, and what is said to one
pub record Engine {ℓ} (Settings Kept Call Said : Type 0) : Type (ℓ + 1) where
  -- its start was called with the settings, accepted them and gave this to keep
  pub Starts : Settings → Kept → Type 0
  -- the function of the call was called on what was kept, said this and left that
  pub Does : Kept → Call → Said → Kept → Type ℓ

-- a call as it was made, and what was said to it
pub record Made (Call Said : Type 0) : Type 0 where
  pub call : Call
  pub answer : Said

-- the calls alone: the history
abbrev pub calls_of : {Call Said : Type 0} → List (Made Call Said) → List Call
calls_of ms = map (λ m. m.call) ms

-- from what was kept first the calls were made one after the other, the latest of them first in the list, and the last one left this
pub data GoesOn {ℓ} {Settings Kept Call Said : Type 0} (engine : Engine {ℓ} Settings Kept Call Said) (first : Kept) : List (Made Call Said) → Kept → Type ℓ where
  no_calls : GoesOn engine first [] first
  called : {ms : List (Made Call Said)} {before last : Kept} (m : Made Call Said)
      → GoesOn engine first ms before → engine.Does before m.call m.answer last → GoesOn engine first (m ∷ ms) last

-- the same from an accepted start on
abbrev pub Ran {ℓ} : {Settings Kept Call Said : Type 0} → Engine {ℓ} Settings Kept Call Said → Settings → List (Made Call Said) → Kept → Type ℓ
Ran {Kept = K} engine s ms last = (first : K) × engine.Starts s first × GoesOn engine first ms last

-- each of the calls is such
unfoldable pub Each : {Call : Type 0} → (Call → Type 0) → List Call → Type 0
Each Such [] = Unit {0}
Each Such (c ∷ h) = Such c × Each Such h

-- these calls can be made after an accepted start: there is a run of them
pub record CanRun {ℓ} {Settings Kept Call Said : Type 0} (engine : Engine {ℓ} Settings Kept Call Said) (s : Settings) (h : List Call) : Type ℓ where
  pub made : List (Made Call Said)
  pub last : Kept
  pub ran : Ran engine s made last
  pub its_calls : calls_of made ≡ h
