-- Runs of any engine whose promises allow of a call only what it means: what is kept then stands for what the calls mean, and each was answered as it means. Assumes nothing.
use mathlib.Core.List.{List, [], ◌∷◌}
use mathlib.Core.Path.{◌≡◌, refl, sym, ap, ap₂, ◌∙◌, subst}
use Rattle.claims.specs.Runs.{Engine, Made, calls_of, GoesOn, no_calls, called, Ran}

-- what a call means where this is kept: what is said to it, and what it leaves
pub record Meaning (Kept Call Said : Type 0) : Type 0 where
  pub answers : Kept → Call → Said
  pub leaves : Kept → Call → Kept

module _ {Kept Call Said : Type 0} (means : Meaning Kept Call Said) where
  -- what calls leave, and the calls with what is said to them
  unfoldable pub kept_after : Kept → List Call → Kept
  kept_after k [] = k
  kept_after k (c ∷ cs) = means.leaves (kept_after k cs) c

  abbrev pub made_of : Kept → Call → Made Call Said
  made_of k c = record { call = c; answer = means.answers k c }

  unfoldable pub made_after : Kept → List Call → List (Made Call Said)
  made_after k [] = []
  made_after k (c ∷ cs) = made_of (kept_after k cs) c ∷ made_after k cs

  -- a call that was answered, and left, what it means, and that is valid
  pub record Meant (ValidOf : Kept → Type 0) (k : Kept) (c : Call) (x : Said) (next : Kept) : Type 0 where
    pub answers : x ≡ means.answers k c
    pub leaves : next ≡ means.leaves k c
    pub valid : ValidOf next

-- ---- an engine beside a meaning: what it keeps stands for what the meaning has

module _ {ℓ} {Settings Kept Had Call Said : Type 0} (engine : Engine {ℓ} Settings Kept Call Said) (means : Meaning Had Call Said) (StandsFor : Kept → Had → Type 0) where
  -- so it is at the start, and after a call where it was so before; and what is said to the call is what it means
  pub record Meets (s : Settings) (begins : Had) : Type ℓ where
    pub starts : (k : Kept) → engine.Starts s k → StandsFor k begins
    pub does : (k : Kept) (c : Call) (x : Said) (next : Kept) → engine.Does k c x next → (had : Had) → StandsFor k had
        → (x ≡ means.answers had c) × StandsFor next (means.leaves had c)

  pub record AsMeant (begins : Had) (ms : List (Made Call Said)) (last : Kept) : Type 0 where
    pub stands : StandsFor last (kept_after means begins (calls_of ms))
    pub said : ms ≡ made_after means begins (calls_of ms)

-- then so it is after any calls
module _ {ℓ} {Settings Kept Had Call Said : Type 0} {engine : Engine {ℓ} Settings Kept Call Said} {means : Meaning Had Call Said} {StandsFor : Kept → Had → Type 0}
    {s : Settings} {begins : Had} (meets : Meets engine means StandsFor s begins)
  where
    goes_as_meant : {first last : Kept} {ms : List (Made Call Said)} → StandsFor first begins → GoesOn engine first ms last → AsMeant engine means StandsFor begins ms last
    unfolding kept_after made_after
    goes_as_meant f no_calls = record { stands = f; said = refl }
    goes_as_meant f (called {before = before} {last = last} m rest does) =
        let w = goes_as_meant f rest in
        let d = meets.does before m.call m.answer last does _ w.stands in
        record {
          stands = d.1;
          said = ap₂ (λ (x : Said) (ns : List (Made Call Said)). record { call = m.call; answer = x } ∷ ns) d.0 w.said;
        }

    pub as_meant : {last : Kept} {ms : List (Made Call Said)} → Ran engine s ms last → AsMeant engine means StandsFor begins ms last
    as_meant (first, starts, rest) = goes_as_meant (meets.starts first starts) rest

-- two runs of the same calls, of engines that meet one meaning: what either keeps stands for the same, and the same was said
module _ {ℓ κ} {Settings One Other Had Call Said : Type 0} {one : Engine {ℓ} Settings One Call Said} {other : Engine {κ} Settings Other Call Said} {means : Meaning Had Call Said}
    {OneFor : One → Had → Type 0} {OtherFor : Other → Had → Type 0} {s : Settings} {begins : Had}
    (meets : Meets one means OneFor s begins) (meets' : Meets other means OtherFor s begins)
  where
    pub said_alike : {k : One} {j : Other} {ms ns : List (Made Call Said)} → Ran one s ms k → Ran other s ns j → calls_of ms ≡ calls_of ns
        → (had : Had) × OneFor k had × OtherFor j had × (ms ≡ ns)
    said_alike {k} {j} {ms} {ns} x y same =
        let v = as_meant meets x in
        let w = as_meant meets' y in (
          kept_after means begins (calls_of ns),
          subst (λ (cs : List Call). OneFor k (kept_after means begins cs)) same v.stands,
          w.stands,
          v.said ∙ ap (made_after means begins) same ∙ sym w.said,
        )

-- ---- an engine that keeps what the meaning has, and keeps it valid

-- what is kept is just that
abbrev pub Exactly : {Kept : Type 0} → (Kept → Type 0) → Kept → Kept → Type 0
Exactly ValidOf k had = (k ≡ had) × ValidOf k

module _ {ℓ} {Settings Kept Call Said : Type 0} (engine : Engine {ℓ} Settings Kept Call Said) (means : Meaning Kept Call Said) (ValidOf : Kept → Type 0)
    (does_means : (k : Kept) (c : Call) (x : Said) (next : Kept) → ValidOf k → engine.Does k c x next → Meant means ValidOf k c x next)
  where
    pub meets_exactly : (s : Settings) (begins : Kept) → ((k : Kept) → engine.Starts s k → Exactly ValidOf k begins) → Meets engine means (Exactly ValidOf) s begins
    meets_exactly s begins starts = record {
      starts = starts;
      does = λ k c x next does had (same, valid).
          let m = does_means k c x next valid does in
          (m.answers ∙ ap (λ (y : Kept). means.answers y c) same, (m.leaves ∙ ap (λ (y : Kept). means.leaves y c) same, m.valid));
    }

    -- what holds of what is kept first, and after a call by its meaning where it holds before it, holds after any calls
    module _ (P : List (Made Call Said) → Kept → Type 0)
        (stays : (ms : List (Made Call Said)) (k : Kept) (c : Call) → ValidOf k → ValidOf (means.leaves k c) → P ms k → P (made_of means k c ∷ ms) (means.leaves k c))
      where
        pub throughout : {first last : Kept} {ms : List (Made Call Said)} → ValidOf first → P [] first → GoesOn engine first ms last → ValidOf last × P ms last
        throughout v p no_calls = (v, p)
        throughout v p (called {ms = ms} {before = before} {last = last} m rest does) =
            let w = throughout v p rest in
            let d = does_means before m.call m.answer last w.0 does in
            let meant = stays ms before m.call w.0 (subst ValidOf d.leaves d.valid) w.1 in (
              d.valid,
              subst (P (m ∷ ms)) (sym d.leaves)
                  (subst (λ (x : Said). P (record { call = m.call; answer = x } ∷ ms) (means.leaves before m.call)) (sym d.answers) meant),
            )
