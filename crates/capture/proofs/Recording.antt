-- Records that are malformed, and lines before lines. Assumes nothing.
use mathlib.Core.Bool.{true}
use mathlib.Core.List.{List, ◌++◌, append_assoc}
use mathlib.Core.Path.{◌≡◌, refl, sym, ap}
use Prim.Native.Nat.{ℕ}
use native.Mathlib.Omega.{arith}
use Rattle.capture_record.specs.Entries.{Noted, malformed, starting, advancing, hearing, asking, entry_told}
use Rattle.capture_record.specs.declared.entry.Entry.{Entry}
use Rattle.capture.specs.Lists.{Told, before, bad_record, noted, is_malformed}
use Rattle.capture.specs.CodeTerms.Noting.{entry_malformed}
use Rattle.capture.specs.declared.lister.Lister.{Lister}

-- ---- whether a record is malformed

pub same_malformed : (c : List ℕ) (e : Entry) → is_malformed (entry_told c e) ≡ entry_malformed e
same_malformed c Entry.Malformed = refl
same_malformed c Entry.Start = refl
same_malformed c (Entry.Advance n) = refl
same_malformed c Entry.Frame = refl
same_malformed c (Entry.Ask n) = refl

pub bad_noted : (l : Lister) (x : Noted) → is_malformed x ≡ true → noted l x ≡ bad_record l
unfolding noted
bad_noted l malformed e = refl
bad_noted l (starting s) e = absurd (let z : ◌≡◌ {A = ℕ} 0 1 = cc in omega arith)
bad_noted l (advancing n) e = absurd (let z : ◌≡◌ {A = ℕ} 0 1 = cc in omega arith)
bad_noted l (hearing f) e = absurd (let z : ◌≡◌ {A = ℕ} 0 1 = cc in omega arith)
bad_noted l (asking n) e = absurd (let z : ◌≡◌ {A = ℕ} 0 1 = cc in omega arith)

pub before_before : (xs ys : List ℕ) (t : Told) → before xs (before ys t) ≡ before (xs ++ ys) t
before_before xs ys t = ap (λ (zs : List ℕ). record { lister = t.lister; text = zs }) (sym (append_assoc xs ys t.text))
