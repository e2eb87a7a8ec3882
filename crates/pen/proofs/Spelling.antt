-- A number's digits: how many they are, and one by one from the last. Assumes nothing.
use mathlib.Core.Bool.{Bool, true, false}
use mathlib.Core.List.{List, [], ◌∷◌, ◌++◌, append_assoc, append-nil}
use mathlib.Core.Path.{◌≡◌, refl, sym, ap, ◌∙◌, subst}
use Prim.Native.Nat.{ℕ, zero, suc, ◌+◌, ◌/◌, ◌%◌, ◌-◌, ◌<◌, ◌≤◌, ◌^◌}
use native.Mathlib.Nat.{pow-succ'}
use native.Mathlib.Omega.{arith}
use borrow.Author.Tests.{lt-ltb, le-ltb, ltb-false}
use lib.Dec.{ltb}
use lib.ListN.{length, length-append}
use Rattle.answer.specs.Checks.{pick}
use Rattle.pen.specs.Decimals.{digits, decimal}

last_digit : (f n : ℕ) → n < 10 → digits f n ≡ (48 + n) ∷ []
unfolding digits
last_digit zero n h = refl
last_digit (suc f) n h = simp (lt-ltb n 10 h)

one_digit : (f n : ℕ) → 1 ≤ f → 10 ≤ n → digits f n ≡ digits (f - 1) (n / 10) ++ ((48 + n % 10) ∷ [])
unfolding digits
one_digit zero n one h = absurd (omega arith)
one_digit (suc f) n one h = simp (le-ltb n 10 h) (ap (λ (k : ℕ). digits k (n / 10) ++ ((48 + n % 10) ∷ [])) (let e : f ≡ suc f - 1 = omega arith in e))

-- ---- the digits in front of the last, whatever the fuel

enough : (f g n : ℕ) → n ≤ f → n ≤ g → digits f n ≡ digits g n
unfolding digits
enough zero g n h k = last_digit zero n (omega arith) ∙ sym (last_digit g n (omega arith))
enough (suc f) zero n h k = last_digit (suc f) n (omega arith) ∙ sym (last_digit zero n (omega arith))
enough (suc f) (suc g) n h k = by (ltb n 10) refl (enough f g (n / 10))
  where
    by : (t : Bool) → ltb n 10 ≡ t → (n / 10 ≤ f → n / 10 ≤ g → digits f (n / 10) ≡ digits g (n / 10)) → digits (suc f) n ≡ digits (suc g) n
    by true e same = simp e
    by false e same =
        let two = ltb-false n 10 e in
        simp e (ap (λ (xs : List ℕ). xs ++ ((48 + n % 10) ∷ [])) (same (omega arith) (omega arith)))

pub one_alone : (n : ℕ) → n < 10 → decimal n ≡ (48 + n) ∷ []
unfolding decimal
one_alone n h = last_digit n n h

pub last_of_many : (n : ℕ) → 10 ≤ n → decimal n ≡ decimal (n / 10) ++ ((48 + n % 10) ∷ [])
unfolding decimal
last_of_many n h =
    one_digit n n (omega arith) h
    ∙ ap (λ (xs : List ℕ). xs ++ ((48 + n % 10) ∷ [])) (enough (n - 1) (n / 10) (n / 10) (omega arith) (omega arith))

-- ---- how many they are

-- at least one
some : (f n : ℕ) → 1 ≤ length (digits f n)
unfolding digits
some zero n = omega arith
some (suc f) n = by (ltb n 10)
  where
    by : (t : Bool) → 1 ≤ length (pick t ((48 + n) ∷ []) (digits f (n / 10) ++ ((48 + n % 10) ∷ [])))
    by true = omega arith
    by false = omega (arith, length-append (digits f (n / 10)) ((48 + n % 10) ∷ []))

pub some_digits : (n : ℕ) → 1 ≤ length (decimal n)
unfolding decimal
some_digits n = some n n

-- a number of two digits or more, and the same without its last
wide : (k n : ℕ) → 10 ≤ n → n < 10 ^ k → 2 ≤ k
wide zero n h p = absurd (omega arith)
wide (suc zero) n h p = absurd (omega arith)
wide (suc (suc k)) n h p = omega arith

narrower : (k n : ℕ) → 1 ≤ k → n < 10 ^ k → n / 10 < 10 ^ (k - 1)
narrower zero n one p = absurd (omega arith)
narrower (suc k) n one p = subst (λ (m : ℕ). n / 10 < 10 ^ m) (let e : k ≡ suc k - 1 = omega arith in e) (omega (arith, pow-succ' 10 k))

few : (f k n : ℕ) → 1 ≤ k → n < 10 ^ k → length (digits f n) ≤ k
unfolding digits
few zero k n one p = omega arith
few (suc f) k n one p = by (ltb n 10) refl (few f (k - 1) (n / 10))
  where
    by : (t : Bool) → ltb n 10 ≡ t → (1 ≤ k - 1 → n / 10 < 10 ^ (k - 1) → length (digits f (n / 10)) ≤ k - 1)
        → length (pick t ((48 + n) ∷ []) (digits f (n / 10) ++ ((48 + n % 10) ∷ []))) ≤ k
    by true e rest = omega arith
    by false e rest =
        let more = wide k n (ltb-false n 10 e) p in
        omega (arith, length-append (digits f (n / 10)) ((48 + n % 10) ∷ []), rest (omega (arith, more)) (narrower k n one p), more)

-- at most k below the k-th power of ten
pub few_digits : (k n : ℕ) → 1 ≤ k → n < 10 ^ k → length (decimal n) ≤ k
unfolding decimal
few_digits k n one p = few n k n one p

-- ---- one by one

-- what is spelled so far: the digits of the rest come in front of those that are done
pub record Spelled (number rest : ℕ) (done : List ℕ) : Type 0 where
  pub fuel : ℕ
  pub enough : rest ≤ fuel
  pub says : decimal number ≡ digits fuel rest ++ done

-- one is left at least
pub unspelled : (number rest : ℕ) (done : List ℕ) → Spelled number rest done → length done < length (decimal number)
unspelled number rest done s = omega (arith, ap length s.says, length-append (digits s.fuel rest) done, some s.fuel rest)

pub begins : (number : ℕ) → Spelled number number []
unfolding decimal
begins number = record { fuel = number; enough = omega arith; says = sym (append-nil (digits number number)) }

pub goes_on : (number rest : ℕ) (done : List ℕ) → 10 ≤ rest → Spelled number rest done → Spelled number (rest / 10) ((48 + rest % 10) ∷ done)
goes_on number rest done h s =
    record {
      fuel = s.fuel - 1;
      enough = omega (arith, s.enough);
      says =
          s.says
          ∙ ap (λ (xs : List ℕ). xs ++ done) (one_digit s.fuel rest (omega (arith, s.enough)) h)
          ∙ append_assoc (digits (s.fuel - 1) (rest / 10)) ((48 + rest % 10) ∷ []) done;
    }

pub ends : (number rest : ℕ) (done : List ℕ) → rest < 10 → Spelled number rest done → decimal number ≡ (48 + rest) ∷ done
ends number rest done h s = s.says ∙ ap (λ (xs : List ℕ). xs ++ done) (last_digit s.fuel rest h)
