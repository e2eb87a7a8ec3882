-- Demand 2 for Measurement Request. Assumes nothing.
use Rattle.std.specs.Prelude.{Ok}
use mathlib.Core.Path.{◌≡◌, refl, sym, ap, ap₂, subst, ◌∙◌}
use mathlib.Core.Bool.{Bool, true, false, not, ◌&&◌, ◌||◌}
use mathlib.Core.List.{List, [], ◌∷◌, ◌++◌, append-nil}
use Prim.Native.Nat.{ℕ, ◌+◌, ◌/◌, ◌%◌, ◌<◌}
use native.Mathlib.Omega.{arith}
use borrow.Author.Tests.{eqb-true, ltb-true, not-true, not-false}
use lib.Dec.{eqb, leb, ltb}
use lib.ListN.{length}
use Rattle.answer.specs.Checks.{pick}
use Rattle.answer.proofs.Booleans.{clash, both}
use Rattle.answer.proofs.Judged.{passed, kept, past, done}
use Rattle.octets.specs.Numbers.{Octets, octet, bit}
use Rattle.octets.proofs.JoinSplit.{all_from}
use Rattle.octets.specs.Elements.{RoundTrip}
use Rattle.measurement_element.specs.MeasurementRequest.{request_in, request_misfits, request_forbids, request_means, request_contents, request_interpreted, request_agrees, request_may, request_clear, RequestMatterFits, RequestFits}
use Rattle.measurement_element.specs.Span.{span_in, span_octets, SpanFits}
use Rattle.measurement_element.specs.declared.span.Span.{Span}
use Rattle.measurement_element.specs.declared.measurement_request.Matter.{Matter}
use Rattle.measurement_element.specs.declared.measurement_request.Request.{Request}
use Rattle.octets.proofs.Bits.{bit_value, weigh, four_bits}
use Rattle.measurement_element.proofs.RequestLayout.{made}
use Rattle.measurement_element.proofs.SpanTrip.{span_there, span_back, span_fits}

-- what an accepted request says of its contents
record Opened (c : List ℕ) (r : Request) : Type 0 where
  same : request_in c ≡ r
  fitting : request_misfits r.matter (length c) ≡ false
  allowed : request_forbids r ≡ false

opened : (c : List ℕ) (r : Request) → request_means c ≡ Ok r → Opened c r
unfolding request_means
opened c r e =
    let p = passed _ _ _ e in
    let q = passed _ _ _ p.1 in
    let s = passed _ _ _ q.1 in
    let k : request_in c ≡ r = kept _ s.1 in
    record {
      same = k;
      fitting = subst (λ (x : Request). request_misfits x.matter (length c) ≡ false) k q.0;
      allowed = subst (λ (x : Request). request_forbids x ≡ false) k s.0;
    }

-- ---- there

accepts : (c : List ℕ) (r : Request) → ltb (length c) 3 ≡ false → request_in c ≡ r → request_misfits r.matter (length c) ≡ false → request_forbids r ≡ false
    → request_means c ≡ Ok r
unfolding request_means
accepts c r l e m f =
    sym
    (past _ _ _ l
    (past _ _ _ (ap (λ (x : Request). request_misfits x.matter (length c)) e ∙ m)
    (past _ _ _ (ap request_forbids e ∙ f) (done _))))
    ∙ ap Ok e

enable_same : (q p u : Bool) (t k : ℕ) → leb k 2 ≡ u → (u || not (q || p)) ≡ true → request_in (request_contents (made t k (Matter.Enable q p))) ≡ made t k (Matter.Enable q p)
enable_same true true true t k h w = ap (λ (b : Bool). made t k (Matter.Enable (b && true) (b && true))) h
enable_same true false true t k h w = ap (λ (b : Bool). made t k (Matter.Enable (b && true) (b && false))) h
enable_same false true true t k h w = ap (λ (b : Bool). made t k (Matter.Enable (b && false) (b && true))) h
enable_same false false u t k h w = ap (λ (b : Bool). made t k (Matter.Enable b b)) (nothing (leb k 2))
  where
    nothing : (b : Bool) → (b && false) ≡ false
    nothing true = refl
    nothing false = refl
enable_same true p false t k h w = clash (sym w)
enable_same false true false t k h w = clash (sym w)

measure_same : (s : Span) (t k : ℕ) → SpanFits s → leb k 2 ≡ true → request_in (request_contents (made t k (Matter.Measure s))) ≡ made t k (Matter.Measure s)
measure_same s t k f h =
    ap₂ (λ (b : Bool) (x : Span). made t k (pick b (Matter.Measure x) Matter.Uninterpreted)) h
    (ap (λ (os : List ℕ). span_in ((t ∷ 0 ∷ k ∷ []) ++ os)) (sym (append-nil (span_octets s))) ∙ span_there t 0 k s [] f)

there_matter : (m : Matter) (t k : ℕ) → RequestMatterFits m → (request_forbids (made t k m) ≡ false) × (request_agrees m k ≡ true)
    → request_means (request_contents (made t k m)) ≡ Ok (made t k m)
there_matter (Matter.Enable q p) t k f w = accepts _ _ refl (enable_same q p (leb k 2) t k refl w.1) refl w.0
there_matter (Matter.Measure s) t k f w = accepts _ _ refl (measure_same s t k f w.1) refl w.0
there_matter Matter.Uninterpreted t k f w = clash (sym w.1)

-- what may be written is nothing forbidden, and of its type
may_says : (r : Request) → request_may r ≡ true → (request_forbids r ≡ false) × (request_agrees r.matter r.kind ≡ true)
unfolding request_may
may_says r w =
    let p = both (not (request_forbids r)) (request_agrees r.matter r.kind) w in
    (not-true (request_forbids r) p.0, p.1)

says_may : (r : Request) → request_forbids r ≡ false → request_agrees r.matter r.kind ≡ true → request_may r ≡ true
unfolding request_may
says_may r f g = simp (f, g)

there : (r : Request) → RequestFits r → request_may r ≡ true → request_means (request_contents r) ≡ Ok r
there r f w = there_matter r.matter r.token r.kind f (may_says r w)

-- ---- back

-- with Enable the mode is its bits, where no reserved one is set
mode_back : (m : ℕ) → bit 1 m ≡ true → (eqb (m % 2) 0 && ltb m 16) ≡ true → 2 + (pick (bit 2 m) 4 0 + pick (bit 3 m) 8 0) ≡ m
mode_back m e h =
    let z = both (eqb (m % 2) 0) (ltb m 16) h in
    let even : m % 2 ≡ 0 = eqb-true (m % 2) 0 z.0 in
    let low : m < 16 = ltb-true m 16 z.1 in
    let set : m / 2 % 2 ≡ 1 = eqb-true (m / 2 % 2) 1 e in
    let d = four_bits m low in
    let x = bit_value (m / 4) (bit 2 m) refl in
    let y = bit_value (m / 8) (bit 3 m) refl in
    omega (arith, weigh (bit 2 m) 4, weigh (bit 3 m) 8)

-- a request that enables or disables, as it is read
abbrev enabling : List ℕ → Bool → Request
enabling c u = made (octet 0 c) (octet 2 c) (Matter.Enable (u && bit 2 (octet 1 c)) (u && bit 3 (octet 1 c)))

enable_back : (c : List ℕ) (u : Bool) → leb (octet 2 c) 2 ≡ u → bit 1 (octet 1 c) ≡ true → request_clear c ≡ true → length c ≡ 3
    → request_contents (enabling c u) ≡ c
enable_back c true h p k e =
    ap (λ (mode : ℕ). octet 0 c ∷ mode ∷ octet 2 c ∷ []) (mode_back (octet 1 c) p (simp (p, h) at k)) ∙ all_from 3 c e
enable_back c false h p k e =
    let only : eqb (octet 1 c) 2 ≡ true = simp (p, h) at k in
    ap (λ (mode : ℕ). octet 0 c ∷ mode ∷ octet 2 c ∷ []) (sym (eqb-true (octet 1 c) 2 only)) ∙ all_from 3 c e

measure_back : (c : List ℕ) → Octets c → bit 1 (octet 1 c) ≡ false → request_clear c ≡ true → length c ≡ 14
    → request_contents (made (octet 0 c) (octet 2 c) (Matter.Measure (span_in c))) ≡ c
measure_back c o p k e =
    let clear : eqb (octet 1 c) 0 ≡ true = simp p at k in
    ap₂ (λ (mode : ℕ) (os : List ℕ). (octet 0 c ∷ mode ∷ octet 2 c ∷ []) ++ os) (sym (eqb-true (octet 1 c) 0 clear)) (span_back c o)
    ∙ all_from 14 c e

-- a request read is one of three, by the mode's Enable bit and the type
abbrev matter_by : List ℕ → Bool → Bool → Matter
matter_by c t u =
    pick t (Matter.Enable (u && bit 2 (octet 1 c)) (u && bit 3 (octet 1 c))) (pick u (Matter.Measure (span_in c)) Matter.Uninterpreted)

read_by : (c : List ℕ) (r : Request) (t u : Bool) → request_in c ≡ r → bit 1 (octet 1 c) ≡ t → leb (octet 2 c) 2 ≡ u
    → made (octet 0 c) (octet 2 c) (matter_by c t u) ≡ r
read_by c r t u e p q = ap₂ (λ (x y : Bool). made (octet 0 c) (octet 2 c) (matter_by c x y)) (sym p) (sym q) ∙ e

Back : List ℕ → Request → Type 0
Back c r = (request_agrees r.matter r.kind ≡ true) × (request_contents r ≡ c)

back_by : (c : List ℕ) (r : Request) → Octets c → Opened c r → request_interpreted r ≡ true → request_clear c ≡ true
    → (t u : Bool) → bit 1 (octet 1 c) ≡ t → leb (octet 2 c) 2 ≡ u → Back c r
unfolding Back
back_by c r o x i k true u p q =
    let e = read_by c r true u x.same p q in
    let l : not (eqb (length c) 3) ≡ false = ap (λ (y : Request). request_misfits y.matter (length c)) e ∙ x.fitting in
    subst (Back c) e (agrees u q, enable_back c u q p k (eqb-true (length c) 3 (not-false (eqb (length c) 3) l)))
  where
    -- bits that are invalid are read as clear
    agrees : (v : Bool) → leb (octet 2 c) 2 ≡ v → (leb (octet 2 c) 2 || not ((v && bit 2 (octet 1 c)) || (v && bit 3 (octet 1 c)))) ≡ true
    agrees true h = ap (λ (b : Bool). b || not (bit 2 (octet 1 c) || bit 3 (octet 1 c))) h
    agrees false h = ap (λ (b : Bool). b || true) h
back_by c r o x i k false true p q =
    let e = read_by c r false true x.same p q in
    let l : not (eqb (length c) 14) ≡ false = ap (λ (y : Request). request_misfits y.matter (length c)) e ∙ x.fitting in
    subst (Back c) e (q, measure_back c o p k (eqb-true (length c) 14 (not-false (eqb (length c) 14) l)))
back_by c r o x i k false false p q = clash (sym (ap request_interpreted (read_by c r false false x.same p q) ∙ i))

back : (c : List ℕ) (r : Request) → Octets c → request_means c ≡ Ok r → request_interpreted r ≡ true → request_clear c ≡ true
    → (request_may r ≡ true) × (request_contents r ≡ c)
unfolding Back
back c r o e i k =
    let x = opened c r e in
    let b = back_by c r o x i k (bit 1 (octet 1 c)) (leb (octet 2 c) 2) refl refl in
    (says_may r x.allowed b.0, b.1)

-- ---- exact, and fitting

agrees_by : (m : Matter) (t k : ℕ) (u : Bool) → leb k 2 ≡ u → request_in (request_contents (made t k m)) ≡ made t k m → request_interpreted (made t k m) ≡ true
    → request_agrees m k ≡ true
agrees_by (Matter.Enable q p) t k true h e i = ap (λ (b : Bool). b || not (q || p)) h
agrees_by (Matter.Enable q p) t k false h e i =
    let c = request_contents (made t k (Matter.Enable q p)) in
    let same : Matter.Enable false false ≡ Matter.Enable q p = invalid q p h e in
    let off : false ≡ q = cc in
    let out : false ≡ p = cc in
    ap₂ (λ (b x : Bool). b || not x) h (ap₂ ◌||◌ (sym off) (sym out))
  where
    invalid : (q p : Bool) → leb k 2 ≡ false → request_in (request_contents (made t k (Matter.Enable q p))) ≡ made t k (Matter.Enable q p) → Matter.Enable false false ≡ Matter.Enable q p
    invalid true true h e = ap (λ (b : Bool). Matter.Enable (b && true) (b && true)) (sym h) ∙ ap (λ (r : Request). r.matter) e
    invalid true false h e = ap (λ (b : Bool). Matter.Enable (b && true) (b && false)) (sym h) ∙ ap (λ (r : Request). r.matter) e
    invalid false true h e = ap (λ (b : Bool). Matter.Enable (b && false) (b && true)) (sym h) ∙ ap (λ (r : Request). r.matter) e
    invalid false false h e = refl
agrees_by (Matter.Measure s) t k true h e i = h
agrees_by (Matter.Measure s) t k false h e i =
    let c = request_contents (made t k (Matter.Measure s)) in
    clash (sym (ap request_interpreted (read_by c (made t k (Matter.Measure s)) false false e refl h)))
agrees_by Matter.Uninterpreted t k u h e i = clash (sym i)

exact : (r : Request) → RequestFits r → request_means (request_contents r) ≡ Ok r → request_interpreted r ≡ true → request_may r ≡ true
exact r f e i =
    let x = opened (request_contents r) r e in
    says_may r x.allowed (agrees_by r.matter r.token r.kind (leb r.kind 2) refl x.same i)

fits_by : (c : List ℕ) → Octets c → (t u : Bool) → RequestMatterFits (matter_by c t u)
fits_by c o true u = tt
fits_by c o false true = span_fits c o
fits_by c o false false = tt

pub request_trip : RoundTrip request_means request_contents request_may RequestFits request_interpreted request_clear
request_trip =
    record {
      there = there;
      back = back;
      exact = exact;
      fits = λ c r o e. subst RequestFits (opened c r e).same (fits_by c o (bit 1 (octet 1 c)) (leb (octet 2 c) 2));
    }
