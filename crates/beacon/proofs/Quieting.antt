-- Laws of a Quiet element that is looked for at a place: where it stands, where none does, and what it adds. Assumes nothing.
use Rattle.std.specs.Prelude.{Ok, Err, Option}
use Rattle.std.specs.Result.{result_ok}
use mathlib.Core.Path.{◌≡◌, refl, sym, ap, ◌∙◌}
use mathlib.Core.Bool.{Bool, true, false}
use mathlib.Core.List.{List, [], ◌∷◌, ◌++◌}
use Prim.Native.Nat.{ℕ, ◌+◌, ◌-◌, ◌<◌, ◌≤◌}
use native.Mathlib.Omega.{arith}
use borrow.Author.Tests.{eqb-true, lt-leb}
use lib.Dec.{eqb}
use lib.ListN.{length, take, drop, length-drop}
use lib.Seq.{length-take-le}
use Rattle.answer.specs.Checks.{Outcome, pick, and_then}
use Rattle.answer.specs.declared.Refusal.{Refusal}
use Rattle.answer.proofs.Judged.{never, past, done}
use Rattle.answer.proofs.Yielding.{Yields, of_value, either_way_lem, after_value}
use Rattle.element.proofs.FixedLength.{opened}
use Rattle.element.specs.ChannelSwitch.{switch_means}
use Rattle.element.specs.PowerConstraint.{power_means}
use Rattle.element.specs.Quiet.{quiet_means, quiet_in, quiet_forbids}
use Rattle.element.specs.TpcReport.{tpc_report_means}
use Rattle.element.specs.declared.quiet.Quiet.{Quiet}
use Rattle.octets.specs.Numbers.{Octets, octet, number}
use Rattle.octets.proofs.Prefixed.{octets_then}
use Rattle.walk.specs.Elements.{Elements, more, elements_in}
use Rattle.walk.proofs.RunLaws.{split, lying}
use Rattle.walk.proofs.Walking.{at_whole}
use Rattle.beacon.specs.Beacons.{tells, quiet_limit, element_means, adds, takes}
use Rattle.beacon.specs.CodeTerms.Adding.{Slotless, SlotlessIn}
use Rattle.beacon.specs.CodeTerms.Naming.{reads_dfs}
use Rattle.beacon.specs.CodeTerms.Quieting.{QuietAt, QuietHere}
use Rattle.beacon.specs.declared.Notice.{Notice}
use Rattle.beacon.specs.declared.elements.Element.{Element}
use Rattle.beacon.proofs.Saying.{is_quiet}

-- ---- at a place

-- accepted contents have one length
quiet_size : (b : ℕ) (c : List ℕ) (q : Quiet) → quiet_means b c ≡ Ok q → length c ≡ 6
unfolding quiet_means
quiet_size b c q e = (opened 6 quiet_in (quiet_forbids b) c q e).0

module _ (run : List ℕ) (at b : ℕ) where
  -- the six octets past a header
  abbrev six_past : List ℕ
  six_past = take (at + 8 - (at + 2)) (drop (at + 2) run)

  -- an element that is taken lies in the run, has the header, which is one number of two octets, and its contents are the six octets past it
  record Seen (c : List ℕ) : Type 0 where
    long : at + 8 ≤ length run
    header : number 2 at run ≡ 1576
    same : six_past ≡ c

  seen : (c : List ℕ) (es : Elements) (q : Quiet) → elements_in (drop at run) ≡ more 40 c es → quiet_means b c ≡ Ok q → Seen c
  seen c es q e m =
      let size = quiet_size b c q m in
      let s = split (drop at run) 40 c es e in
      let l = lying run at 40 c s.rest s.octets in
      let head : octet at run ∷ octet (at + 1) run ∷ drop (at + 2) run ≡ 40 ∷ length c ∷ (c ++ s.rest) =
      sym (octets_then 2 at run (omega (arith, l.inside))) ∙ s.octets in
      let id : octet at run ≡ 40 = cc in
      let count : octet (at + 1) run ≡ length c = cc in
      let stop : at + 8 ≡ at + 2 + length c = omega (arith, size) in
      record {
        long = omega (arith, l.inside, size);
        header = omega (arith, id, count, size);
        same = ap (λ (n : ℕ). take (n - (at + 2)) (drop (at + 2) run)) stop ∙ l.contents;
      }

  -- so none is taken where the run is too short, the header is another, or the contents are refused
  module _ {A : Type 0} (c : List ℕ) (es : Elements) (q : Quiet) (e : elements_in (drop at run) ≡ more 40 c es) (m : quiet_means b c ≡ Ok q) where
    pub too_short : length run - at < 8 → A
    too_short h = absurd (omega (arith, (seen c es q e m).long))

    pub other_header : (n : ℕ) → n ≡ number 2 at run → (n ≡ 1576 → ⊥) → A
    other_header n r h = absurd (h (r ∙ (seen c es q e m).header))

    bad_contents : (r : Refusal) → Err r ≡ quiet_means b six_past → A
    bad_contents r f = absurd (never (f ∙ ap (quiet_means b) (seen c es q e m).same ∙ m))

  -- and one is where none of these holds: the header's number has one split into octets
  stands : Octets run → (n : ℕ) → n ≡ number 2 at run → n ≡ 1576 → 8 ≤ length run - at → (q : Quiet) → Ok q ≡ quiet_means b six_past → QuietHere run at b q
  stands o n r f h q m =
      let id : octet at run ≡ 40 = omega (arith, o at, o (at + 1), r, f) in
      let size : 6 ≡ octet (at + 1) run = omega (arith, o at, o (at + 1), r, f) in
      let stop : at + 2 + 6 ≡ at + 8 = omega arith in
      record {
        contents = six_past;
        begins =
            at_whole run at 6 size (omega arith) (omega arith)
            ∙ ap (λ (k : ℕ). more k (take (at + 2 + 6 - (at + 2)) (drop (at + 2) run)) (elements_in (drop (at + 2 + 6) run))) id
            ∙ ap (λ (k : ℕ). more 40 (take (k - (at + 2)) (drop (at + 2) run)) (elements_in (drop k run))) stop;
        past = omega (arith, length-take-le (at + 8 - (at + 2)) (drop (at + 2) run) (simp length-drop (omega arith)));
        inside = omega arith;
        means = sym m;
      }

  -- so what is read of the six octets says whether one stands there that finds a slot
  module _ (o : Octets run) (n count : ℕ) (r : n ≡ number 2 at run) (f : n ≡ 1576) (long : 8 ≤ length run - at) (free : count < quiet_limit) where
    pub read_here : {read : Outcome Quiet} {found : Option Quiet} → read ≡ quiet_means b six_past → found ≡ result_ok read → QuietAt run at count b found
    read_here {read} e same = rw same (by read e)
      where
        by : (x : Outcome Quiet) → x ≡ quiet_means b six_past → QuietAt run at count b (result_ok x)
        by (Err z) g = λ c es q h m. bad_contents c es q h m z g
        by (Ok q) g = (stands o n r f long q g, free)

-- ---- what one adds

-- no Quiet element is read as element 41
pub not_dfs : (ibss : Bool) → reads_dfs ibss 40 ≡ false
not_dfs true = refl
not_dfs false = refl

module _ (b : ℕ) (c : List ℕ) where
  -- where there is a slot it is said after those before it
  pub quiet_taken : (n : Notice) (qs : List Quiet) (q : Quiet) → quiet_means b c ≡ Ok q → length qs < quiet_limit
      → Ok (tells n (qs ++ (q ∷ []))) ≡ takes b 40 c (tells n qs)
  unfolding takes
  quiet_taken n qs q m room =
      past _ _ _ (lt-leb quiet_limit (length qs) room) (done _)
      ∙ ap (λ (o : Outcome Element). and_then o (adds (tells n qs)))
      (sym (ap (λ (o : Outcome Quiet). and_then o (λ x. Ok (Element.Quiet x))) m) ∙ is_quiet b 40 c refl)

  -- ---- none finds a slot

  -- a property of what is accepted after a test, which is known where it was met
  after_test : {A : Type 0} (P : A → Type 0) (t : Bool) (o p : Outcome A) → (t ≡ true → Yields P o) → Yields P p → Yields P (pick t o p)
  after_test P true o p h k = h refl
  after_test P false o p h k = k

  pub slotless : (id : ℕ) (qs : List Quiet) → SlotlessIn qs b id c → Yields (Slotless qs) (element_means b id c)
  unfolding element_means
  slotless id qs s =
      either_way_lem _ (eqb id 32) _ _ (after_value _ (power_means c) _ (λ p e. of_value _ tt))
      (either_way_lem _ (eqb id 35) _ _ (after_value _ (tpc_report_means c) _ (λ t e. of_value _ tt))
      (either_way_lem _ (eqb id 37) _ _ (after_value _ (switch_means c) _ (λ w e. of_value _ tt))
      (after_test _ (eqb id 40) _ _ (λ t. after_value _ (quiet_means b c) _ (λ q e. of_value _ (s q (eqb-true id 40 t) e)))
      (of_value _ tt))))
