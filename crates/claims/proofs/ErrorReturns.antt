-- An error return is the old body in every octet but the category's top bit, and nothing answers it (02, One). Assumes nothing.
use Rattle.std.specs.Prelude.{Ok, Err}
use mathlib.Core.Bool.{Bool, true, false, ◌&&◌}
use mathlib.Core.List.{List, [], ◌∷◌, ◌++◌}
use mathlib.Core.Path.{◌≡◌, refl, sym, ap, subst, subst₂, ◌∙◌}
use Prim.Native.Nat.{ℕ, zero, suc, ◌+◌, ◌-◌, ◌<◌, ◌≤◌}
use native.Mathlib.Omega.{arith}
use borrow.Author.Tests.{le-ltb}
use lib.Dec.{ltb}
use lib.ListN.{length, drop, length-append, length-drop}
use lib.Seq.{drop-drop}
use Rattle.answer.proofs.Judged.{never, followed}
use Rattle.answer.specs.Checks.{pick}
use Rattle.answer.specs.Faults.{Placed, fault_past}
use Rattle.answer.specs.Numbers.{number_of}
use Rattle.answer.specs.declared.Refusal.{Refusal}
use Rattle.element.specs.declared.tpc_report.TpcReport.{TpcReport}
use Rattle.frame.proofs.ActionParts.{lead, parts}
use Rattle.frame.specs.Actions.{Body, requests, reports, tpc_request, tpc_report, switch, action_means}
use Rattle.frame.specs.Frames.{frame_means}
use Rattle.header.proofs.Heard.{has_header, not_too_long}
use Rattle.header.specs.Headers.{header_length, body_of, da, sa}
use Rattle.header.specs.declared.address.Cell.{Cell}
use Rattle.measured_report.specs.declared.Readings.{Readings}
use Rattle.octets.specs.Numbers.{octet}
use Rattle.reply.proofs.Framed.{head_length_lem}
use Rattle.reply.proofs.Owing.{action_returned, Returned, returned}
use Rattle.reply.proofs.Returning.{some, small, same_size}
use Rattle.reply.specs.Due.{Owed, breaks, is_returned, has_category, or_return, due_means}
use Rattle.reply.specs.Frames.{head_to, reply_frame, error_return}
use Rattle.reply.specs.Replies.{tpc_reply, measurement_reply, tpc_reply_in, measurement_reply_in}
use Rattle.claims.proofs.DueFrames.{owed_by_station}
use Rattle.claims.proofs.ReplyParts.{ReturnParts}
use Rattle.claims.specs.ErrorReturns.{category, ReturnsBody}

-- ---- octets past a place

octet_past : (n i : ℕ) (xs : List ℕ) → octet (n + i) xs ≡ octet i (drop n xs)
octet_past zero i xs = ap (λ (k : ℕ). octet k xs) (let e : 0 + i ≡ i = omega arith in e)
octet_past (suc n) i [] = empty (suc n + i) ∙ sym (empty i)
  where
    empty : (k : ℕ) → octet k [] ≡ 0
    empty zero = refl
    empty (suc k) = refl
octet_past (suc n) i (x ∷ xs) = ap (λ (k : ℕ). octet k (x ∷ xs)) (let e : suc n + i ≡ suc (n + i) = omega arith in e) ∙ octet_past n i xs

-- ---- a frame that is owed its body back

refused_so : (own ap' f body : List ℕ) (b : ℕ) (p : Returned Cell.Ap own ap' f body) → frame_means own ap' b f ≡ Err (fault_past header_length p.fault)
unfolding frame_means
refused_so own ap' f body b p = rw (p.head, p.breaks_it) refl

-- ---- its octets

-- past the category, which is octet 24
past_category : (f body : List ℕ) → body ≡ body_of f → drop 25 (reply_frame (da f) (sa f) (error_return body)) ≡ drop 25 f
past_category f body e = ap (drop 1) e ∙ drop-drop 1 header_length f

later : (f os : List ℕ) → drop 25 os ≡ drop 25 f → (i : ℕ) → header_length < i → octet i os ≡ octet i f
later f os e i h =
    let at : i ≡ 25 + (i - 25) = omega arith in
    ap (λ (k : ℕ). octet k os) at ∙ octet_past 25 (i - 25) os ∙ ap (octet (i - 25)) e ∙ sym (octet_past 25 (i - 25) f) ∙ ap (λ (k : ℕ). octet k f) (sym at)

first : (f : List ℕ) → octet 0 (body_of f) ≡ octet header_length f
first f = sym (octet_past header_length 0 f)

pub returns_body : (own ap' f os : List ℕ) → ReturnParts own ap' f os → ReturnsBody own ap' f os
returns_body own ap' f os p =
    let body = p.body in
    let k = returned Cell.Ap own ap' f p.due in
    let a = owed_by_station own ap' f (breaks body) p.due in
    let octets : os ≡ reply_frame (da f) (sa f) (error_return body) = p.octets ∙ subst₂ (λ (o m : List ℕ). reply_frame o m (error_return body) ≡ reply_frame (da f) (sa f) (error_return body)) a.to_station a.from_ap refl in
    let has = some (body_of f) k.free in
    let long = has_header Cell.Ap own ap' f _ k.head in
    let size = ap length k.own_body in
    let as_long : length os ≡ length f =
    omega (
      arith,
      ap length octets,
      length-append (head_to (da f) (sa f) (sa f)) (error_return body),
      head_length_lem (da f) (sa f) (sa f) refl refl refl,
      same_size body (omega (arith, has, size)),
      size,
      length-drop header_length f,
      long,
    )
    in
    record {
      fault = fault_past header_length k.fault;
      broken = λ b. refused_so own ap' f body b k;
      among = action_returned (body_of f) k.fault k.breaks_it;
      present = omega (arith, has, length-drop header_length f);
      free = subst (λ (n : ℕ). n < 128) (first f) (small (body_of f) k.free);
      as_long = as_long;
      short = omega (arith, as_long, not_too_long Cell.Ap own ap' f _ k.head);
      top_bit =
          ap (octet header_length) octets ∙ ap (λ (x : List ℕ). octet 0 x + 128) k.own_body ∙ ap (λ (n : ℕ). n + 128) (first f);
      same_octets = later f os (ap (drop 25) octets ∙ past_category f body k.own_body);
    }

-- ---- nothing answers it: no station, whatever its addresses, owes anything for a frame whose category has its top bit set

module _ (own ap' g : List ℕ) (top : 128 ≤ category g) where
  none_free : has_category (body_of g) ≡ false
  none_free = by (ltb 0 (length (body_of g)))
    where
      by : (t : Bool) → (t && ltb (octet 0 (body_of g)) 128) ≡ false
      by true = le-ltb (octet 0 (body_of g)) 128 (omega (arith, first g, top))
      by false = refl

  leads : (b : Body) (run : List ℕ) → body_of g ≡ lead b ++ run → ⊥
  leads (requests t rs) run e = omega (arith, ap (octet 0) e, first g, top)
  leads (reports t rs) run e = omega (arith, ap (octet 0) e, first g, top)
  leads (tpc_request t) run e = omega (arith, ap (octet 0) e, first g, top)
  leads (tpc_report t r) run e = omega (arith, ap (octet 0) e, first g, top)
  leads (switch s) run e = omega (arith, ap (octet 0) e, first g, top)

  nothing_owed : (x : Owed) → due_means own ap' g ≡ Ok x → ⊥
  nothing_owed x e = by (action_means (body_of g)) refl (owed_by_station own ap' g x e).is
    where
      by_test_lem : (t : Bool) → t ≡ false → pick t (Ok (breaks (body_of g))) (Err Refusal.NoReplyDue) ≡ Ok x → ⊥
      by_test_lem true k h = let z : ◌≡◌ {A = ℕ} 0 1 = cc in omega arith
      by_test_lem false k h = never h

      and-false : (t : Bool) → (t && has_category (body_of g)) ≡ false
      and-false true = none_free
      and-false false = refl

      by : (o : Placed Body) → action_means (body_of g) ≡ o → or_return (body_of g) o ≡ Ok x → ⊥
      by (Err y) a k = by_test_lem (is_returned (number_of y.refusal) && has_category (body_of g)) (and-false (is_returned (number_of y.refusal))) k
      by (Ok b) a k = let q = parts (body_of g) b a in leads b q.run q.front

  pub never_tpc : (report : TpcReport) (os : List ℕ) → tpc_reply own ap' report g ≡ Ok os → ⊥
  unfolding tpc_reply_in
  never_tpc report os e = let p = followed (due_means own ap' g) _ os e in nothing_owed p.0 p.1

  pub never_measurement : (clock index : ℕ) (readings : Readings) (os : List ℕ) → measurement_reply own ap' clock index readings g ≡ Ok os → ⊥
  unfolding measurement_reply_in
  never_measurement clock index readings os e = let p = followed (due_means own ap' g) _ os e in nothing_owed p.0 p.1

-- so an error return is not answered with another, nor with anything else
module _ (own ap' f os : List ℕ) (r : ReturnsBody own ap' f os) where
  top : 128 ≤ category os
  top = omega (arith, r.top_bit)

  pub never_answered : (heard-by from : List ℕ) (report : TpcReport) (back : List ℕ) → tpc_reply heard-by from report os ≡ Ok back → ⊥
  never_answered heard-by from = never_tpc heard-by from os top

  pub never_measured : (heard-by from : List ℕ) (clock index : ℕ) (readings : Readings) (back : List ℕ) → measurement_reply heard-by from clock index readings os ≡ Ok back → ⊥
  never_measured heard-by from = never_measurement heard-by from os top
