-- What a frame that is due a reply says of itself (01, "Replies": "Due only for accepted Action frames whose DA is the station"; 02, One): its three
-- addresses, and its body. Assumes nothing.
use Rattle.std.specs.Prelude.{Ok, Err, Some, None, Option}
use mathlib.Core.Bool.{Bool, true, false, ◌&&◌, ◌||◌}
use mathlib.Core.List.{List}
use mathlib.Core.Path.{◌≡◌, refl, sym, ap, ◌∙◌, subst}
use Prim.Native.Nat.{ℕ, ◌-◌}
use borrow.Author.Tests.{not-false}
use lib.ListN.{take, drop}
use Rattle.action.specs.Openings.{fixed_fields}
use Rattle.answer.proofs.Booleans.{clash, neither}
use Rattle.answer.proofs.Judged.{never, passed, kept}
use Rattle.answer.specs.Checks.{Outcome, pick, and_then}
use Rattle.answer.specs.Faults.{Placed}
use Rattle.answer.specs.Numbers.{number_of}
use Rattle.answer.specs.declared.Refusal.{Refusal}
use native.Mathlib.Omega.{arith}
use Rattle.frame.proofs.ActionParts.{parts}
use Rattle.frame.specs.Actions.{Body, requests, action_means}
use Rattle.header.proofs.Addresses.{same_is}
use Rattle.header.specs.Headers.{header_length, body_of, da, sa, bssid, to_all, foreign_address, management_means, address_means, header_means}
use Rattle.header.specs.declared.address.Cell.{Cell}
use Rattle.header.specs.declared.management.Subtype.{Subtype}
use Rattle.measurement_body.proofs.PlacesRead.{Reads, place_reads}
use Rattle.measurement_body.specs.Lists.{measurements_in, nth}
use Rattle.measurement_body.specs.Requests.{request_sort}
use Rattle.measurement_body.specs.Surveys.{place_in}
use Rattle.measurement_element.proofs.RequestTrip.{request_trip}
use Rattle.measurement_element.specs.MeasurementRequest.{request_means, request_forbids, RequestFits}
use Rattle.measurement_element.specs.declared.measurement_request.Request.{Request}
use Rattle.octets.specs.Numbers.{Octets}
use Rattle.reply.specs.Due.{Owed, asks, breaks, is_returned, has_category, or_return, after_header, due_means, due_in}
use Rattle.walk.specs.declared.Contents.{Contents}
use Rattle.claims.proofs.OctetsWithin.{octets_take, octets_drop}

first_holds : (a b : Bool) → (a || b) ≡ true → b ≡ false → a ≡ true
first_holds true b e k = refl
first_holds false b e k = clash (sym e ∙ k)

-- the AP sent it to the station alone, and its body is owed this
pub record OwedByStation (own ap f : List ℕ) (x : Owed) : Type 0 where
  pub to_station : da f ≡ own
  pub to_one : to_all f ≡ false
  pub from_ap : sa f ≡ ap
  pub of_bss : bssid f ≡ ap
  pub is : or_return (body_of f) (action_means (body_of f)) ≡ Ok x

module _ (own ap' f : List ℕ) (x : Owed) where
  -- past the checks on the addresses, and not to all ones
  addressed : address_means Cell.Ap own ap' f ≡ Ok false → or_return (body_of f) (action_means (body_of f)) ≡ Ok x → OwedByStation own ap' f x
  unfolding address_means foreign_address
  addressed e is =
      let p = passed _ _ _ e in
      let one : to_all f ≡ false = kept _ p.1 in
      let from = neither _ _ p.0 in
      let bss = neither _ _ from.1 in
      record {
        to_station = same_is _ _ (first_holds _ _ (not-false _ bss.1) one);
        to_one = one;
        from_ap = same_is _ _ (not-false _ from.0);
        of_bss = same_is _ _ (not-false _ bss.0);
        is = is;
      }

  by_checks : (m : Outcome Subtype) (o : Outcome Bool) → address_means Cell.Ap own ap' f ≡ o
      → and_then (and_then m (λ s. and_then o (λ t. Ok (record { subtype = s; to_all = t })))) (after_header f) ≡ Ok x → OwedByStation own ap' f x
  by_checks (Err r) o a e = absurd (never e)
  by_checks (Ok s) (Err r) a e = absurd (never e)
  by_checks (Ok s) (Ok true) a e = absurd (never e)
  by_checks (Ok Subtype.Beacon) (Ok false) a e = absurd (never e)
  by_checks (Ok Subtype.ProbeResponse) (Ok false) a e = absurd (never e)
  by_checks (Ok Subtype.Action) (Ok false) a e = addressed a e

  pub owed_by_station : due_means own ap' f ≡ Ok x → OwedByStation own ap' f x
  unfolding due_in header_means
  owed_by_station e = by_checks (management_means f) (address_means Cell.Ap own ap' f) refl e

-- what is asked is what the body means
pub due_asks : (own ap' f : List ℕ) (body : Body) → due_means own ap' f ≡ Ok (asks body) → action_means (body_of f) ≡ Ok body
due_asks own ap' f body e = by (action_means (body_of f)) (owed_by_station own ap' f (asks body) e).is
  where
    by_test_lem : (t : Bool) → pick t (Ok (breaks (body_of f))) (Err Refusal.NoReplyDue) ≡ Ok (asks body) → ⊥
    by_test_lem true k = let z : ◌≡◌ {A = ℕ} 0 1 = cc in omega arith
    by_test_lem false k = never k

    by : (o : Placed Body) → or_return (body_of f) o ≡ Ok (asks body) → o ≡ Ok body
    by (Err x) k = absurd (by_test_lem (is_returned (number_of x.refusal) && has_category (body_of f)) k)
    by (Ok b) k = cc

-- ---- an element of its Measurement Request is what some of its octets mean

record Said (f : List ℕ) (q : Request) : Type 0 where
  contents : List ℕ
  octets : Octets f → Octets contents
  means : request_means contents ≡ Ok q

module _ (own ap' f : List ℕ) (token : ℕ) (rs : List Request) (i : ℕ) (q : Request) (due : due_means own ap' f ≡ Ok (asks (requests token rs))) (at : nth i rs ≡ Ok q) where
  by_place : (p : Option Contents) → Reads request_sort (body_of f) (nth i rs) p → Said f q
  by_place None e = absurd (never (sym e ∙ at))
  by_place (Some c) e =
      record {
        contents = take (c.end - c.start) (drop c.start (body_of f));
        octets = λ o. octets_take (c.end - c.start) (drop c.start (body_of f)) (octets_drop c.start (body_of f) (octets_drop header_length f o));
        means = e.2 ∙ at;
      }

  said : Said f q
  said =
      let p = parts (body_of f) (requests token rs) (due_asks own ap' f (requests token rs) due) in
      by_place (place_in i (body_of f))
      (place_reads request_sort (body_of f) rs (ap (λ (c : List ℕ). measurements_in request_sort (drop fixed_fields c)) p.front ∙ p.holds.1) i)

  -- so it fits its fields
  pub element_fits : Octets f → RequestFits q
  element_fits o = request_trip.fits said.contents q (said.octets o) said.means

  -- and says nothing that is forbidden
  pub element_allowed : request_forbids q ≡ false
  unfolding request_means
  element_allowed =
      let p = passed _ _ _ (passed _ _ _ (passed _ _ _ said.means).1).1 in
      subst (λ (x : Request). request_forbids x ≡ false) (kept _ p.1) p.0
