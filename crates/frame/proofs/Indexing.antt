-- Elements of a body by their index. Assumes nothing.
use Rattle.std.specs.Prelude.{Ok, Err, Some, None, Option}
use mathlib.Core.Path.{◌≡◌, refl, sym, ap, subst, ◌∙◌}
use mathlib.Core.Bool.{Bool}
use mathlib.Core.List.{List}
use Prim.Native.Nat.{ℕ}
use lib.ListN.{length, drop}
use Rattle.action.specs.Openings.{fixed_fields, switch_fixed_fields}
use Rattle.action.specs.declared.Opening.{Opening}
use Rattle.answer.proofs.Judged.{followed}
use Rattle.answer.proofs.Placing.{past_value}
use Rattle.answer.specs.Checks.{Outcome, and_then}
use Rattle.answer.specs.Faults.{Placed, nowhere, without_place, placed_past}
use Rattle.answer.specs.declared.Refusal.{Refusal}
use Rattle.beacon.specs.Beacons.{beacon_means}
use Rattle.element.specs.ChannelSwitch.{switch_means}
use Rattle.element.specs.TpcReport.{tpc_report_means}
use Rattle.element.specs.TpcRequest.{tpc_request_means}
use Rattle.header.specs.Headers.{header_length, body_of, header_means}
use Rattle.header.specs.declared.Head.{Head}
use Rattle.header.specs.declared.address.Cell.{Cell}
use Rattle.header.specs.declared.management.Subtype.{Subtype}
use Rattle.measurement_body.proofs.PlacesRead.{Reads, place_reads}
use Rattle.measurement_body.specs.Kinds.{sort_of}
use Rattle.measurement_body.specs.Lists.{Sort, measurements_in, nth}
use Rattle.measurement_body.specs.Reports.{report_sort}
use Rattle.measurement_body.specs.Requests.{request_sort}
use Rattle.measurement_body.specs.Surveys.{place_in, surveyed_as, surveyed}
use Rattle.measurement_body.specs.declared.kinds.Kind as Measurements
use Rattle.walk.specs.declared.Contents.{Contents}
use Rattle.measurement_element.specs.MeasurementReport.{report_means}
use Rattle.measurement_element.specs.MeasurementRequest.{request_means}
use Rattle.measurement_element.specs.declared.measurement_report.Report.{Report}
use Rattle.measurement_element.specs.declared.measurement_request.Request.{Request}
use Rattle.single_body.proofs.Singling as Singling
use Rattle.single_body.specs.Singles.{single}
use Rattle.single_body.specs.Kinds.{contents_mean, id_of, fields_before}
use Rattle.single_body.specs.declared.kinds.Kind as Singles
use Rattle.single_body.specs.declared.kinds.Single.{Single}
use Rattle.walk.specs.Handed.{Handed, handed_in}
use Rattle.frame.specs.Actions.{Body, requests, reports, tpc_request, tpc_report, switch, after_opening, action_means}
use Rattle.frame.specs.CodeTerms.Located.{unplaced, placed, body_located, located, kind_located, located_in, kind_means, PlaceWithin, means_at, asked_of}
use Rattle.frame.specs.CodeTerms.SingleFrames.{single_frame, single_opening}
use Rattle.frame.specs.Frames.{Kind, beacon, probe_response, action, kind_of, sent, frame_means, request_in, report_in, of_kind, element_of}
use Rattle.frame.specs.declared.Frame.{Frame}
use Rattle.frame.specs.declared.bodies.Located.{Located}
use Rattle.frame.specs.declared.index.Asked.{Asked}
use Rattle.frame.proofs.ActionParts.{parts}

-- ---- what is found of a body

module _ (body : List ℕ) (i : ℕ) where
  -- a body of one element has no place
  one_element : {X : Type 0} (n id : ℕ) (means : List ℕ → Outcome X) (es : Handed) (token : ℕ) (says : X → Single) (make : X → Body)
      → ((a : X) → unplaced (single_frame token (says a)) ≡ body_located i body (make a))
      → and_then (single n id (λ c. and_then (means c) (λ a. Ok (says a))) es) (λ s. Ok (unplaced (single_frame token s)))
      ≡ located i body (and_then (single n id means es) (λ a. Ok (make a)))
  one_element n id means es token says make none =
      ap (λ (o : Placed Single). and_then o (λ s. Ok (unplaced (single_frame token s)))) (Singling.made n id means says es) ∙ by (single n id means es)
    where
      by : (o : Placed _) → and_then (and_then o (λ a. Ok (says a))) (λ s. Ok (unplaced (single_frame token s))) ≡ located i body (and_then o (λ a. Ok (make a)))
      by (Err r) = refl
      by (Ok a) = ap Ok (none a)

  pub found_alone : (k : Singles.Kind) (token : ℕ) → located i body (after_opening body (single_opening k token))
      ≡ and_then (single (fields_before k) (id_of k) (contents_mean k) (handed_in (drop (fields_before k) body))) (λ s. Ok (unplaced (single_frame token s)))
  found_alone Singles.Kind.TpcRequest token =
      sym (one_element fixed_fields 34 tpc_request_means (handed_in (drop fixed_fields body)) token (λ u. Single.TpcRequest) (λ u. tpc_request token) (λ u. refl))
  found_alone Singles.Kind.TpcReport token =
      sym (one_element fixed_fields 35 tpc_report_means (handed_in (drop fixed_fields body)) token Single.TpcReport (tpc_report token) (λ t. refl))
  found_alone Singles.Kind.ChannelSwitch token =
      sym (one_element switch_fixed_fields 37 switch_means (handed_in (drop switch_fixed_fields body)) token Single.ChannelSwitch switch (λ s. refl))

  -- a body of measurement elements has those of its survey
  requested : (token : ℕ) (o : Placed (List Request))
      → located i body (and_then o (λ rs. Ok (requests token rs)))
      ≡ and_then (surveyed_as request_sort i 0 body o) (λ v. Ok (placed Measurements.Kind.Requests token v.count v.place))
  requested token (Err x) = refl
  requested token (Ok rs) = refl

  reported : (token : ℕ) (o : Placed (List Report))
      → located i body (and_then o (λ rs. Ok (reports token rs)))
      ≡ and_then (surveyed_as report_sort i 0 body o) (λ v. Ok (placed Measurements.Kind.Reports token v.count v.place))
  reported token (Err x) = refl
  reported token (Ok rs) = refl

  pub measured : (k : Measurements.Kind) (token : ℕ) → located i body (after_opening body (Opening.Token (sort_of k).action token))
      ≡ and_then (surveyed (sort_of k) i 0 body) (λ v. Ok (placed k token v.count v.place))
  measured Measurements.Kind.Requests token = requested token (measurements_in request_sort (drop fixed_fields body))
  measured Measurements.Kind.Reports token = reported token (measurements_in report_sort (drop fixed_fields body))

  -- ---- what is read at a place

  at_place : {A : Type 0} (s : Sort A) {o : Outcome A} (p : Option Contents) → Reads s body o p → (PlaceWithin body p) × (means_at s.means body p ≡ o)
  at_place s None r = (tt, sym r)
  at_place s (Some c) r = ((r.0, r.1), r.2)

  at_index : {A : Type 0} (s : Sort A) (xs : List A) → measurements_in s (drop fixed_fields body) ≡ Ok xs
      → (PlaceWithin body (place_in i body)) × (means_at s.means body (place_in i body) ≡ nth i xs)
  at_index s xs e = at_place s (place_in i body) (place_reads s body xs e i)

  -- the places lie in the body, and the element there is the one at the index
  pub record There (l : Located) (request : Outcome Request) (report : Outcome Report) : Type 0 where
    pub request_within : PlaceWithin body l.request
    pub report_within : PlaceWithin body l.report
    pub request_is : means_at request_means body l.request ≡ request
    pub report_is : means_at report_means body l.report ≡ report

  -- with no places there is no element
  nothing_there : (f : Frame) → There (unplaced f) (Err Refusal.Impossible) (Err Refusal.Impossible)
  nothing_there f = record { request_within = tt; report_within = tt; request_is = refl; report_is = refl }

  in_body : (b : Body) → action_means body ≡ Ok b → There (body_located i body b) (request_in i b) (report_in i b)
  in_body (requests t rs) e =
      let h = parts body (requests t rs) e in
      let p = at_index request_sort rs (ap (λ (x : List ℕ). measurements_in request_sort (drop fixed_fields x)) h.front ∙ h.holds.1) in
      record { request_within = p.0; report_within = tt; request_is = p.1; report_is = refl }
  in_body (reports t rs) e =
      let h = parts body (reports t rs) e in
      let p = at_index report_sort rs (ap (λ (x : List ℕ). measurements_in report_sort (drop fixed_fields x)) h.front ∙ h.holds) in
      record { request_within = tt; report_within = p.0; request_is = refl; report_is = p.1 }
  in_body (tpc_request t) e = nothing_there _
  in_body (tpc_report t r) e = nothing_there _
  in_body (switch s) e = nothing_there _

  -- what was found in an action body: its places lie in it
  pub request_inside : {l : Located} → Ok l ≡ located i body (action_means body) → PlaceWithin body l.request
  request_inside {l} e =
      let p = followed (action_means body) _ l (sym e) in
      let same : body_located i body p.0 ≡ l = cc p.2 in
      subst (λ (x : Located). PlaceWithin body x.request) same (in_body p.0 p.1).request_within

  abbrev with_request : Located → Placed Asked
  with_request l = Ok (record { frame = l.frame; request = means_at request_means body l.request })

  -- and the request there
  pub asked : {o : Placed Located} → o ≡ located i body (action_means body) → and_then o with_request ≡ asked_of i (action_means body)
  asked e = ap (λ (o : Placed Located). and_then o with_request) e ∙ by (action_means body) refl
    where
      by : (o : Placed Body) → action_means body ≡ o → and_then (located i body o) with_request ≡ asked_of i o
      by (Err x) g = refl
      by (Ok (requests t rs)) g = ap (λ (q : Outcome Request). Ok (record { frame = Frame.MeasurementRequest t (length rs); request = q })) (in_body (requests t rs) g).request_is
      by (Ok (reports t rs)) g = refl
      by (Ok (tpc_request t)) g = refl
      by (Ok (tpc_report t r)) g = refl
      by (Ok (switch s)) g = refl

  -- the kind of a body says what is found there
  in_kind : (b : ℕ) (t : Subtype) (k : Kind) → kind_of b t body ≡ Ok k → There (kind_located i body k) (of_kind request_in i k) (of_kind report_in i k)
  in_kind b t (beacon n) e = nothing_there _
  in_kind b t (probe_response n) e = nothing_there _
  in_kind b Subtype.Action (action a) e =
      let p = followed (action_means body) _ (action a) e in
      let same : p.0 ≡ a = cc p.2 in
      in_body a (p.1 ∙ ap Ok same)
  in_kind b Subtype.Beacon (action a) e = let p = followed (beacon_means b body) _ (action a) e in absurd (cc p.2)
  in_kind b Subtype.ProbeResponse (action a) e = let p = followed (beacon_means b body) _ (action a) e in absurd (cc p.2)

-- ---- in a frame

module _ (own ap' : List ℕ) (b : ℕ) (f : List ℕ) where
  abbrev kind_in : Head → Placed Kind
  kind_in h = placed_past header_length (kind_of b h.subtype (body_of f))

  -- what is read where an element was found is the element of the frame
  module _ {A : Type 0} (element_in : ℕ → Body → Outcome A) (i : ℕ) (reads : Located → Outcome A)
      (same : (t : Subtype) (k : Kind) → kind_of b t (body_of f) ≡ Ok k → reads (kind_located i (body_of f) k) ≡ of_kind element_in i k) where
    element_read : element_of element_in i (frame_means own ap' b f) ≡ and_then (without_place (located_in i (body_of f) (kind_means own ap' b f))) reads
    unfolding kind_means frame_means element_of
    element_read = by (header_means Cell.Ap own ap' f)
      where
        by_kind : (to_all : Bool) (t : Subtype) (o : Placed Kind) → kind_of b t (body_of f) ≡ o
            → and_then (without_place (sent to_all (placed_past header_length o))) (λ s. of_kind element_in i s.kind)
            ≡ and_then (without_place (located_in i (body_of f) (placed_past header_length o))) reads
        by_kind to_all t (Err x) e = refl
        by_kind to_all t (Ok k) e = sym (same t k e)

        by : (o : Outcome Head)
            → and_then (without_place (and_then (nowhere o) (λ h. sent h.to_all (kind_in h)))) (λ s. of_kind element_in i s.kind)
            ≡ and_then (without_place (located_in i (body_of f) (and_then (nowhere o) kind_in))) reads
        by (Err r) = refl
        by (Ok h) = by_kind h.to_all h.subtype (kind_of b h.subtype (body_of f)) refl

  module _ (i : ℕ) where
    pub request_found : element_of request_in i (frame_means own ap' b f)
        ≡ and_then (without_place (located_in i (body_of f) (kind_means own ap' b f))) (λ l. means_at request_means (body_of f) l.request)
    request_found = element_read request_in i (λ l. means_at request_means (body_of f) l.request) (λ t k e. (in_kind (body_of f) i b t k e).request_is)

    pub report_found : element_of report_in i (frame_means own ap' b f)
        ≡ and_then (without_place (located_in i (body_of f) (kind_means own ap' b f))) (λ l. means_at report_means (body_of f) l.report)
    report_found = element_read report_in i (λ l. means_at report_means (body_of f) l.report) (λ t k e. (in_kind (body_of f) i b t k e).report_is)

    -- the places lie in the body
    module _ {body : List ℕ} {l : Located} (lent : body ≡ body_of f) (found : Ok l ≡ located_in i (body_of f) (kind_means own ap' b f)) where
      within : PlaceWithin (body_of f) l.request × PlaceWithin (body_of f) l.report
      unfolding kind_means
      within =
          let k = followed (kind_means own ap' b f) _ l (sym found) in
          let h = followed (nowhere (header_means Cell.Ap own ap' f)) kind_in k.0 k.1 in
          let t = in_kind (body_of f) i b h.0.subtype k.0 (past_value header_length (kind_of b h.0.subtype (body_of f)) h.2) in
          let same : kind_located i (body_of f) k.0 ≡ l = cc k.2 in
          subst (λ (x : Located). PlaceWithin (body_of f) x.request × PlaceWithin (body_of f) x.report) same (t.request_within, t.report_within)

      pub request_placed : PlaceWithin body l.request
      request_placed = subst (λ (x : List ℕ). PlaceWithin x l.request) (sym lent) within.0

      pub report_placed : PlaceWithin body l.report
      report_placed = subst (λ (x : List ℕ). PlaceWithin x l.report) (sym lent) within.1
