-- Every accepted frame over the plain list of its elements (01, "Octets"; "Wrong programs that look right": only the first, or only the last, Quiet
-- element of a beacon is kept): each kind says exactly what the elements in its octets mean. Assumes nothing.
use Rattle.std.specs.Prelude.{Ok}
use mathlib.Core.Bool.{Bool, true, false}
use mathlib.Core.List.{List, [], ◌∷◌}
use mathlib.Core.Logic.{◌↔◌}
use mathlib.Core.Path.{◌≡◌, refl, sym, ap, subst, ◌∙◌}
use Prim.Native.Nat.{ℕ, ◌+◌}
use borrow.Author.Tests.{eq-eqb}
use lib.Dec.{eqb}
use lib.ListN.{take, drop}
use lib.Seq.{drop-drop, take-append_seam}
use Rattle.action.specs.Openings.{fixed_fields, switch_fixed_fields, opens_with}
use Rattle.answer.proofs.Judged.{never, followed}
use Rattle.answer.proofs.Yielding.{Yields, of_value, either_way_lem, after_value}
use Rattle.answer.specs.Checks.{Outcome, pick}
use Rattle.answer.specs.Faults.{Placed, placed_at, nowhere, placed_past}
use Rattle.answer.proofs.Placing.{placed_value, past_value}
use Rattle.beacon.specs.Beacons.{Told, fixed_length, beacon_means}
use Rattle.element.specs.ChannelSwitch.{switch_means}
use Rattle.element.specs.Quiet.{quiet_means}
use Rattle.element.specs.TpcReport.{tpc_report_means}
use Rattle.element.specs.TpcRequest.{tpc_request_means}
use Rattle.frame.specs.Actions.{after_opening, action_means}
use Rattle.frame.specs.Frames.{Kind, beacon, probe_response, action, Sent, kind_of, frame_means}
use Rattle.frame.specs.Laid.{received, frame_of, quiets_of, frame_laid}
use Rattle.frame.specs.declared.Received.{Received}
use Rattle.header.specs.Headers.{header_length, body_of, header_means}
use Rattle.header.specs.declared.address.Cell.{Cell}
use Rattle.header.specs.declared.management.Subtype.{Subtype}
use Rattle.measurement_body.specs.Lists.{measurements_in}
use Rattle.measurement_body.specs.Reports.{report_sort}
use Rattle.measurement_body.specs.Requests.{request_sort}
use Rattle.single_body.specs.Singles.{single}
use Rattle.walk.proofs.Passing.{handed_raw}
use Rattle.walk.proofs.Requiring.{whole, there}
use Rattle.walk.specs.Elements.{Elements, elements_in, past_element}
use Rattle.walk.specs.Elements as Raw
use Rattle.walk.specs.Handed.{Handed, cut_header, cut_contents, more, passed, cut_passed, vendor_id, passing, handing, handed_in}
use Rattle.walk.specs.Required.{required, nothing_left}
use Rattle.claims.specs.FilteredFrames.{NoticeOf, AloneOf, ActionOf, KindOf}
use Rattle.claims.specs.Filters.{Item, item, laid, of_id, ReadAs, walked_as}
use Rattle.claims.specs.Histories.{Says}
use Rattle.claims.proofs.BeaconItems.{beacon_filtered}
use Rattle.claims.proofs.MeasurementItems.{all_of_id, list_filtered}
use Rattle.claims.proofs.RunItems.{walk_whole}
use Rattle.action.specs.declared.Opening.{Opening}

-- ---- bodies of one element

-- after the element there are none but vendors' elements
nothing_left_lem : {A : Type 0} (n : ℕ) (es : Elements) (a b : A) → nothing_left n (passing es) a ≡ Ok b
    → (vendors : List Item) × (es ≡ walked_as vendors Raw.end) × (of_id vendor_id vendors ≡ vendors) × (a ≡ b)
unfolding nothing_left passing walked_as of_id
nothing_left_lem n Raw.end a b e = ([], refl, refl, cc)
nothing_left_lem {A} n (Raw.cut_header o) a b e = by (eqb o vendor_id) e
  where
    by : (t : Bool) → nothing_left n (pick t cut_passed cut_header) a ≡ Ok b
        → (vendors : List Item) × (Raw.cut_header o ≡ walked_as vendors Raw.end) × (of_id vendor_id vendors ≡ vendors) × (a ≡ b)
    by true f = absurd (never f)
    by false f = absurd (never f)
nothing_left_lem {A} n (Raw.cut_contents id) a b e = by (eqb id vendor_id) e
  where
    by : (t : Bool) → nothing_left n (pick t cut_passed (cut_contents id)) a ≡ Ok b
        → (vendors : List Item) × (Raw.cut_contents id ≡ walked_as vendors Raw.end) × (of_id vendor_id vendors ≡ vendors) × (a ≡ b)
    by true f = absurd (never f)
    by false f = absurd (never f)
nothing_left_lem {A} n (Raw.more id c es) a b e = by (eqb id vendor_id) refl e (nothing_left_lem (past_element n c) es a b)
  where
    by : (t : Bool) → eqb id vendor_id ≡ t → nothing_left n (pick t (passed c (passing es)) (more id c (passing es))) a ≡ Ok b
        → (nothing_left (past_element n c) (passing es) a ≡ Ok b → (vendors : List Item) × (es ≡ walked_as vendors Raw.end) × (of_id vendor_id vendors ≡ vendors) × (a ≡ b))
        → (vendors : List Item) × (Raw.more id c es ≡ walked_as vendors Raw.end) × (of_id vendor_id vendors ≡ vendors) × (a ≡ b)
    by true v f on =
        let r = on f in
        (item id c ∷ r.0, ap (Raw.more id c) r.1, simp v (ap (λ (xs : List Item). item id c ∷ xs) r.2), r.3)
    by false v f on = absurd (never f)

left_nothing : {A : Type 0} (n : ℕ) (vendors : List Item) (a : A) → of_id vendor_id vendors ≡ vendors → nothing_left n (passing (walked_as vendors Raw.end)) a ≡ Ok a
unfolding nothing_left passing walked_as
left_nothing n [] a h = refl
left_nothing n (x ∷ xs) a h =
    let p = all_of_id vendor_id x xs h in
    simp (eq-eqb x.id vendor_id p.0) (left_nothing (past_element n x.contents) xs a p.1)

module _ {A : Type 0} (n id : ℕ) (means : List ℕ → Outcome A) (run : List ℕ) (a : A) where
  accepted_alone : single n id means (handed_in run) ≡ Ok a → AloneOf id means run a
  unfolding single walked_as
  accepted_alone e =
      let p = followed (placed_at n (required id (handed_in run))) _ a e in
      let c = p.0.contents in
      let q = followed (placed_at n (means c)) _ a p.2 in
      let w = handed_raw (elements_in run) id c p.0.rest (whole id (handed_in run) p.0 (placed_value n (required id (handed_in run)) p.1)) in
      let l = nothing_left_lem (past_element n c) w.0 q.0 a (ap (λ (hs : Handed). nothing_left (past_element n c) hs q.0) w.2 ∙ q.2) in
      (c, l.0, (walk_whole run (item id c ∷ l.0)).0 (w.1 ∙ ap (Raw.more id c) l.1), l.2, placed_value n (means c) q.1 ∙ ap Ok l.3)

  alone_accepted : AloneOf id means run a → single n id means (handed_in run) ≡ Ok a
  unfolding single handing walked_as
  alone_accepted (c, vendors, e, v, m) =
      let rest = passing (walked_as vendors Raw.end) in
      ap (λ (es : Elements). single n id means (handing es)) ((walk_whole run (item id c ∷ vendors)).1 e)
      ∙ simp (there id c rest, m) (left_nothing (past_element n c) vendors a v)

  pub single_filtered : (single n id means (handed_in run) ≡ Ok a) ↔ AloneOf id means run a
  single_filtered = (accepted_alone, alone_accepted)

-- ---- frames of all seven kinds

module _ (body : List ℕ) where
  by_opening : (o : Opening) → Yields (ActionOf body) (after_opening body o)
  by_opening Opening.Switch = after_value _ (single switch_fixed_fields 37 switch_means _) _ (λ s e. of_value _ (accepted_alone switch_fixed_fields 37 switch_means _ s e))
  by_opening (Opening.Token number token) =
      either_way_lem _ (eqb number 0) _ _ (after_value _ (measurements_in request_sort _) _ (λ l e. of_value _ ((list_filtered request_sort refl _ l).0 e)))
      (either_way_lem _ (eqb number 1) _ _ (after_value _ (measurements_in report_sort _) _ (λ l e. of_value _ ((list_filtered report_sort refl _ l).0 e)))
      (either_way_lem _ (eqb number 2) _ _ (after_value _ (single fixed_fields 34 tpc_request_means _) _ (λ u e. of_value _ (accepted_alone fixed_fields 34 tpc_request_means _ u e)))
      (after_value _ (single fixed_fields 35 tpc_report_means _) _ (λ t e. of_value _ (accepted_alone fixed_fields 35 tpc_report_means _ t e)))))

  of_action : Yields (ActionOf body) (action_means body)
  unfolding action_means
  of_action = after_value _ (opens_with body) (after_opening body) (λ o e. by_opening o)

  of_kind_lem : (b : ℕ) (subtype : Subtype) → Yields (KindOf b body) (kind_of b subtype body)
  of_kind_lem b Subtype.Beacon = after_value _ (beacon_means b body) _ (λ t e. of_value _ ((beacon_filtered b body t).0 e))
  of_kind_lem b Subtype.ProbeResponse = after_value _ (beacon_means b body) _ (λ t e. of_value _ ((beacon_filtered b body t).0 e))
  of_kind_lem b Subtype.Action = after_value _ (action_means body) _ (λ a e. of_value _ (of_action a e))

module _ (own ap' : List ℕ) (b : ℕ) (f : List ℕ) where
  of_frame : Yields (λ s. KindOf b (body_of f) s.kind) (frame_means own ap' b f)
  unfolding frame_means
  of_frame =
      after_value _ (nowhere (header_means Cell.Ap own ap' f)) _
      (λ h e. after_value _ (placed_past header_length (kind_of b h.subtype (body_of f))) _
      (λ k g. of_value _ (of_kind_lem (body_of f) b h.subtype k (past_value header_length (kind_of b h.subtype (body_of f)) g))))

  -- an accepted frame says what the elements in its octets mean
  pub frame_filtered : (s : Sent) → frame_means own ap' b f ≡ Ok s → KindOf b (body_of f) s.kind
  frame_filtered s e = of_frame s e

  -- ---- the Quiet elements of a beacon or a probe response

  -- those of ID 40 among the elements after the fixed fields, all of them, in their order (`laid_once`: no other elements have these octets)
  pub every_quiet : (s : Sent) (t : Told) → frame_means own ap' b f ≡ Ok s → Says s.kind t
      → (items : List Item) × (drop (header_length + fixed_length) f ≡ laid items) × ReadAs (quiet_means b) (of_id 40 items) t.quiets
  every_quiet s t e says =
      let n = notice s.kind says (frame_filtered s e) in
      (n.items, sym (drop-drop fixed_length header_length f) ∙ n.octets, n.quiets_are)
    where
      notice : (k : Kind) → Says k t → KindOf b (body_of f) k → NoticeOf b (body_of f) t
      notice (beacon u) same n = subst (NoticeOf b (body_of f)) same n
      notice (probe_response u) same n = subst (NoticeOf b (body_of f)) same n
      notice (action a) impossible n = absurd impossible

  -- which `frame::read` hands out: it hands out something, whose Quiet elements are these
  pub handed_out : (v : Placed Received) (s : Sent) (t : Told) → v ≡ frame_laid (frame_means own ap' b f) → frame_means own ap' b f ≡ Ok s → Says s.kind t
      → (x : Received) × (v ≡ Ok x) × (take x.count x.quiets ≡ t.quiets)
  handed_out v s t e h says = (
    received (frame_of s.kind) s.to_all (quiets_of s.kind),
    e ∙ ap frame_laid h,
    take-append_seam (quiets_of s.kind) _ ∙ told s.kind says,
  )
    where
      told : (k : Kind) → Says k t → quiets_of k ≡ t.quiets
      told (beacon u) same = ap (λ (x : Told). x.quiets) same
      told (probe_response u) same = ap (λ (x : Told). x.quiets) same
      told (action a) impossible = absurd impossible
