-- What a frame meant by document 01 alone, before requests One and Four: a refusal had no place, 7 was absent, another element or left over (01, "Answer numbers",
-- "Order": absent (7), header cut (6), wrong element (7), contents cut (6); left-over octets last (7)), and no element was passed over in an action body.
-- `ElementAbsent` stands for that 7.
use Rattle.std.specs.Prelude.{Bool, true, not, ◌&&◌, ◌||◌, ◌≡◌, List, [], ◌∷◌, ◌++◌, ℕ, ltb, eqb, length, drop, Ok, Err}
use Rattle.action.specs.Openings.{fixed_fields, switch_fixed_fields, forbids_token}
use Rattle.answer.specs.Checks.{Outcome, pick, ◌⇒◌, checked, judged, and_then}
use Rattle.answer.specs.Faults.{Placed, without_place}
use Rattle.answer.specs.Numbers.{number_of}
use Rattle.answer.specs.declared.Refusal.{Refusal}
use Rattle.beacon.specs.Beacons.{Told, fixed_length, opening, takes}
use Rattle.element.specs.ChannelSwitch.{switch_means}
use Rattle.element.specs.TpcReport.{tpc_report_means}
use Rattle.element.specs.TpcRequest.{tpc_request_means}
use Rattle.frame.specs.Actions.{Body, requests, reports, tpc_request, tpc_report, switch}
use Rattle.frame.specs.Frames.{Kind, beacon, probe_response, action, Sent}
use Rattle.header.specs.Headers.{body_of, header_means}
use Rattle.header.specs.declared.Head.{Head}
use Rattle.header.specs.declared.address.Cell.{Cell}
use Rattle.header.specs.declared.management.Subtype.{Subtype}
use Rattle.measurement_body.specs.Lists.{Sort, repeats}
use Rattle.measurement_body.specs.Reports.{report_sort}
use Rattle.measurement_body.specs.Requests.{request_sort}
use Rattle.octets.specs.Numbers.{octet, number}
use Rattle.walk.specs.Elements.{Elements, elements_in}
use Rattle.walk.specs.Elements as Raw
use Rattle.walk.specs.Handed.{Handed, end, cut_header, cut_contents, more, passed, cut_passed, vendor_id}
use Rattle.walk.specs.Required.{Standing}
use Rattle.action.specs.declared.Opening.{Opening}

-- ---- the old meaning, over what is handed out of the elements

-- every element is: one of a vendor is like any other
unfoldable pub each : Elements → Handed
each Raw.end = end
each (Raw.cut_header o) = cut_header
each (Raw.cut_contents id) = cut_contents id
each (Raw.more id c es) = more id c (each es)

abbrev pub each_in : List ℕ → Handed
each_in os = each (elements_in os)

unfoldable pub old_required : ℕ → Handed → Outcome Standing
old_required id end = Err Refusal.ElementAbsent
old_required id cut_header = Err Refusal.ElementCut
old_required id (cut_contents i) = checked (not (eqb i id) ⇒ Refusal.ElementAbsent ∷ []) (Err Refusal.ElementCut)
old_required id (more i c hs) = judged (not (eqb i id) ⇒ Refusal.ElementAbsent ∷ []) (record { contents = c; rest = hs })
old_required id (passed c hs) = Err Refusal.ElementAbsent
old_required id cut_passed = Err Refusal.ElementCut

unfoldable pub old_nothing_left : {A : Type 0} → Handed → A → Outcome A
old_nothing_left end a = Ok a
old_nothing_left cut_header a = Err Refusal.ElementAbsent
old_nothing_left (cut_contents id) a = Err Refusal.ElementAbsent
old_nothing_left (more id c hs) a = Err Refusal.ElementAbsent
old_nothing_left (passed c hs) a = old_nothing_left hs a
old_nothing_left cut_passed a = Err Refusal.ElementCut

unfoldable pub old_single : {A : Type 0} → ℕ → (List ℕ → Outcome A) → Handed → Outcome A
old_single id means hs = and_then (old_required id hs) (λ s. and_then (means s.contents) (old_nothing_left s.rest))

module _ {A : Type 0} (s : Sort A) where
  unfoldable pub old_next : Handed → List A → Outcome A
  old_next hs before =
      and_then (old_required s.id hs)
      (λ e. and_then (s.means e.contents)
      (λ a. judged (repeats s a before ⇒ Refusal.Repeated ∷ []) a))

  unfoldable pub old_listed : Handed → List A → Outcome (List A)
  old_listed end before = pick (eqb (length before) 0) (and_then (old_next end before) (λ a. Ok (a ∷ []))) (Ok before)
  old_listed cut_header before = and_then (old_next cut_header before) (λ a. Ok (before ++ (a ∷ [])))
  old_listed (cut_contents id) before = and_then (old_next (cut_contents id) before) (λ a. Ok (before ++ (a ∷ [])))
  old_listed (more id c hs) before = and_then (old_next (more id c hs) before) (λ a. old_listed hs (before ++ (a ∷ [])))
  old_listed (passed c hs) before = old_listed hs before
  old_listed cut_passed before = and_then (old_next cut_passed before) (λ a. Ok (before ++ (a ∷ [])))

unfoldable pub old_opens : List ℕ → Outcome Opening
old_opens body =
    checked
    (ltb (length body) 1 ⇒ Refusal.TooShort
    ∷ not (eqb (octet 0 body) 0) ⇒ Refusal.ForeignAction
    ∷ ltb (length body) switch_fixed_fields ⇒ Refusal.TooShort
    ∷ ltb 4 (octet 1 body) ⇒ Refusal.ForeignAction
    ∷ [])
    (pick (eqb (octet 1 body) 4) (Ok Opening.Switch)
    (judged
    (ltb (length body) fixed_fields ⇒ Refusal.TooShort
    ∷ forbids_token (octet 1 body) (octet 2 body) ⇒ Refusal.ForbiddenValue
    ∷ [])
    (Opening.Token (octet 1 body) (octet 2 body))))

-- `walk` is how the elements of an action body are handed out
module _ (walk : List ℕ → Handed) where
  abbrev pub old_after_opening : List ℕ → Opening → Outcome Body
  old_after_opening body Opening.Switch = and_then (old_single 37 switch_means (walk (drop switch_fixed_fields body))) (λ s. Ok (switch s))
  old_after_opening body (Opening.Token number token) =
      pick (eqb number 0) (and_then (old_listed request_sort (walk (drop fixed_fields body)) []) (λ rs. Ok (requests token rs)))
      (pick (eqb number 1) (and_then (old_listed report_sort (walk (drop fixed_fields body)) []) (λ rs. Ok (reports token rs)))
      (pick (eqb number 2) (and_then (old_single 34 tpc_request_means (walk (drop fixed_fields body))) (λ u. Ok (tpc_request token)))
      (and_then (old_single 35 tpc_report_means (walk (drop fixed_fields body))) (λ t. Ok (tpc_report token t)))))

unfoldable pub old_says : ℕ → Elements → Told → Outcome Told
old_says b Raw.end t = Ok t
old_says b (Raw.cut_header o) t = Err Refusal.ElementCut
old_says b (Raw.cut_contents id) t = Err Refusal.ElementCut
old_says b (Raw.more id c es) t = and_then (takes b id c t) (old_says b es)

unfoldable pub old_beacon_means : ℕ → List ℕ → Outcome Told
old_beacon_means b body =
    checked (ltb (length body) fixed_length ⇒ Refusal.TooShort ∷ not (eqb (number 2 8 body) b) ⇒ Refusal.OtherInterval ∷ [])
    (old_says b (elements_in (drop fixed_length body)) (opening body))

module _ (walk : List ℕ → Handed) where
  abbrev pub old_kind_of : ℕ → Subtype → List ℕ → Outcome Kind
  old_kind_of b Subtype.Beacon body = and_then (old_beacon_means b body) (λ t. Ok (beacon t))
  old_kind_of b Subtype.ProbeResponse body = and_then (old_beacon_means b body) (λ t. Ok (probe_response t))
  old_kind_of b Subtype.Action body = and_then (and_then (old_opens body) (old_after_opening walk body)) (λ a. Ok (action a))

  unfoldable pub old_frame_by : List ℕ → List ℕ → ℕ → List ℕ → Outcome Sent
  old_frame_by own ap b f =
      and_then (header_means Cell.Ap own ap f)
      (λ h. and_then (old_kind_of b h.subtype (body_of f)) (λ k. Ok (record { to_all = h.to_all; kind = k })))

abbrev pub old_frame_means : List ℕ → List ℕ → ℕ → List ℕ → Outcome Sent
old_frame_means own ap b f = old_frame_by each_in own ap b f

-- ---- where nothing is passed over: after its first element an action body has none of a vendor's, whole or cut

unfoldable pub no_vendor_in : Elements → Bool
no_vendor_in Raw.end = true
no_vendor_in (Raw.cut_header o) = not (eqb o vendor_id)
no_vendor_in (Raw.cut_contents id) = not (eqb id vendor_id)
no_vendor_in (Raw.more id c es) = not (eqb id vendor_id) && no_vendor_in es

unfoldable pub no_vendor_after : Elements → Bool
no_vendor_after Raw.end = true
no_vendor_after (Raw.cut_header o) = true
no_vendor_after (Raw.cut_contents id) = true
no_vendor_after (Raw.more id c es) = no_vendor_in es

abbrev pub NoVendor : List ℕ → Type 0
NoVendor body = no_vendor_after (elements_in (drop (pick (eqb (octet 1 body) 4) switch_fixed_fields fixed_fields) body)) ≡ true

-- ---- what is new in a meaning, taken away: the place, and 21 and 22, which are 7 again

abbrev pub old_numbered : Refusal → Refusal
old_numbered r = pick (eqb (number_of r) 21 || eqb (number_of r) 22) Refusal.ElementAbsent r

abbrev pub old_told : {A : Type 0} → Outcome A → Outcome A
old_told (Err r) = Err (old_numbered r)
old_told (Ok a) = Ok a

abbrev pub as_before : {A : Type 0} → Placed A → Outcome A
as_before o = old_told (without_place o)

-- of a frame for the station: it is asked of an action frame alone
abbrev pub NothingPassed : List ℕ → List ℕ → List ℕ → Type 0
NothingPassed own ap f = (h : Head) → header_means Cell.Ap own ap f ≡ Ok h → h.subtype ≡ Subtype.Action → NoVendor (body_of f)
