-- A frame in which nothing is passed over means what it meant before request One, but for the place of a refusal, and for 21 and 22, which were 7 (02, One
-- and Four: no other answer changes). Assumes nothing.
use Rattle.std.specs.Prelude.{Ok, Err}
use mathlib.Core.Bool.{Bool, true, false, not}
use mathlib.Core.List.{List, [], ◌∷◌, ◌++◌}
use mathlib.Core.Logic.{◌⊎◌, inl, inr, ⊎_elim, ◌↔◌}
use mathlib.Core.Path.{◌≡◌, refl, sym, ap, subst, ◌∙◌}
use Prim.Native.Nat.{ℕ}
use native.Mathlib.Omega.{arith}
use lib.Dec.{ltb, eqb}
use lib.ListN.{length, drop}
use Rattle.action.specs.Openings.{fixed_fields, switch_fixed_fields, forbids_token, opens_with}
use borrow.Author.Tests.{not-true}
use Rattle.answer.proofs.Booleans.{both}
use Rattle.answer.proofs.Judged.{never}
use Rattle.answer.proofs.Placing.{past_without, nowhere_without}
use Rattle.answer.proofs.Refusing.{Refuses, by_value, by_check, by_none, by_then, of_place}
use Rattle.answer.specs.Checks.{Outcome, pick, checked, and_then}
use Rattle.answer.specs.Faults.{Placed, placed_at, nowhere, placed_past}
use Rattle.answer.specs.declared.Fault.{Fault}
use Rattle.answer.specs.declared.Refusal.{Refusal}
use Rattle.beacon.specs.Beacons.{Told, fixed_length, interval_field, opening, takes, says, beacon_means}
use Rattle.element.specs.ChannelSwitch.{switch_means}
use Rattle.element.specs.TpcReport.{tpc_report_means}
use Rattle.element.specs.TpcRequest.{tpc_request_means}
use Rattle.frame.proofs.BodyFaults.{Misread, switch_misread, tpc_report_misread, tpc_request_misread, request_misread, report_misread, NoticeFaults, takes_by}
use Rattle.frame.specs.Actions.{Body, requests, reports, tpc_request, tpc_report, switch, after_opening, action_means}
use Rattle.frame.specs.Frames.{Kind, action, Sent, kind_of, frame_means}
use Rattle.header.specs.Headers.{header_length, body_of, management_means, address_means, header_means}
use Rattle.header.specs.declared.Head.{Head}
use Rattle.header.specs.declared.address.Cell.{Cell}
use Rattle.header.specs.declared.management.Subtype.{Subtype}
use Rattle.measurement_body.specs.Lists.{Sort, repeats, next_in, listed, measurements_in}
use Rattle.measurement_body.specs.Reports.{report_sort}
use Rattle.measurement_body.specs.Requests.{request_sort}
use Rattle.octets.specs.Numbers.{octet, number}
use Rattle.single_body.specs.Singles.{single}
use Rattle.walk.specs.Elements.{Elements, elements_in, past_element}
use Rattle.walk.specs.Elements as Raw
use Rattle.walk.specs.Handed.{Handed, end, cut_header, cut_contents, more, passed, cut_passed, vendor_id, passing, handing, handed_in}
use Rattle.walk.specs.Required.{required, nothing_left}
use Rattle.claims.specs.BeforeOne.{old_required, old_nothing_left, old_single, old_next, old_listed, old_opens, old_after_opening, old_says, old_beacon_means, old_kind_of, old_frame_by, old_frame_means, each, each_in, no_vendor_in, no_vendor_after, NoVendor, NothingPassed, old_numbered, old_told, as_before}
use Rattle.claims.proofs.Same.{accepted_once}
use Rattle.action.specs.declared.Opening.{Opening}

-- ---- what is new is taken away part by part

module _ {A : Type 0} where
  placed_before : (n : ℕ) (o : Outcome A) → as_before (placed_at n o) ≡ old_told o
  placed_before n (Err r) = refl
  placed_before n (Ok a) = refl

  -- of a test
  told_either : (t : Bool) (o p : Outcome A) {q r : Outcome A} → old_told o ≡ q → old_told p ≡ r → old_told (pick t o p) ≡ pick t q r
  told_either true o p e f = e
  told_either false o p e f = f

  before_either : (t : Bool) (o p : Placed A) {q r : Outcome A} → as_before o ≡ q → as_before p ≡ r → as_before (pick t o p) ≡ pick t q r
  before_either true o p e f = e
  before_either false o p e f = f

  -- of what follows a value
  module _ {B : Type 0} where
    told_then : (o : Outcome A) (f : A → Outcome B) {p : Outcome A} {g : A → Outcome B} → old_told o ≡ p → ((a : A) → old_told (f a) ≡ g a)
        → old_told (and_then o f) ≡ and_then p g
    told_then (Err r) f {p} {g} e h = ap (λ (q : Outcome A). and_then q g) e
    told_then (Ok a) f {p} {g} e h = h a ∙ ap (λ (q : Outcome A). and_then q g) e

    before_then : (o : Placed A) (f : A → Placed B) {p : Outcome A} {g : A → Outcome B} → as_before o ≡ p → ((a : A) → as_before (f a) ≡ g a)
        → as_before (and_then o f) ≡ and_then p g
    before_then (Err x) f {p} {g} e h = ap (λ (q : Outcome A). and_then q g) e
    before_then (Ok a) f {p} {g} e h = h a ∙ ap (λ (q : Outcome A). and_then q g) e

-- ---- refusals that are neither 21 nor 22 are as they were

abbrev Kept : Refusal → Type 0
Kept r = old_numbered r ≡ r

told_kept : {A : Type 0} (o : Outcome A) → Refuses Kept o → old_told o ≡ o
told_kept (Err r) h = ap Err (h r refl)
told_kept (Ok a) h = refl

-- of contents
misread_kept : (r : Refusal) → Misread r → Kept r
misread_kept r (inl e) = subst Kept (sym e) refl
misread_kept r (inr e) = subst Kept (sym e) refl

contents_before : {A : Type 0} (o : Outcome A) → Refuses Misread o → old_told o ≡ o
contents_before o m = told_kept o (λ r e. misread_kept r (m r e))

-- of an element in a beacon or a probe response
abbrev KeptFault : Fault → Type 0
KeptFault x = Kept x.refusal

notice_kept : NoticeFaults KeptFault 1
notice_kept =
    record {
      short = refl;
      interval = λ h. refl;
      cut = λ n h. refl;
      long = λ n h. refl;
      value = λ n h. refl;
      repeat = λ n h. refl;
      many = λ n h. refl;
    }

takes_before : (b id : ℕ) (c : List ℕ) (t : Told) → old_told (takes b id c t) ≡ takes b id c t
takes_before b id c t = told_kept (takes b id c t) (of_place KeptFault 0 (takes b id c t) (takes_by KeptFault 1 notice_kept b 0 (omega arith) id c t))

-- of the header
header_before : (own ap' f : List ℕ) → old_told (header_means Cell.Ap own ap' f) ≡ header_means Cell.Ap own ap' f
unfolding header_means management_means address_means
header_before own ap' f =
    told_kept _
    (by_then Kept (management_means f) _
    (by_check Kept _ _ _ refl (λ h. by_check Kept _ _ _ refl (λ k. by_check Kept _ _ _ refl (λ l. by_none Kept _ (by_value Kept _)))))
    (λ s e. by_then Kept (address_means Cell.Ap own ap' f) _ (by_check Kept _ _ _ refl (λ h. by_none Kept _ (by_value Kept _))) (λ a g. by_value Kept _)))

-- ---- the element that has to be there, and what follows it

required_before : (id : ℕ) (hs : Handed) → old_told (required id hs) ≡ old_required id hs
unfolding required old_required checked
required_before id end = refl
required_before id cut_header = refl
required_before id (cut_contents i) = told_either (not (eqb i id)) _ _ refl refl
required_before id (more i c hs) = told_either (not (eqb i id)) _ _ refl refl
required_before id (passed c hs) = refl
required_before id cut_passed = refl

nothing_before : {A : Type 0} (n : ℕ) (hs : Handed) (a : A) → as_before (nothing_left n hs a) ≡ old_nothing_left hs a
unfolding nothing_left old_nothing_left
nothing_before n end a = refl
nothing_before n cut_header a = refl
nothing_before n (cut_contents id) a = refl
nothing_before n (more id c hs) a = refl
nothing_before n (passed c hs) a = nothing_before (past_element n c) hs a
nothing_before n cut_passed a = refl

single_before : {A : Type 0} (n id : ℕ) (means : List ℕ → Outcome A) → ((c : List ℕ) → Refuses Misread (means c)) → (hs : Handed)
    → as_before (single n id means hs) ≡ old_single id means hs
unfolding single old_single
single_before n id means m hs =
    before_then (placed_at n (required id hs)) _ (placed_before n (required id hs) ∙ required_before id hs)
    (λ s. before_then (placed_at n (means s.contents)) _
    (placed_before n (means s.contents) ∙ contents_before (means s.contents) (m s.contents))
    (nothing_before (past_element n s.contents) s.rest))

-- one element after the other
module _ {A : Type 0} (s : Sort A) (m : (c : List ℕ) → Refuses Misread (s.means c)) where
  next_told : (hs : Handed) (before : List A) → old_told (next_in s hs before) ≡ old_next s hs before
  unfolding next_in old_next checked
  next_told hs before =
      told_then (required s.id hs) _ (required_before s.id hs)
      (λ e. told_then (s.means e.contents) _ (contents_before (s.means e.contents) (m e.contents))
      (λ a. told_either (repeats s a before) _ _ refl refl))

  next_before : (n : ℕ) (hs : Handed) (before : List A) → as_before (placed_at n (next_in s hs before)) ≡ old_next s hs before
  next_before n hs before = placed_before n (next_in s hs before) ∙ next_told hs before

  listed_before : (hs : Handed) (n : ℕ) (before : List A) → as_before (listed s n hs before) ≡ old_listed s hs before
  unfolding listed old_listed
  listed_before end n before =
      before_either (eqb (length before) 0) _ _ (before_then (placed_at n (next_in s end before)) _ (next_before n end before) (λ a. refl)) refl
  listed_before cut_header n before = before_then (placed_at n (next_in s cut_header before)) _ (next_before n cut_header before) (λ a. refl)
  listed_before (cut_contents id) n before = before_then (placed_at n (next_in s (cut_contents id) before)) _ (next_before n (cut_contents id) before) (λ a. refl)
  listed_before (more id c hs) n before =
      before_then (placed_at n (next_in s (more id c hs) before)) _ (next_before n (more id c hs) before)
      (λ a. listed_before hs (past_element n c) (before ++ (a ∷ [])))
  listed_before (passed c hs) n before = listed_before hs (past_element n c) before
  listed_before cut_passed n before = before_then (placed_at n (next_in s cut_passed before)) _ (next_before n cut_passed before) (λ a. refl)

  measurements_before : (run : List ℕ) → as_before (measurements_in s run) ≡ old_listed s (handed_in run) []
  unfolding measurements_in
  measurements_before run = listed_before (handed_in run) fixed_fields []

-- ---- an action body

opens_before : (body : List ℕ) → as_before (opens_with body) ≡ old_opens body
unfolding opens_with old_opens checked
opens_before body =
    before_either (ltb (length body) 1) _ _ refl
    (before_either (not (eqb (octet 0 body) 0)) _ _ refl
    (before_either (ltb (length body) switch_fixed_fields) _ _ refl
    (before_either (ltb 4 (octet 1 body)) _ _ refl
    (before_either (eqb (octet 1 body) 4) _ _ refl
    (before_either (ltb (length body) fixed_fields) _ _ refl
    (before_either (forbids_token (octet 1 body) (octet 2 body)) _ _ refl refl))))))

after_before : (body : List ℕ) (o : Opening) → as_before (after_opening body o) ≡ old_after_opening handed_in body o
after_before body Opening.Switch =
    let run = handed_in (drop switch_fixed_fields body) in
    before_then (single switch_fixed_fields 37 switch_means run) _ (single_before switch_fixed_fields 37 switch_means switch_misread run) (λ s. refl)
after_before body (Opening.Token k token) =
    let run = drop fixed_fields body in
    before_either (eqb k 0) _ _ (before_then (measurements_in request_sort run) _ (measurements_before request_sort request_misread run) (λ rs. refl))
    (before_either (eqb k 1) _ _ (before_then (measurements_in report_sort run) _ (measurements_before report_sort report_misread run) (λ rs. refl))
    (before_either (eqb k 2) _ _
    (before_then (single fixed_fields 34 tpc_request_means (handed_in run)) _
    (single_before fixed_fields 34 tpc_request_means tpc_request_misread (handed_in run)) (λ u. refl))
    (before_then (single fixed_fields 35 tpc_report_means (handed_in run)) _
    (single_before fixed_fields 35 tpc_report_means tpc_report_misread (handed_in run)) (λ t. refl))))

action_before : (body : List ℕ) → as_before (action_means body) ≡ and_then (old_opens body) (old_after_opening handed_in body)
unfolding action_means
action_before body = before_then (opens_with body) (after_opening body) (opens_before body) (after_before body)

-- ---- the body of a beacon or a probe response

says_before : (b : ℕ) (es : Elements) (n : ℕ) (t : Told) → as_before (says (takes b) n es t) ≡ old_says b es t
unfolding says old_says
says_before b Raw.end n t = refl
says_before b (Raw.cut_header o) n t = refl
says_before b (Raw.cut_contents id) n t = refl
says_before b (Raw.more id c es) n t =
    before_then (placed_at n (takes b id c t)) _ (placed_before n (takes b id c t) ∙ takes_before b id c t) (says_before b es (past_element n c))

beacon_before : (b : ℕ) (body : List ℕ) → as_before (beacon_means b body) ≡ old_beacon_means b body
unfolding beacon_means old_beacon_means checked
beacon_before b body =
    before_either (ltb (length body) fixed_length) _ _ refl
    (before_either (not (eqb (number 2 interval_field body) b)) _ _ refl (says_before b (elements_in (drop fixed_length body)) fixed_length (opening body)))

-- ---- a frame

kind_before : (b : ℕ) (s : Subtype) (body : List ℕ) → as_before (kind_of b s body) ≡ old_kind_of handed_in b s body
kind_before b Subtype.Beacon body = before_then (beacon_means b body) _ (beacon_before b body) (λ t. refl)
kind_before b Subtype.ProbeResponse body = before_then (beacon_means b body) _ (beacon_before b body) (λ t. refl)
kind_before b Subtype.Action body = before_then (action_means body) _ (action_before body) (λ a. refl)

-- without what is new in refusals
refusals_before : (own ap' : List ℕ) (b : ℕ) (f : List ℕ) → as_before (frame_means own ap' b f) ≡ old_frame_by handed_in own ap' b f
unfolding frame_means old_frame_by
refusals_before own ap' b f =
    before_then (nowhere (header_means Cell.Ap own ap' f)) _ (ap old_told (nowhere_without (header_means Cell.Ap own ap' f)) ∙ header_before own ap' f)
    (λ h. before_then (placed_past header_length (kind_of b h.subtype (body_of f))) _
    (ap old_told (past_without header_length (kind_of b h.subtype (body_of f))) ∙ kind_before b h.subtype (body_of f))
    (λ k. refl))

-- ---- where nothing is passed over, every element is handed out

each_passing : (es : Elements) → no_vendor_in es ≡ true → passing es ≡ each es
unfolding no_vendor_in passing each
each_passing Raw.end h = refl
each_passing (Raw.cut_header o) h = simp (not-true (eqb o vendor_id) h)
each_passing (Raw.cut_contents id) h = simp (not-true (eqb id vendor_id) h)
each_passing (Raw.more id c es) h =
    let p = both (not (eqb id vendor_id)) (no_vendor_in es) h in
    simp (not-true (eqb id vendor_id) p.0) (ap (more id c) (each_passing es p.1))

each_handing : (es : Elements) → no_vendor_after es ≡ true → handing es ≡ each es
unfolding no_vendor_after handing each
each_handing Raw.end h = refl
each_handing (Raw.cut_header o) h = refl
each_handing (Raw.cut_contents id) h = refl
each_handing (Raw.more id c es) h = ap (more id c) (each_passing es h)

-- after an opening, by its action
module _ (body : List ℕ) {A : Type 0} (f g : Opening → Outcome A) where
  opened_alike : (eqb (octet 1 body) 4 ≡ true → f Opening.Switch ≡ g Opening.Switch) → (eqb (octet 1 body) 4 ≡ false → (k token : ℕ) → f (Opening.Token k token) ≡ g (Opening.Token k token))
      → and_then (old_opens body) f ≡ and_then (old_opens body) g
  unfolding old_opens checked
  opened_alike four others =
      past_test (ltb (length body) 1) _ _
      (past_test (not (eqb (octet 0 body) 0)) _ _
      (past_test (ltb (length body) switch_fixed_fields) _ _
      (past_test (ltb 4 (octet 1 body)) _ _
      (by (eqb (octet 1 body) 4) refl))))
    where
      Alike : Outcome Opening → Type 0
      Alike o = and_then o f ≡ and_then o g

      past_test : (t : Bool) (r : Refusal) (o : Outcome Opening) → Alike o → Alike (pick t (Err r) o)
      past_test true r o e = refl
      past_test false r o e = e

      by : (t : Bool) → eqb (octet 1 body) 4 ≡ t
          → Alike (pick t (Ok Opening.Switch)
          (pick (ltb (length body) fixed_fields) (Err Refusal.TooShort)
          (pick (forbids_token (octet 1 body) (octet 2 body)) (Err Refusal.ForbiddenValue) (Ok (Opening.Token (octet 1 body) (octet 2 body))))))
      by true e = four e
      by false e =
          past_test (ltb (length body) fixed_fields) _ _ (past_test (forbids_token (octet 1 body) (octet 2 body)) _ _ (others e (octet 1 body) (octet 2 body)))

module _ (body : List ℕ) (none : NoVendor body) where
  each_after : (t : Bool) → eqb (octet 1 body) 4 ≡ t → handed_in (drop (pick t switch_fixed_fields fixed_fields) body) ≡ each_in (drop (pick t switch_fixed_fields fixed_fields) body)
  each_after t e =
      each_handing (elements_in (drop (pick t switch_fixed_fields fixed_fields) body))
      (subst (λ (u : Bool). no_vendor_after (elements_in (drop (pick u switch_fixed_fields fixed_fields) body)) ≡ true) e none)

  each_action : and_then (old_opens body) (old_after_opening handed_in body) ≡ and_then (old_opens body) (old_after_opening each_in body)
  each_action =
      opened_alike body (old_after_opening handed_in body) (old_after_opening each_in body)
      (λ four. ap (λ (hs : Handed). and_then (old_single 37 switch_means hs) (λ s. Ok (switch s))) (each_after true four))
      (λ other k token.
      ap
      (λ (hs : Handed). pick (eqb k 0) (and_then (old_listed request_sort hs []) (λ rs. Ok (requests token rs)))
      (pick (eqb k 1) (and_then (old_listed report_sort hs []) (λ rs. Ok (reports token rs)))
      (pick (eqb k 2) (and_then (old_single 34 tpc_request_means hs) (λ u. Ok (tpc_request token)))
      (and_then (old_single 35 tpc_report_means hs) (λ t. Ok (tpc_report token t))))))
      (each_after false other))

each_kind : (body : List ℕ) (b : ℕ) (s : Subtype) → (s ≡ Subtype.Action → NoVendor body) → old_kind_of handed_in b s body ≡ old_kind_of each_in b s body
each_kind body b Subtype.Beacon none = refl
each_kind body b Subtype.ProbeResponse none = refl
each_kind body b Subtype.Action none = ap (λ (o : Outcome Body). and_then o (λ a. Ok (action a))) (each_action body (none refl))

-- without what is new, such a frame means what it meant
pub as_before_lem : (own ap' : List ℕ) (b : ℕ) (f : List ℕ) → NothingPassed own ap' f → as_before (frame_means own ap' b f) ≡ old_frame_means own ap' b f
unfolding old_frame_by
as_before_lem own ap' b f none =
    refusals_before own ap' b f ∙ by (header_means Cell.Ap own ap' f) refl
  where
    heard : Head → Kind → Outcome Sent
    heard h k = Ok (record { to_all = h.to_all; kind = k })

    by : (o : Outcome Head) → header_means Cell.Ap own ap' f ≡ o
        → and_then o (λ h. and_then (old_kind_of handed_in b h.subtype (body_of f)) (heard h))
        ≡ and_then o (λ h. and_then (old_kind_of each_in b h.subtype (body_of f)) (heard h))
    by (Err r) e = refl
    by (Ok h) e = ap (λ (o : Outcome Kind). and_then o (heard h)) (each_kind (body_of f) b h.subtype (none h e))

-- ---- what that says of each answer

-- a refusal's number is what it was, or it is 21 or 22 and was 7
numbered_before : (r : Refusal) → Kept r ⊎ ((old_numbered r ≡ Refusal.ElementAbsent) × ((r ≡ Refusal.OtherElement) ⊎ (r ≡ Refusal.LeftOver)))
numbered_before Refusal.TooShort = inl refl
numbered_before Refusal.TooLong = inl refl
numbered_before Refusal.ForeignHeader = inl refl
numbered_before Refusal.ForeignAddress = inl refl
numbered_before Refusal.ForeignAction = inl refl
numbered_before Refusal.ElementCut = inl refl
numbered_before Refusal.ElementAbsent = inl refl
numbered_before Refusal.WrongLength = inl refl
numbered_before Refusal.ForbiddenValue = inl refl
numbered_before Refusal.Repeated = inl refl
numbered_before Refusal.TooManyQuiets = inl refl
numbered_before Refusal.OtherInterval = inl refl
numbered_before Refusal.BufferShort = inl refl
numbered_before Refusal.PastClock = inl refl
numbered_before Refusal.BadStart = inl refl
numbered_before Refusal.Impossible = inl refl
numbered_before Refusal.BlockDamaged = inl refl
numbered_before Refusal.NoReplyDue = inl refl
numbered_before Refusal.NoStation = inl refl
numbered_before Refusal.RecordMalformed = inl refl
numbered_before Refusal.OtherElement = inr (refl, inl refl)
numbered_before Refusal.LeftOver = inr (refl, inr refl)
numbered_before Refusal.ForeignAnnouncement = inl refl
numbered_before Refusal.NoFreeRow = inl refl
numbered_before Refusal.AlreadyJoined = inl refl
numbered_before Refusal.NotJoined = inl refl

-- a frame that is refused was refused, and with the same number, or with 7 where it is 21 or 22 now
pub only_seven : (own ap' : List ℕ) (b : ℕ) (f : List ℕ) (x : Fault) → NothingPassed own ap' f → frame_means own ap' b f ≡ Err x
    → ((old_frame_means own ap' b f ≡ Err x.refusal) × (old_numbered x.refusal ≡ x.refusal))
    ⊎ ((old_frame_means own ap' b f ≡ Err Refusal.ElementAbsent) × ((x.refusal ≡ Refusal.OtherElement) ⊎ (x.refusal ≡ Refusal.LeftOver)))
only_seven own ap' b f x none e =
    let was : old_frame_means own ap' b f ≡ Err (old_numbered x.refusal) = sym (as_before_lem own ap' b f none) ∙ ap as_before e in
    ⊎_elim (λ k. inl (was ∙ ap Err k, k)) (λ k. inr (was ∙ ap Err k.0, k.1)) (numbered_before x.refusal)

-- the same frames are accepted, and as the same
accepted_before : {A : Type 0} (o : Placed A) (a : A) → as_before o ≡ Ok a → o ≡ Ok a
accepted_before (Err x) a e = absurd (never e)
accepted_before (Ok b) a e = ap Ok (accepted_once e)

pub accepted_alike : (own ap' : List ℕ) (b : ℕ) (f : List ℕ) (s : Sent) → NothingPassed own ap' f → (frame_means own ap' b f ≡ Ok s) ↔ (old_frame_means own ap' b f ≡ Ok s)
accepted_alike own ap' b f s none =
    (λ e. sym (as_before_lem own ap' b f none) ∙ ap as_before e, λ e. accepted_before (frame_means own ap' b f) s (as_before_lem own ap' b f none ∙ e))
