-- What breaks a body, and where: every fault that a body of one kind or the other may have, and no other. Assumes nothing.
use Rattle.std.specs.Prelude.{Ok, None}
use mathlib.Core.Path.{◌≡◌, refl, sym, ap, subst, ◌∙◌}
use mathlib.Core.Bool.{Bool}
use mathlib.Core.List.{List, [], ◌∷◌, ◌++◌}
use mathlib.Core.Logic.{◌⊎◌, inl, inr}
use Prim.Native.Nat.{ℕ, ◌+◌, ◌<◌, ◌≤◌}
use native.Mathlib.Omega.{arith}
use borrow.Author.Tests.{ltb-false}
use lib.Dec.{ltb, eqb}
use lib.ListN.{length, drop, length-append, length-drop}
use Rattle.action.specs.Openings.{category_field, action_field, token_field, fixed_fields, switch_fixed_fields, forbids_token, opens_with}
use Rattle.action.specs.declared.Opening.{Opening}
use Rattle.answer.proofs.Placing.{placed_value}
use Rattle.answer.proofs.Refusing.{Refuses, by_value, by_refusal, by_either, by_check, by_none, by_then, by_place, of_place}
use Rattle.answer.specs.Checks.{Outcome, ◌⇒◌, judged, and_then}
use Rattle.answer.specs.Faults.{fault_at, fault_nowhere, placed_at}
use Rattle.answer.specs.declared.Fault.{Fault}
use Rattle.answer.specs.declared.Refusal.{Refusal}
use Rattle.beacon.specs.Beacons.{Told, fixed_length, interval_field, opening, without_margin, element_means, adds, takes, says, body_means, beacon_means}
use Rattle.beacon.specs.IbssBeacons.{ToldInIbss, tells_in_ibss, takes_in_ibss, ibss_beacon_means}
use Rattle.beacon.specs.declared.elements.Element.{Element}
use Rattle.element.specs.ChannelSwitch.{switch_means}
use Rattle.element.specs.IbssDfs.{dfs_means}
use Rattle.element.specs.PowerConstraint.{power_means}
use Rattle.element.specs.Quiet.{quiet_means}
use Rattle.element.specs.TpcReport.{tpc_report_means}
use Rattle.element.specs.TpcRequest.{tpc_request_means}
use Rattle.measurement_body.specs.Lists.{Sort, next_in, listed, measurements_in}
use Rattle.measurement_body.specs.Reports.{report_sort}
use Rattle.measurement_body.specs.Requests.{request_sort}
use Rattle.measurement_element.specs.MeasurementReport.{report_means}
use Rattle.measurement_element.specs.MeasurementRequest.{request_means}
use Rattle.octets.specs.Elements.{fixed, element}
use Rattle.octets.specs.Numbers.{octet}
use Rattle.single_body.specs.Singles.{single}
use Rattle.walk.proofs.Requiring.{whole}
use Rattle.walk.proofs.RunLaws.{none, split}
use Rattle.walk.proofs.Passing.{Walks, walks_more, walks_passed, walks_end, walks_some}
use Rattle.walk.specs.Elements.{Elements, elements_in, past_element}
use Rattle.walk.specs.Elements as Raw
use Rattle.walk.specs.Handed.{Handed, end, cut_header, cut_contents, more, passed, cut_passed, vendor_id, handed_in}
use Rattle.walk.specs.Required.{Standing, required, nothing_left}
use Rattle.frame.specs.Actions.{after_opening, action_means}
use Rattle.frame.proofs.ActionParts.{Begins, begins}

-- ---- contents: their length (8) or a value (9)

abbrev pub Misread : Refusal → Type 0
Misread r = (r ≡ Refusal.WrongLength) ⊎ (r ≡ Refusal.ForbiddenValue)

fixed_misread : {A : Type 0} (n : ℕ) (record_in : List ℕ → A) (forbids : A → Bool) (c : List ℕ) → Refuses Misread (fixed n record_in forbids c)
unfolding fixed
fixed_misread n record_in forbids c = by_check _ _ _ _ (inl refl) (λ h. by_check _ _ _ _ (inr refl) (λ k. by_none _ _ (by_value _ _)))

pub switch_misread : (c : List ℕ) → Refuses Misread (switch_means c)
unfolding switch_means
switch_misread = fixed_misread 3 _ _

dfs_misread : (c : List ℕ) → Refuses Misread (dfs_means c)
unfolding dfs_means
dfs_misread c = by_check _ _ _ _ (inl refl) (λ h. by_check _ _ _ _ (inr refl) (λ k. by_none _ _ (by_value _ _)))

pub tpc_report_misread : (c : List ℕ) → Refuses Misread (tpc_report_means c)
unfolding tpc_report_means
tpc_report_misread = fixed_misread 2 _ _

pub tpc_request_misread : (c : List ℕ) → Refuses Misread (tpc_request_means c)
unfolding tpc_request_means
tpc_request_misread = fixed_misread 0 _ _

power_misread : (c : List ℕ) → Refuses Misread (power_means c)
unfolding power_means
power_misread = fixed_misread 1 _ _

quiet_misread : (b : ℕ) (c : List ℕ) → Refuses Misread (quiet_means b c)
unfolding quiet_means
quiet_misread b = fixed_misread 6 _ _

pub request_misread : (c : List ℕ) → Refuses Misread (request_means c)
unfolding request_means
request_misread c = by_check _ _ _ _ (inl refl) (λ h. by_check _ _ _ _ (inl refl) (λ k. by_check _ _ _ _ (inr refl) (λ l. by_none _ _ (by_value _ _))))

pub report_misread : (c : List ℕ) → Refuses Misread (report_means c)
unfolding report_means
report_misread c =
    by_check _ _ _ _ (inl refl)
    (λ h. by_check _ _ _ _ (inr refl) (λ k. by_check _ _ _ _ (inl refl) (λ l. by_check _ _ _ _ (inr refl) (λ m. by_none _ _ (by_value _ _)))))

-- ---- a run: so many octets stand before it, and so many there are in all

-- a run that does not end at once has an octet
some : (run : List ℕ) → (elements_in run ≡ Raw.end → ⊥) → 0 < length run
some [] h = absurd (h none)
some (x ∷ run) h = omega arith

cut_has : (run : List ℕ) {o : ℕ} → elements_in run ≡ Raw.cut_header o → 0 < length run
cut_has run e = some run (λ f. let g = sym e ∙ f in let z : ◌≡◌ {A = ℕ} 0 1 = cc in omega arith)

contents_cut_has : (run : List ℕ) {id : ℕ} → elements_in run ≡ Raw.cut_contents id → 0 < length run
contents_cut_has run e = some run (λ f. let g = sym e ∙ f in let z : ◌≡◌ {A = ℕ} 0 1 = cc in omega arith)

whole_has : (run : List ℕ) {id : ℕ} {c : List ℕ} {es : Elements} → elements_in run ≡ Raw.more id c es → 0 < length run
whole_has run e = some run (λ f. let g = sym e ∙ f in let z : ◌≡◌ {A = ℕ} 0 1 = cc in omega arith)

-- and so has one of which the walk hands something out
given : (run : List ℕ) (id : ℕ) (c : List ℕ) (hs : Handed) → Walks run (more id c hs) → 0 < length run
given run id c hs w = walks_some run (more id c hs) w (λ e. let z : ◌≡◌ {A = ℕ} 0 1 = cc in omega arith)

-- after its first element
rest_long : (n size : ℕ) (run : List ℕ) (id : ℕ) (c rest : List ℕ) → n + length run ≡ size → run ≡ element id c ++ rest → past_element n c + length rest ≡ size
rest_long n size run id c rest s e = omega (arith, s, ap length e, length-append c rest)

-- what may break an element that has to be there, and what follows it
pub record ElementFaults (P : Fault → Type 0) (size : ℕ) : Type 0 where
  pub cut : (n : ℕ) → n < size → P (fault_at n Refusal.ElementCut)
  pub absent : P (fault_at size Refusal.ElementAbsent)
  pub other : (n : ℕ) → n < size → P (fault_at n Refusal.OtherElement)
  pub long : (n : ℕ) → n < size → P (fault_at n Refusal.WrongLength)
  pub value : (n : ℕ) → n < size → P (fault_at n Refusal.ForbiddenValue)
  pub repeat : (n : ℕ) → n < size → P (fault_at n Refusal.Repeated)
  pub over : (n : ℕ) → n < size → P (fault_at n Refusal.LeftOver)

module _ (P : Fault → Type 0) (size : ℕ) (f : ElementFaults P size) where
  misread : (n : ℕ) → n < size → (r : Refusal) → Misread r → P (fault_at n r)
  misread n h r (inl e) = subst (λ (x : Refusal). P (fault_at n x)) (sym e) (f.long n h)
  misread n h r (inr e) = subst (λ (x : Refusal). P (fault_at n x)) (sym e) (f.value n h)

  -- the element that has to be there
  required_by : (n id : ℕ) (run : List ℕ) → n + length run ≡ size → (hs : Handed) → Walks run hs → Refuses P (placed_at n (required id hs))
  unfolding required
  required_by n id run s end w =
      let all : size ≡ n = omega (arith, s, ap length (walks_end run w)) in
      by_refusal P (subst (λ (k : ℕ). P (fault_at k Refusal.ElementAbsent)) all f.absent)
  required_by n id run s cut_header w =
      by_refusal P (f.cut n (omega (arith, s, walks_some run cut_header w (λ e. let z : ◌≡◌ {A = ℕ} 0 1 = cc in omega arith))))
  required_by n id run s (cut_contents i) w =
      let h : n < size = omega (arith, s, walks_some run (cut_contents i) w (λ e. let z : ◌≡◌ {A = ℕ} 0 1 = cc in omega arith)) in
      by_place P n _ (by_check _ _ _ _ (f.other n h) (λ k. by_none _ _ (by_refusal _ (f.cut n h))))
  required_by n id run s (more i c hs) w =
      by_place P n _ (by_check _ _ _ _ (f.other n (omega (arith, s, given run i c hs w))) (λ k. by_none _ _ (by_value _ _)))
  required_by n id run s (passed c hs) w =
      by_refusal P (f.other n (omega (arith, s, walks_some run (passed c hs) w (λ e. let z : ◌≡◌ {A = ℕ} 0 1 = cc in omega arith))))
  required_by n id run s cut_passed w =
      by_refusal P (f.cut n (omega (arith, s, walks_some run cut_passed w (λ e. let z : ◌≡◌ {A = ℕ} 0 1 = cc in omega arith))))

  nothing_by : {A : Type 0} (hs : Handed) (n : ℕ) (run : List ℕ) → n + length run ≡ size → Walks run hs → (a : A) → Refuses P (nothing_left n hs a)
  unfolding nothing_left
  nothing_by end n run s w a = by_value P a
  nothing_by cut_header n run s w a =
      by_refusal P (f.over n (omega (arith, s, walks_some run cut_header w (λ e. let z : ◌≡◌ {A = ℕ} 0 1 = cc in omega arith))))
  nothing_by (cut_contents i) n run s w a =
      by_refusal P (f.over n (omega (arith, s, walks_some run (cut_contents i) w (λ e. let z : ◌≡◌ {A = ℕ} 0 1 = cc in omega arith))))
  nothing_by (more i c hs) n run s w a = by_refusal P (f.over n (omega (arith, s, given run i c hs w)))
  nothing_by (passed c hs) n run s w a =
      let y = walks_passed run c hs w in
      nothing_by hs (past_element n c) y.rest (rest_long n size run vendor_id c y.rest s y.octets) (inr y.after) a
  nothing_by cut_passed n run s w a =
      by_refusal P (f.cut n (omega (arith, s, walks_some run cut_passed w (λ e. let z : ◌≡◌ {A = ℕ} 0 1 = cc in omega arith))))

  single_by : {A : Type 0} (n id : ℕ) (means : List ℕ → Outcome A) → ((c : List ℕ) → Refuses Misread (means c)) → (run : List ℕ) → n + length run ≡ size
      → Refuses P (single n id means (handed_in run))
  unfolding single
  single_by n id means m run s =
      by_then P (placed_at n (required id (handed_in run))) _ (required_by n id run s (handed_in run) (inl refl))
      (λ x e. after x (whole id (handed_in run) x (placed_value n (required id (handed_in run)) e)))
    where
      after : (x : Standing) → handed_in run ≡ more id x.contents x.rest
          → Refuses P (and_then (placed_at n (means x.contents)) (nothing_left (past_element n x.contents) x.rest))
      after x e =
          let y = walks_more run id x.contents x.rest (inl e) in
          by_then P (placed_at n (means x.contents)) _
          (by_place P n (means x.contents) (λ r g. misread n (omega (arith, s, given run id x.contents x.rest (inl e))) r (m x.contents r g)))
          (λ a g. nothing_by x.rest (past_element n x.contents) y.rest (rest_long n size run id x.contents y.rest s y.octets) (inr y.after) a)

  -- one element after the other
  module _ {A : Type 0} (s : Sort A) (m : (c : List ℕ) → Refuses Misread (s.means c)) where
    next_by_lem : (n : ℕ) (run : List ℕ) → n + length run ≡ size → (hs : Handed) → Walks run hs → (before : List A) → Refuses P (placed_at n (next_in s hs before))
    unfolding next_in
    next_by_lem n run z hs w before =
        by_place P n _
        (by_then At (required s.id hs) _ (of_place P n (required s.id hs) (required_by n s.id run z hs w))
        (λ x g.
        let h : n < size = omega (arith, z, given run s.id x.contents x.rest (subst (Walks run) (whole s.id hs x g) w)) in
        by_then At (s.means x.contents) _ (λ r k. misread n h r (m x.contents r k))
        (λ a k. by_check At _ _ _ (f.repeat n h) (λ l. by_none At _ (by_value At _)))))
      where
        At : Refusal → Type 0
        At r = P (fault_at n r)

    listed_by : (hs : Handed) (n : ℕ) (run : List ℕ) → n + length run ≡ size → Walks run hs → (before : List A) → Refuses P (listed s n hs before)
    unfolding listed
    listed_by end n run z w before =
        by_either P (eqb (length before) 0) _ _ (by_then P (placed_at n (next_in s end before)) _ (next_by_lem n run z end w before) (λ a g. by_value P _)) (by_value P before)
    listed_by cut_header n run z w before = by_then P (placed_at n (next_in s cut_header before)) _ (next_by_lem n run z cut_header w before) (λ a g. by_value P _)
    listed_by (cut_contents id) n run z w before = by_then P (placed_at n (next_in s (cut_contents id) before)) _ (next_by_lem n run z (cut_contents id) w before) (λ a g. by_value P _)
    listed_by (more id c hs) n run z w before =
        let y = walks_more run id c hs w in
        by_then P (placed_at n (next_in s (more id c hs) before)) _ (next_by_lem n run z (more id c hs) w before)
        (λ a g. listed_by hs (past_element n c) y.rest (rest_long n size run id c y.rest z y.octets) (inr y.after) (before ++ (a ∷ [])))
    listed_by (passed c hs) n run z w before =
        let y = walks_passed run c hs w in
        listed_by hs (past_element n c) y.rest (rest_long n size run vendor_id c y.rest z y.octets) (inr y.after) before
    listed_by cut_passed n run z w before = by_then P (placed_at n (next_in s cut_passed before)) _ (next_by_lem n run z cut_passed w before) (λ a g. by_value P _)

    measurements_by : (run : List ℕ) → fixed_fields + length run ≡ size → Refuses P (measurements_in s run)
    unfolding measurements_in
    measurements_by run z = listed_by (handed_in run) fixed_fields run z (inl refl) []

-- ---- an action body

pub record ActionFaults (P : Fault → Type 0) (size : ℕ) : Type 0 where
  pub short : P (fault_nowhere Refusal.TooShort)
  pub category : 0 < size → P (fault_at category_field Refusal.ForeignAction)
  pub action : 1 < size → P (fault_at action_field Refusal.ForeignAction)
  pub token : 2 < size → P (fault_at token_field Refusal.ForbiddenValue)
  pub elements : ElementFaults P size

module _ (P : Fault → Type 0) (body : List ℕ) (f : ActionFaults P (length body)) where
  token_by : Refuses P
      (judged
      (ltb (length body) fixed_fields ⇒ fault_nowhere Refusal.TooShort
      ∷ forbids_token (octet action_field body) (octet token_field body) ⇒ fault_at token_field Refusal.ForbiddenValue
      ∷ [])
      (Opening.Token (octet action_field body) (octet token_field body)))
  token_by =
      by_check P _ _ _ f.short
      (λ three. by_check P _ _ _ (f.token (omega (arith, ltb-false (length body) fixed_fields three))) (λ m. by_none P _ (by_value P _)))

  opens_by : Refuses P (opens_with body)
  unfolding opens_with
  opens_by =
      by_check P _ _ _ f.short
      (λ one. by_check P _ _ _ (f.category (omega (arith, ltb-false (length body) 1 one)))
      (λ k. by_check P _ _ _ f.short
      (λ two. by_check P _ _ _ (f.action (omega (arith, ltb-false (length body) switch_fixed_fields two)))
      (λ l. by_none P _
      (by_either P (eqb (octet action_field body) 4) _ _ (by_value P Opening.Switch) token_by)))))

  -- what follows the fixed fields has the rest of the octets
  after_by : (o : Opening) → Begins body o → Refuses P (after_opening body o)
  after_by Opening.Switch b =
      by_then P (single switch_fixed_fields 37 switch_means (handed_in (drop switch_fixed_fields body))) _
      (single_by P (length body) f.elements switch_fixed_fields 37 switch_means switch_misread (drop switch_fixed_fields body) (omega (arith, ap length b)))
      (λ s e. by_value P _)
  after_by (Opening.Token k token) b =
      let long : fixed_fields + length (drop fixed_fields body) ≡ length body = omega (arith, ap length b.0) in
      by_either P (eqb k 0) _ _
      (by_then P (measurements_in request_sort (drop fixed_fields body)) _
      (measurements_by P (length body) f.elements request_sort request_misread (drop fixed_fields body) long) (λ rs e. by_value P _))
      (by_either P (eqb k 1) _ _
      (by_then P (measurements_in report_sort (drop fixed_fields body)) _
      (measurements_by P (length body) f.elements report_sort report_misread (drop fixed_fields body) long) (λ rs e. by_value P _))
      (by_either P (eqb k 2) _ _
      (by_then P (single fixed_fields 34 tpc_request_means (handed_in (drop fixed_fields body))) _
      (single_by P (length body) f.elements fixed_fields 34 tpc_request_means tpc_request_misread (drop fixed_fields body) long) (λ u e. by_value P _))
      (by_then P (single fixed_fields 35 tpc_report_means (handed_in (drop fixed_fields body))) _
      (single_by P (length body) f.elements fixed_fields 35 tpc_report_means tpc_report_misread (drop fixed_fields body) long) (λ t e. by_value P _))))

  pub action_faults : Refuses P (action_means body)
  unfolding action_means
  action_faults = by_then P (opens_with body) (after_opening body) opens_by (λ o e. after_by o (begins body o e))

-- ---- the body of a beacon or a probe response

pub record NoticeFaults (P : Fault → Type 0) (size : ℕ) : Type 0 where
  pub short : P (fault_nowhere Refusal.TooShort)
  pub interval : fixed_length ≤ size → P (fault_at interval_field Refusal.OtherInterval)
  pub cut : (n : ℕ) → n < size → P (fault_at n Refusal.ElementCut)
  pub long : (n : ℕ) → n < size → P (fault_at n Refusal.WrongLength)
  pub value : (n : ℕ) → n < size → P (fault_at n Refusal.ForbiddenValue)
  pub repeat : (n : ℕ) → n < size → P (fault_at n Refusal.Repeated)
  pub many : (n : ℕ) → n < size → P (fault_at n Refusal.TooManyQuiets)

module _ (P : Fault → Type 0) (size : ℕ) (f : NoticeFaults P size) (b : ℕ) where
  module _ (n : ℕ) (h : n < size) where
    abbrev At : Refusal → Type 0
    At r = P (fault_at n r)

    unread : (r : Refusal) → Misread r → At r
    unread r (inl e) = subst At (sym e) (f.long n h)
    unread r (inr e) = subst At (sym e) (f.value n h)

    read_by : {A : Type 0} (o : Outcome A) → Refuses Misread o → (make : A → Element) → Refuses At (and_then o (λ a. Ok (make a)))
    read_by o m make = by_then At o _ (λ r e. unread r (m r e)) (λ a e. by_value At _)

    element_by : (id : ℕ) (c : List ℕ) → Refuses At (element_means b id c)
    unfolding element_means
    element_by id c =
        by_either At (eqb id 32) _ _ (read_by (power_means c) (power_misread c) Element.Power)
        (by_either At (eqb id 35) _ _ (read_by (tpc_report_means c) (tpc_report_misread c) (λ t. Element.Report (without_margin t)))
        (by_either At (eqb id 37) _ _ (read_by (switch_means c) (switch_misread c) Element.Switch)
        (by_either At (eqb id 40) _ _ (read_by (quiet_means b c) (quiet_misread b c) Element.Quiet)
        (by_value At Element.Other))))

    adds_by : (t : Told) (e : Element) → Refuses At (adds t e)
    adds_by t (Element.Power p) = by_check At _ _ _ (f.repeat n h) (λ k. by_none At _ (by_value At _))
    adds_by t (Element.Report r) = by_check At _ _ _ (f.repeat n h) (λ k. by_none At _ (by_value At _))
    adds_by t (Element.Switch s) = by_check At _ _ _ (f.repeat n h) (λ k. by_none At _ (by_value At _))
    adds_by t (Element.Quiet q) = by_check At _ _ _ (f.many n h) (λ k. by_none At _ (by_value At _))
    adds_by t Element.Other = by_value At t

    pub takes_by : (id : ℕ) (c : List ℕ) (t : Told) → Refuses P (placed_at n (takes b id c t))
    unfolding takes
    takes_by id c t = by_place P n _ (by_then At (element_means b id c) (adds t) (element_by id c) (λ e g. adds_by t e))

    -- element 41 as well
    takes_in_ibss_by : (id : ℕ) (c : List ℕ) (t : ToldInIbss) → Refuses P (placed_at n (takes_in_ibss b id c t))
    unfolding takes_in_ibss
    takes_in_ibss_by id c t =
        by_place P n _
        (by_either At (eqb id 41) _ _
        (by_then At (dfs_means c) _ (λ r e. unread r (dfs_misread c r e)) (λ d e. by_check At _ _ _ (f.repeat n h) (λ k. by_none At _ (by_value At _))))
        (by_then At (takes b id c t.told) _ (of_place P n (takes b id c t.told) (takes_by id c t.told)) (λ next e. by_value At _)))

-- a body by its elements, where every one that is taken refuses so
module _ {A : Type 0} (P : Fault → Type 0) (step : ℕ → List ℕ → A → Outcome A) (before : A) (b : ℕ) (body : List ℕ) (f : NoticeFaults P (length body))
    (step_by : (n : ℕ) → n < length body → (id : ℕ) (c : List ℕ) (t : A) → Refuses P (placed_at n (step id c t))) where
  says_by : (es : Elements) (n : ℕ) (run : List ℕ) → n + length run ≡ length body → elements_in run ≡ es → (t : A) → Refuses P (says step n es t)
  unfolding says
  says_by Raw.end n run s e t = by_value P t
  says_by (Raw.cut_header o) n run s e t = by_refusal P (f.cut n (omega (arith, s, cut_has run e)))
  says_by (Raw.cut_contents id) n run s e t = by_refusal P (f.cut n (omega (arith, s, contents_cut_has run e)))
  says_by (Raw.more id c es) n run s e t =
      let y = split run id c es e in
      by_then P (placed_at n (step id c t)) _ (step_by n (omega (arith, s, whole_has run e)) id c t)
      (λ next g. says_by es (past_element n c) y.rest (rest_long n (length body) run id c y.rest s y.octets) y.after next)

  body_by : Refuses P (body_means step before b body)
  body_by =
      by_check P _ _ _ f.short
      (λ long.
      let size : fixed_length ≤ length body = ltb-false (length body) fixed_length long in
      by_check P _ _ _ (f.interval size)
      (λ same. by_none P _
      (says_by (elements_in (drop fixed_length body)) fixed_length (drop fixed_length body) (omega (arith, size, length-drop fixed_length body)) refl before)))

module _ (P : Fault → Type 0) (b : ℕ) (body : List ℕ) (f : NoticeFaults P (length body)) where
  pub notice_faults : Refuses P (beacon_means b body)
  unfolding beacon_means
  notice_faults = body_by P (takes b) (opening body) b body f (takes_by P (length body) f b)

  pub ibss_notice_faults : Refuses P (ibss_beacon_means b body)
  unfolding ibss_beacon_means
  ibss_notice_faults = body_by P (takes_in_ibss b) (tells_in_ibss (opening body) None) b body f (takes_in_ibss_by P (length body) f b)
