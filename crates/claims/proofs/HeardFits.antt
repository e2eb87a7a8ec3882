-- What an accepted frame says fits the fields that it was read from, where the frame is octets. Assumes nothing.
use Rattle.std.specs.Prelude.{Ok, Some, None, Option}
use mathlib.Core.List.{List, [], ◌∷◌, ◌++◌}
use mathlib.Core.Path.{◌≡◌, subst}
use Prim.Native.Nat.{ℕ, ◌<◌, ◌^◌}
use lib.Dec.{eqb}
use lib.ListN.{drop}
use Rattle.action.specs.Openings.{fixed_fields, switch_fixed_fields, opens_with}
use Rattle.answer.proofs.Placing.{placed_value, past_value}
use Rattle.answer.proofs.Yielding.{Yields, of_refusal, of_value, either_way_lem, after_check, after_all, after_value}
use Rattle.answer.specs.Faults.{placed_at, nowhere, placed_past}
use Rattle.beacon.specs.Beacons.{Told, tells, opening, fixed_length, element_means, adds, takes, says, beacon_means}
use Rattle.beacon.specs.Notices.{with_power, with_switch}
use Rattle.beacon.specs.declared.elements.Element.{Element}
use Rattle.element.proofs.FixedLength.{opened}
use Rattle.element.specs.ChannelSwitch.{switch_means, switch_in, switch_forbids}
use Rattle.element.specs.PowerConstraint.{power_means, power_in}
use Rattle.element.specs.Quiet.{quiet_means, quiet_in, quiet_forbids}
use Rattle.element.specs.TpcReport.{tpc_report_means}
use Rattle.element.specs.TpcRequest.{tpc_request_means}
use Rattle.element.specs.declared.channel_switch.ChannelSwitch.{ChannelSwitch}
use Rattle.element.specs.declared.power_constraint.PowerConstraint.{PowerConstraint}
use Rattle.element.specs.declared.quiet.Quiet.{Quiet}
use Rattle.frame.specs.Actions.{Body, after_opening, action_means}
use Rattle.frame.specs.Frames.{Kind, action, Sent, kind_of, frame_means}
use Rattle.frame.specs.Laid.{frame_of, quiets_of}
use Rattle.frame.specs.declared.Frame.{Frame}
use Rattle.header.specs.Headers.{header_length, body_of, header_means}
use Rattle.header.specs.declared.address.Cell.{Cell}
use Rattle.header.specs.declared.management.Subtype.{Subtype}
use Rattle.measurement_body.specs.Lists.{measurements_in}
use Rattle.measurement_body.specs.Reports.{report_sort}
use Rattle.measurement_body.specs.Requests.{request_sort}
use Rattle.octets.proofs.JoinSplit.{number_bound}
use Rattle.octets.specs.Numbers.{Octets}
use Rattle.single_body.specs.Singles.{single}
use Rattle.walk.specs.Elements.{Elements, end, cut_header, cut_contents, more, elements_in, past_element}
use Rattle.walk.specs.Handed as Walked
use Rattle.walk.specs.Handed.{Handed, handing, handed_in}
use Rattle.walk.specs.Required.{required, nothing_left}
use Rattle.claims.proofs.OctetsWithin.{octets_drop, AllOctets, run_octets, required_octets}
use Rattle.station_record.specs.Fits.{PowerFits}
use Rattle.action.specs.declared.Opening.{Opening}

-- ---- what fits

-- an announcement's count is one octet
abbrev pub CountFits : ChannelSwitch → Type 0
CountFits w = w.count < 256

-- so is that of an announcement that may be absent
abbrev pub SwitchFits : Option ChannelSwitch → Type 0
SwitchFits None = Unit {0}
SwitchFits (Some w) = CountFits w

-- the count and the period of a Quiet element are one octet each, its duration and its offset two
abbrev pub NumbersFit : Quiet → Type 0
NumbersFit q = (q.count < 256) × (q.period < 256) × (q.duration < 256 ^ 2) × (q.offset < 256 ^ 2)

-- so it is of each of them
abbrev pub QuietsFit : List Quiet → Type 0
QuietsFit [] = Unit {0}
QuietsFit (q ∷ qs) = NumbersFit q × QuietsFit qs

-- what a beacon or a probe response says
pub record ToldFits (t : Told) : Type 0 where
  pub power_fits : PowerFits t.notice.power
  pub switch_fits : SwitchFits t.notice.switch
  pub quiets_fit : QuietsFit t.quiets

-- what a frame says, with the Quiet elements beside it
abbrev pub FrameFits : Frame → List Quiet → Type 0
FrameFits (Frame.Beacon n) qs = ToldFits (tells n qs)
FrameFits (Frame.ProbeResponse n) qs = ToldFits (tells n qs)
FrameFits (Frame.MeasurementRequest token count) qs = Unit {0}
FrameFits (Frame.MeasurementReport token count) qs = Unit {0}
FrameFits (Frame.TpcRequest token) qs = Unit {0}
FrameFits (Frame.TpcReport token t) qs = Unit {0}
FrameFits (Frame.ChannelSwitch w) qs = CountFits w

-- and so for each kind of frame
abbrev pub KindFits : Kind → Type 0
KindFits k = FrameFits (frame_of k) (quiets_of k)

-- ---- an element

-- a Power Constraint that is read is one octet
power_read_fits : (c : List ℕ) → Octets c → (p : PowerConstraint) → power_means c ≡ Ok p → p.decibels < 256
unfolding power_means
power_read_fits c o p e = subst (λ (x : PowerConstraint). x.decibels < 256) (opened 1 power_in _ c p e).1 (o 0)

-- an announcement's count is too
switch_read_fits : (c : List ℕ) → Octets c → (w : ChannelSwitch) → switch_means c ≡ Ok w → CountFits w
unfolding switch_means
switch_read_fits c o w e = subst CountFits (opened 3 switch_in switch_forbids c w e).1 (o 2)

-- the numbers of a Quiet element fit the octets that they are read from
quiet_read_fits : (b : ℕ) (c : List ℕ) → Octets c → (q : Quiet) → quiet_means b c ≡ Ok q → NumbersFit q
unfolding quiet_means
quiet_read_fits b c o q e =
    subst NumbersFit (opened 6 quiet_in (quiet_forbids b) c q e).1 (o 0, o 1, number_bound 2 2 c o, number_bound 2 4 c o)

-- what any element says fits
abbrev ElementFits : Element → Type 0
ElementFits (Element.Power p) = p.decibels < 256
ElementFits (Element.Report t) = Unit {0}
ElementFits (Element.Switch w) = CountFits w
ElementFits (Element.Quiet q) = NumbersFit q
ElementFits Element.Other = Unit {0}

-- so does what is read of it
element_fits : (b id : ℕ) (c : List ℕ) → Octets c → Yields ElementFits (element_means b id c)
unfolding element_means
element_fits b id c o =
    either_way_lem _ (eqb id 32) _ _ (after_value _ (power_means c) _ (λ p e. of_value _ (power_read_fits c o p e)))
    (either_way_lem _ (eqb id 35) _ _ (after_value _ (tpc_report_means c) _ (λ t e. of_value _ tt))
    (either_way_lem _ (eqb id 37) _ _ (after_value _ (switch_means c) _ (λ w e. of_value _ (switch_read_fits c o w e)))
    (either_way_lem _ (eqb id 40) _ _ (after_value _ (quiet_means b c) _ (λ q e. of_value _ (quiet_read_fits b c o q e)))
    (of_value _ tt))))

-- ---- what was said, and one element more

-- one Quiet element more, that fits, after others that do
one_more_fits : (qs : List Quiet) (q : Quiet) → QuietsFit qs → NumbersFit q → QuietsFit (qs ++ (q ∷ []))
one_more_fits [] q all f = (f, tt)
one_more_fits (x ∷ qs) q all f = (all.0, one_more_fits qs q all.1 f)

module _ (t : Told) (a : ToldFits t) where
  -- another Power Constraint
  with_power_lem : (p : PowerConstraint) → p.decibels < 256 → ToldFits (tells (with_power t.notice p) t.quiets)
  with_power_lem p f = record { power_fits = f; switch_fits = a.switch_fits; quiets_fit = a.quiets_fit }

  -- another announcement
  with_switch_lem : (w : ChannelSwitch) → CountFits w → ToldFits (tells (with_switch t.notice w) t.quiets)
  with_switch_lem w f = record { power_fits = a.power_fits; switch_fits = f; quiets_fit = a.quiets_fit }

  -- a Quiet element more
  with_quiet : (q : Quiet) → NumbersFit q → ToldFits (tells t.notice (t.quiets ++ (q ∷ [])))
  with_quiet q f =
      record { power_fits = a.power_fits; switch_fits = a.switch_fits; quiets_fit = one_more_fits t.quiets q a.quiets_fit f }

  -- what is said with any element that fits, fits
  adds_fits : (e : Element) → ElementFits e → Yields ToldFits (adds t e)
  adds_fits (Element.Power p) f = after_check _ _ _ _ (λ once. after_all _ _ (of_value _ (with_power_lem p f)))
  adds_fits (Element.Report r) f =
      after_check _ _ _ _ (λ once. after_all _ _
      (of_value _ (record { power_fits = a.power_fits; switch_fits = a.switch_fits; quiets_fit = a.quiets_fit })))
  adds_fits (Element.Switch w) f = after_check _ _ _ _ (λ once. after_all _ _ (of_value _ (with_switch_lem w f)))
  adds_fits (Element.Quiet q) f = after_check _ _ _ _ (λ room. after_all _ _ (of_value _ (with_quiet q f)))
  adds_fits Element.Other f = of_value _ a

-- ---- a beacon or a probe response

module _ (b : ℕ) where
  -- an element more, as the body has it
  takes_fits : (id : ℕ) (c : List ℕ) (t : Told) → Octets c → ToldFits t → Yields ToldFits (takes b id c t)
  unfolding takes
  takes_fits id c t o a = after_value _ (element_means b id c) (adds t) (λ e same. adds_fits t a e (element_fits b id c o e same))

  -- all its elements say what fits
  says_fits : (n : ℕ) (es : Elements) (t : Told) → AllOctets es → ToldFits t → Yields ToldFits (says (takes b) n es t)
  unfolding says
  says_fits n end t o a = of_value ToldFits a
  says_fits n (cut_header x) t o a = of_refusal ToldFits _
  says_fits n (cut_contents id) t o a = of_refusal ToldFits _
  says_fits n (more id c es) t o a =
      after_value ToldFits (placed_at n (takes b id c t)) (says (takes b) (past_element n c) es)
      (λ next e. says_fits (past_element n c) es next o.1 (takes_fits id c t o.0 a next (placed_value n (takes b id c t) e)))

  -- and so does the body
  beacon_fits : (body : List ℕ) → Octets body → Yields ToldFits (beacon_means b body)
  unfolding beacon_means
  beacon_fits body o =
      let nothing_yet : ToldFits (opening body) = record { power_fits = tt; switch_fits = tt; quiets_fit = tt } in
      after_check _ _ _ _ (λ w. after_check _ _ _ _ (λ x. after_all _ _
      (says_fits fixed_length (elements_in (drop fixed_length body)) (opening body)
      (run_octets (drop fixed_length body) (octets_drop fixed_length body o)) nothing_yet)))

-- ---- an action frame

-- what is left after the element does not change what it said
left_fits : (n : ℕ) (hs : Handed) (w : ChannelSwitch) → CountFits w → Yields CountFits (nothing_left n hs w)
unfolding nothing_left
left_fits n Walked.end w h = of_value CountFits h
left_fits n Walked.cut_header w h = of_refusal CountFits _
left_fits n (Walked.cut_contents id) w h = of_refusal CountFits _
left_fits n (Walked.more id c hs) w h = of_refusal CountFits _
left_fits n (Walked.passed c hs) w h = left_fits (past_element n c) hs w h
left_fits n Walked.cut_passed w h = of_refusal CountFits _

-- the one announcement of a body of octets
single_fits : (n : ℕ) (es : Elements) → AllOctets es → Yields CountFits (single n 37 switch_means (handing es))
unfolding single
single_fits n es o =
    after_value _ (placed_at n (required 37 (handing es))) _
    (λ s e. after_value _ (placed_at n (switch_means s.contents)) _
    (λ w f. left_fits (past_element n s.contents) s.rest w
    (switch_read_fits s.contents (required_octets 37 es o s (placed_value n (required 37 (handing es)) e)) w
    (placed_value n (switch_means s.contents) f))))

-- what an action body says fits
BodyFits : Body → Type 0
BodyFits body = KindFits (action body)

-- what follows the fixed fields
after_fits : (body : List ℕ) → Octets body → (o : Opening) → Yields BodyFits (after_opening body o)
unfolding BodyFits
after_fits body octets Opening.Switch =
    let rest = drop switch_fixed_fields body in
    after_value BodyFits (single switch_fixed_fields 37 switch_means (handed_in rest)) _
    (λ w e. of_value BodyFits
    (single_fits switch_fixed_fields (elements_in rest) (run_octets rest (octets_drop switch_fixed_fields body octets)) w e))
after_fits body octets (Opening.Token k token) =
    let rest = drop fixed_fields body in
    either_way_lem BodyFits (eqb k 0) _ _ (after_value BodyFits (measurements_in request_sort rest) _ (λ rs e. of_value BodyFits tt))
    (either_way_lem BodyFits (eqb k 1) _ _ (after_value BodyFits (measurements_in report_sort rest) _ (λ rs e. of_value BodyFits tt))
    (either_way_lem BodyFits (eqb k 2) _ _ (after_value BodyFits (single fixed_fields 34 tpc_request_means (handed_in rest)) _ (λ u e. of_value BodyFits tt))
    (after_value BodyFits (single fixed_fields 35 tpc_report_means (handed_in rest)) _ (λ t e. of_value BodyFits tt))))

-- and so all of an action body of octets
body_fits : (body : List ℕ) → Octets body → Yields BodyFits (action_means body)
unfolding action_means
body_fits body octets = after_value BodyFits (opens_with body) (after_opening body) (λ o e. after_fits body octets o)

-- ---- any frame

-- the body of each kind
kind_fits : (b : ℕ) (s : Subtype) (body : List ℕ) → Octets body → Yields KindFits (kind_of b s body)
unfolding BodyFits
kind_fits b Subtype.Beacon body o = after_value KindFits (beacon_means b body) _ (λ t e. of_value KindFits (beacon_fits b body o t e))
kind_fits b Subtype.ProbeResponse body o = after_value KindFits (beacon_means b body) _ (λ t e. of_value KindFits (beacon_fits b body o t e))
kind_fits b Subtype.Action body o = after_value KindFits (action_means body) _ (λ a e. of_value KindFits (body_fits body o a e))

-- what was sent fits, to whomever
abbrev SentFits : Sent → Type 0
SentFits x = KindFits x.kind

-- what a frame of octets says that is accepted, fits
pub frame_fits : (own ap' : List ℕ) (b : ℕ) (f : List ℕ) → Octets f → Yields SentFits (frame_means own ap' b f)
unfolding frame_means
frame_fits own ap' b f o =
    after_value SentFits (nowhere (header_means Cell.Ap own ap' f)) _
    (λ h e. after_value SentFits (placed_past header_length (kind_of b h.subtype (body_of f))) _
    (λ k g. of_value SentFits
    (kind_fits b h.subtype (body_of f) (octets_drop header_length f o) k (past_value header_length (kind_of b h.subtype (body_of f)) g))))
