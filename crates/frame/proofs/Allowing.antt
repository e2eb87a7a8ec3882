-- An accepted frame says nothing that is not allowed. Assumes nothing.
use Rattle.std.specs.Prelude.{Ok, Err}
use mathlib.Core.Bool.{false}
use mathlib.Core.List.{List}
use mathlib.Core.Path.{◌≡◌, refl, sym, subst}
use Prim.Native.Nat.{ℕ}
use lib.Dec.{eqb}
use lib.ListN.{drop}
use lib.Seq.{take_at}
use Rattle.action.specs.Openings.{fixed_fields, switch_fixed_fields, opens_with}
use Rattle.action.specs.declared.Opening.{Opening}
use Rattle.single_body.specs.Singles.{single}
use Rattle.answer.proofs.Yielding.{Yields, of_refusal, of_value, either_way_lem, after_value}
use Rattle.answer.proofs.Placing.{placed_value, past_value}
use Rattle.answer.specs.Faults.{Placed, placed_at, nowhere, placed_past}
use Rattle.beacon.proofs.Allowing.{switch_allowed, beacon_allowed}
use Rattle.beacon.specs.Beacons.{beacon_means}
use Rattle.element.specs.ChannelSwitch.{switch_means, switch_forbids}
use Rattle.element.specs.TpcReport.{tpc_report_means}
use Rattle.element.specs.TpcRequest.{tpc_request_means}
use Rattle.element.specs.declared.channel_switch.ChannelSwitch.{ChannelSwitch}
use Rattle.header.specs.Headers.{header_length, body_of, header_means}
use Rattle.header.specs.declared.address.Cell.{Cell}
use Rattle.header.specs.declared.management.Subtype.{Subtype}
use Rattle.measurement_body.specs.Lists.{measurements_in}
use Rattle.measurement_body.specs.Reports.{report_sort}
use Rattle.measurement_body.specs.Requests.{request_sort}
use Rattle.walk.specs.Elements.{past_element}
use Rattle.walk.specs.Handed.{Handed, end, cut_header, cut_contents, more, passed, cut_passed, handed_in}
use Rattle.walk.specs.Required.{required, nothing_left}
use Rattle.frame.specs.Actions.{Body, after_opening, action_means}
use Rattle.frame.specs.Allowed.{FrameAllowed, KindAllowed, ReceivedAllowed}
use Rattle.frame.specs.Frames.{action, Sent, kind_of, frame_means}
use Rattle.frame.specs.Laid.{frame_of, quiets_of, frame_laid}

-- ---- the body of an announcement

Allowed-switch : ChannelSwitch → Type 0
Allowed-switch w = switch_forbids w ≡ false

left_allowed : (n : ℕ) (hs : Handed) (w : ChannelSwitch) → Allowed-switch w → Yields Allowed-switch (nothing_left n hs w)
unfolding nothing_left
left_allowed n end w h = of_value Allowed-switch h
left_allowed n cut_header w h = of_refusal Allowed-switch _
left_allowed n (cut_contents id) w h = of_refusal Allowed-switch _
left_allowed n (more id c hs) w h = of_refusal Allowed-switch _
left_allowed n (passed c hs) w h = left_allowed (past_element n c) hs w h
left_allowed n cut_passed w h = of_refusal Allowed-switch _

single_allowed : (n : ℕ) (hs : Handed) → Yields Allowed-switch (single n 37 switch_means hs)
unfolding single Allowed-switch
single_allowed n hs =
    after_value _ (placed_at n (required 37 hs)) _
    (λ s e. after_value _ (placed_at n (switch_means s.contents)) _
    (λ w f. left_allowed (past_element n s.contents) s.rest w (switch_allowed s.contents w (placed_value n (switch_means s.contents) f))))

-- ---- any body, and any frame

module _ (b : ℕ) where
  BodyAllowed : Body → Type 0
  BodyAllowed body = KindAllowed b (action body)

  after_allowed : (body : List ℕ) (o : Opening) → Yields BodyAllowed (after_opening body o)
  unfolding Allowed-switch BodyAllowed
  after_allowed body Opening.Switch =
      after_value BodyAllowed (single switch_fixed_fields 37 switch_means (handed_in (drop switch_fixed_fields body))) _ (λ w e. of_value BodyAllowed (single_allowed switch_fixed_fields (handed_in (drop switch_fixed_fields body)) w e))
  after_allowed body (Opening.Token k token) =
      either_way_lem BodyAllowed (eqb k 0) _ _ (after_value BodyAllowed (measurements_in request_sort (drop fixed_fields body)) _ (λ rs e. of_value BodyAllowed tt))
      (either_way_lem BodyAllowed (eqb k 1) _ _ (after_value BodyAllowed (measurements_in report_sort (drop fixed_fields body)) _ (λ rs e. of_value BodyAllowed tt))
      (either_way_lem BodyAllowed (eqb k 2) _ _ (after_value BodyAllowed (single fixed_fields 34 tpc_request_means (handed_in (drop fixed_fields body))) _ (λ u e. of_value BodyAllowed tt))
      (after_value BodyAllowed (single fixed_fields 35 tpc_report_means (handed_in (drop fixed_fields body))) _ (λ t e. of_value BodyAllowed tt))))

  body_allowed : (body : List ℕ) → Yields BodyAllowed (action_means body)
  unfolding action_means
  body_allowed body = after_value BodyAllowed (opens_with body) (after_opening body) (λ o e. after_allowed body o)

  pub kind_allowed : (s : Subtype) (body : List ℕ) → Yields (KindAllowed b) (kind_of b s body)
  unfolding BodyAllowed
  kind_allowed Subtype.Beacon body = after_value (KindAllowed b) (beacon_means b body) _ (λ t e. of_value (KindAllowed b) (beacon_allowed b body t e))
  kind_allowed Subtype.ProbeResponse body = after_value (KindAllowed b) (beacon_means b body) _ (λ t e. of_value (KindAllowed b) (beacon_allowed b body t e))
  kind_allowed Subtype.Action body = after_value (KindAllowed b) (action_means body) _ (λ a e. of_value (KindAllowed b) (body_allowed body a e))

  pub frame_allowed : (own ap' f : List ℕ) (x : Sent) → frame_means own ap' b f ≡ Ok x → KindAllowed b x.kind
  unfolding frame_means
  frame_allowed own ap' f =
      after_value (λ (x : Sent). KindAllowed b x.kind) (nowhere (header_means Cell.Ap own ap' f)) _
      (λ h e. after_value (λ (x : Sent). KindAllowed b x.kind) (placed_past header_length (kind_of b h.subtype (body_of f))) _
      (λ k g. of_value (λ (x : Sent). KindAllowed b x.kind) (kind_allowed h.subtype (body_of f) k (past_value header_length (kind_of b h.subtype (body_of f)) g))))

  pub received_allowed : (o : Placed Sent) → ((x : Sent) → o ≡ Ok x → KindAllowed b x.kind) → ReceivedAllowed b (frame_laid o)
  received_allowed (Err r) h = tt
  received_allowed (Ok x) h =
      subst (FrameAllowed b (frame_of x.kind)) (sym (take_at (quiets_of x.kind) _ _ refl)) (h x refl)

  -- what `read` hands out says nothing that is not allowed
  pub read_allowed : (own ap' f : List ℕ) → ReceivedAllowed b (frame_laid (frame_means own ap' b f))
  read_allowed own ap' f = received_allowed (frame_means own ap' b f) (frame_allowed own ap' f)
