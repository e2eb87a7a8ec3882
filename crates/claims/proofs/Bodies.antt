-- Demand 2 for the five action bodies, and for any number of measurement elements in them: each body that may be written reads back
-- the same, and each accepted body with nothing uninterpreted and no reserved bit set is written back octet for octet.
-- `action_bodies` says it of octets and records, whatever their length; the laws that it cites say it of the calls that write, and of
-- frames: the calls write at most `longest_body` octets, and no accepted frame has a longer body. Assumes nothing.
use Rattle.std.specs.Prelude.{Ok}
use mathlib.Core.Bool.{Bool, true, false, not}
use mathlib.Core.List.{List}
use mathlib.Core.Path.{◌≡◌, refl, sym, ap, ap₂, subst, ◌∙◌}
use Prim.Native.Nat.{ℕ, ◌≤◌}
use native.Mathlib.Omega.{arith}
use lib.Dec.{eqb}
use lib.ListN.{length, take, length-drop, take-append-drop}
use Rattle.single_body.specs.Singles.{tpc_request_body, tpc_report_body, switch_body}
use Rattle.answer.proofs.Booleans.{both}
use Rattle.answer.proofs.Judged.{passed, kept, followed}
use Rattle.answer.specs.Checks.{Outcome}
use Rattle.answer.specs.Faults.{nowhere, placed_past}
use Rattle.answer.proofs.Placing.{nowhere_value, past_value}
use Rattle.beacon.specs.Beacons.{beacon_means}
use Rattle.element.specs.ChannelSwitch.{switch_octets}
use Rattle.octets.specs.Elements.{RoundTrip}
use Rattle.element.specs.TpcReport.{tpc_report_octets}
use Rattle.frame.proofs.ActionTrip.{action_trip}
use Rattle.frame.specs.Actions.{Body, requests, reports, tpc_request, tpc_report, switch, action_means, action_octets, action_may, ActionFits, action_interpreted, action_clear}
use Rattle.frame.specs.Frames.{action, Sent, kind_of, frame_means}
use Rattle.header.specs.Headers.{body_of, header_length, subtype, subtype_of, to_all, foreign_header, foreign_address, header_means}
use Rattle.header.proofs.Heard.{not_too_long, heard_as}
use Rattle.header.specs.declared.address.Cell.{Cell}
use Rattle.header.specs.declared.management.Subtype.{Subtype}
use Rattle.measurement_body.proofs.NeverLonger.{never_longer}
use Rattle.walk.proofs.RunLaws.{octets_after}
use Rattle.measurement_body.specs.Bodies.{longest_body}
use Rattle.measurement_body.specs.Lists.{may_list}
use Rattle.measurement_body.specs.Reports.{report_sort}
use Rattle.measurement_body.specs.Requests.{request_sort}
use Rattle.measurement_body.specs.declared.kinds.Kind.{Kind}
use Rattle.octets.specs.Numbers.{Octets}
use Rattle.octets.specs.Writing.{room, wrote}
use Rattle.octets.proofs.Storing.{room_answer, front_left}
use Rattle.claims.specs.BodyCalls.{once, body_calls, holding}
-- a measurement body of any number of elements is written by one call for each: where it is not too long and the buffer has room
-- every call is accepted, and the buffer then begins with the body's octets; a run that was read is written back
pub use Rattle.measurement_body.proofs.MeasurementLists.{measurements_append_all, measurements_append_back}

pub action_bodies : RoundTrip action_means action_octets action_may ActionFits action_interpreted action_clear
action_bodies = action_trip

-- ---- by the calls

called_once : (may : Bool) (os buffer : List ℕ) → may ≡ true → length os ≤ length buffer → once may os buffer ≡ holding os buffer
called_once may os buffer e room =
    ap (λ (m : Bool). once m os buffer) e
    ∙ ap₂ (λ (o : Outcome ℕ) (r : List ℕ). record { used = o; octets = r }) (room_answer os 0 buffer (omega arith)) (front_left os buffer room)

-- each body that may be written, and is not too long, is written where the buffer has room
pub body_written : (body : Body) (buffer : List ℕ) → ActionFits body → action_may body ≡ true → length (action_octets body) ≤ longest_body
    → length (action_octets body) ≤ length buffer → body_calls body buffer ≡ holding (action_octets body) buffer
unfolding body_calls ActionFits action_may action_octets
body_written (requests token rs) buffer f m short room =
    let p = both (not (eqb token 0)) (may_list request_sort rs) m in
    measurements_append_all Kind.Requests token p.0 buffer rs f p.1 short room
body_written (reports token rs) buffer f m short room = measurements_append_all Kind.Reports token refl buffer rs f m short room
body_written (tpc_request token) buffer f m short room = called_once _ _ buffer m room
body_written (tpc_report token t) buffer f m short room = called_once _ _ buffer refl room
body_written (switch s) buffer f m short room = called_once _ _ buffer m room

one_call : (may : Bool) (os buffer : List ℕ) (n : ℕ) → wrote may os 0 buffer ≡ Ok n → length os ≡ n
unfolding wrote room
one_call may os buffer n e = kept _ (passed _ _ _ (passed _ _ _ e).1).1

-- and no calls write one that is too long for any frame
pub body_never_longer : (body : Body) (buffer : List ℕ) (n : ℕ) → (body_calls body buffer).used ≡ Ok n → n ≤ longest_body
unfolding body_calls tpc_report_octets switch_octets
body_never_longer (requests token rs) buffer n e = never_longer request_sort token rs 0 buffer n (omega arith) e
body_never_longer (reports token rs) buffer n e = never_longer report_sort token rs 0 buffer n (omega arith) e
body_never_longer (tpc_request token) buffer n e = omega (arith, one_call _ (tpc_request_body token) buffer n e)
body_never_longer (tpc_report token t) buffer n e = omega (arith, one_call _ (tpc_report_body token t) buffer n e)
body_never_longer (switch s) buffer n e = omega (arith, one_call _ (switch_body s) buffer n e)

-- each accepted body with nothing uninterpreted and no reserved bit set is written back, where it is not too long for any frame
pub body_written_back : (c : List ℕ) (body : Body) (buffer : List ℕ) → Octets c → action_means c ≡ Ok body → action_interpreted body ≡ true
    → action_clear c ≡ true → length c ≤ longest_body → length c ≤ length buffer → body_calls body buffer ≡ holding c buffer
body_written_back c body buffer o e i k short room =
    let b = action_trip.back c body o e i k in
    let size = ap length b.1 in
    body_written body buffer (action_trip.fits c body o e) b.0 (omega arith) (omega arith) ∙ ap (λ (os : List ℕ). holding os buffer) b.1

-- ---- of frames

module _ (own ap' : List ℕ) (b : ℕ) (f : List ℕ) where
  -- the body of an accepted frame is never too long
  pub accepted_short : (x : Sent) → frame_means own ap' b f ≡ Ok x → length (body_of f) ≤ longest_body
  unfolding frame_means
  accepted_short x e =
      let h = followed (nowhere (header_means Cell.Ap own ap' f)) _ x e in
      omega (arith, not_too_long Cell.Ap own ap' f h.0 (nowhere_value (header_means Cell.Ap own ap' f) h.1), length-drop header_length f)

  -- what an accepted action frame says is what its body means
  body_means_lem : (s : Subtype) (body : Body) → kind_of b s (body_of f) ≡ Ok (action body) → action_means (body_of f) ≡ Ok body
  body_means_lem Subtype.Beacon body e =
      let t = followed (beacon_means b (body_of f)) _ _ e in
      absurd (let z : ◌≡◌ {A = ℕ} 0 1 = cc t.2 in omega arith)
  body_means_lem Subtype.ProbeResponse body e =
      let t = followed (beacon_means b (body_of f)) _ _ e in
      absurd (let z : ◌≡◌ {A = ℕ} 0 1 = cc t.2 in omega arith)
  body_means_lem Subtype.Action body e =
      let t = followed (action_means (body_of f)) _ _ e in
      t.1 ∙ ap Ok (let same : t.0 ≡ body = cc t.2 in same)

  kind_means_lem : (x : Sent) → frame_means own ap' b f ≡ Ok x → (s : Subtype) × (kind_of b s (body_of f) ≡ Ok x.kind)
  unfolding frame_means
  kind_means_lem x e =
      let h = followed (nowhere (header_means Cell.Ap own ap' f)) _ x e in
      let k = followed (placed_past header_length (kind_of b h.0.subtype (body_of f))) _ x h.2 in
      let same : record { to_all = h.0.to_all; kind = k.0 } ≡ x = cc k.2 in
      (h.0.subtype, past_value header_length (kind_of b h.0.subtype (body_of f)) k.1 ∙ ap (λ (y : Sent). Ok y.kind) same)

  -- so the body of each accepted action frame with nothing uninterpreted and no reserved bit set is written back
  pub frame_written_back : (x : Sent) (body : Body) (buffer : List ℕ) → Octets f → frame_means own ap' b f ≡ Ok x → x.kind ≡ action body
      → action_interpreted body ≡ true → action_clear (body_of f) ≡ true → length (body_of f) ≤ length buffer
      → body_calls body buffer ≡ holding (body_of f) buffer
  frame_written_back x body buffer o e k i c room =
      let m = kind_means_lem x e in
      body_written_back (body_of f) body buffer (octets_after (take header_length f) (body_of f) (subst Octets (sym (take-append-drop header_length f)) o))
      (body_means_lem m.0 body (m.1 ∙ ap Ok k)) i c (accepted_short x e) room

  -- and after a header that is not refused, each body that may be written, and is not too long, reads back the same
  pub frame_read_back : (body : Body) → ActionFits body → action_may body ≡ true → length (action_octets body) ≤ longest_body
      → header_length ≤ length f → foreign_header f ≡ false → foreign_address Cell.Ap own ap' f ≡ false → subtype_of (subtype f) ≡ Subtype.Action
      → body_of f ≡ action_octets body → frame_means own ap' b f ≡ Ok (record { to_all = to_all f; kind = action body })
  unfolding frame_means
  frame_read_back body fits m short long h a s e =
      let size = ap length e in
      let head = heard_as Cell.Ap own ap' f Subtype.Action (to_all f) long (omega (arith, length-drop header_length f)) h a s refl in
      rw (head, e, action_trip.there body fits m)
