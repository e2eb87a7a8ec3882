-- A fault of a body, or of a frame, lies in it or at its end. Assumes nothing.
use Rattle.std.specs.Prelude.{Ok, Err, Some, None, Option, IfOk, IfErr}
use mathlib.Core.Path.{◌≡◌, refl, sym, ap, subst}
use mathlib.Core.Bool.{Bool, true, false}
use mathlib.Core.List.{List}
use Prim.Native.Nat.{ℕ, ◌+◌, ◌≤◌}
use native.Mathlib.Omega.{arith}
use lib.ListN.{length, length-drop}
use Rattle.answer.proofs.Placing.{nowhere_value}
use Rattle.answer.proofs.Refusing.{Refuses, by_value, by_refusal, by_then}
use Rattle.answer.specs.Checks.{Outcome, and_then}
use Rattle.answer.specs.Faults.{Placed, nowhere, offset_past, placed_past}
use Rattle.answer.specs.declared.Fault.{Fault}
use Rattle.beacon.specs.Beacons.{beacon_means}
use Rattle.beacon.specs.IbssBeacons.{ToldInIbss, ibss_beacon_means, told_where}
use Rattle.beacon.specs.Laid.{laid}
use Rattle.beacon.specs.declared.Heard.{Heard}
use Rattle.header.proofs.Heard.{has_header, not_too_long}
use Rattle.header.specs.Headers.{header_length, body_of, sa, header_means}
use Rattle.header.specs.declared.Head.{Head}
use Rattle.header.specs.declared.address.Cell.{Cell}
use Rattle.header.specs.declared.management.Subtype.{Subtype}
use Rattle.measurement_body.specs.Bodies.{longest_body}
use Rattle.frame.specs.Actions.{Body, action_means}
use Rattle.frame.specs.CodeTerms.Located.{OffsetWithin, located}
use Rattle.frame.specs.declared.bodies.Located.{Located}
use Rattle.frame.specs.Frames.{kind_of, frame_means}
use Rattle.frame.specs.IbssFrames.{kind_in_ibss, ibss_frame_means}
use Rattle.frame.proofs.BodyFaults.{action_faults, NoticeFaults, notice_faults, ibss_notice_faults}

-- no further than so many octets
abbrev pub Lies : ℕ → Fault → Type 0
Lies size x = OffsetWithin size x.offset

-- of a body that has no more
module _ {size : ℕ} (body : List ℕ) (h : length body ≤ size) where
  notice_may : NoticeFaults (Lies size) (length body)
  notice_may =
      record {
        short = tt;
        interval = λ k. omega arith;
        cut = λ n k. omega arith;
        long = λ n k. omega arith;
        value = λ n k. omega arith;
        repeat = λ n k. omega arith;
        many = λ n k. omega arith;
      }

  notice_lies : (b : ℕ) → Refuses (Lies size) (beacon_means b body)
  notice_lies b = notice_faults (Lies size) b body notice_may

  told_lies : (ibss : Bool) (b : ℕ) → Refuses (Lies size) (told_where ibss b body)
  told_lies true b = ibss_notice_faults (Lies size) b body notice_may
  told_lies false b = by_then (Lies size) (beacon_means b body) _ (notice_lies b) (λ t e. by_value (Lies size) _)

  -- as `beacon::read` hands it out
  pub heard_within : (ibss : Bool) (b i : ℕ) {o : Placed Heard} → o ≡ laid i (told_where ibss b body) → IfErr o (Lies size)
  heard_within ibss b i e = subst (λ (o : Placed Heard). IfErr o (Lies size)) (sym e) (by (told_where ibss b body) (told_lies ibss b))
    where
      by : (o : Placed ToldInIbss) → Refuses (Lies size) o → IfErr (laid i o) (Lies size)
      by (Err x) h = h x refl
      by (Ok t) h = tt

  action_lies : Refuses (Lies size) (action_means body)
  action_lies =
      action_faults (Lies size) body
      (record {
        short = tt;
        category = λ k. omega arith;
        action = λ k. omega arith;
        token = λ k. omega arith;
        elements =
            record {
              cut = λ n k. omega arith;
              absent = h;
              other = λ n k. omega arith;
              long = λ n k. omega arith;
              value = λ n k. omega arith;
              repeat = λ n k. omega arith;
              over = λ n k. omega arith;
            };
      })

  -- as `read_at` hands it out
  pub located_within : (i : ℕ) {o : Placed Located} → o ≡ located i body (action_means body) → IfErr o (Lies size)
  located_within i e = subst (λ (o : Placed Located). IfErr o (Lies size)) (sym e) (by (action_means body) action_lies)
    where
      by : (o : Placed Body) → Refuses (Lies size) o → IfErr (located i body o) (Lies size)
      by (Err x) h = h x refl
      by (Ok b) h = tt

-- the body of a frame with a header that is heard is no longer than the longest
pub body_short : (cell : Cell) (own bss f : List ℕ) (h : Head) → Ok h ≡ header_means cell own bss f → {body : List ℕ} → body ≡ body_of f → length body ≤ longest_body
body_short cell own bss f h e {body} g =
    omega (arith, ap length g, length-drop header_length f, has_header cell own bss f h (sym e), not_too_long cell own bss f h (sym e))

pub head_short : (cell : Cell) (own bss f : List ℕ) {o : Placed Head} → o ≡ nowhere (header_means cell own bss f) → IfOk o (λ h. length (body_of f) ≤ longest_body)
head_short cell own bss f {o} e = by o e
  where
    by : (o : Placed Head) → o ≡ nowhere (header_means cell own bss f) → IfOk o (λ h. length (body_of f) ≤ longest_body)
    by (Err x) g = tt
    by (Ok h) g = body_short cell own bss f h (sym (nowhere_value (header_means cell own bss f) (sym g))) refl

-- ---- a frame's

-- with so many octets more before it
past_within : (n size : ℕ) (o : Option ℕ) → OffsetWithin size o → OffsetWithin (n + size) (offset_past n o)
past_within n size None h = tt
past_within n size (Some m) h = omega arith

past_lies : {A : Type 0} (n size : ℕ) (o : Placed A) → Refuses (Lies size) o → Refuses (Lies (n + size)) (placed_past n o)
past_lies n size (Err x) h = by_refusal _ (past_within n size x.offset (h x refl))
past_lies n size (Ok a) h = by_value _ a

nowhere_lies : {A : Type 0} (size : ℕ) (o : Outcome A) → Refuses (Lies size) (nowhere o)
nowhere_lies size (Err r) = by_refusal _ tt
nowhere_lies size (Ok a) = by_value _ a

kind_lies : (b : ℕ) (s : Subtype) (body : List ℕ) → Refuses (Lies (length body)) (kind_of b s body)
kind_lies b Subtype.Beacon body = by_then _ (beacon_means b body) _ (notice_lies body (omega arith) b) (λ t e. by_value _ _)
kind_lies b Subtype.ProbeResponse body = by_then _ (beacon_means b body) _ (notice_lies body (omega arith) b) (λ t e. by_value _ _)
kind_lies b Subtype.Action body = by_then _ (action_means body) _ (action_lies body (omega arith)) (λ a e. by_value _ _)

-- as a station of an IBSS reads it
ibss_kind_lies : (b : ℕ) (s : Subtype) (body : List ℕ) → Refuses (Lies (length body)) (kind_in_ibss b s body)
ibss_kind_lies b Subtype.Beacon body = by_then _ (ibss_beacon_means b body) _ (told_lies body (omega arith) true b) (λ t e. by_value _ _)
ibss_kind_lies b Subtype.ProbeResponse body = by_then _ (kind_of b Subtype.ProbeResponse body) _ (kind_lies b Subtype.ProbeResponse body) (λ k e. by_value _ _)
ibss_kind_lies b Subtype.Action body = by_then _ (kind_of b Subtype.Action body) _ (kind_lies b Subtype.Action body) (λ k e. by_value _ _)

-- a body of any kind after a header
module _ {K A : Type 0} (cell : Cell) (own bss f : List ℕ) (kind : Subtype → Placed K) (make : Head → K → A) where
  framed_lies : ((s : Subtype) → Refuses (Lies (length (body_of f))) (kind s))
      → Refuses (Lies (length f)) (and_then (nowhere (header_means cell own bss f)) (λ h. and_then (placed_past header_length (kind h.subtype)) (λ k. Ok (make h k))))
  framed_lies lies =
      by_then (Lies (length f)) (nowhere (header_means cell own bss f)) _ (nowhere_lies (length f) (header_means cell own bss f))
      (λ h e.
      let body = body_of f in
      let long : header_length + length body ≡ length f = omega (arith, length-drop header_length f, has_header cell own bss f h (nowhere_value (header_means cell own bss f) e)) in
      let placed : Refuses (Lies (length f)) (placed_past header_length (kind h.subtype)) =
      subst (λ (n : ℕ). Refuses (Lies n) (placed_past header_length (kind h.subtype))) long (past_lies header_length (length body) (kind h.subtype) (lies h.subtype))
      in
      by_then (Lies (length f)) (placed_past header_length (kind h.subtype)) _ placed (λ k g. by_value (Lies (length f)) _))

pub frame_within : (own ap' : List ℕ) (b : ℕ) (f : List ℕ) (x : Fault) → frame_means own ap' b f ≡ Err x → OffsetWithin (length f) x.offset
unfolding frame_means
frame_within own ap' b f =
    framed_lies Cell.Ap own ap' f (λ s. kind_of b s (body_of f)) (λ h k. record { to_all = h.to_all; kind = k }) (λ s. kind_lies b s (body_of f))

pub ibss_frame_within : (own bss : List ℕ) (b : ℕ) (f : List ℕ) (x : Fault) → ibss_frame_means own bss b f ≡ Err x → OffsetWithin (length f) x.offset
unfolding ibss_frame_means
ibss_frame_within own bss b f =
    framed_lies Cell.Ibss own bss f (λ s. kind_in_ibss b s (body_of f)) (λ h k. record { sender = sa f; sent = record { to_all = h.to_all; kind = k.kind }; dfs = k.dfs })
    (λ s. ibss_kind_lies b s (body_of f))
