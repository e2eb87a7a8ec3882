-- From what a frame's readers answer to what is owed. Assumes nothing.
use Rattle.std.specs.Prelude.{Ok, Err}
use mathlib.Core.Bool.{Bool, true, false, ◌&&◌}
use mathlib.Core.List.{List}
use mathlib.Core.Path.{◌≡◌, refl, sym, ap, subst, ◌∙◌}
use Prim.Native.Nat.{ℕ, ◌≤◌}
use native.Mathlib.Omega.{arith}
use lib.ListN.{length, length-drop}
use Rattle.answer.proofs.Booleans.{both, and_go}
use Rattle.answer.proofs.Judged.{never, followed}
use Rattle.answer.specs.Checks.{Outcome, pick}
use Rattle.answer.specs.Faults.{Placed}
use Rattle.answer.specs.Numbers.{number_of}
use Rattle.answer.specs.declared.Fault.{Fault}
use Rattle.answer.specs.declared.Refusal.{Refusal}
use Rattle.frame.proofs.BodyFaults.{action_faults}
use Rattle.frame.specs.Actions.{Body, requests, reports, tpc_request, tpc_report, switch, action_means}
use Rattle.frame.specs.CodeTerms.Located.{asked_of}
use Rattle.frame.specs.declared.Frame.{Frame}
use Rattle.frame.specs.declared.index.Asked.{Asked}
use Rattle.measurement_body.specs.Bodies.{longest_body}
use Rattle.measurement_element.specs.declared.measurement_request.Request.{Request}
use Rattle.header.specs.Headers.{body_of, header_length, header_means}
use Rattle.header.proofs.Heard.{not_too_long}
use Rattle.header.specs.declared.address.Cell.{Cell}
use Rattle.header.specs.declared.management.Subtype.{Subtype}
use Rattle.reply.specs.CodeTerms.Asked.{due_of}
use Rattle.reply.specs.Due.{asks, breaks, is_returned, has_category, or_return, by_subtype, after_header, due_in}
use Rattle.reply.specs.declared.due.Due.{Due}

-- ---- a broken body

-- whatever breaks an action body is among the numbers that are returned
pub action_returned : (body : List ℕ) (x : Fault) → action_means body ≡ Err x → is_returned (number_of x.refusal) ≡ true
action_returned body =
    action_faults (λ (x : Fault). is_returned (number_of x.refusal) ≡ true) body
    (record {
      short = refl;
      category = λ h. refl;
      action = λ h. refl;
      token = λ h. refl;
      elements =
          record {
            cut = λ n h. refl;
            absent = refl;
            other = λ n h. refl;
            long = λ n h. refl;
            value = λ n h. refl;
            repeat = λ n h. refl;
            over = λ n h. refl;
          };
    })

-- ---- a body, by what is read of it

-- what each kind of frame is due; `request` is its element at the index
abbrev frame_due : Outcome Request → Frame → Outcome Due
frame_due request (Frame.Beacon n) = Err Refusal.NoReplyDue
frame_due request (Frame.ProbeResponse n) = Err Refusal.NoReplyDue
frame_due request (Frame.MeasurementRequest token count) = Ok (Due.Measurement token request)
frame_due request (Frame.MeasurementReport token count) = Err Refusal.NoReplyDue
frame_due request (Frame.TpcRequest token) = Ok (Due.Tpc token)
frame_due request (Frame.TpcReport token report) = Err Refusal.NoReplyDue
frame_due request (Frame.ChannelSwitch w) = Err Refusal.NoReplyDue

module _ (i : ℕ) (body : List ℕ) where
  -- a broken one is owed back where its category is free
  abbrev pub read_due : Placed Asked → Outcome Due
  read_due (Err x) = pick (has_category body) (Ok Due.Broken) (Err Refusal.NoReplyDue)
  read_due (Ok a) = frame_due a.request a.frame

  pub owing : {o : Placed Asked} → o ≡ asked_of i (action_means body) → read_due o ≡ due_of i (or_return body (action_means body))
  owing e = ap read_due e ∙ by (action_means body) refl
    where
      by_category : (t : Bool) → pick t (Ok Due.Broken) (Err Refusal.NoReplyDue) ≡ due_of i (pick t (Ok (breaks body)) (Err Refusal.NoReplyDue))
      by_category true = refl
      by_category false = refl

      by : (o : Placed Body) → action_means body ≡ o → read_due (asked_of i o) ≡ due_of i (or_return body o)
      by (Err x) g =
          by_category (has_category body)
          ∙ ap (λ (t : Bool). due_of i (pick t (Ok (breaks body)) (Err Refusal.NoReplyDue))) (sym (and_go (is_returned (number_of x.refusal)) (action_returned body x g)))
      by (Ok (requests token rs)) g = refl
      by (Ok (reports token rs)) g = refl
      by (Ok (tpc_request token)) g = refl
      by (Ok (tpc_report token t)) g = refl
      by (Ok (switch w)) g = refl

  pub back_due : {x : Fault} → Err x ≡ asked_of i (action_means body) → has_category body ≡ true → Ok Due.Broken ≡ due_of i (or_return body (action_means body))
  back_due e free = sym (ap (λ (t : Bool). let o : Outcome Due = pick t (Ok Due.Broken) (Err Refusal.NoReplyDue) in o) free) ∙ owing e

-- ---- a body that is owed back is the frame's own

-- the frame is an action frame to the station, and its body is broken; it has a category under 128, and is no longer than a body may be
pub record Returned (cell : Cell) (own bss f body : List ℕ) : Type 0 where
  pub head : header_means cell own bss f ≡ Ok (record { subtype = Subtype.Action; to_all = false })
  pub fault : Fault
  pub breaks_it : action_means (body_of f) ≡ Err fault
  pub free : has_category (body_of f) ≡ true
  pub own_body : body ≡ body_of f
  pub short : length (body_of f) ≤ longest_body

module _ (cell : Cell) (own bss f : List ℕ) where
  module _ (body : List ℕ) where
    by_test_lem : (t : Bool) → pick t (Ok (breaks (body_of f))) (Err Refusal.NoReplyDue) ≡ Ok (breaks body) → (t ≡ true) × (body ≡ body_of f)
    by_test_lem true e = (refl, (let k : breaks (body_of f) ≡ breaks body = cc in let g : body ≡ body_of f = cc in g))
    by_test_lem false e = absurd (never e)

    by_outcome : header_means cell own bss f ≡ Ok (record { subtype = Subtype.Action; to_all = false }) → (o : Placed Body) → action_means (body_of f) ≡ o
        → or_return (body_of f) o ≡ Ok (breaks body) → Returned cell own bss f body
    by_outcome h (Err x) a e =
        let p = by_test_lem (is_returned (number_of x.refusal) && has_category (body_of f)) e in
        record {
          head = h;
          fault = x;
          breaks_it = a;
          free = (both (is_returned (number_of x.refusal)) (has_category (body_of f)) p.0).1;
          own_body = p.1;
          short = omega (arith, length-drop header_length f, not_too_long cell own bss f _ h);
        }
    by_outcome h (Ok b) a e = absurd (let k : asks b ≡ breaks body = cc in let z : ◌≡◌ {A = ℕ} 0 1 = cc in omega arith)

    by_head : (s : Subtype) (t : Bool) → header_means cell own bss f ≡ Ok (record { subtype = s; to_all = t })
        → pick t (Err Refusal.NoReplyDue) (by_subtype s (body_of f)) ≡ Ok (breaks body) → Returned cell own bss f body
    by_head s true h e = absurd (never e)
    by_head Subtype.Beacon false h e = absurd (never e)
    by_head Subtype.ProbeResponse false h e = absurd (never e)
    by_head Subtype.Action false h e = by_outcome h (action_means (body_of f)) refl e

  module _ {body : List ℕ} (e : due_in cell own bss f ≡ Ok (breaks body)) where
    pub returned : Returned cell own bss f body
    unfolding due_in
    returned =
        let p = followed (header_means cell own bss f) (after_header f) (breaks body) e in
        by_head body p.0.subtype p.0.to_all p.1 p.2

    -- the body as it is lent
    pub may_return : {lent : List ℕ} → lent ≡ body_of f → (length lent ≤ longest_body) × (has_category lent ≡ true)
    may_return k = (subst (λ (x : List ℕ). length x ≤ longest_body) (sym k) returned.short, subst (λ (x : List ℕ). has_category x ≡ true) (sym k) returned.free)
