-- The lines of plain records, one after the other. Assumes nothing.
use Rattle.std.specs.Prelude.{Ok, Err, Some, None, Option}
use mathlib.Core.Bool.{Bool, true, false, not, ◌||◌, ◌&&◌}
use mathlib.Core.List.{List, [], ◌++◌, append-nil}
use mathlib.Core.Path.{◌≡◌, refl, sym, ap, ap₂, ◌∙◌, subst}
use Prim.Native.Nat.{ℕ, zero, suc, ◌+◌, ◌-◌, ◌*◌, ◌<◌, ◌≤◌}
use native.Mathlib.Omega.{arith}
use borrow.Author.Tests.{eqb-false, leb-true}
use lib.Dec.{ltb, leb, eqb}
use lib.ListN.{length, take, drop, length-append, take-append-drop}
use Rattle.answer.proofs.Booleans.{clash}
use Rattle.answer.specs.Checks.{Outcome, pick, checked}
use Rattle.answer.specs.declared.Refusal.{Refusal}
use Rattle.capture_record.specs.Entries.{Noted, advancing, asking}
use Rattle.capture_record.specs.Records.{Records, records_in}
use Rattle.octets.proofs.Storing.{over_length}
use Rattle.octets.proofs.Storing.{room_left}
use Rattle.octets.specs.Writing.{over}
use Rattle.pen.proofs.Following.{put_over}
use Rattle.pen.specs.Numerals.{Spells}
use Rattle.pen.specs.Penning.{Ready, Penned}
use Rattle.pen.specs.Rooms.{line_room}
use Rattle.pen.specs.declared.Pen.{Pen}
use Rattle.pen.specs.declared.words.Word.{Word}
use Rattle.station.proofs.Clearing.{later_clear, clear_granted}
use Rattle.station.proofs.StaysValid.{advanced}
use Rattle.station.specs.Asking.{permission_of}
use Rattle.station.specs.Clock.{reached, clock_advance}
use Rattle.station.specs.Stations.{clock_limit, unit_limit}
use Rattle.station.specs.declared.asking.Permission.{Permission}
use Rattle.station.specs.declared.clock.Advanced.{Advanced}
use Rattle.capture.specs.CodeTerms.Plain.{known_granted, lines_left, clocked_at, Notes, Watched, RanFrom}
use Rattle.capture.specs.Listers.{line_limit, with_lines}
use Rattle.capture.specs.Lists.{Told, before, answer_line, bad_record, line, noted, is_malformed, recorded}
use Rattle.capture.specs.declared.lister.Lister.{Lister}
use Rattle.capture.specs.declared.plain.Ran.{Ran}
use Rattle.capture.specs.declared.response.Response.{Response}
use Rattle.capture.proofs.Advancing.{clock_line}
use Rattle.capture.proofs.Answering.{an_ask}
use Rattle.capture.proofs.Recording.{before_before}
use Rattle.pending.specs.declared.Switch.{Switch}

-- ---- a line more

-- where the limit of lines and the buffer leave one: a line's number never comes near the pen's own limit
pub may_put_lem : {pen : Pen} {digits out : List ℕ} → Spells pen.lines digits pen.from → (pen.lines < line_limit) × (pen.count + line_room ≤ length out) → Ready pen digits out
may_put_lem s h = record { spells = s; numbered = omega (arith, h.0); room = h.1 }

-- ---- before the first

over_none : (n : ℕ) (out : List ℕ) → over out n [] ≡ out
over_none n out =
    ap₂ (λ (front rest : List ℕ). front ++ rest) (append-nil (take n out)) (ap (λ (k : ℕ). drop k out) (let e : n + 0 ≡ n = omega arith in e)) ∙ take-append-drop n out

-- the clock where it is
pub clocked_there : (l : Lister) (t : ℕ) → l.station.clock ≡ t → clocked_at l t ≡ l
clocked_there l t e = ap (clocked_at l) (sym e)

module _ (used : List ℕ) (start : ℕ) (active : Bool) (t : ℕ) (p : Option Switch) (c : ℕ) (begun : Pen) (out digits : List ℕ) where
  pub ran_none : Spells begun.lines digits begun.from → start ≤ length used
      → RanFrom used start active t p c begun out (record { at = start; clock = t; pen = begun }) digits out
  ran_none s h =
      record {
        text = [];
        told = λ l w. ap (λ (x : Lister). recorded (records_in (drop start used)) (with_lines x begun.lines)) (sym (clocked_there l t w.clock));
        watched = λ l w. subst (λ (x : Lister). Watched x active t p c) (sym (clocked_there l t w.clock)) w;
        idle = λ e. refl;
        many = omega arith;
        leaves = sym (over_none begun.count out);
        spells = s;
        past = omega arith;
        within = h;
        few = omega arith;
        room = omega arith;
      }

-- ---- what is known of a record

-- a question that is known to be granted has units, and ends where it is clear
known_granted_lem : (t c n : ℕ) → known_granted t c n ≡ true → (1 ≤ n) × (t + n ≤ c)
known_granted_lem t c n e = by (eqb n 0) refl e
  where
    by : (z : Bool) → eqb n 0 ≡ z → (not z && leb (t + n) c) ≡ true → (1 ≤ n) × (t + n ≤ c)
    by true f h = clash (sym h)
    by false f h = (some n (eqb-false n 0 f), leb-true (t + n) c h)
      where
        some : (m : ℕ) → (m ≡ 0 → ⊥) → 1 ≤ m
        some zero g = absurd (g refl)
        some (suc m) g = omega arith

-- an advance does not go back
no_earlier : (t : ℕ) (p : Option Switch) (n later : ℕ) → clock_advance t p n ≡ Ok (Advanced.Goes later) → t ≤ later
unfolding clock_advance checked
no_earlier t p n later e = by_test_lem (ltb unit_limit n || ltb clock_limit (t + n)) e
  where
    goes : Outcome Advanced → ℕ
    goes (Ok (Advanced.Goes u)) = u
    goes _ = 0

    by_pending : (q : Option Switch) → reached (t + n) q ≡ Advanced.Goes later → t ≤ later
    by_pending None f = omega (arith, ap (λ (a : Advanced). goes (Ok a)) f)
    by_pending (Some x) f = by_switch (ltb (t + n) x.at) f
      where
        by_switch : (b : Bool) → pick b (Advanced.Goes (t + n)) (Advanced.Switches (t + n) x.channel) ≡ Advanced.Goes later → t ≤ later
        by_switch true g = omega (arith, ap (λ (a : Advanced). goes (Ok a)) g)
        by_switch false g = absurd (let z : ◌≡◌ {A = ℕ} 0 1 = cc in omega arith)

    by_test_lem : (far : Bool) → pick far (Err Refusal.PastClock) (Ok (reached (t + n) p)) ≡ Ok (Advanced.Goes later) → t ≤ later
    by_test_lem true f = absurd (let z : ◌≡◌ {A = ℕ} 0 1 = cc in omega arith)
    by_test_lem false f = by_pending p cc

-- ---- one more

-- a record that is not malformed, and those after it
pub then_more : (used : List ℕ) (at end : ℕ) (x : Noted) (l : Lister) → Notes used at end x → is_malformed x ≡ false
    → recorded (records_in (drop at used)) l ≡ before (noted l x).text (recorded (records_in (drop end used)) (noted l x).lister)
unfolding recorded
then_more used at end x l n good =
    ap (λ (rs : Records). recorded rs l) n.stands
    ∙ ap (λ (y : Noted). pick (is_malformed y) (bad_record l) (before (noted l y).text (recorded (records_in (drop end used)) (noted l y).lister))) n.means
    ∙ ap (λ (b : Bool). pick b (bad_record l) (before (noted l x).text (recorded (records_in (drop end used)) (noted l x).lister))) good

-- the same station with a count of lines
renumbered : {l : Lister} {active : Bool} {t : ℕ} {p : Option Switch} {c : ℕ} (n : ℕ) → Watched l active t p c → Watched (with_lines l n) active t p c
renumbered n w = record { same = w.same; clock = w.clock; pending = w.pending; valid = w.valid; clear = w.clear }

module _ {used : List ℕ} {start t : ℕ} {p : Option Switch} {c : ℕ} {begun : Pen} {out : List ℕ} {r : Ran} {digits exit : List ℕ}
    (big : begun.count + line_room * lines_left (length used - start) ≤ length out) (i : RanFrom used start true t p c begun out r digits exit) where
  -- the buffer keeps its length
  pub ran_size : length exit ≡ length out
  ran_size = ap length i.leaves ∙ over_length out begun.count i.text (omega (arith, big, i.many, i.room, i.few))

  -- there is room for one line more, and a number
  pub ran_room : (end limit : ℕ) → r.at + 3 ≤ end → end ≤ length used → begun.lines + lines_left (length used - start) ≤ limit
      → (r.pen.lines < limit) × (r.pen.count + line_room ≤ length exit)
  ran_room end limit past within few = (omega (arith, i.few), omega (arith, big, i.few, i.room, i.many, ran_size))

  -- the lister at this place, from the one at the first
  abbrev here : Lister → Lister
  here l = with_lines (clocked_at l r.clock) r.pen.lines

  pub here_watched : (l : Lister) → Watched l true t p c → Watched (here l) true r.clock p c
  here_watched l w = renumbered r.pen.lines (i.watched l w)

  -- the line of a record that leaves the clock at `later`
  module _ (x : Noted) (word : Word) (answer : Response) (later end : ℕ) (n : Notes used r.at end x) (good : is_malformed x ≡ false)
      (says : (l : Lister) → Watched l true r.clock p c → line (clocked_at l later) word answer ≡ noted l x)
      (keeps : (l : Lister) → Watched l true r.clock p c → Watched (clocked_at l later) true later p c)
      (pen : Pen) (digits' exit' : List ℕ) (w : Penned (answer_line (r.pen.lines + 1) word answer) r.pen exit pen digits' exit') where
    pub ran_on : RanFrom used start true t p c begun out (record { at = end; clock = later; pen = pen }) digits' exit'
    ran_on =
        let text = answer_line (r.pen.lines + 1) word answer in
        let lines = length-append i.text text in
        let fits : begun.count + length i.text + length text ≤ length out = omega (arith, big, i.many, i.room, i.few, n.past, n.within, w.short) in
        record {
          text = i.text ++ text;
          told =
              λ l g.
              i.told l g
              ∙ ap (before i.text)
              (then_more used r.at end x (here l) n good
              ∙ ap (λ (y : Told). before y.text (recorded (records_in (drop end used)) y.lister)) (sym (says (here l) (here_watched l g))))
              ∙ before_before i.text text _
              ∙ ap (λ (m : ℕ). before (i.text ++ text) (recorded (records_in (drop end used)) (with_lines (clocked_at l later) m))) (sym w.numbered);
          watched = λ l g. keeps (clocked_at l r.clock) (i.watched l g);
          idle = λ e. clash e;
          many = omega (arith, i.many, w.many, lines);
          leaves =
              w.leaves ∙ room_left text r.pen.count exit (omega (arith, fits, i.many, ran_size))
              ∙ ap₂ (λ (k : ℕ) (b : List ℕ). over b k text) i.many (i.leaves ∙ ap (over out begun.count) (sym (append-nil i.text)))
              ∙ put_over out begun.count i.text [] text fits (omega arith);
          spells = w.spells;
          past = omega (arith, i.past, n.past);
          within = n.within;
          few = omega (arith, i.few, n.past, n.within, w.numbered);
          room = omega (arith, i.room, w.many, w.short, w.numbered);
        }

-- ---- an advance, and a question

module _ {used : List ℕ} {start t : ℕ} {p : Option Switch} {c : ℕ} {begun : Pen} {out : List ℕ} {r : Ran} {digits exit : List ℕ}
    (big : begun.count + line_room * lines_left (length used - start) ≤ length out) (i : RanFrom used start true t p c begun out r digits exit)
    (n end : ℕ) (pen : Pen) (digits' exit' : List ℕ) where
  -- the clock at `later`
  module _ (later : ℕ) (e : clock_advance r.clock p n ≡ Ok (Advanced.Goes later)) where
    goes : (l : Lister) → Watched l true r.clock p c → clock_advance l.station.clock l.station.pending n ≡ Ok (Advanced.Goes later)
    goes l w = ap₂ (λ (u : ℕ) (q : Option Switch). clock_advance u q n) w.clock w.pending ∙ e

    pub ran_advance : Notes used r.at end (advancing n) → Penned (answer_line (r.pen.lines + 1) Word.Advance (Response.Call (Ok tt))) r.pen exit pen digits' exit'
        → RanFrom used start true t p c begun out (record { at = end; clock = later; pen = pen }) digits' exit'
    ran_advance m =
        ran_on big i (advancing n) Word.Advance (Response.Call (Ok tt)) later end m refl
        (λ l w. clock_line l w.same (w.valid refl) n later (goes l w))
        (λ l w.
        record {
          same = w.same;
          clock = refl;
          pending = w.pending;
          valid = λ f. (advanced l.station n (Ok (Advanced.Goes later)) (goes l w) (w.valid refl)).1;
          clear = λ f. later_clear later (omega (arith, w.clock, no_earlier r.clock p n later e)) (w.clear refl);
        })
        pen digits' exit'

  pub ran_question : Notes used r.at end (asking n) → n ≤ unit_limit → known_granted r.clock c n ≡ true
      → Penned (answer_line (r.pen.lines + 1) Word.Ask (Response.Question Permission.Granted)) r.pen exit pen digits' exit'
      → RanFrom used start true t p c begun out (record { at = end; clock = r.clock; pen = pen }) digits' exit'
  ran_question m few e =
      ran_on big i (asking n) Word.Ask (Response.Question Permission.Granted) r.clock end m refl
      (λ l w.
      ap₂ (λ (x : Lister) (q : Permission). line x Word.Ask (Response.Question q)) (clocked_there l r.clock w.clock) (sym (granted l w))
      ∙ an_ask l w.same n)
      (λ l w. subst (λ (x : Lister). Watched x true r.clock p c) (sym (clocked_there l r.clock w.clock)) w)
      pen digits' exit'
    where
      known : (1 ≤ n) × (r.clock + n ≤ c)
      known = known_granted_lem r.clock c n e

      granted : (l : Lister) → Watched l true r.clock p c → permission_of l.station n ≡ Permission.Granted
      granted l w = clear_granted l.station c n (w.clear refl) known.0 few (omega (arith, known.1, w.clock))
