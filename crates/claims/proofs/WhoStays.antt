-- Whoever is joined, by the calls of a table and their answers, has a latest joining and has not left since: so what is proved of a stay is proved of everybody who is
-- joined (02, Six). Assumes nothing.
use Rattle.std.specs.Prelude.{Ok, Err}
use mathlib.Core.Bool.{Bool, true, false, not, ◌&&◌}
use mathlib.Core.List.{List, [], ◌∷◌}
use mathlib.Core.Logic.{⊎_elim}
use mathlib.Core.Path.{◌≡◌, refl, sym, ap, ◌∙◌, subst}
use Prim.Native.Nat.{ℕ}
use native.Mathlib.Omega.{arith}
use Rattle.answer.proofs.Booleans.{clash, either, both}
use Rattle.answer.specs.Checks.{pick, ◌⇒◌, checked, answer_of, Answer}
use Rattle.answer.specs.declared.Refusal.{Refusal}
use Rattle.header.proofs.Addresses.{same_self, same_is}
use Rattle.header.specs.Headers.{same}
use Rattle.table.specs.declared.Table.{Table}
use Rattle.claims.specs.Joinings.{accepts, comes, goes, joined_in, leave_answer}
use Rattle.claims.specs.Runs.{GoesOn, no_calls, called, Ran}
use Rattle.claims.specs.TableHistories.{Leaves, NeverLeaves, StaySince}
use Rattle.claims.specs.TableRuns.{TableCall, join, leave, tick, take, question, tpc, measurement, TableAnswer, answered, judged, asked, replied, TableMade, started_with, TableStarts, Does, table}
use Rattle.claims.proofs.WhoIsJoined.{leave_exactly}
use Rattle.answer.specs.Faults.{Verdict}

judged_never : {A : Type 0} {x : Answer} {v : Verdict} → answered x ≡ judged v → A
judged_never {A} {x} {v} e = absurd (let f : ◌≡◌ {A = ℕ} 0 1 = cc in omega arith)

-- an accepted joining is answered so
accepted_join : (t next : Table) (a : List ℕ) (channel : ℕ) (r : TableAnswer) → Does t (join a channel) r next → accepts r ≡ true → r ≡ answered (Ok tt)
accepted_join t next a channel (answered (Ok tt)) does e = refl
accepted_join t next a channel (answered (Err x)) does e = clash (sym e)
accepted_join t next a channel (judged (Ok tt)) (κs, x, y, z, promise, (self, address, number, told, result)) e = judged_never told
accepted_join t next a channel (judged (Err x)) does e = clash (sym e)
accepted_join t next a channel (asked x) does e = clash (sym e)
accepted_join t next a channel (replied w buffer) does e = clash (sym e)

module _ (ap' : List ℕ) (b : ℕ) (first : Table) (starts : TableStarts (started_with ap' b) first) (own : List ℕ) where
  -- the call by which it joins
  comes_now : (c : TableCall) (r : TableAnswer) (ms : List TableMade) (before t : Table) → GoesOn table first ms before → Does before c r t
      → accepts r ≡ true → comes (λ a. same a own) c ≡ true → StaySince ap' b own (record { call = c; answer = r } ∷ ms) t
  unfolding NeverLeaves
  comes_now (join a channel) r ms before t rest does allowed is =
      let mine : a ≡ own = same_is a own is in
      let told = accepted_join before t a channel r does allowed in
      record {
        channel = channel;
        before = ms;
        after = [];
        stay =
            record {
              joining = before;
              ran = (first, starts, rest);
              joined = t;
              joins = subst (λ (o : List ℕ). Does before (join o channel) (answered (Ok tt)) t) mine (subst (λ (x : TableAnswer). Does before (join a channel) x t) told does);
              goes_on = no_calls;
              never_leaves = tt;
            };
        all = ap (λ (o : List ℕ). record { call = join o channel; answer = r } ∷ ms) mine ∙ ap (λ (x : TableAnswer). record { call = join own channel; answer = x } ∷ ms) told;
      }
  comes_now (leave a) r ms before t rest does allowed is = clash (sym is)
  comes_now (tick n) r ms before t rest does allowed is = clash (sym is)
  comes_now (take f) r ms before t rest does allowed is = clash (sym is)
  comes_now (question a n) r ms before t rest does allowed is = clash (sym is)
  comes_now (tpc f report buffer) r ms before t rest does allowed is = clash (sym is)
  comes_now (measurement f index readings buffer) r ms before t rest does allowed is = clash (sym is)

  -- while it is joined, leaving is accepted
  not_leaving : (c : TableCall) (r : TableAnswer) (ms : List TableMade) (before t : Table) → GoesOn table first ms before → Does before c r t
      → joined_in own ms ≡ true → (accepts r && goes (λ a. same a own) c) ≡ false → Leaves own c → ⊥
  unfolding checked
  not_leaving (leave a) r ms before t rest does joined stays is =
      let told : r ≡ answered (leave_answer ms a) = leave_exactly ap' b ms before (first, starts, rest) a r t does in
      let allowed : leave_answer ms a ≡ Ok tt = ap (leave_answer ms) is ∙ ap answer_by joined in
      let its_own : same a own ≡ true = ap (λ (o : List ℕ). same o own) is ∙ same_self own in
      clash (sym its_own ∙ ap (λ (x : TableAnswer). accepts x && same a own) (sym (told ∙ ap answered allowed)) ∙ stays)
    where
      answer_by : Bool → Answer
      answer_by x = answer_of {A = Unit {0}} (checked (not x ⇒ Refusal.NotJoined ∷ []) (Ok tt))
  not_leaving (join a channel) r ms before t rest does joined stays is = is
  not_leaving (tick n) r ms before t rest does joined stays is = is
  not_leaving (take f) r ms before t rest does joined stays is = is
  not_leaving (question a n) r ms before t rest does joined stays is = is
  not_leaving (tpc f report buffer) r ms before t rest does joined stays is = is
  not_leaving (measurement f index readings buffer) r ms before t rest does joined stays is = is

  -- one call more
  goes_along : (m : TableMade) (ms : List TableMade) (before t : Table) → GoesOn table first ms before → Does before m.call m.answer t → joined_in own ms ≡ true
      → (accepts m.answer && goes (λ a. same a own) m.call) ≡ false → StaySince ap' b own ms before → StaySince ap' b own (m ∷ ms) t
  unfolding NeverLeaves
  goes_along m ms before t rest does joined stays s = record {
    channel = s.channel;
    before = s.before;
    after = m ∷ s.after;
    stay =
        record {
          joining = s.stay.joining;
          ran = s.stay.ran;
          joined = s.stay.joined;
          joins = s.stay.joins;
          goes_on = called m s.stay.goes_on does;
          never_leaves = (not_leaving m.call m.answer ms before t rest does joined stays, s.stay.never_leaves);
        };
    all = ap (λ (ns : List TableMade). m ∷ ns) s.all;
  }

  still : (x y z : Bool) → x ≡ false → pick x true (pick y false z) ≡ true → (y ≡ false) × (z ≡ true)
  still true y z e f = clash e
  still false true z e f = clash (sym f)
  still false false z e f = (refl, f)

  stays_on : {ms : List TableMade} {t : Table} → GoesOn table first ms t → joined_in own ms ≡ true → StaySince ap' b own ms t
  unfolding joined_in
  stays_on no_calls joined = clash (sym joined)
  stays_on (called {ms = ms} {before = before} {last = t} m rest does) joined =
      ⊎_elim
      (λ (y : (accepts m.answer && comes (λ a. same a own) m.call) ≡ true).
      let w = both (accepts m.answer) (comes (λ a. same a own) m.call) y in
      comes_now m.call m.answer ms before t rest does w.0 w.1)
      (λ (n : (accepts m.answer && comes (λ a. same a own) m.call) ≡ false).
      let w = still (accepts m.answer && comes (λ a. same a own) m.call) (accepts m.answer && goes (λ a. same a own) m.call) (joined_in own ms) n joined in
      goes_along m ms before t rest does w.1 w.0 (stays_on rest w.1))
      (either (accepts m.answer && comes (λ a. same a own) m.call))

pub joined_stays : (ap' : List ℕ) (b : ℕ) (own : List ℕ) (ms : List TableMade) (t : Table) → Ran table (started_with ap' b) ms t → joined_in own ms ≡ true → StaySince ap' b own ms t
joined_stays ap' b own ms t (first, starts, rest) joined = stays_on ap' b first starts own rest joined
