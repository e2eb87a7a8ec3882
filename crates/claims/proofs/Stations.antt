-- The station's calls: each promise leaves one outcome, a refused frame or advance leaves the station as it was,
-- and where there is no station there is none that a call may be handed. Assumes nothing.
use Rattle.std.specs.Prelude.{Ok, Err, Some}
use mathlib.Core.Path.{◌≡◌, refl, sym, ap, ◌∙◌}
use Prim.Native.Nat.{ℕ}
use native.Mathlib.Omega.{arith}
use borrow.Fn.Kinds.{Dens, ended_of}
use contract.Lifetimes.{Lfts}
use denote.Triple.Clauses.{AtExit}
use Rattle.answer.specs.Checks.{Outcome}
use Rattle.answer.specs.Faults.{Placed}
use Rattle.answer.specs.declared.Fault.{Fault}
use Rattle.answer.specs.declared.Refusal.{Refusal}
use Rattle.pending.proofs.comes_before as ComesBefore
use Rattle.pending.proofs.Switch.set_by as SwitchSetBy
use Rattle.pending.proofs.silences as Silences
use Rattle.pending.proofs.up_to as UpTo
use Rattle.station.proofs.Station.advance as Advance
use Rattle.station.proofs.Station.ask as Ask
use Rattle.station.proofs.Station.clear_until as ClearUntil
use Rattle.station.proofs.Station.heard as Heard
use Rattle.station.proofs.Station.is_bad_start as IsBadStart
use Rattle.station.proofs.Station.start as Start
use Rattle.station.proofs.Station.take as Take
use Rattle.station.proofs.asking.Permission.number as PermissionNumber
use Rattle.station.proofs.advance_clock as AdvanceClock
use Rattle.station.specs.Clock.{stepped, advance_means}
use Rattle.station.specs.Starting.{blank}
use Rattle.station.specs.Taking.{taken, heard_means, take_means}
use Rattle.station.specs.Validity.{Valid}
use Rattle.station.specs.declared.Station.{Station}
use Rattle.station.specs.declared.clock.Stepped.{Stepped}
use Rattle.station.specs.declared.taking.Taken.{Taken}
use Rattle.answer.specs.Outcomes.{OneResult}
use Rattle.claims.proofs.Same.{once}

pub is_bad_start : OneResult 0 IsBadStart.Kinds.ps IsBadStart.Kinds.r IsBadStart.Reads.Post
is_bad_start κs a e f x y p q = once p q

pub start : OneResult 0 Start.Kinds.ps Start.Kinds.r Start.Reads.Post
start κs a e f x y p q = once p.0 q.0

pub take : OneResult 1 Take.Kinds.ps Take.Kinds.r Take.Reads.Post
take κs a e f x y p q = once p.0 q.0

pub heard : OneResult 0 Heard.Kinds.ps Heard.Kinds.r Heard.Reads.Post
heard κs a e f x y p q = once p.0 q.0

pub advance : OneResult 0 Advance.Kinds.ps Advance.Kinds.r Advance.Reads.Post
advance κs a e f x y p q = once p.0 q.0

pub advance_clock : OneResult 0 AdvanceClock.Kinds.ps AdvanceClock.Kinds.r AdvanceClock.Reads.Post
advance_clock κs a e f x y p q = once p q

pub ask : OneResult 0 Ask.Kinds.ps Ask.Kinds.r Ask.Reads.Post
ask κs a e f x y p q = once p q

pub clear_until_lem : OneResult 0 ClearUntil.Kinds.ps ClearUntil.Kinds.r ClearUntil.Reads.Post
clear_until_lem κs a e f x y p q = once p q

pub permission_number_lem : OneResult 0 PermissionNumber.Kinds.ps PermissionNumber.Kinds.r PermissionNumber.Reads.Post
permission_number_lem κs a e f x y p q = once p q

pub pending_set_by : OneResult 0 SwitchSetBy.Kinds.ps SwitchSetBy.Kinds.r SwitchSetBy.Reads.Post
pending_set_by κs a e f x y p q = let same : Some x ≡ Some y = once p q in cc

pub pending_silences : OneResult 0 Silences.Kinds.ps Silences.Kinds.r Silences.Reads.Post
pending_silences κs a e f x y p q = once p q

pub pending_up_to : OneResult 0 UpTo.Kinds.ps UpTo.Kinds.r UpTo.Reads.Post
pending_up_to κs a e f x y p q = once p q

pub pending_comes_before : OneResult 0 ComesBefore.Kinds.ps ComesBefore.Kinds.r ComesBefore.Reads.Post
pending_comes_before κs a e f x y p q = once p q

-- ---- demand 1: of the code's own results, a refused frame or advance leaves the station as it was

refused_same : (s : Station) (o : Outcome Station) (r : Refusal) → (stepped s o).answer ≡ Err r → (stepped s o).station ≡ s
refused_same s (Err r) _ e = refl
refused_same s (Ok next) r e = absurd (let z : ◌≡◌ {A = ℕ} 0 1 = cc in omega arith)

stepped_same : (s : Station) (o : Outcome Station) (x : Stepped) (r : Refusal) → x ≡ stepped s o → x.answer ≡ Err r → x.station ≡ s
stepped_same s o x r e f =
    ap (λ (y : Stepped). y.station) e ∙ refused_same s o r (ap (λ (y : Stepped). y.answer) (sym e) ∙ f)

untaken_same : (s : Station) (o : Placed Station) (q : Fault) → (taken s o).verdict ≡ Err q → (taken s o).station ≡ s
untaken_same s (Err x) _ e = refl
untaken_same s (Ok next) q e = absurd (let z : ◌≡◌ {A = ℕ} 0 1 = cc in omega arith)

taken_same : (s : Station) (o : Placed Station) (x : Taken) (q : Fault) → x ≡ taken s o → x.verdict ≡ Err q → x.station ≡ s
taken_same s o x q e f =
    ap (λ (y : Taken). y.station) e ∙ untaken_same s o q (ap (λ (y : Taken). y.verdict) (sym e) ∙ f)

pub refused_take : (κs : Lfts 1) (a : Dens κs Take.Kinds.ps) (e : AtExit (ended_of 1 Take.Kinds.ps Take.Kinds.r) κs) (x : Taken) (q : Fault)
    → Take.Reads.Post κs a x e → x.verdict ≡ Err q → x.station ≡ a.0
refused_take κs a e x q p f = taken_same a.0 (take_means a.0 a.1.0.now) x q p.0 f

pub refused_heard : (κs : Lfts 0) (a : Dens κs Heard.Kinds.ps) (e : AtExit (ended_of 0 Heard.Kinds.ps Heard.Kinds.r) κs) (x : Taken) (q : Fault)
    → Heard.Reads.Post κs a x e → x.verdict ≡ Err q → x.station ≡ a.0
refused_heard κs a e x q p f = taken_same a.0 (heard_means a.0 a.1.0) x q p.0 f

pub refused_advance : (κs : Lfts 0) (a : Dens κs Advance.Kinds.ps) (e : AtExit (ended_of 0 Advance.Kinds.ps Advance.Kinds.r) κs) (x : Stepped) (r : Refusal)
    → Advance.Reads.Post κs a x e → x.answer ≡ Err r → x.station ≡ a.0
refused_advance κs a e x r p f = stepped_same a.0 (advance_means a.0 a.1.0) x r p.0 f

-- no call may be handed what stands where there is no station
pub refused_start_invalid : Valid blank → ⊥
refused_start_invalid v = omega (arith, v.interval_positive)
