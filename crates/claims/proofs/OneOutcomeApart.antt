-- Each promise of what a station hears, of what it keeps beside its schedules, and of a station taken apart leaves one outcome: the result, and every row of the
-- columns that are lent. Assumes nothing.
use mathlib.Core.List.{[]}
use mathlib.Core.Path.{◌≡◌, refl, sym, ap, ap₂, ◌∙◌}
use borrow.Fn.Kinds.{Dens, res_t, ended_of}
use contract.Lifetimes.{Lfts}
use denote.Triple.Clauses.{AtExit}
use Rattle.answer.specs.Outcomes.{OneResult}
use Rattle.apart.proofs.Apart.hear as Hear
use Rattle.apart.proofs.Apart.nobody as Nobody
use Rattle.apart.proofs.Apart.of as Of
use Rattle.apart.proofs.Apart.whole as Whole
use Rattle.apart.specs.Apart.{apart_of, whole_of}
use Rattle.apart.specs.Columns.{columns}
use Rattle.apart.specs.declared.Apart.{Apart}
use Rattle.apart.specs.declared.columns.Columns.{Columns}
use Rattle.frame.proofs.hear as FrameHear
use Rattle.frame.proofs.hearing.Change.by_frame as ByFrame
use Rattle.frame.proofs.hearing.Change.by_reading as ByReading
use Rattle.frame.proofs.verdict_on as VerdictOn
use Rattle.station.proofs.Station.rest as StationRest
use Rattle.station.proofs.changing.Rest.announced as RestAnnounced
use Rattle.station.proofs.changing.Rest.constrained as RestConstrained
use Rattle.station.proofs.changing.Rest.switched as RestSwitched
use Rattle.station.proofs.is_at_once as IsAtOnce
use Rattle.station.proofs.later as Later
use Rattle.claims.proofs.Same.{once}
use Rattle.answer.specs.Faults.{Verdict}

-- ---- what a station hears

pub frame_hear : OneResult 1 FrameHear.Kinds.ps FrameHear.Kinds.r FrameHear.Reads.Post
frame_hear κs a e f x y p q = once p q

pub change_by_frame : OneResult 0 ByFrame.Kinds.ps ByFrame.Kinds.r ByFrame.Reads.Post
change_by_frame κs a e f x y p q = once p q

pub change_by_reading : OneResult 0 ByReading.Kinds.ps ByReading.Kinds.r ByReading.Reads.Post
change_by_reading κs a e f x y p q = once p q

pub verdict_on_lem : OneResult 0 VerdictOn.Kinds.ps VerdictOn.Kinds.r VerdictOn.Reads.Post
verdict_on_lem κs a e f x y p q = once p q

-- ---- what it keeps beside its schedules

pub station_rest : OneResult 0 StationRest.Kinds.ps StationRest.Kinds.r StationRest.Reads.Post
station_rest κs a e f x y p q = once p q

pub rest_switched_lem : OneResult 0 RestSwitched.Kinds.ps RestSwitched.Kinds.r RestSwitched.Reads.Post
rest_switched_lem κs a e f x y p q = once p q

pub rest_constrained_lem : OneResult 0 RestConstrained.Kinds.ps RestConstrained.Kinds.r RestConstrained.Reads.Post
rest_constrained_lem κs a e f x y p q = once p q

pub rest_announced_lem : OneResult 0 RestAnnounced.Kinds.ps RestAnnounced.Kinds.r RestAnnounced.Reads.Post
rest_announced_lem κs a e f x y p q = once p q

pub is_at_once : OneResult 0 IsAtOnce.Kinds.ps IsAtOnce.Kinds.r IsAtOnce.Reads.Post
is_at_once κs a e f x y p q = once p q

pub later : OneResult 0 Later.Kinds.ps Later.Kinds.r Later.Reads.Post
later κs a e f x y p q = once p q

-- ---- a station taken apart

-- the whole tells its parts
parts_back : (a : Apart) (c : Columns) → apart_of (whole_of a c) ≡ a
unfolding whole_of
parts_back a c = refl

same_parts : (a b : Apart) (c d : Columns) → whole_of a c ≡ whole_of b d → a ≡ b
same_parts a b c d e = sym (parts_back a c) ∙ ap apart_of e ∙ parts_back b d

pub apart_nobody : OneResult 0 Nobody.Kinds.ps Nobody.Kinds.r Nobody.Reads.Post
apart_nobody κs a e f x y p q = let c = columns [] [] [] in same_parts x y c c (once (p c) (q c))

pub apart_whole : OneResult 1 Whole.Kinds.ps Whole.Kinds.r Whole.Reads.Post
apart_whole κs a e f x y p q = once p q

pub apart_of_lem : (κs : Lfts 1) (a : Dens κs Of.Kinds.ps) (e f : AtExit (ended_of 1 Of.Kinds.ps Of.Kinds.r) κs) (x y : (res_t Of.Kinds.r κs).Denot)
    → Of.Reads.Post κs a x e → Of.Reads.Post κs a y f → (x ≡ y) × (e.1.0.now ≡ f.1.0.now)
apart_of_lem κs a e f x y p q = (once p.0 q.0, once p.1.1 q.1.1)

pub apart_hear : (κs : Lfts 2) (a : Dens κs Hear.Kinds.ps) (e f : AtExit (ended_of 2 Hear.Kinds.ps Hear.Kinds.r) κs) (x y : (res_t Hear.Kinds.r κs).Denot)
    → Hear.Reads.Post κs a x e → Hear.Reads.Post κs a y f → (x ≡ y) × (e.1.1.0.now ≡ f.1.1.0.now)
apart_hear κs a e f x y p q = (
  ap₂ (λ (v : Verdict) (b : Apart). record { verdict = v; apart = b }) (once p.verdict q.verdict) (same_parts x.apart y.apart _ _ (once p.station q.station)),
  once p.rows q.rows,
)
