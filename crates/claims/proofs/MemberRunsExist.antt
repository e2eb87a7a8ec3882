-- After a start that is not forbidden any calls of a station of an IBSS can be made (02, Five). Assumes nothing.
use Rattle.std.specs.Prelude.{Ok, None, IfOk}
use mathlib.Core.Bool.{false}
use mathlib.Core.List.{List, []}
use mathlib.Core.Path.{◌≡◌, refl, sym, ap, subst}
use Prim.Native.Nat.{ℕ}
use borrow.Fn.Kinds.{ended_of}
use denote.Triple.Clauses.{at_exit}
use Rattle.answer.specs.Checks.{Outcome, and_then}
use Rattle.capture_record.specs.declared.entry.Settings.{Settings}
use Rattle.member.proofs.Member.advance as Advance
use Rattle.member.proofs.Member.ask as Ask
use Rattle.member.proofs.Member.start as Start
use Rattle.member.proofs.Member.take as Take
use Rattle.member.specs.Members.{member_of, take_of, advance_of, start_of}
use Rattle.member.specs.Validity.{ValidMember}
use Rattle.member.specs.declared.Member.{Member}
use Rattle.station.specs.Asking.{permission_of}
use Rattle.station.specs.Starting.{start_forbids}
use Rattle.station.specs.declared.Station.{Station}
use Rattle.claims.specs.Histories.{Call, frame, advance, ask, History}
use Rattle.claims.specs.MemberRecords.{member_after}
use Rattle.claims.specs.MemberRuns.{MemberStarts, MemberTakes, MemberAdvances, MemberAsks, MemberDoes, member}
use Rattle.claims.specs.Records.{record_from, record_after}
use Rattle.claims.specs.Runs.{CanRun}
use Rattle.claims.proofs.MemberMeans.{member_means, valid_advance, valid_take, valid_start, member_meets}
use Rattle.claims.proofs.RunsExist.{can_run_exactly, lent, accepts}

-- a station that was started, as one of an IBSS: its owner is unknown
abbrev begun : Outcome Station → Outcome Member
begun o = and_then o (λ r. Ok (member_of r None))

starts_can : (s : Settings) → start_forbids s.own s.ap s.interval s.channel ≡ false → MemberStarts s (member_after s [])
unfolding member_after record_from
starts_can s may = (
  tt,
  (s.own, (s.ap, (s.interval, (s.channel, tt)))),
  start_of s.own s.ap s.interval s.channel,
  at_exit (ended_of 0 Start.Kinds.ps Start.Kinds.r) tt (s.own, (s.ap, (s.interval, (s.channel, tt)))) (tt, (tt, (tt, (tt, tt)))),
  (refl, subst (λ (o : Outcome Station). IfOk (begun o) ValidMember) (sym (accepts s may)) (valid_start s (record_after s []) (accepts s may))),
  (refl, refl, refl, refl, ap begun (accepts s may)),
)

module _ (m : Member) (v : ValidMember m) where
  takes_can : (f : List ℕ) → MemberTakes m f (take_of m f).verdict (take_of m f).member
  takes_can f = (
    ([], tt),
    (m, (lent f, tt)),
    take_of m f,
    at_exit (ended_of 1 Take.Kinds.ps Take.Kinds.r) ([], tt) (m, (lent f, tt)) (tt, (tt, tt)),
    (refl, valid_take m v f),
    (refl, refl, refl, refl),
  )

  advances_can : (n : ℕ) → MemberAdvances m n (advance_of m n).answer (advance_of m n).member
  advances_can n = (
    tt,
    (m, (n, tt)),
    advance_of m n,
    at_exit (ended_of 0 Advance.Kinds.ps Advance.Kinds.r) tt (m, (n, tt)) (tt, (tt, tt)),
    (refl, valid_advance m v n),
    (refl, refl, refl, refl),
  )

  asks_can : (n : ℕ) → MemberAsks m n (permission_of m.station n)
  asks_can n = (tt, (m, (n, tt)), permission_of m.station n, at_exit (ended_of 0 Ask.Kinds.ps Ask.Kinds.r) tt (m, (n, tt)) (tt, (tt, tt)), refl, (refl, refl, refl))

  does_can : (c : Call) → MemberDoes m c (member_means.answers m c) (member_means.leaves m c)
  does_can (frame f) = MemberDoes.takes (takes_can f)
  does_can (advance n) = MemberDoes.advances (advances_can n)
  does_can (ask n) = MemberDoes.asks (asks_can n)

pub member_runs : (s : Settings) → start_forbids s.own s.ap s.interval s.channel ≡ false → (h : History) → CanRun member s h
member_runs s may h = can_run_exactly (member_meets s) does_can (member_after s []) (starts_can s may) h
