-- Each promise of a station of an IBSS leaves one outcome. Assumes nothing.
use Rattle.answer.specs.Outcomes.{OneResult}
use Rattle.member.proofs.Member.advance as Advance
use Rattle.member.proofs.Member.ask as Ask
use Rattle.member.proofs.Member.start as Start
use Rattle.member.proofs.Member.take as Take
use Rattle.claims.proofs.Same.{once}

pub member_start : OneResult 0 Start.Kinds.ps Start.Kinds.r Start.Reads.Post
member_start κs a e f x y p q = once p.0 q.0

pub member_take : OneResult 1 Take.Kinds.ps Take.Kinds.r Take.Reads.Post
member_take κs a e f x y p q = once p.0 q.0

pub member_advance_lem : OneResult 0 Advance.Kinds.ps Advance.Kinds.r Advance.Reads.Post
member_advance_lem κs a e f x y p q = once p.0 q.0

pub member_ask : OneResult 0 Ask.Kinds.ps Ask.Kinds.r Ask.Reads.Post
member_ask κs a e f x y p q = once p q
