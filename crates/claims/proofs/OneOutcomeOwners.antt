-- Each promise of the DFS owner leaves one outcome. Assumes nothing.
use Rattle.answer.specs.Outcomes.{OneResult}
use Rattle.owner.proofs.heard_from as HeardFrom
use Rattle.owner.proofs.is_owner as IsOwner
use Rattle.owner.proofs.named as Named
use Rattle.owner.proofs.past as Past
use Rattle.owner.proofs.unknown as Unknown
use Rattle.claims.proofs.Same.{once}

pub owner_unknown : OneResult 0 Unknown.Kinds.ps Unknown.Kinds.r Unknown.Reads.Post
owner_unknown κs a e f x y p q = once p.0 q.0

pub owner_is : OneResult 0 IsOwner.Kinds.ps IsOwner.Kinds.r IsOwner.Reads.Post
owner_is κs a e f x y p q = once p q

pub owner_named_lem : OneResult 0 Named.Kinds.ps Named.Kinds.r Named.Reads.Post
owner_named_lem κs a e f x y p q = once p.0 q.0

pub owner_heard_from : OneResult 0 HeardFrom.Kinds.ps HeardFrom.Kinds.r HeardFrom.Reads.Post
owner_heard_from κs a e f x y p q = once p.0 q.0

pub owner_past_lem : OneResult 0 Past.Kinds.ps Past.Kinds.r Past.Reads.Post
owner_past_lem κs a e f x y p q = once p.0 q.0
