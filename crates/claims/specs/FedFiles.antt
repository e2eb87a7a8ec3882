-- Runs of the lister's code over a file, piece by piece: each call is made on the lister that the call before it left, and does what the function's own
-- promise allows. Nothing more is known of it, nor of the buffers.
use Rattle.std.specs.Prelude.{List, [], ◌∷◌, ◌++◌, ◌≡◌, ℕ, ◌%◌, length, take, Ok}
use borrow.Fn.Kinds.{Dens, res_t, ended_of}
use contract.Lifetimes.{Lfts}
use denote.Triple.Clauses.{AtExit}
use Rattle.block.specs.Blocks.{block_size}
use Rattle.capture.proofs.lister.Lister.closing as Closing
use Rattle.capture.proofs.lister.Lister.feed_all as FeedAll
use Rattle.capture.proofs.lister.Lister.fresh as Fresh
use Rattle.capture.specs.declared.lister.Lister.{Lister}

-- `Lister::fresh` was called, and gave this lister
abbrev pub Begins : Lister → Type 0
Begins l = (κs : Lfts 0) × (a : Dens κs Fresh.Kinds.ps) × (e : AtExit (ended_of 0 Fresh.Kinds.ps Fresh.Kinds.r) κs) × Fresh.Reads.Post κs a l e

-- `Lister::feed_all` was called on a lister with a piece of the file and answered that there are lines: these octets, in front of the buffer; and it left this lister
abbrev pub Feeds : Lister → List ℕ → List ℕ → Lister → Type 0
Feeds l piece text next =
    (κs : Lfts 2)
    × (a : Dens κs FeedAll.Kinds.ps)
    × (x : (res_t FeedAll.Kinds.r κs).Denot)
    × (e : AtExit (ended_of 2 FeedAll.Kinds.ps FeedAll.Kinds.r) κs)
    × FeedAll.Reads.Post κs a x e
    × (a.0 ≡ l)
    × (a.1.0.now ≡ piece)
    × (n : ℕ)
    × (x.wrote ≡ Ok n)
    × (take n e.1.1.0.now ≡ text)
    × (x.lister ≡ next)

-- the pieces were fed one after the other, and these are their lines
unfoldable pub FedAll : List (List ℕ) → Lister → List ℕ → Lister → Type 0
FedAll [] l text last = (text ≡ []) × (last ≡ l)
FedAll (p ∷ ps) l text last =
    (next : Lister) × (first : List ℕ) × (rest : List ℕ) × Feeds l p first next × FedAll ps next rest last × (text ≡ first ++ rest)

-- every piece but the last is cut at the end of a block
abbrev pub CutAtBlocks : List (List ℕ) → Type 0
CutAtBlocks [] = Unit {0}
CutAtBlocks (p ∷ []) = Unit {0}
CutAtBlocks (p ∷ q ∷ ps) = (length p % block_size ≡ 0) × CutAtBlocks (q ∷ ps)

-- the pieces side by side
unfoldable pub joined : List (List ℕ) → List ℕ
joined [] = []
joined (p ∷ ps) = p ++ joined ps

-- `Lister::closing` was called on the lister, and these are its octets
abbrev pub Closes : Lister → List ℕ → Type 0
Closes l text =
    (κs : Lfts 0)
    × (a : Dens κs Closing.Kinds.ps)
    × (x : (res_t Closing.Kinds.r κs).Denot)
    × (e : AtExit (ended_of 0 Closing.Kinds.ps Closing.Kinds.r) κs)
    × Closing.Reads.Post κs a x e
    × (a.0 ≡ l)
    × (take x.count x.bytes ≡ text)
