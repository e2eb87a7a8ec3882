-- What the walk of an action body hands out together with what it passes over is the whole run, octet for octet (02, Four: "The element walk now promises which
-- octets it passed over").
use Rattle.std.specs.Prelude.{List, [], ◌∷◌, ◌++◌, ◌⊎◌, ◌≡◌, ℕ, ◌-◌, ◌<◌, length, take, Option, Some, Ok, Err}
use Rattle.answer.specs.Faults.{Placed}
use Rattle.walk.specs.Handed.{Handed, end, cut_header, cut_contents, more, passed, cut_passed, vendor_id, octets_of, passing_in, skipped_before}

-- a header whose length is more than what follows it
abbrev pub CutElement : ℕ → List ℕ → Type 0
CutElement id left = (n : ℕ) × (os : List ℕ) × (left ≡ id ∷ n ∷ os) × (length os < n)

-- the octets that are left after the whole elements, by how the walk ends
unfoldable pub LeftBy : Handed → List ℕ → Type 0
LeftBy end left = left ≡ []
LeftBy cut_header left = (o : ℕ) × (left ≡ o ∷ [])
LeftBy (cut_contents id) left = CutElement id left
LeftBy (more id c hs) left = LeftBy hs left
LeftBy (passed c hs) left = LeftBy hs left
LeftBy cut_passed left = (left ≡ vendor_id ∷ []) ⊎ CutElement vendor_id left

-- the run is the octets of its elements, handed out and passed over, each in its place, and what is left
pub record WholeRun (run : List ℕ) (hs : Handed) : Type 0 where
  pub left : List ℕ
  pub octets : run ≡ octets_of hs ++ left
  pub left_is : LeftBy hs left

-- where the walk stands past what it passes over: where it goes on, or at the vendor's element that is cut
abbrev pub standing_at : Placed ℕ → Option ℕ
standing_at (Ok at) = Some at
standing_at (Err x) = x.offset

-- it stands somewhere, and the octets of the run before that are those that were skipped; the run begins at `start`
pub record SkipsFrom (start : ℕ) (run : List ℕ) (x : Placed ℕ) : Type 0 where
  pub at : ℕ
  pub stands : standing_at x ≡ Some at
  pub skipped : take (at - start) run ≡ skipped_before (passing_in run)
