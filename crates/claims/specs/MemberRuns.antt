-- Runs of a station of an IBSS by its own functions, each of which takes the record by value and gives the next one (00, demand 3; 02, Five).
use Rattle.std.specs.Prelude.{List, ◌≡◌, ℕ, Ok}
use Rattle.capture_record.specs.declared.entry.Settings.{Settings}
use Rattle.member.proofs.Member.advance as Advance
use Rattle.member.proofs.Member.ask as Ask
use Rattle.member.proofs.Member.start as Start
use Rattle.member.proofs.Member.take as Take
use Rattle.member.specs.declared.Member.{Member}
use Rattle.station.specs.declared.asking.Permission.{Permission}
use Rattle.claims.specs.Histories.{Call, frame, advance, ask}
use Rattle.claims.specs.Runs.{Called, Engine}
use Rattle.claims.specs.StationRuns.{Said, answered, judged, asked}
use Rattle.answer.specs.Checks.{Answer}
use Rattle.answer.specs.Faults.{Verdict}

-- `Member::start` was called with the settings, accepted them and gave this record
abbrev pub MemberStarts : Settings → Member → Type 0
MemberStarts s m =
    Called 0 Start.Kinds.ps Start.Kinds.r Start.Reads.Post
    (λ κs a x e. (a.0 ≡ s.own) × (a.1.0 ≡ s.ap) × (a.1.1.0 ≡ s.interval) × (a.1.1.1.0 ≡ s.channel) × (x ≡ Ok m))

-- `Member::take` was called on a record with the octets of a frame, gave this verdict and left this record
abbrev pub MemberTakes : Member → List ℕ → Verdict → Member → Type 0
MemberTakes before f v m =
    Called 1 Take.Kinds.ps Take.Kinds.r Take.Reads.Post (λ κs a x e. (a.0 ≡ before) × (a.1.0.now ≡ f) × (x.verdict ≡ v) × (x.member ≡ m))

-- `Member::advance` was called on a record, gave this answer and left this record
abbrev pub MemberAdvances : Member → ℕ → Answer → Member → Type 0
MemberAdvances before n r m =
    Called 0 Advance.Kinds.ps Advance.Kinds.r Advance.Reads.Post (λ κs a x e. (a.0 ≡ before) × (a.1.0 ≡ n) × (x.answer ≡ r) × (x.member ≡ m))

-- `Member::ask` was called on a record, and answered this
abbrev pub MemberAsks : Member → ℕ → Permission → Type 0
MemberAsks m n p = Called 0 Ask.Kinds.ps Ask.Kinds.r Ask.Reads.Post (λ κs a x e. (a.0 ≡ m) × (a.1.0 ≡ n) × (x ≡ p))

-- the function of each call; a question leaves the record as it is
pub data MemberDoes : Member → Call → Said → Member → Type 0 where
  takes : {before m : Member} {f : List ℕ} {v : Verdict} → MemberTakes before f v m → MemberDoes before (frame f) (judged v) m
  advances : {before m : Member} {n : ℕ} {r : Answer} → MemberAdvances before n r m → MemberDoes before (advance n) (answered r) m
  asks : {m : Member} {n : ℕ} {p : Permission} → MemberAsks m n p → MemberDoes m (ask n) (asked (Ok p)) m

abbrev pub member : Engine {0} Settings Member Call Said
member = record { Starts = MemberStarts; Does = MemberDoes }
