-- Each promise of the capture's parts leaves one outcome: blocks, records, the closing line, the lister. Assumes nothing.
use mathlib.Core.List.{List}
use mathlib.Core.Path.{◌≡◌, refl, sym, ap, ◌∙◌}
use Prim.Native.Nat.{ℕ, ◌-◌}
use native.Mathlib.Omega.{arith}
use lib.ListN.{length, take, drop}
use Rattle.block.proofs.count_in as BlockCountIn
use Rattle.block.proofs.end_after as EndAfter
use Rattle.block.proofs.judge as Judge
use Rattle.pen.proofs.closing as Closing
use Rattle.capture.proofs.lister.Lister.closing as ListerClosing
use Rattle.capture.proofs.lister.Lister.feed as FeedBlock
use Rattle.capture.proofs.lister.Lister.feed_all as FeedAll
use Rattle.capture.proofs.lister.Lister.fresh as Fresh
use Rattle.capture_record.proofs.entry_of as EntryOf
use Rattle.capture_record.proofs.settings_in as SettingsIn
use Rattle.capture_record.proofs.record_at as RecordAt
use Rattle.capture_record.specs.Entries.{Noted, malformed, starting, advancing, hearing, asking, entry_told}
use Rattle.capture_record.specs.CodeTerms.Found.{follow, Within}
use Rattle.capture_record.specs.declared.Found.{Found}
use Rattle.capture_record.specs.declared.entry.Entry.{Entry}
use Rattle.station.proofs.Station.nobody as Nobody
use Rattle.answer.specs.Outcomes.{OneResult, OneOutcome}
use Rattle.claims.proofs.OneOutcomeWalk.{long}
use Rattle.claims.proofs.Same.{once, told_once}

pub block_judge : OneResult 1 Judge.Kinds.ps Judge.Kinds.r Judge.Reads.Post
block_judge κs a e f x y p q = once p q

pub block_end_after : OneResult 0 EndAfter.Kinds.ps EndAfter.Kinds.r EndAfter.Reads.Post
block_end_after κs a e f x y p q = once p q

pub text_closing : OneResult 0 Closing.Kinds.ps Closing.Kinds.r Closing.Reads.Post
text_closing κs a e f x y p q = once p q

pub station_nobody : OneResult 0 Nobody.Kinds.ps Nobody.Kinds.r Nobody.Reads.Post
station_nobody κs a e f x y p q = once p q

pub lister_fresh : OneResult 0 Fresh.Kinds.ps Fresh.Kinds.r Fresh.Reads.Post
lister_fresh κs a e f x y p q = once p.0 q.0

pub lister_feed : OneOutcome 2 FeedBlock.Kinds.ps FeedBlock.Kinds.r FeedBlock.Reads.Post (λ κs e. e.1.1.0.now)
lister_feed κs a e f x y p q = (once p.0.answers q.0.answers, once p.0.leaves q.0.leaves)

pub lister_feed_all : OneOutcome 2 FeedAll.Kinds.ps FeedAll.Kinds.r FeedAll.Reads.Post (λ κs e. e.1.1.0.now)
lister_feed_all κs a e f x y p q = (once p.0.answers q.0.answers, once p.0.leaves q.0.leaves)

pub lister_closing : OneResult 0 ListerClosing.Kinds.ps ListerClosing.Kinds.r ListerClosing.Reads.Post
lister_closing κs a e f x y p q = once p q

pub block_count_in : OneResult 0 BlockCountIn.Kinds.ps BlockCountIn.Kinds.r BlockCountIn.Reads.Post
block_count_in κs a e f x y p q = once p q

-- ---- records

pub settings_in : OneResult 1 SettingsIn.Kinds.ps SettingsIn.Kinds.r SettingsIn.Reads.Post
settings_in κs a e f x y p q = once p q

entry : Noted → Entry
entry malformed = Entry.Malformed
entry (starting s) = Entry.Start
entry (advancing n) = Entry.Advance n
entry (hearing f) = Entry.Frame
entry (asking n) = Entry.Ask n

entry_told_lem : (c : List ℕ) (x : Entry) → entry (entry_told c x) ≡ x
unfolding entry
entry_told_lem c Entry.Malformed = refl
entry_told_lem c Entry.Start = refl
entry_told_lem c (Entry.Advance n) = refl
entry_told_lem c Entry.Frame = refl
entry_told_lem c (Entry.Ask n) = refl

pub entry_of : OneResult 1 EntryOf.Kinds.ps EntryOf.Kinds.r EntryOf.Reads.Post
entry_of κs a e f x y p q = told_once (entry_told a.1.0.now) entry (entry_told_lem a.1.0.now) p q

whole : (kind kind' start start' stop stop' : ℕ) → kind ≡ kind' → start ≡ start' → stop ≡ stop' → Found.Whole kind start stop ≡ Found.Whole kind' start' stop'
whole kind kind' start start' stop stop' a b c = cc

same_place : (used : List ℕ) (at : ℕ) (x y : Found) → Within at (length used) x → Within at (length used) y → follow used x ≡ follow used y → x ≡ y
same_place used at Found.End Found.End w v e = refl
same_place used at Found.End Found.Cut w v e = absurd (let z : ◌≡◌ {A = ℕ} 0 1 = cc in omega arith)
same_place used at Found.End (Found.Whole i s t) w v e = absurd (let z : ◌≡◌ {A = ℕ} 0 1 = cc in omega arith)
same_place used at Found.Cut Found.End w v e = absurd (let z : ◌≡◌ {A = ℕ} 0 1 = cc in omega arith)
same_place used at Found.Cut Found.Cut w v e = refl
same_place used at Found.Cut (Found.Whole i s t) w v e = absurd (let z : ◌≡◌ {A = ℕ} 0 1 = cc in omega arith)
same_place used at (Found.Whole j a b) Found.End w v e = absurd (let z : ◌≡◌ {A = ℕ} 0 1 = cc in omega arith)
same_place used at (Found.Whole j a b) Found.Cut w v e = absurd (let z : ◌≡◌ {A = ℕ} 0 1 = cc in omega arith)
same_place used at (Found.Whole j a b) (Found.Whole i s t) w v e =
    let k : j ≡ i = cc in
    let c : take (b - a) (drop a used) ≡ take (t - s) (drop s used) = cc in
    let n : b - a ≡ t - s = sym (long used a b w.1 w.2) ∙ ap length c ∙ long used s t v.1 v.2 in
    let p : a ≡ s = w.0 ∙ sym v.0 in
    whole j i a s b t k p (omega (arith, w.1, v.1))

pub record_at : OneResult 1 RecordAt.Kinds.ps RecordAt.Kinds.r RecordAt.Reads.Post
record_at κs a e f x y p q = same_place a.0.now a.1.0 x y p.1 q.1 (sym p.0 ∙ q.0)
