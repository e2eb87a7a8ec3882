-- The record that a station of an IBSS keeps, beside its history (00, demand 3; 02, Five): what the calls make of it by their meanings, and what it is for it to agree
-- with the history, field by field.
use Rattle.std.specs.Prelude.{◌&&◌, [], ◌∷◌, ◌≡◌, ℕ, eqb, Ok, Err, Some, None, Option}
use Rattle.answer.specs.Checks.{pick}
use Rattle.answer.specs.Faults.{Placed, fault_nowhere, Verdict}
use Rattle.answer.specs.declared.Refusal.{Refusal}
use Rattle.capture_record.specs.declared.entry.Settings.{Settings}
use Rattle.frame.specs.IbssFrames.{SentInIbss}
use Rattle.member.specs.Members.{member_of, take_of, advance_of}
use Rattle.member.specs.declared.Member.{Member}
use Rattle.owner.specs.declared.Owner.{Owner}
use Rattle.station.specs.Stations.{fresh}
use Rattle.claims.specs.Histories.{frame, advance, ask, History, clock_after}
use Rattle.claims.specs.Records.{Agreeing}
use Rattle.claims.specs.Reigns.{Reigning, nobody, reigns, passed_by, missed_by, foreign_to, reigning, ibss_listener}

-- the owner that the history tells of at t: the flag says that no TBTT has passed since a beacon of its own
abbrev pub owner_told : ℕ → ℕ → Reigning → Option Owner
owner_told b t nobody = None
owner_told b t (reigns r) =
    Some (record { address = r.owner; recovery = r.recovery; misses = missed_by b r t; heard = r.by_owner && eqb (passed_by b r t) 0 })

-- the verdict on a frame that was read so, when the clock is at t and this owner reigns: 23 comes last, and has no place
abbrev pub verdict_told : ℕ → Reigning → Placed SentInIbss → Verdict
verdict_told t w (Err x) = Err x
verdict_told t w (Ok x) = pick (foreign_to t w x) (Err (fault_nowhere Refusal.ForeignAnnouncement)) (Ok tt)

module _ (s : Settings) where
  unfoldable pub member_after : History → Member
  member_after [] = member_of (fresh s.own s.ap s.interval s.channel) None
  member_after (frame f ∷ h) = (take_of (member_after h) f).member
  member_after (advance n ∷ h) = (advance_of (member_after h) n).member
  member_after (ask n ∷ h) = member_after h

  pub record MemberAgrees (h : History) (m : Member) : Type 0 where
    pub same_own : m.station.own ≡ s.own
    pub same_bssid : m.station.ap ≡ s.ap
    pub as_heard : Agreeing (ibss_listener s) h m.station
    pub owner_told_lem : m.owner ≡ owner_told s.interval (clock_after h) (reigning s h)
