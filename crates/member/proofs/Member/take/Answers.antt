-- `Member::take` leaves a valid station: what was read is allowed, and the owner that it names fits. Assumes nothing.
use Rattle.std.specs.Prelude.{Option}
use Rattle.std.proofs.Common.{ap, subst, sym, ◌∙◌, ◌≡◌}
use Rattle.answer.specs.Checks.{pick}
use Rattle.frame.specs.Allowed.{ReceivedAllowed}
use Rattle.frame.specs.IbssFrames.{ibss_frame_means}
use Rattle.frame.specs.IbssLaid.{ibss_laid}
use Rattle.frame.specs.declared.ibss.ReceivedInIbss.{ReceivedInIbss}
use Rattle.owner.specs.Owners.{heard_from, KeptFits}
use Rattle.owner.specs.declared.Owner.{Owner}
use Rattle.member.specs.CodeTerms.Readings.{is_beacon}
use Rattle.member.proofs.Following.{owner_after, owner_fits_after, laid_allowed, named_recovery}
use Rattle.member.proofs.Member.take.Goals as goal

pub returns-clause-kept : goal.returns-clause-kept
returns-clause-kept c =
    let m = c.args.self in
    let s = m.station in
    let v = c.read_in_ibss-heard.result in
    let f = c.args.frame.now in
    let read : v ≡ ibss_laid (ibss_frame_means s.own s.ap s.interval f) = c.read_in_ibss-heard.ensures in
    let owner : c.heard_by.result ≡ owner_after m v =
    c.heard_by.ensures ∙ ap (λ (y : Option Owner). pick (is_beacon v.received) (heard_from y v.sender) y) c.named_by-named.ensures in record {
      station_valid =
          c.heard-taken.ensures.kept
          (subst (λ (z : ReceivedInIbss). ReceivedAllowed s.interval z.received) (sym read) (laid_allowed s.own s.ap s.interval f));
      owner_fits =
          subst KeptFits (sym (owner ∙ ap (owner_after m) read))
          (owner_fits_after m c.requires.owner_fits (ibss_frame_means s.own s.ap s.interval f) (named_recovery s.own s.ap s.interval f));
    }
