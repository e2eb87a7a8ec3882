-- Each number that a call of the boundary gives back stands for one outcome, and one under 0 leaves every octet of the lent buffer. Assumes nothing.
use Rattle.std.specs.Prelude.{Ok, Err, Some, None, Option}
use mathlib.Core.Bool.{Bool, true}
use mathlib.Core.List.{List, []}
use mathlib.Core.Path.{◌≡◌, refl, sym, ap, ◌∙◌}
use Prim.Native.Nat.{ℕ, ◌+◌, ◌*◌, ◌<◌, ◌^◌}
use native.Mathlib.Omega.{arith}
use borrow.Author.Tests.{ltb-false}
use lib.ListN.{length}
use Rattle.answer.proofs.Judged.{never, passed, kept}
use Rattle.answer.proofs.RefusalNumbers.{numbered, same_refusal}
use Rattle.answer.specs.Checks.{Outcome, and_then}
use Rattle.answer.specs.Faults.{Placed}
use Rattle.answer.specs.declared.Fault.{Fault}
use Rattle.answer.specs.declared.Refusal.{Refusal}
use Rattle.channel.specs.Centres.{highest, centre_of}
use Rattle.fraction.proofs.Possible.{within}
use Rattle.fraction.proofs.SumBound.{fraction_bound}
use Rattle.fraction.specs.Fractions.{fraction_of, possible, busy_of}
use Rattle.frame.proofs.Within.{frame_within, ibss_frame_within}
use Rattle.frame.specs.CodeTerms.Located.{OffsetWithin}
use Rattle.frame.specs.Frames.{frame_means}
use Rattle.frame.specs.IbssFrames.{ibss_frame_means}
use Rattle.octets.specs.Writing.{room, wrote, after, left}
use Rattle.reply.specs.Replies.{left_by}
use Rattle.station.specs.Asking.{permission_number}
use Rattle.station.specs.declared.Station.{Station}
use Rattle.station.specs.declared.asking.Permission.{Permission}
use Rattle.station_record.specs.Calls.{relaid, asked_in}
use Rattle.station_record.specs.Records.{size}
use Rattle.boundary.specs.Codes.{code_of, address_of, Put, Given}
use Rattle.boundary.specs.FaultOffsets.{offset_or, fault_offset}
use Rattle.boundary.specs.Stations.{OnStation}
use Rattle.boundary.specs.SignedAnswers.{IsNegative, InRange, Answers, EachAnswers}
use Rattle.boundary.proofs.reading.oneiralth_read_frame as ReadFrame
use Rattle.boundary.proofs.reading.oneiralth_fault_offset as FaultOffset
use Rattle.boundary.proofs.reading.oneiralth_read_quiet as ReadQuiet
use Rattle.boundary.proofs.reading.oneiralth_read_request as ReadRequest
use Rattle.boundary.proofs.reading.oneiralth_read_report as ReadReport
use Rattle.boundary.proofs.ibss.oneiralth_read_ibss_frame as ReadIbssFrame
use Rattle.boundary.proofs.ibss.oneiralth_ibss_fault_offset as IbssFaultOffset
use Rattle.boundary.proofs.ibss.oneiralth_read_ibss_quiet as ReadIbssQuiet
use Rattle.boundary.proofs.ibss.oneiralth_read_dfs_pair as ReadDfsPair
use Rattle.boundary.proofs.elements.oneiralth_write_power_constraint as WritePowerConstraint
use Rattle.boundary.proofs.elements.oneiralth_write_tpc_request as WriteTpcRequest
use Rattle.boundary.proofs.elements.oneiralth_write_tpc_report as WriteTpcReport
use Rattle.boundary.proofs.elements.oneiralth_write_channel_switch as WriteChannelSwitch
use Rattle.boundary.proofs.elements.oneiralth_write_quiet as WriteQuiet
use Rattle.boundary.proofs.elements.oneiralth_write_ibss_dfs as WriteIbssDfs
use Rattle.boundary.proofs.elements.oneiralth_write_request as WriteRequest
use Rattle.boundary.proofs.elements.oneiralth_write_report as WriteReport
use Rattle.boundary.proofs.bodies.oneiralth_write_tpc_request_body as WriteTpcRequestBody
use Rattle.boundary.proofs.bodies.oneiralth_write_tpc_report_body as WriteTpcReportBody
use Rattle.boundary.proofs.bodies.oneiralth_write_channel_switch_body as WriteChannelSwitchBody
use Rattle.boundary.proofs.bodies.oneiralth_append_request as AppendRequest
use Rattle.boundary.proofs.bodies.oneiralth_append_report as AppendReport
use Rattle.boundary.proofs.replies.oneiralth_reply_to_tpc_request as ReplyToTpcRequest
use Rattle.boundary.proofs.replies.oneiralth_reply_to_measurement_request as ReplyToMeasurementRequest
use Rattle.boundary.proofs.stations.oneiralth_station_size as StationSize
use Rattle.boundary.proofs.stations.oneiralth_station_start as StationStart
use Rattle.boundary.proofs.stations.oneiralth_station_take as StationTake
use Rattle.boundary.proofs.stations.oneiralth_station_advance as StationAdvance
use Rattle.boundary.proofs.stations.oneiralth_station_ask as StationAsk
use Rattle.boundary.proofs.stations.oneiralth_station_reply_to_tpc_request as StationReplyToTpcRequest
use Rattle.boundary.proofs.stations.oneiralth_station_reply_to_measurement_request as StationReplyToMeasurementRequest
use Rattle.boundary.proofs.numbers.oneiralth_busy_fraction as BusyFraction
use Rattle.boundary.proofs.numbers.oneiralth_rpi_densities as RpiDensities
use Rattle.boundary.proofs.numbers.oneiralth_centre as Centre
use Rattle.boundary.proofs.lists.oneiralth_list as List

-- ---- no two outcomes share a number

pub number_tells : (o p : Outcome ℕ) → InRange o → InRange p → code_of o ≡ code_of p → o ≡ p
number_tells (Err r) (Err q) h k e = ap Err (same_refusal r q (omega (arith, (numbered r).1, (numbered q).1)))
number_tells (Err r) (Ok n) h k e = absurd (omega (arith, (numbered r).1))
number_tells (Ok m) (Err q) h k e = absurd (omega (arith, (numbered q).1))
number_tells (Ok m) (Ok n) h k e = ap Ok e

-- an outcome in range, of which a refusal leaves what was lent
answers : (o : Outcome ℕ) (code : ℕ) (lent exit : List ℕ) → InRange o → code ≡ code_of o → ((r : Refusal) → o ≡ Err r → exit ≡ lent) → Answers code lent exit
answers o code lent exit h e keeps =
    record { outcome = o; in_range = h; number = e; only = λ p k f. number_tells p o k h (sym f ∙ e); keeps = by o h e keeps }
  where
    by : (p : Outcome ℕ) → InRange p → code ≡ code_of p → ((r : Refusal) → p ≡ Err r → exit ≡ lent) → IsNegative code → exit ≡ lent
    by (Err r) k f keep negative = keep r refl
    by (Ok n) k f keep negative = absurd (omega arith)

-- ---- whatever `Put` and `Given` promise: what is written fits the buffer, so its length is in range

module _ (buffer : List ℕ) (fewer : length buffer < 2 ^ 63) where
  wrote_in_range : (may : Bool) (os : List ℕ) (at : ℕ) → InRange (wrote may os at buffer)
  unfolding wrote room
  wrote_in_range may os at = by (wrote may os at buffer) refl
    where
      by : (o : Outcome ℕ) → wrote may os at buffer ≡ o → InRange o
      by (Err r) e = tt
      by (Ok n) e =
          let p = passed _ _ _ (passed _ _ _ e).1 in
          omega (arith, ltb-false (length buffer) (at + length os) p.0, kept (length os) p.1)

  pub put_answers : {may : Bool} {os : List ℕ} {at code : ℕ} {exit : List ℕ} → Put may os at buffer code exit → Answers code buffer exit
  unfolding left
  put_answers {may} {os} {at} {code} {exit} w =
      answers (wrote may os at buffer) code buffer exit (wrote_in_range may os at) w.answers
      (λ r e. w.leaves ∙ ap (λ (o : Outcome ℕ). after o os at buffer) e)

  pub given_answers : {o : Outcome (List ℕ)} {code : ℕ} {exit : List ℕ} → Given o buffer code exit → Answers code buffer exit
  given_answers {o} {code} {exit} w = by o w.answers w.leaves
    where
      by : (p : Outcome (List ℕ)) → code ≡ code_of (and_then p (λ os. wrote true os 0 buffer)) → exit ≡ left_by p buffer → Answers code buffer exit
      by (Err r) e f = answers (Err r) code buffer exit tt e (λ q g. f)
      by (Ok os) e f = put_answers (record { answers = e; leaves = f })

-- ---- whatever `OnStation` promises, and the answer to a question

on_station_answers : {o : Outcome Station} {memory : List ℕ} {code : ℕ} {exit : List ℕ} → OnStation o memory code exit → Answers code memory exit
on_station_answers {o} {memory} {code} {exit} w = by o w.answers w.leaves
  where
    by : (p : Outcome Station) → code ≡ code_of (and_then p (λ _. Ok 0)) → exit ≡ relaid memory p → Answers code memory exit
    by (Err r) e f = answers (Err r) code memory exit tt e (λ q g. f)
    by (Ok s) e f = answers (Ok 0) code memory exit (omega arith) e (λ q g. absurd (never (sym g)))

permission_in_range : (p : Permission) → permission_number p < 2 ^ 63
permission_in_range Permission.Granted = omega arith
permission_in_range Permission.SwitchSilences = omega arith
permission_in_range Permission.QuietNow = omega arith
permission_in_range Permission.QuietLater = omega arith
permission_in_range Permission.SwitchBefore = omega arith
permission_in_range Permission.WrongLength = omega arith

asked_in_range : (o : Outcome Permission) → InRange (and_then o (λ p. Ok (permission_number p)))
asked_in_range (Err r) = tt
asked_in_range (Ok p) = permission_in_range p

-- ---- a centre and a busy fraction are in range

centre_in_range : (channel : ℕ) → InRange (centre_of channel)
unfolding centre_of
centre_in_range channel = by (centre_of channel) refl
  where
    by : (o : Outcome ℕ) → centre_of channel ≡ o → InRange o
    by (Err r) e = tt
    by (Ok n) e = let p = passed _ _ _ e in omega (arith, ltb-false highest channel p.0, kept (5000 + 5 * channel) p.1)

busy_in_range : (duration time : ℕ) → InRange (busy_of duration time)
unfolding busy_of
busy_in_range duration time = by (busy_of duration time) refl
  where
    by : (o : Outcome ℕ) → busy_of duration time ≡ o → InRange o
    by (Err r) e = tt
    by (Ok n) e =
        let p = passed _ _ _ e in
        let bounds = within duration time (possible duration time) refl p.0 in
        omega (arith, fraction_bound duration time bounds.0 bounds.1, kept (fraction_of duration time) p.1)

-- ---- an offset is no further than the frame's end

offset_in_range : (n : ℕ) → n < 2 ^ 63 → (r : Refusal) (o : Option ℕ) → OffsetWithin n o → InRange (offset_or r o)
offset_in_range n h r None k = tt
offset_in_range n h r (Some at) k = omega arith

fault_in_range : {A : Type 0} (n : ℕ) → n < 2 ^ 63 → (o : Placed A) → ((x : Fault) → o ≡ Err x → OffsetWithin n x.offset) → InRange (fault_offset o)
fault_in_range n h (Err x) k = offset_in_range n h x.refusal x.offset (k x refl)
fault_in_range n h (Ok a) k = tt

-- a slice of octets has fewer than 2 ^ 63 of them
fewer : {n : ℕ} → (n < 2 ^ 64) × (n * 1 < 2 ^ 63) → n < 2 ^ 63
fewer h = omega arith

-- ---- each exported function, by its own contract

pub record EveryCall : Type 0 where
  pub read_frame : EachAnswers 2 ReadFrame.Kinds.ps ReadFrame.Reads.Post (λ κs a. a.1.1.1.1.0.now) (λ κs e. e.1.1.1.1.0.now)
  pub fault_offset_lem : EachAnswers 1 FaultOffset.Kinds.ps FaultOffset.Reads.Post (λ κs a. []) (λ κs e. [])
  pub read_quiet : EachAnswers 2 ReadQuiet.Kinds.ps ReadQuiet.Reads.Post (λ κs a. a.1.1.1.1.1.0.now) (λ κs e. e.1.1.1.1.1.0.now)
  pub read_request : EachAnswers 2 ReadRequest.Kinds.ps ReadRequest.Reads.Post (λ κs a. a.1.1.1.1.1.0.now) (λ κs e. e.1.1.1.1.1.0.now)
  pub read_report : EachAnswers 2 ReadReport.Kinds.ps ReadReport.Reads.Post (λ κs a. a.1.1.1.1.1.0.now) (λ κs e. e.1.1.1.1.1.0.now)
  pub read_ibss_frame : EachAnswers 2 ReadIbssFrame.Kinds.ps ReadIbssFrame.Reads.Post (λ κs a. a.1.1.1.1.0.now) (λ κs e. e.1.1.1.1.0.now)
  pub ibss_fault_offset : EachAnswers 1 IbssFaultOffset.Kinds.ps IbssFaultOffset.Reads.Post (λ κs a. []) (λ κs e. [])
  pub read_ibss_quiet : EachAnswers 2 ReadIbssQuiet.Kinds.ps ReadIbssQuiet.Reads.Post (λ κs a. a.1.1.1.1.1.0.now) (λ κs e. e.1.1.1.1.1.0.now)
  pub read_dfs_pair : EachAnswers 2 ReadDfsPair.Kinds.ps ReadDfsPair.Reads.Post (λ κs a. a.1.1.1.1.1.0.now) (λ κs e. e.1.1.1.1.1.0.now)
  pub write_power_constraint : EachAnswers 1 WritePowerConstraint.Kinds.ps WritePowerConstraint.Reads.Post (λ κs a. a.1.0.now) (λ κs e. e.1.0.now)
  pub write_tpc_request : EachAnswers 1 WriteTpcRequest.Kinds.ps WriteTpcRequest.Reads.Post (λ κs a. a.0.now) (λ κs e. e.0.now)
  pub write_tpc_report : EachAnswers 1 WriteTpcReport.Kinds.ps WriteTpcReport.Reads.Post (λ κs a. a.1.1.0.now) (λ κs e. e.1.1.0.now)
  pub write_channel_switch : EachAnswers 1 WriteChannelSwitch.Kinds.ps WriteChannelSwitch.Reads.Post (λ κs a. a.1.1.1.0.now) (λ κs e. e.1.1.1.0.now)
  pub write_quiet : EachAnswers 1 WriteQuiet.Kinds.ps WriteQuiet.Reads.Post (λ κs a. a.1.1.1.1.1.0.now) (λ κs e. e.1.1.1.1.1.0.now)
  pub write_ibss_dfs : EachAnswers 2 WriteIbssDfs.Kinds.ps WriteIbssDfs.Reads.Post (λ κs a. a.1.1.1.0.now) (λ κs e. e.1.1.1.0.now)
  pub write_request : EachAnswers 1 WriteRequest.Kinds.ps WriteRequest.Reads.Post (λ κs a. a.1.1.1.1.1.1.1.1.0.now) (λ κs e. e.1.1.1.1.1.1.1.1.0.now)
  pub write_report : EachAnswers 1 WriteReport.Kinds.ps WriteReport.Reads.Post (λ κs a. a.1.1.1.1.1.1.1.1.0.now) (λ κs e. e.1.1.1.1.1.1.1.1.0.now)
  pub write_tpc_request_body : EachAnswers 1 WriteTpcRequestBody.Kinds.ps WriteTpcRequestBody.Reads.Post (λ κs a. a.1.0.now) (λ κs e. e.1.0.now)
  pub write_tpc_report_body : EachAnswers 1 WriteTpcReportBody.Kinds.ps WriteTpcReportBody.Reads.Post (λ κs a. a.1.1.1.0.now) (λ κs e. e.1.1.1.0.now)
  pub write_channel_switch_body : EachAnswers 1 WriteChannelSwitchBody.Kinds.ps WriteChannelSwitchBody.Reads.Post (λ κs a. a.1.1.1.0.now) (λ κs e. e.1.1.1.0.now)
  pub append_request : EachAnswers 1 AppendRequest.Kinds.ps AppendRequest.Reads.Post (λ κs a. a.0.now) (λ κs e. e.0.now)
  pub append_report : EachAnswers 1 AppendReport.Kinds.ps AppendReport.Reads.Post (λ κs a. a.0.now) (λ κs e. e.0.now)
  pub reply_to_tpc_request : EachAnswers 2 ReplyToTpcRequest.Kinds.ps ReplyToTpcRequest.Reads.Post (λ κs a. a.1.1.1.1.1.0.now) (λ κs e. e.1.1.1.1.1.0.now)
  pub reply_to_measurement_request : EachAnswers 2 ReplyToMeasurementRequest.Kinds.ps ReplyToMeasurementRequest.Reads.Post (λ κs a. a.1.1.1.1.1.1.1.1.1.1.1.1.1.1.1.0.now) (λ κs e. e.1.1.1.1.1.1.1.1.1.1.1.1.1.1.1.0.now)
  pub station_size : EachAnswers 0 StationSize.Kinds.ps StationSize.Reads.Post (λ κs a. []) (λ κs e. [])
  pub station_start : EachAnswers 1 StationStart.Kinds.ps StationStart.Reads.Post (λ κs a. a.1.1.1.1.0.now) (λ κs e. e.1.1.1.1.0.now)
  pub station_take_lem : EachAnswers 2 StationTake.Kinds.ps StationTake.Reads.Post (λ κs a. a.0.now) (λ κs e. e.0.now)
  pub station_advance : EachAnswers 1 StationAdvance.Kinds.ps StationAdvance.Reads.Post (λ κs a. a.0.now) (λ κs e. e.0.now)
  pub station_ask : EachAnswers 1 StationAsk.Kinds.ps StationAsk.Reads.Post (λ κs a. []) (λ κs e. [])
  pub station_reply_to_tpc_request : EachAnswers 3 StationReplyToTpcRequest.Kinds.ps StationReplyToTpcRequest.Reads.Post (λ κs a. a.1.1.1.1.0.now) (λ κs e. e.1.1.1.1.0.now)
  pub station_reply_to_measurement_request : EachAnswers 3 StationReplyToMeasurementRequest.Kinds.ps StationReplyToMeasurementRequest.Reads.Post (λ κs a. a.1.1.1.1.1.1.1.1.1.1.1.1.1.0.now) (λ κs e. e.1.1.1.1.1.1.1.1.1.1.1.1.1.0.now)
  pub busy_fraction : EachAnswers 0 BusyFraction.Kinds.ps BusyFraction.Reads.Post (λ κs a. []) (λ κs e. [])
  pub rpi_densities : EachAnswers 1 RpiDensities.Kinds.ps RpiDensities.Reads.Post (λ κs a. a.1.1.1.1.1.1.1.1.1.0.now) (λ κs e. e.1.1.1.1.1.1.1.1.1.0.now)
  pub centre : EachAnswers 0 Centre.Kinds.ps Centre.Reads.Post (λ κs a. []) (λ κs e. [])
  pub list : EachAnswers 2 List.Kinds.ps List.Reads.Post (λ κs a. a.1.0.now) (λ κs e. e.1.0.now)

pub every_call : EveryCall
every_call =
    record {
      read_frame = λ κs a e x g p. given_answers _ (fewer g.1.1.1.1.0) p;
      fault_offset_lem =
          λ κs a e x g p.
          answers (fault_offset (frame_means (address_of a.1.0) (address_of a.1.1.0) a.1.1.1.0 a.0.now)) x [] []
          (fault_in_range _ (fewer g.0) _ (frame_within (address_of a.1.0) (address_of a.1.1.0) a.1.1.1.0 a.0.now)) p (λ r f. refl);
      read_quiet = λ κs a e x g p. given_answers _ (fewer g.1.1.1.1.1.0) p;
      read_request = λ κs a e x g p. given_answers _ (fewer g.1.1.1.1.1.0) p;
      read_report = λ κs a e x g p. given_answers _ (fewer g.1.1.1.1.1.0) p;
      read_ibss_frame = λ κs a e x g p. given_answers _ (fewer g.1.1.1.1.0) p;
      ibss_fault_offset =
          λ κs a e x g p.
          answers (fault_offset (ibss_frame_means (address_of a.1.0) (address_of a.1.1.0) a.1.1.1.0 a.0.now)) x [] []
          (fault_in_range _ (fewer g.0) _ (ibss_frame_within (address_of a.1.0) (address_of a.1.1.0) a.1.1.1.0 a.0.now)) p (λ r f. refl);
      read_ibss_quiet = λ κs a e x g p. given_answers _ (fewer g.1.1.1.1.1.0) p;
      read_dfs_pair = λ κs a e x g p. given_answers _ (fewer g.1.1.1.1.1.0) p;
      write_power_constraint = λ κs a e x g p. put_answers _ (fewer g.1.0) p;
      write_tpc_request = λ κs a e x g p. put_answers _ (fewer g.0) p;
      write_tpc_report = λ κs a e x g p. put_answers _ (fewer g.1.1.0) p;
      write_channel_switch = λ κs a e x g p. put_answers _ (fewer g.1.1.1.0) p;
      write_quiet = λ κs a e x g p. put_answers _ (fewer g.1.1.1.1.1.0) p;
      write_ibss_dfs = λ κs a e x g p. put_answers _ (fewer g.1.1.1.0) p;
      write_request = λ κs a e x g p. put_answers _ (fewer g.1.1.1.1.1.1.1.1.0) p;
      write_report = λ κs a e x g p. put_answers _ (fewer g.1.1.1.1.1.1.1.1.0) p;
      write_tpc_request_body = λ κs a e x g p. put_answers _ (fewer g.1.0) p;
      write_tpc_report_body = λ κs a e x g p. put_answers _ (fewer g.1.1.1.0) p;
      write_channel_switch_body = λ κs a e x g p. put_answers _ (fewer g.1.1.1.0) p;
      append_request = λ κs a e x g p. put_answers _ (fewer g.0) p;
      append_report = λ κs a e x g p. put_answers _ (fewer g.0) p;
      reply_to_tpc_request = λ κs a e x g p. given_answers _ (fewer g.1.1.1.1.1.0) p;
      reply_to_measurement_request = λ κs a e x g p. given_answers _ (fewer g.1.1.1.1.1.1.1.1.1.1.1.1.1.1.1.0) p;
      station_size = λ κs a e x g p. answers (Ok size) x [] [] (omega arith) p (λ r f. refl);
      station_start = λ κs a e x g p. on_station_answers p;
      station_take_lem = λ κs a e x g p. on_station_answers p;
      station_advance = λ κs a e x g p. on_station_answers p;
      station_ask = λ κs a e x g p. answers (and_then (asked_in a.1.0 a.0.now) (λ q. Ok (permission_number q))) x [] [] (asked_in_range (asked_in a.1.0 a.0.now)) p (λ r f. refl);
      station_reply_to_tpc_request = λ κs a e x g p. given_answers _ (fewer g.1.1.1.1.0) p;
      station_reply_to_measurement_request = λ κs a e x g p. given_answers _ (fewer g.1.1.1.1.1.1.1.1.1.1.1.1.1.0) p;
      busy_fraction = λ κs a e x g p. answers (busy_of a.1.0 a.0) x [] [] (busy_in_range a.1.0 a.0) p (λ r f. refl);
      rpi_densities = λ κs a e x g p. given_answers _ (fewer g.1.1.1.1.1.1.1.1.1.0) p;
      centre = λ κs a e x g p. answers (centre_of a.0) x [] [] (centre_in_range a.0) p (λ r f. refl);
      list = λ κs a e x g p. put_answers _ (fewer g.1.0) p;
    }
