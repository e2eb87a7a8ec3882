-- A reply, read from the other side, is the record that was meant, with what the caller has found (01, "Replies"). Nothing is asked of the two addresses: a
-- frame that is due a reply has them in it. Assumes nothing.
use Rattle.std.specs.Prelude.{Ok}
use mathlib.Core.Bool.{true, false}
use mathlib.Core.List.{List, [], ◌∷◌}
use mathlib.Core.Logic.{◌⊎◌, inl, inr}
use mathlib.Core.Path.{◌≡◌, refl, ap, ◌∙◌, subst₂}
use Prim.Native.Nat.{ℕ, ◌≤◌, ◌<◌, ◌^◌}
use native.Mathlib.Omega.{arith}
use lib.ListN.{length}
use Rattle.element.specs.TpcReport.{TpcReportFits, tpc_report_octets}
use Rattle.element.specs.declared.tpc_report.TpcReport.{TpcReport}
use Rattle.frame.proofs.ActionTrip.{action_trip}
use Rattle.frame.specs.Actions.{Body, requests, reports, tpc_request, tpc_report, action_means, action_octets, action_may, ActionFits}
use Rattle.frame.specs.Frames.{action, frame_means}
use Rattle.header.proofs.Heard.{heard_as}
use Rattle.header.proofs.Addresses.{same_self}
use Rattle.header.specs.Headers.{da, sa, to_all, foreign_header, foreign_address, header_means}
use Rattle.header.specs.declared.address.Cell.{Cell}
use Rattle.header.specs.declared.management.Subtype.{Subtype}
use Rattle.measured_report.specs.declared.Readings.{Readings}
use Rattle.measurement_body.specs.Lists.{may_all, may_list}
use Rattle.measurement_element.specs.MeasurementReport.{ReportFits, report_may}
use Rattle.measurement_element.specs.declared.measurement_report.Report.{Report}
use Rattle.octets.specs.Numbers.{Octets}
use Rattle.reply.proofs.OneReport.{longest_reply_body, body, short_body}
use Rattle.reply.specs.Due.{asks, due_means}
use Rattle.reply.specs.Frames.{reply_frame}
use Rattle.reply.specs.Replies.{tpc_reply, measurement_reply}
use Rattle.single_body.specs.Singles.{tpc_report_body}
use Rattle.claims.proofs.DueFrames.{owed_by_station, element_fits}
use Rattle.claims.proofs.ErrorReturns.{returns_body}
use Rattle.claims.proofs.OwedReports.{owed}
use Rattle.claims.proofs.ReplyParts.{TpcParts, MeasurementParts, ReturnParts, tpc_parts, measurement_parts}
use Rattle.claims.specs.ErrorReturns.{ReturnsBody}
use Rattle.claims.specs.Exchanged.{exchanged}
use Rattle.claims.specs.RepliesRead.{TpcReadsBack, ReadsBack}

-- ---- the header

-- between the addresses of a frame that went to one station
module _ (f os : List ℕ) (one : to_all f ≡ false) (short : length os ≤ longest_reply_body) where
  abbrev heard : List ℕ
  heard = exchanged (reply_frame (da f) (sa f) os)

  not_foreign : foreign_header heard ≡ false
  unfolding foreign_header
  not_foreign = refl

  to_one_lem : to_all heard ≡ false
  unfolding to_all
  to_one_lem = one

  from_ap_lem : foreign_address Cell.Ap (da f) (sa f) heard ≡ false
  unfolding foreign_address
  from_ap_lem = rw (same_self (sa f), same_self (da f))

  headed : header_means Cell.Ap (da f) (sa f) heard ≡ Ok (record { subtype = Subtype.Action; to_all = false })
  headed = heard_as Cell.Ap (da f) (sa f) heard Subtype.Action false (omega arith) (omega arith) not_foreign from_ap_lem refl to_one_lem

  framed : (b : ℕ) (k : Body) → action_means os ≡ Ok k → frame_means (da f) (sa f) b heard ≡ Ok (record { to_all = false; kind = action k })
  unfolding frame_means
  framed b k e = rw (headed, e)

module _ (own ap' f : List ℕ) where
  heard_from_ap : (asked : Body) → due_means own ap' f ≡ Ok (asks asked) → (os : List ℕ) (b : ℕ) (k : Body) → length os ≤ longest_reply_body → action_means os ≡ Ok k
      → frame_means own ap' b (exchanged (reply_frame own ap' os)) ≡ Ok (record { to_all = false; kind = action k })
  heard_from_ap asked d os b k short e =
      let a = owed_by_station own ap' f (asks asked) d in
      subst₂ (λ (o m : List ℕ). frame_means o m b (exchanged (reply_frame o m os)) ≡ Ok (record { to_all = false; kind = action k })) a.to_station a.from_ap
      (framed f os a.to_one short b k e)

  -- every reply to a TPC Request reads back as the report with the request's token; any other is an error return
  pub tpc_reply_read : (os : List ℕ) (report : TpcReport) → TpcReportFits report → tpc_reply own ap' report f ≡ Ok os
      → TpcReadsBack own ap' f report os ⊎ ReturnsBody own ap' f os
  unfolding tpc_report_octets action_may action_octets ActionFits
  tpc_reply_read os report fits e = by (tpc_parts own ap' f os report e)
    where
      by : TpcParts own ap' f os report ⊎ ReturnParts own ap' f os → TpcReadsBack own ap' f report os ⊎ ReturnsBody own ap' f os
      by (inl p) =
          let token = p.token in
          inl
          (record {
            token = token;
            due = p.due;
            read = λ b.
                ap (λ (xs : List ℕ). frame_means own ap' b (exchanged xs)) p.octets
                ∙ heard_from_ap (tpc_request token) p.due (tpc_report_body token report) b (tpc_report token report) (omega arith) (action_trip.there (tpc_report token report) fits refl);
          })
      by (inr p) = inr (returns_body own ap' f os p)

  one_report : (token : ℕ) (x : Report) → ReportFits x → report_may x ≡ true → action_means (body token x) ≡ Ok (reports token (x ∷ []))
  unfolding action_may action_octets ActionFits may_list may_all
  one_report token x fits m = action_trip.there (reports token (x ∷ [])) (fits, tt) (rw m)

  report_read : (os : List ℕ) (clock index : ℕ) (readings : Readings) → Octets f → clock < 2 ^ 32 → length readings.times ≡ 8
      → MeasurementParts own ap' f os clock index readings → ReadsBack own ap' f clock index readings os
  report_read os clock index readings octets within eight p =
      let token = p.token in
      let x = p.report in
      let asked = requests token p.elements in
      let o = owed clock readings p.request x p.owed in
      let densities = o.eight eight in
      let fits = o.fits within (element_fits own ap' f token p.elements index p.request p.due p.asked octets) in
      record {
        token = token;
        elements = p.elements;
        request = p.request;
        due = p.due;
        asked = p.asked;
        report = x;
        read = λ b.
            ap (λ (xs : List ℕ). frame_means own ap' b (exchanged xs)) p.octets
            ∙ heard_from_ap asked p.due (body token x) b (reports token (x ∷ [])) (short_body token x densities) (one_report token x (fits, densities) p.may);
        same_token = o.same_token;
        same_type = o.same_type;
        owed = p.owed;
        carries = o.carries p.may;
      }

  -- every reply to an element of a Measurement Request reads back as the report that is owed for it; any other is an error return. `clock` is of 32 bits
  -- and the times are eight, as in the code
  pub measurement_reply_read : (os : List ℕ) (clock index : ℕ) (readings : Readings) → Octets f → clock < 2 ^ 32 → length readings.times ≡ 8
      → measurement_reply own ap' clock index readings f ≡ Ok os → ReadsBack own ap' f clock index readings os ⊎ ReturnsBody own ap' f os
  measurement_reply_read os clock index readings octets within eight e = by (measurement_parts own ap' f os clock index readings e)
    where
      by : MeasurementParts own ap' f os clock index readings ⊎ ReturnParts own ap' f os → ReadsBack own ap' f clock index readings os ⊎ ReturnsBody own ap' f os
      by (inl p) = inl (report_read os clock index readings octets within eight p)
      by (inr p) = inr (returns_body own ap' f os p)
