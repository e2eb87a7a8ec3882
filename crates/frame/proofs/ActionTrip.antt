-- Demand 2 for action bodies (01, "Octets"): from that for lists of measurement elements and for bodies of one element.
-- Assumes nothing.
use Rattle.std.specs.Prelude.{Ok}
use mathlib.Core.Path.{◌≡◌, refl, sym, ap, subst, ◌∙◌}
use mathlib.Core.Bool.{true, not}
use mathlib.Core.List.{List, [], ◌++◌, append_cancel_left}
use Prim.Native.Nat.{ℕ}
use lib.Dec.{eqb}
use Rattle.action.specs.Openings.{fixed_fields, switch_fixed_fields}
use Rattle.single_body.specs.Singles.{single}
use Rattle.answer.proofs.Booleans.{both}
use Rattle.element.specs.ChannelSwitch.{switch_means, switch_contents, switch_may, switch_octets}
use Rattle.octets.specs.Elements.{RoundTrip}
use Rattle.measurement_element.specs.MeasurementReport.{ReportFits}
use Rattle.measurement_element.specs.MeasurementRequest.{RequestFits}
use Rattle.element.specs.TpcReport.{tpc_report_means, tpc_report_contents, tpc_report_may, tpc_report_octets, TpcReportFits}
use Rattle.element.specs.TpcRequest.{tpc_request_means, tpc_request_octets}
use Rattle.element.proofs.RoundTrips.{tpc_request_trip, tpc_report_trip, switch_trip}
use Rattle.measurement_body.specs.Lists.{AllFit, measurements_in, may_list, all_octets, all_interpreted, all_clear}
use Rattle.measurement_body.specs.Reports.{report_sort}
use Rattle.measurement_body.specs.Requests.{request_sort}
use Rattle.measurement_body.proofs.MeasurementLists.{measurements_trip}
use Rattle.measurement_body.specs.declared.kinds.Kind.{Kind}
use Rattle.walk.proofs.RunLaws.{octets_after}
use Rattle.octets.specs.Numbers.{Octets}
use Rattle.walk.specs.Handed.{handed_in, vendorless}
use Rattle.frame.specs.Actions.{Body, requests, reports, tpc_request, tpc_report, switch, action_means, action_octets, action_may, action_interpreted, action_clear, ActionFits}
use Rattle.frame.proofs.ActionParts.{lead, Holds, reads, parts}
use Rattle.frame.proofs.SingleTrip.{single_trip}

request_list : RoundTrip (measurements_in request_sort) (all_octets request_sort) (may_list request_sort) (AllFit RequestFits) (all_interpreted request_sort) (λ run. all_clear request_sort (handed_in run))
request_list = measurements_trip Kind.Requests

report_list : RoundTrip (measurements_in report_sort) (all_octets report_sort) (may_list report_sort) (AllFit ReportFits) (all_interpreted report_sort) (λ run. all_clear report_sort (handed_in run))
report_list = measurements_trip Kind.Reports

one_request : RoundTrip (λ run. single fixed_fields 34 tpc_request_means (handed_in run)) (λ u. tpc_request_octets) (λ u. true) (λ u. Unit {0}) (λ u. true) (λ run. vendorless (handed_in run))
one_request = single_trip fixed_fields 34 tpc_request_means (λ u. []) (λ u. true) (λ u. Unit {0}) tpc_request_trip

one_report : RoundTrip (λ run. single fixed_fields 35 tpc_report_means (handed_in run)) tpc_report_octets tpc_report_may TpcReportFits (λ t. true) (λ run. vendorless (handed_in run))
unfolding tpc_report_octets
one_report = single_trip fixed_fields 35 tpc_report_means tpc_report_contents tpc_report_may TpcReportFits tpc_report_trip

one_switch : RoundTrip (λ run. single switch_fixed_fields 37 switch_means (handed_in run)) switch_octets switch_may (λ s. Unit {0}) (λ s. true) (λ run. vendorless (handed_in run))
unfolding switch_octets
one_switch = single_trip switch_fixed_fields 37 switch_means switch_contents switch_may (λ s. Unit {0}) switch_trip

-- the octets after the fixed fields
abbrev elements : Body → List ℕ
elements (requests token rs) = all_octets request_sort rs
elements (reports token rs) = all_octets report_sort rs
elements (tpc_request token) = tpc_request_octets
elements (tpc_report token t) = tpc_report_octets t
elements (switch s) = switch_octets s

laid : (body : Body) → action_octets body ≡ lead body ++ elements body
unfolding action_octets
laid (requests token rs) = refl
laid (reports token rs) = refl
laid (tpc_request token) = refl
laid (tpc_report token t) = refl
laid (switch s) = refl

-- ---- what stands after the fixed fields

held : (body : Body) → ActionFits body → action_may body ≡ true → Holds body (elements body)
unfolding ActionFits action_may
held (requests token rs) f m =
    let p = both (not (eqb token 0)) (may_list request_sort rs) m in
    (p.0, request_list.there rs f p.1)
held (reports token rs) f m = report_list.there rs f m
held (tpc_request token) f m = (m, one_request.there tt tt refl)
held (tpc_report token t) f m = one_report.there t f m
held (switch s) f m = one_switch.there s f m

written : (body : Body) (run : List ℕ) → Octets run → Holds body run → action_interpreted body ≡ true → action_clear (lead body ++ run) ≡ true
    → (action_may body ≡ true) × (elements body ≡ run)
unfolding action_may action_interpreted action_clear
written (requests token rs) run o h i c =
    let p = request_list.back run rs o h.1 i c in
    (simp (h.0, p.0), p.1)
written (reports token rs) run o h i c = report_list.back run rs o h i c
written (tpc_request token) run o h i c = (h.0, (one_request.back run tt o h.1 refl c).1)
written (tpc_report token t) run o h i c = one_report.back run t o h refl c
written (switch s) run o h i c = one_switch.back run s o h refl c

allowed : (body : Body) → ActionFits body → Holds body (elements body) → action_interpreted body ≡ true → action_may body ≡ true
unfolding ActionFits action_may action_interpreted
allowed (requests token rs) f h i = simp (h.0, request_list.exact rs f h.1 i)
allowed (reports token rs) f h i = report_list.exact rs f h i
allowed (tpc_request token) f h i = h.0
allowed (tpc_report token t) f h i = refl
allowed (switch s) f h i = one_switch.exact s f h refl

fitting : (body : Body) (run : List ℕ) → Octets run → Holds body run → ActionFits body
unfolding ActionFits
fitting (requests token rs) run o h = request_list.fits run rs o h.1
fitting (reports token rs) run o h = report_list.fits run rs o h
fitting (tpc_request token) run o h = tt
fitting (tpc_report token t) run o h = one_report.fits run t o h
fitting (switch s) run o h = tt

-- ---- whole bodies

there : (body : Body) → ActionFits body → action_may body ≡ true → action_means (action_octets body) ≡ Ok body
there body f m = ap action_means (laid body) ∙ reads (elements body) body (held body f m)

back : (c : List ℕ) (body : Body) → Octets c → action_means c ≡ Ok body → action_interpreted body ≡ true → action_clear c ≡ true
    → (action_may body ≡ true) × (action_octets body ≡ c)
back c body o e i k =
    let p = parts c body e in
    let w =
    written body p.run (octets_after (lead body) p.run (subst Octets p.front o)) p.holds i
    (subst (λ (x : List ℕ). action_clear x ≡ true) p.front k)
    in
    (w.0, laid body ∙ ap (λ (x : List ℕ). lead body ++ x) w.1 ∙ sym p.front)

exact : (body : Body) → ActionFits body → action_means (action_octets body) ≡ Ok body → action_interpreted body ≡ true → action_may body ≡ true
exact body f e i =
    let p = parts (action_octets body) body e in
    let same = append_cancel_left (lead body) p.run (elements body) (sym p.front ∙ laid body) in
    allowed body f (subst (Holds body) same p.holds) i

fits : (c : List ℕ) (body : Body) → Octets c → action_means c ≡ Ok body → ActionFits body
fits c body o e =
    let p = parts c body e in
    fitting body p.run (octets_after (lead body) p.run (subst Octets p.front o)) p.holds

pub action_trip : RoundTrip action_means action_octets action_may ActionFits action_interpreted action_clear
action_trip = record { there = there; back = back; exact = exact; fits = fits }
