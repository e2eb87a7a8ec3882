-- Single frames that shut out readers which look right (01, "How tight the promises are", "Wrong programs that look right"). A
-- definition that refused all frames, gave one fixed record, invented an element count or lost a Quiet element would break one of
-- these. Assumes nothing.

-- each of the seven kinds has a frame that is accepted
pub use Rattle.frame.proofs.Witness.{a_beacon, a_probe_response, a_measurement_request, a_measurement_report, a_tpc_request, a_tpc_report, a_switch}
-- two frames that differ in one field are read as different records
pub use Rattle.frame.proofs.Witness.{count_counts}
pub use Rattle.beacon.proofs.Witness.{capability_counts}
-- the number of elements is the number of elements in the octets, and each is found by its index
pub use Rattle.frame.proofs.Witness.{two_requests, three_requests, third_request, no_fourth, no_report_lem, used_twice}
-- a beacon with two Quiet elements keeps both, in order; one with eight keeps eight; nine are refused
pub use Rattle.frame.proofs.Witness.{two_quiets}
pub use Rattle.beacon.proofs.Witness.{two_slots, eight_quiets, nine_quiets}
