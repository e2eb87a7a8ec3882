-- The three bodies of one element (01, "Octets": actions 2 (one 34) and 3 (one 35); action 4 has no token and one 37).
use Rattle.std.specs.Prelude.{ℕ, List, Ok}
use Rattle.action.specs.Openings.{fixed_fields, switch_fixed_fields}
use Rattle.answer.specs.Checks.{Outcome, and_then}
use Rattle.element.specs.ChannelSwitch.{switch_means}
use Rattle.element.specs.TpcReport.{tpc_report_means}
use Rattle.element.specs.TpcRequest.{tpc_request_means}
use Rattle.single_body.specs.declared.kinds.Kind.{Kind}
use Rattle.single_body.specs.declared.kinds.Single.{Single}

abbrev pub id_of : Kind → ℕ
id_of Kind.TpcRequest = 34
id_of Kind.TpcReport = 35
id_of Kind.ChannelSwitch = 37

-- the octets before the element
abbrev pub fields_before : Kind → ℕ
fields_before Kind.TpcRequest = fixed_fields
fields_before Kind.TpcReport = fixed_fields
fields_before Kind.ChannelSwitch = switch_fixed_fields

-- what its contents say
abbrev pub contents_mean : Kind → List ℕ → Outcome Single
contents_mean Kind.TpcRequest c = and_then (tpc_request_means c) (λ u. Ok Single.TpcRequest)
contents_mean Kind.TpcReport c = and_then (tpc_report_means c) (λ t. Ok (Single.TpcReport t))
contents_mean Kind.ChannelSwitch c = and_then (switch_means c) (λ s. Ok (Single.ChannelSwitch s))
