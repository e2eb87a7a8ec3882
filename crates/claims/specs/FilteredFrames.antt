-- What an accepted body or frame says, over the plain list of its elements (01, "Octets", "Order"). The code's walk and the folds over it have no
-- part in this.
use Rattle.std.specs.Prelude.{true, List, [], ◌∷◌, ◌≡◌, ℕ, ◌≤◌, eqb, length, drop, Ok, Some, None, Option}
use Rattle.action.specs.Openings.{fixed_fields, switch_fixed_fields}
use Rattle.answer.specs.Checks.{Outcome, pick, and_then}
use Rattle.beacon.specs.Beacons.{Told, fixed_length, quiet_limit, without_margin}
use Rattle.element.specs.ChannelSwitch.{switch_means}
use Rattle.element.specs.PowerConstraint.{power_means}
use Rattle.element.specs.Quiet.{quiet_means}
use Rattle.element.specs.TpcReport.{tpc_report_means}
use Rattle.element.specs.TpcRequest.{tpc_request_means}
use Rattle.element.specs.declared.channel_switch.ChannelSwitch.{ChannelSwitch}
use Rattle.element.specs.declared.power_constraint.PowerConstraint.{PowerConstraint}
use Rattle.element.specs.declared.tpc_report.TpcReport.{TpcReport}
use Rattle.frame.specs.Actions.{Body, requests, reports, tpc_request, tpc_report, switch}
use Rattle.frame.specs.Frames.{Kind, beacon, probe_response, action}
use Rattle.measurement_body.specs.Lists.{Sort}
use Rattle.measurement_body.specs.Reports.{report_sort}
use Rattle.measurement_body.specs.Requests.{request_sort}
use Rattle.octets.specs.Numbers.{number}
use Rattle.walk.specs.Handed.{vendor_id}
use Rattle.claims.specs.Filters.{Item, item, laid, of_id, not_of_id, ReadAs}

-- ---- beacons and probe responses. `b` is the beacon interval

-- what there may be one of, as a list of none or one
abbrev pub any_power : Option PowerConstraint → List PowerConstraint
any_power None = []
any_power (Some p) = p ∷ []

abbrev pub any_report : Option TpcReport → List TpcReport
any_report None = []
any_report (Some t) = t ∷ []

abbrev pub any_switch : Option ChannelSwitch → List ChannelSwitch
any_switch None = []
any_switch (Some s) = s ∷ []

-- the margin of a TPC Report is ignored there (7.3.2.18)
abbrev pub notice_report_means : List ℕ → Outcome TpcReport
notice_report_means c = and_then (tpc_report_means c) (λ t. Ok (without_margin t))

-- timestamp 8, interval 2, capability 2, and then elements side by side: those of ID 40 are the Quiet elements, at most 8, and of 32, 35 and 37
-- there is none or one. Of all others nothing is asked
pub record NoticeOf (b : ℕ) (body : List ℕ) (t : Told) : Type 0 where
  pub none_missing : fixed_length ≤ length body
  pub interval_is : number 2 8 body ≡ b
  pub timestamp_is : t.notice.timestamp ≡ number 8 0 body
  pub capability_is : t.notice.capability ≡ number 2 10 body
  pub items : List Item
  pub octets : drop fixed_length body ≡ laid items
  pub quiets_are : ReadAs (quiet_means b) (of_id 40 items) t.quiets
  pub few_quiets : length t.quiets ≤ quiet_limit
  pub power_is : ReadAs power_means (of_id 32 items) (any_power t.notice.power)
  pub report_is : ReadAs notice_report_means (of_id 35 items) (any_report t.notice.report)
  pub switch_is : ReadAs switch_means (of_id 37 items) (any_switch t.notice.switch)

-- ---- bodies of one element

-- the one element of this ID, and what its contents mean; after it there are none but vendors' elements (02, Four)
abbrev pub AloneOf : {A : Type 0} → ℕ → (List ℕ → Outcome A) → List ℕ → A → Type 0
AloneOf id means run a =
    (c : List ℕ) × (vendors : List Item) × (run ≡ laid (item id c ∷ vendors)) × (of_id vendor_id vendors ≡ vendors) × (means c ≡ Ok a)

-- ---- bodies of one or more measurement elements

-- the records with one token
unfoldable pub of_token : {A : Type 0} → (A → ℕ) → ℕ → List A → List A
of_token token t [] = []
of_token token t (a ∷ l) = pick (eqb (token a) t) (a ∷ of_token token t l) (of_token token t l)

-- one or more elements of this ID side by side, each with what its contents mean, and after the first of them also vendors' elements (02, Four); of requests no two
-- have the same token
pub record ListOf {A : Type 0} (s : Sort A) (run : List ℕ) (l : List A) : Type 0 where
  pub first : List ℕ
  pub others : List Item
  pub octets : run ≡ laid (item s.id first ∷ others)
  pub all_own : of_id s.id others ≡ not_of_id vendor_id others
  pub read : ReadAs s.means (item s.id first ∷ of_id s.id others) l
  pub once_each : s.once ≡ true → (t : ℕ) → length (of_token s.token t l) ≤ 1

-- ---- the body of a frame, by its kind

abbrev pub ActionOf : List ℕ → Body → Type 0
ActionOf body (requests token l) = ListOf request_sort (drop fixed_fields body) l
ActionOf body (reports token l) = ListOf report_sort (drop fixed_fields body) l
ActionOf body (tpc_request token) = AloneOf 34 tpc_request_means (drop fixed_fields body) tt
ActionOf body (tpc_report token t) = AloneOf 35 tpc_report_means (drop fixed_fields body) t
ActionOf body (switch s) = AloneOf 37 switch_means (drop switch_fixed_fields body) s

abbrev pub KindOf : ℕ → List ℕ → Kind → Type 0
KindOf b body (beacon t) = NoticeOf b body t
KindOf b body (probe_response t) = NoticeOf b body t
KindOf b body (action a) = ActionOf body a
