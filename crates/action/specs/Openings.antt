-- How an action body begins (01, "Order": category present (1), category (5), action present (1), action (5), token present (1),
-- token value (9)). Action 4 has no token; token 0 is forbidden in actions 0 and 2. The place of a fault is that field's (02, One).
use Rattle.std.specs.Prelude.{Bool, not, ◌&&◌, ◌||◌, List, [], ◌∷◌, ℕ, ltb, eqb, length, Ok}
use Rattle.answer.specs.Checks.{pick, ◌⇒◌, checked, judged}
use Rattle.answer.specs.Faults.{fault_at, fault_nowhere, Placed}
use Rattle.answer.specs.declared.Refusal.{Refusal}
use Rattle.octets.specs.Numbers.{octet}
use Rattle.action.specs.declared.Opening.{Opening}

-- where the fields stand
abbrev pub category_field : ℕ
category_field = 0

abbrev pub action_field : ℕ
action_field = 1

abbrev pub token_field : ℕ
token_field = 2

-- the octets before the elements: category, action and token; action 4 has no token
abbrev pub fixed_fields : ℕ
fixed_fields = 3

abbrev pub switch_fixed_fields : ℕ
switch_fixed_fields = 2

-- token 0 is forbidden in actions 0 and 2
abbrev pub forbids_token : ℕ → ℕ → Bool
forbids_token action token = (eqb action 0 || eqb action 2) && eqb token 0

-- the checks in their order, and how a body begins that passes them
unfoldable pub opens_with : List ℕ → Placed Opening
opens_with body =
    checked
    (ltb (length body) 1 ⇒ fault_nowhere Refusal.TooShort
    ∷ not (eqb (octet category_field body) 0) ⇒ fault_at category_field Refusal.ForeignAction
    ∷ ltb (length body) switch_fixed_fields ⇒ fault_nowhere Refusal.TooShort
    ∷ ltb 4 (octet action_field body) ⇒ fault_at action_field Refusal.ForeignAction
    ∷ [])
    (pick (eqb (octet action_field body) 4) (Ok Opening.Switch)
    (judged
    (ltb (length body) fixed_fields ⇒ fault_nowhere Refusal.TooShort
    ∷ forbids_token (octet action_field body) (octet token_field body) ⇒ fault_at token_field Refusal.ForbiddenValue
    ∷ [])
    (Opening.Token (octet action_field body) (octet token_field body))))
