-- A body of one element as the frame that it makes, of each kind by the same steps.
use Rattle.std.specs.Prelude.{ℕ}
use Rattle.action.specs.declared.Opening.{Opening}
use Rattle.single_body.specs.declared.kinds.Kind.{Kind}
use Rattle.single_body.specs.declared.kinds.Single.{Single}
use Rattle.frame.specs.declared.Frame.{Frame}

abbrev pub single_frame : ℕ → Single → Frame
single_frame token Single.TpcRequest = Frame.TpcRequest token
single_frame token (Single.TpcReport t) = Frame.TpcReport token t
single_frame token (Single.ChannelSwitch s) = Frame.ChannelSwitch s

-- how such a body begins; action 4 has no token
abbrev pub single_opening : Kind → ℕ → Opening
single_opening Kind.TpcRequest token = Opening.Token 2 token
single_opening Kind.TpcReport token = Opening.Token 3 token
single_opening Kind.ChannelSwitch token = Opening.Switch
