-- Element 37, Channel Switch Announcement (01, "Octets"; 7.3.2.20), length 3: mode, channel, count.
use Rattle.std.specs.Prelude.{Bool, not, ◌||◌, List, [], ◌∷◌, ℕ, ltb}
use Rattle.answer.specs.Checks.{Outcome}
use Rattle.channel.specs.Centres.{highest}
use Rattle.octets.specs.Numbers.{octet}
use Rattle.octets.specs.Elements.{fixed, element}
use Rattle.element.specs.declared.channel_switch.ChannelSwitch.{ChannelSwitch}

abbrev pub switch_in : List ℕ → ChannelSwitch
switch_in c = record { mode = octet 0 c; channel = octet 1 c; count = octet 2 c }

-- a mode over 1, or a channel over 200
abbrev pub switch_forbids : ChannelSwitch → Bool
switch_forbids s = ltb 1 s.mode || ltb highest s.channel

unfoldable pub switch_means : List ℕ → Outcome ChannelSwitch
switch_means = fixed 3 switch_in switch_forbids

abbrev pub switch_contents : ChannelSwitch → List ℕ
switch_contents s = s.mode ∷ s.channel ∷ s.count ∷ []

-- what the reader would refuse may not be written
abbrev pub switch_may : ChannelSwitch → Bool
switch_may s = not (switch_forbids s)

unfoldable pub switch_octets : ChannelSwitch → List ℕ
switch_octets s = element 37 (switch_contents s)
