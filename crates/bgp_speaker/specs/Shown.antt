-- What a core is told and what it shows, as values.
use Rattle.bgp_prefix.specs.Shown.{ShownRecord, Received, Sent, Changed}
use Rattle.bgp_speaker.specs.declared.input.Input.{Input}
use Rattle.bgp_speaker.specs.declared.input.Input.TheVariants as inputs
use Rattle.bgp_speaker.specs.declared.shown.Shown.{Shown}
use Rattle.bgp_speaker.specs.declared.shown.Shown.TheVariants.{In, Out, Change}
use Rattle.bgp_speaker.specs.Core.{InputValue, Start, Passive, Stop, Connected, Failed}
use Rattle.bgp_speaker.specs.Core.{Bytes, Tick, Announce, Withdraw}

-- what it is told
abbrev pub input_value : Input → InputValue
input_value inputs.Start = Start
input_value inputs.Passive = Passive
input_value inputs.Stop = Stop
input_value inputs.Connected = Connected
input_value inputs.Failed = Failed
input_value (inputs.Bytes octets) = Bytes octets.now
input_value inputs.Tick = Tick
input_value (inputs.Announce prefix) = Announce prefix
input_value (inputs.Withdraw prefix) = Withdraw prefix

-- a record that it shows
abbrev pub shown_value : {X : Type 0} → Shown X → ShownRecord
shown_value (In t octets) = Received t octets.items
shown_value (Out t octets) = Sent t octets.items
shown_value (Change t old new) = Changed t old new
