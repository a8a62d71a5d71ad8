-- States of a session by their numbers (RFC 6396, 4.4.1).
use Rattle.std.specs.Prelude.{ℕ}
use Rattle.bgp_recording.specs.declared.state.State.{State}
use Rattle.bgp_recording.specs.declared.state.State.TheVariants.{Idle, Connect, Active}
use Rattle.bgp_recording.specs.declared.state.State.TheVariants.{OpenSent, OpenConfirm, Established}

abbrev pub state_number : State → ℕ
state_number Idle = 1
state_number Connect = 2
state_number Active = 3
state_number OpenSent = 4
state_number OpenConfirm = 5
state_number Established = 6
