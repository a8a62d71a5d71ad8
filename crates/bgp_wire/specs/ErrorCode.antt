-- The Error codes of a NOTIFICATION (RFC 4271, 4.5; RFC 7313, 5; RFC 9687, 4).
use Rattle.std.specs.Prelude.{◌≡◌, ◌<◌, ◌⊎◌, ℕ}
use Rattle.bgp_wire.specs.declared.error_code.ErrorCode.{ErrorCode}
use Rattle.bgp_wire.specs.declared.error_code.ErrorCode.TheVariants.{MessageHeader, OpenMessage}
use Rattle.bgp_wire.specs.declared.error_code.ErrorCode.TheVariants.{UpdateMessage}
use Rattle.bgp_wire.specs.declared.error_code.ErrorCode.TheVariants.{HoldTimerExpired}
use Rattle.bgp_wire.specs.declared.error_code.ErrorCode.TheVariants.{FiniteStateMachine, Cease}
use Rattle.bgp_wire.specs.declared.error_code.ErrorCode.TheVariants.{RouteRefreshMessage}
use Rattle.bgp_wire.specs.declared.error_code.ErrorCode.TheVariants.{SendHoldTimerExpired}

-- the number of each kind of error
abbrev pub error_code : ErrorCode → ℕ
error_code MessageHeader = 1
error_code OpenMessage = 2
error_code UpdateMessage = 3
error_code HoldTimerExpired = 4
error_code FiniteStateMachine = 5
error_code Cease = 6
error_code RouteRefreshMessage = 7
error_code SendHoldTimerExpired = 8

-- the number stands for no kind of error
abbrev pub IsUnassigned : ℕ → Type 0
IsUnassigned number = (number ≡ 0) ⊎ (8 < number)
