-- The numbers and names of the faults of a capture.
use Rattle.std.specs.Prelude.{ℕ, List, codes}
use Rattle.mrt.specs.declared.fault.FaultKind.{FaultKind}
use Rattle.mrt.specs.declared.fault.FaultKind.TheVariants as kinds

abbrev pub fault_number : FaultKind → ℕ
fault_number kinds.Truncated = 1
fault_number kinds.TooLong = 2
fault_number kinds.Body = 3
fault_number kinds.BadState = 4
fault_number kinds.NotAMessage = 5
fault_number kinds.TimeBack = 6
fault_number kinds.RouteRefresh = 7
fault_number kinds.AddPath = 8
fault_number kinds.Device = 9
fault_number kinds.Memory = 10

abbrev pub fault_name : FaultKind → List ℕ
fault_name kinds.Truncated = codes "Truncated"
fault_name kinds.TooLong = codes "TooLong"
fault_name kinds.Body = codes "Body"
fault_name kinds.BadState = codes "BadState"
fault_name kinds.NotAMessage = codes "NotAMessage"
fault_name kinds.TimeBack = codes "TimeBack"
fault_name kinds.RouteRefresh = codes "RouteRefresh"
fault_name kinds.AddPath = codes "AddPath"
fault_name kinds.Device = codes "Device"
fault_name kinds.Memory = codes "Memory"
