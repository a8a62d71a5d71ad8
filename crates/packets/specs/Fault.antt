-- The numbers and names of the faults of a recording.
use Rattle.std.specs.Prelude.{ℕ, ◌==◌, List, codes, if◌then◌else◌}
use Rattle.packets.specs.declared.fault.FaultKind.{FaultKind}
use Rattle.packets.specs.declared.fault.FaultKind.TheVariants as kinds

abbrev pub fault_number : FaultKind → ℕ
fault_number kinds.Format = 1
fault_number kinds.Truncated = 2
fault_number kinds.TooLong = 3
fault_number kinds.Block = 4
fault_number kinds.Time = 5
fault_number kinds.Device = 16
fault_number kinds.Memory = 17

abbrev pub fault_name : FaultKind → List ℕ
fault_name kinds.Format = codes "Format"
fault_name kinds.Truncated = codes "Truncated"
fault_name kinds.TooLong = codes "TooLong"
fault_name kinds.Block = codes "Block"
fault_name kinds.Time = codes "Time"
fault_name kinds.Device = codes "Device"
fault_name kinds.Memory = codes "Memory"

-- how many failures of a device a fault is
abbrev pub device_count : FaultKind → ℕ
device_count kind = if fault_number kind == 16 then 1 else 0
