-- The exit statuses of the program, as numbers.
use Rattle.std.specs.Prelude.{ℕ}
use Rattle.bgp_tool.specs.declared.status.Status.{Status}
use Rattle.bgp_tool.specs.declared.status.Status.TheVariants.{Done, No, Unfinished, Refused}
use Rattle.bgp_tool.specs.declared.status.Status.TheVariants.{Memory, Device, Usage}

abbrev pub code_of : Status → ℕ
code_of Done = 0
code_of No = 1
code_of Unfinished = 2
code_of Refused = 3
code_of Memory = 4
code_of Device = 5
code_of Usage = 64
