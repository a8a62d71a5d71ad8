-- The line of a message in words, and of what the data of a NOTIFICATION say.
use Rattle.std.specs.Prelude.{◌++◌, ℕ, List, codes}
use Rattle.bgp_why_parts.specs.Cut.{cut}

abbrev pub message_line : List ℕ → List ℕ
message_line text = codes "  message: " ++ (cut text ++ codes "\n")

abbrev pub data_line : List ℕ → List ℕ
data_line text = codes "  data: " ++ (cut text ++ codes "\n")
