-- The text of the object of a refusal, piece by piece: it needs no memory.
use Rattle.std.specs.Prelude.{◌++◌, ℕ, List, codes}
use Rattle.std.specs.Fmt.{decimal}

-- what is refused, and the number and the name of why
unfoldable pub front_text : List ℕ → ℕ → List ℕ → List ℕ
front_text what number name =
    codes "{\"type\":\"refused\",\"what\":\"" ++ (what ++ (codes "\",\"number\":"
    ++ (decimal number ++ (codes ",\"name\":\"" ++ (name ++ codes "\"")))))

-- and where
unfoldable pub packet_end : ℕ → List ℕ
packet_end packet = codes ",\"packet\":" ++ (decimal packet ++ codes "}\n")

unfoldable pub offset_end : ℕ → List ℕ
offset_end offset = codes ",\"at\":" ++ (decimal offset ++ codes "}\n")
