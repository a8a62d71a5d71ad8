-- How a line names an end: its address and port, its AS number, and which records these are.
use Rattle.std.specs.Prelude.{◌++◌, ℕ, List, [], Option, None, Some, codes}
use Rattle.std.specs.Fmt.{decimal}
use Rattle.bgp_why.specs.Endpoint.{endpoint_text}
use Rattle.bgp_why.specs.declared.endpoint.Endpoint.{Endpoint}
use Rattle.bgp_check_text.specs.declared.end.EndName.{EndName}

-- the AS number in its OPEN, if it sent one
abbrev pub as_text : Option ℕ → List ℕ
as_text None = codes "AS unknown"
as_text (Some number) = codes "AS " ++ decimal number

-- the first and the last of these records, counted from 1 in their session
unfoldable pub part_text : ℕ × ℕ → List ℕ
part_text part = codes "records " ++ (decimal part.0 ++ (codes " to " ++ decimal part.1))

abbrev pub part_by : Option (ℕ × ℕ) → List ℕ
part_by None = []
part_by (Some part) = codes ", " ++ part_text part

-- `192.0.2.1:179 (AS 65001)`, or `192.0.2.1 (AS unknown, records 1 to 11)`
unfoldable pub end_text : EndName → List ℕ
end_text name =
    endpoint_text name.end ++ (codes " (" ++ (as_text name.as_number
    ++ (part_by name.part ++ codes ")")))

-- without an AS number: `192.0.2.1 (records 1 to 11)`
unfoldable pub part_end_text : Endpoint → ℕ × ℕ → List ℕ
part_end_text end part =
    endpoint_text end ++ (codes " (" ++ (part_text part ++ codes ")"))
