-- The lines of a capture's sessions.
use Rattle.std.specs.Prelude.{◌++◌, ℕ, List, [], ◌∷◌, Option, None, Some, codes, length}
use Rattle.std.specs.Fmt.{decimal}
use Rattle.std.specs.List.{flat_map}
use Rattle.bgp_prefix.specs.Text.{address_text}
use Rattle.bgp_clock.specs.When.{short_text, when_text}
use Rattle.mrt.specs.Fault.{fault_name, fault_number}
use Rattle.mrt.specs.Layout.{header_of}
use Rattle.mrt.specs.declared.fault.CaptureFault.{CaptureFault}
use Rattle.mrt_sessions.specs.Counts.{counts_in}
use Rattle.mrt_sessions.specs.declared.addresses.Addresses.{Addresses}
use Rattle.mrt_sessions.specs.declared.counts.Counts.{Counts}
use Rattle.mrt_sessions.specs.File.{Located}
use Rattle.mrt_sessions.specs.Sessions.{records_between, sessions_in}
use Rattle.bgp_list.specs.Causes.{capture_cause}

-- the seconds of the first and of the last record: 0, if there is none
abbrev pub first_second : List Located → ℕ
first_second [] = 0
first_second (named ∷ later) = (header_of named.octets).second

abbrev pub last_second : List Located → ℕ
last_second [] = 0
last_second (named ∷ []) = (header_of named.octets).second
last_second (named ∷ next ∷ later) = last_second (next ∷ later)

unfoldable pub counts_text : Counts → List ℕ
counts_text counts =
    codes "received " ++ (decimal counts.received ++ (codes ", sent " ++ (decimal counts.sent
    ++ (codes ", changes of state " ++ decimal counts.changes))))

-- the times of the first and of the last record, the latter without the date if both have one
unfoldable pub times_text : ℕ → ℕ → List ℕ
times_text first last =
    when_text first None ++ (codes " to " ++ (short_text first last None ++ codes " UTC"))

unfoldable pub session_line : Addresses → List Located → List ℕ
session_line addresses named =
    codes "session: " ++ (address_text addresses.local ++ (codes " with peer "
    ++ (address_text addresses.peer ++ (codes ", "
    ++ (times_text (first_second named) (last_second named) ++ (codes ", records "
    ++ (decimal (length named) ++ (codes ": " ++ (counts_text (counts_in named)
    ++ codes "\n")))))))))

-- the sessions of these records, in the order of their first ones
abbrev pub sessions_text : List Located → List ℕ
sessions_text named =
    flat_map (λ addresses. session_line addresses (records_between addresses named))
    (sessions_in named)

-- the line of what is refused in a capture: its octet, its number, its name, and what is wrong
unfoldable pub refused_text : CaptureFault → List ℕ
refused_text fault =
    codes "refused at octet " ++ (decimal fault.offset ++ (codes ": "
    ++ (decimal (fault_number fault.kind) ++ (codes " " ++ (fault_name fault.kind ++ (codes ", "
    ++ (capture_cause fault.kind ++ codes "\n")))))))

-- why the file isn't read to its end, if it isn't
abbrev pub fault_text : Option CaptureFault → List ℕ
fault_text None = []
fault_text (Some fault) = refused_text fault
