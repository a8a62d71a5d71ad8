-- The names of what a NOTIFICATION says, as IANA's registry "BGP Error (Notification) Codes" and
-- its registries of subcodes have them.
use Rattle.std.specs.Prelude.{◌++◌, ◌==◌, ◌||◌, not, ℕ, Bool, List, [], ◌∷◌, codes, is_some}
use Rattle.std.specs.Prelude.{if◌then◌else◌}
use Rattle.bgp_names.specs.Naming.{name_in, named}

-- the error codes (RFC 4271, 4.5; RFC 7313, 5; RFC 9687, 4)
abbrev pub code_names : List (ℕ × List ℕ)
code_names =
    (1, codes "Message Header Error") ∷ (2, codes "OPEN Message Error")
    ∷ (3, codes "UPDATE Message Error") ∷ (4, codes "Hold Timer Expired")
    ∷ (5, codes "Finite State Machine Error") ∷ (6, codes "Cease")
    ∷ (7, codes "ROUTE-REFRESH Message Error") ∷ (8, codes "Send Hold Timer Expired") ∷ []

-- the subcodes of Message Header Error (RFC 4271, 6.1)
abbrev pub header_error_names : List (ℕ × List ℕ)
header_error_names =
    (0, codes "Unspecific") ∷ (1, codes "Connection Not Synchronized")
    ∷ (2, codes "Bad Message Length") ∷ (3, codes "Bad Message Type") ∷ []

-- of OPEN Message Error (RFC 4271, 6.2; RFC 5492, 5; RFC 9234, 4.2)
abbrev pub open_error_names : List (ℕ × List ℕ)
open_error_names =
    (0, codes "Unspecific") ∷ (1, codes "Unsupported Version Number") ∷ (2, codes "Bad Peer AS")
    ∷ (3, codes "Bad BGP Identifier") ∷ (4, codes "Unsupported Optional Parameter")
    ∷ (6, codes "Unacceptable Hold Time") ∷ (7, codes "Unsupported Capability")
    ∷ (11, codes "Role Mismatch") ∷ []

-- of UPDATE Message Error (RFC 4271, 6.3)
abbrev pub update_error_names : List (ℕ × List ℕ)
update_error_names =
    (0, codes "Unspecific") ∷ (1, codes "Malformed Attribute List")
    ∷ (2, codes "Unrecognized Well-known Attribute")
    ∷ (3, codes "Missing Well-known Attribute") ∷ (4, codes "Attribute Flags Error")
    ∷ (5, codes "Attribute Length Error") ∷ (6, codes "Invalid ORIGIN Attribute")
    ∷ (8, codes "Invalid NEXT_HOP Attribute") ∷ (9, codes "Optional Attribute Error")
    ∷ (10, codes "Invalid Network Field") ∷ (11, codes "Malformed AS_PATH") ∷ []

-- of Finite State Machine Error (RFC 6608, 3)
abbrev pub fsm_error_names : List (ℕ × List ℕ)
fsm_error_names =
    (0, codes "Unspecified Error")
    ∷ (1, codes "Receive Unexpected Message in OpenSent State")
    ∷ (2, codes "Receive Unexpected Message in OpenConfirm State")
    ∷ (3, codes "Receive Unexpected Message in Established State") ∷ []

-- of Cease (RFC 4486, 3; RFC 8538, 3; RFC 9384, 3)
abbrev pub cease_names : List (ℕ × List ℕ)
cease_names =
    (1, codes "Maximum Number of Prefixes Reached") ∷ (2, codes "Administrative Shutdown")
    ∷ (3, codes "Peer De-configured") ∷ (4, codes "Administrative Reset")
    ∷ (5, codes "Connection Rejected") ∷ (6, codes "Other Configuration Change")
    ∷ (7, codes "Connection Collision Resolution") ∷ (8, codes "Out of Resources")
    ∷ (9, codes "Hard Reset") ∷ (10, codes "BFD Down") ∷ []

-- of ROUTE-REFRESH Message Error (RFC 7313, 5)
abbrev pub refresh_error_names : List (ℕ × List ℕ)
refresh_error_names = (1, codes "Invalid Message Length") ∷ []

-- the subcodes of an error code that have names
abbrev pub subcode_names : ℕ → List (ℕ × List ℕ)
subcode_names code =
    if code == 1 then header_error_names
    else if code == 2 then open_error_names
    else if code == 3 then update_error_names
    else if code == 5 then fsm_error_names
    else if code == 6 then cease_names
    else if code == 7 then refresh_error_names
    else []

-- an error code: its name, or `code N`
abbrev pub code_name : ℕ → List ℕ
code_name code = named (codes "code ") code_names code

-- a subcode of this error code: its name, or `subcode N`
abbrev pub subcode_name : ℕ → ℕ → List ℕ
subcode_name code subcode = named (codes "subcode ") (subcode_names code) subcode

-- the subcode says something: it has a name, or isn't 0
abbrev pub has_subcode : ℕ → ℕ → Bool
has_subcode code subcode = is_some (name_in (subcode_names code) subcode) || not (subcode == 0)

-- both names, as in `Cease, Administrative Reset`
abbrev pub error_name : ℕ → ℕ → List ℕ
error_name code subcode =
    code_name code
    ++ (if has_subcode code subcode then codes ", " ++ subcode_name code subcode else [])

-- the subcode's name alone, as in `Administrative Reset`, if it says something
abbrev pub short_error_name : ℕ → ℕ → List ℕ
short_error_name code subcode =
    if has_subcode code subcode then subcode_name code subcode else code_name code
