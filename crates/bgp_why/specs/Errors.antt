-- Sets of errors that a NOTIFICATION may report (RFC 4271, 4.5): their codes and subcodes with
-- names, ascending, and the data that some have to have.
use Rattle.std.specs.Prelude.{◌++◌, ◌&&◌, ℕ, Bool, true, false, List, [], ◌∷◌, Option, None, Some}
use Rattle.std.specs.Prelude.{if◌then◌else◌, codes, is_some}
use Rattle.std.specs.Bool.{then_some}
use Rattle.byteorder.specs.Endian.{big_bytes}
use Rattle.hex.specs.Hex.{encode_lower}
use Rattle.bgp_wire.specs.declared.header.HeaderFaults.{HeaderFaults}
use Rattle.bgp_open.specs.declared.subcodes.OpenSubcodes.{OpenSubcodes}
use Rattle.bgp_update.specs.declared.subcodes.Subcodes.{Subcodes}
use Rattle.bgp_why_parts.specs.FsmErrors.{FsmErrors}
use Rattle.bgp_why_parts.specs.Codes.{code_text}
use Rattle.bgp_why.specs.declared.errors.FixedData.{FixedData}
use Rattle.bgp_why.specs.declared.errors.FixedData.TheVariants as variants
use Rattle.bgp_why.specs.declared.errors.ErrorCode.{ErrorCode}

-- the data that it has to have, if they aren't free
abbrev pub data_text : FixedData → List ℕ
data_text variants.Free = []
data_text (variants.Octet octet) = codes " with data " ++ encode_lower (octet ∷ [])
data_text (variants.Field field) = codes " with data " ++ encode_lower (big_bytes 2 field)

abbrev pub error_text : ErrorCode → List ℕ
error_text error = code_text error.code error.subcode ++ data_text error.fixed

-- an error with data that are free
abbrev pub error_of : ℕ → ℕ → ErrorCode
error_of code subcode = record { code = code; subcode = subcode; fixed = variants.Free }

-- those of a list that there are
abbrev pub errors_in : List (Option ErrorCode) → List ErrorCode
errors_in [] = []
errors_in (None ∷ errors) = errors_in errors
errors_in (Some error ∷ errors) = error ∷ errors_in errors

-- one after another: this word stands before the last, and a comma before each other
abbrev pub more_errors : List ℕ → List ErrorCode → List ℕ
more_errors word [] = []
more_errors word (error ∷ []) = word ++ error_text error
more_errors word (error ∷ another ∷ errors) =
    codes ", " ++ (error_text error ++ more_errors word (another ∷ errors))

abbrev pub errors_text : List ℕ → List ErrorCode → List ℕ
errors_text word [] = []
errors_text word (error ∷ errors) = error_text error ++ more_errors word errors

-- ---- the sets

-- Bad Message Length, whose data are the Length field's two octets (6.1)
abbrev pub length_error : Option ℕ → Option ErrorCode
length_error None = None
length_error (Some field) = Some (record { code = 1; subcode = 2; fixed = variants.Field field })

-- Bad Message Type, whose data are the Type field's octet (6.1)
abbrev pub type_error : Option ℕ → Option ErrorCode
type_error None = None
type_error (Some field) = Some (record { code = 1; subcode = 3; fixed = variants.Octet field })

-- an error of a set
abbrev pub error_if : Bool → ℕ → ℕ → Option ErrorCode
error_if is_in code subcode = then_some is_in (error_of code subcode)

-- Message Header Error (6.1)
abbrev pub header_errors : HeaderFaults → List (Option ErrorCode)
header_errors errors =
    error_if errors.marker 1 1 ∷ length_error errors.length ∷ type_error errors.kind ∷ []

-- the same without data
abbrev pub header_faults : HeaderFaults → List (Option ErrorCode)
header_faults errors =
    error_if errors.marker 1 1 ∷ error_if (is_some errors.length) 1 2
    ∷ error_if (is_some errors.kind) 1 3 ∷ []

-- Unsupported Version Number has the version that is spoken as its data (6.2)
abbrev pub version_error : ErrorCode
version_error = record { code = 2; subcode = 1; fixed = variants.Field 4 }

-- OPEN Message Error (6.2; RFC 5492, 5; RFC 9234, 4.2)
abbrev pub open_errors : OpenSubcodes → List (Option ErrorCode)
open_errors errors =
    error_if errors.unspecific 2 0 ∷ then_some errors.version version_error
    ∷ error_if errors.peer_as 2 2 ∷ error_if errors.identifier 2 3
    ∷ error_if errors.parameter 2 4 ∷ error_if errors.hold 2 6
    ∷ error_if errors.capability 2 7 ∷ error_if errors.role 2 11 ∷ []

-- UPDATE Message Error (6.3)
abbrev pub update_errors : Subcodes → List (Option ErrorCode)
update_errors errors =
    error_if errors.malformed_attribute_list 3 1 ∷ error_if errors.unrecognized_well_known 3 2
    ∷ error_if errors.missing_well_known 3 3 ∷ error_if errors.attribute_flags 3 4
    ∷ error_if errors.attribute_length 3 5 ∷ error_if errors.invalid_origin 3 6
    ∷ error_if errors.as_routing_loop 3 7 ∷ error_if errors.invalid_next_hop 3 8
    ∷ error_if errors.optional_attribute 3 9 ∷ error_if errors.invalid_network_field 3 10
    ∷ error_if errors.malformed_as_path 3 11 ∷ []

-- each subcode of it
abbrev pub has_all : Subcodes → Bool
has_all errors =
    errors.malformed_attribute_list && errors.unrecognized_well_known
    && errors.missing_well_known && errors.attribute_flags && errors.attribute_length
    && errors.invalid_origin && errors.as_routing_loop && errors.invalid_next_hop
    && errors.optional_attribute && errors.invalid_network_field && errors.malformed_as_path

-- Finite State Machine Error (6.6; RFC 6608, 3)
abbrev pub fsm_errors : FsmErrors → List (Option ErrorCode)
fsm_errors errors =
    error_if errors.unspecified 5 0 ∷ error_if errors.open_sent 5 1
    ∷ error_if errors.open_confirm 5 2 ∷ error_if errors.established 5 3 ∷ []

-- alternatives
abbrev pub any_of : List (Option ErrorCode) → List ℕ
any_of errors = errors_text (codes " or ") (errors_in errors)

-- of all subcodes of UPDATE Message Error the first and the last
abbrev pub update_errors_text : Subcodes → List ℕ
update_errors_text errors =
    if has_all errors then codes "3/1 to 3/11 (UPDATE Message Error)"
    else any_of (update_errors errors)
