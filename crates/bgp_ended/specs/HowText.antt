-- What is printed of how a session ended.
use Rattle.std.specs.Prelude.{◌++◌, ◌&&◌, not, nat_le, nat_lt, ℕ, Bool, List, [], ◌∷◌}
use Rattle.std.specs.Prelude.{Option, None, Some, codes, if◌then◌else◌, length}
use Rattle.std.specs.List.{list_any}
use Rattle.hex.specs.Hex.{encode_lower}
use Rattle.streams.specs.declared.connection.Closing.{Closing}
use Rattle.streams.specs.declared.connection.Closing.TheVariants.{Fin, Reset}
use Rattle.bgp_names.specs.States.{state_name}
use Rattle.bgp_values.specs.ErrorData.{DataValue, ErrorFields, cause_of, data_value}
use Rattle.bgp_values.specs.Readable.{text_in}
use Rattle.bgp_lines.specs.Notifications.{error_data_text}
use Rattle.bgp_lines.specs.Quoting.{quoted_text}
use Rattle.bgp_why.specs.WhyPartsCodes.{full_code_text}
use Rattle.bgp_why.specs.Cut.{cut}
use Rattle.bgp_ended.specs.Values.{HowValue, Notified, Closed, Fallen}

-- ---- the data of a NOTIFICATION

-- a control character of ASCII, but for DEL
abbrev pub is_control : ℕ → Bool
is_control octet = nat_lt octet 32

-- A sentence, as some put it into data that have no form for one: five octets or more, readable and
-- without a control character.
abbrev pub sentence_in : List ℕ → Option (List ℕ)
sentence_in detail =
    if nat_le 5 (length detail) && not (list_any is_control detail) then text_in detail else None

-- a sentence between quotation marks, other data in hexadecimal
abbrev pub raw_by : Option (List ℕ) → List ℕ → List ℕ
raw_by None detail = encode_lower detail
raw_by (Some text) detail = quoted_text text

unfoldable pub raw_text : List ℕ → List ℕ
raw_text detail = raw_by (sentence_in detail) detail

-- data without a value: nothing for none
unfoldable pub with_data_text : List ℕ → List ℕ
with_data_text [] = []
with_data_text (octet ∷ octets) = codes " with data " ++ cut (raw_text (octet ∷ octets))

-- what an error's data say, if they have a value, or else the data
unfoldable pub detail_text : Option DataValue → ErrorFields → List ℕ
detail_text None error = with_data_text error.detail
detail_text (Some value) error = codes ": " ++ cut (error_data_text error)

-- its codes with their names, and its data
unfoldable pub plain_error_text : ErrorFields → List ℕ
plain_error_text error =
    full_code_text error.code error.subcode ++ detail_text (data_value error) error

-- and of a Hard Reset (RFC 8538, 3) the cause, if it has one
unfoldable pub caused_text : ErrorFields → Option ErrorFields → List ℕ
caused_text error None = plain_error_text error
caused_text error (Some cause) =
    full_code_text error.code error.subcode ++ (codes ": " ++ plain_error_text cause)

unfoldable pub error_text : ErrorFields → List ℕ
error_text error = caused_text error (cause_of error)

-- ---- the whole

abbrev pub closing_text : Closing → List ℕ
closing_text Fin = codes "FIN, no NOTIFICATION"
closing_text Reset = codes "RST, no NOTIFICATION"

unfoldable pub how_text : HowValue → List ℕ
how_text (Notified error) = codes "NOTIFICATION " ++ error_text error
how_text (Closed closing) = closing_text closing
how_text (Fallen state) = state_name state ++ codes " to Idle, no NOTIFICATION"
