-- The line of a NOTIFICATION in words.
use Rattle.std.specs.Prelude.{◌++◌, ℕ, List, [], ◌∷◌, Option, None, Some, codes}
use Rattle.std.specs.Fmt.{decimal}
use Rattle.hex.specs.Hex.{encode_lower}
use Rattle.bgp_names.specs.Errors.{error_name}
use Rattle.bgp_names.specs.Families.{family_name}
use Rattle.bgp_lines.specs.Quoting.{quoted_text}
use Rattle.bgp_values.specs.ErrorData.{ErrorFields, DataValue, communication, maximum}
use Rattle.bgp_values.specs.ErrorData.{data_value, cause_of}

-- the codes in numbers and in words, as in `6/4 Cease, Administrative Reset`
unfoldable pub codes_text : ErrorFields → List ℕ
codes_text e =
    decimal e.code ++ (codes "/" ++ (decimal e.subcode ++ (codes " " ++ error_name e.code e.subcode)))

-- a communication in quotation marks; or a family, and how many prefixes of it
unfoldable pub data_text : DataValue → List ℕ
data_text (communication text) = quoted_text text
data_text (maximum afi safi prefixes) =
    family_name afi safi ++ (codes " " ++ (decimal prefixes ++ codes " prefixes"))

-- data without a value, in hexadecimal: nothing for none
unfoldable pub hidden_text : List ℕ → List ℕ
hidden_text [] = []
hidden_text (octet ∷ octets) = codes ": " ++ encode_lower (octet ∷ octets)

unfoldable pub detail_text : Option DataValue → List ℕ → List ℕ
detail_text None detail = hidden_text detail
detail_text (Some said) detail = codes ": " ++ data_text said

-- an error, and what its data say, but for the cause of a Hard Reset
unfoldable pub plain_error_text : ErrorFields → List ℕ
plain_error_text e = codes_text e ++ detail_text (data_value e) e.detail

unfoldable pub error_text : ErrorFields → Option ErrorFields → List ℕ
error_text e None = plain_error_text e
error_text e (Some cause) = codes_text e ++ (codes ": " ++ plain_error_text cause)

-- a NOTIFICATION: its error, with the cause of a Hard Reset if it has one
unfoldable pub named_notification : ErrorFields → List ℕ
named_notification e = codes "notification " ++ error_text e (cause_of e)

-- ---- the data alone, as a reason shows them

-- codes with their names behind them, as in `6/4 (Cease, Administrative Reset)`
unfoldable pub bracketed_codes_text : ErrorFields → List ℕ
bracketed_codes_text e =
    decimal e.code ++ (codes "/" ++ (decimal e.subcode ++ (codes " ("
    ++ (error_name e.code e.subcode ++ codes ")"))))

-- what data say, or else the data in hexadecimal: nothing for none
unfoldable pub plain_data_text : Option DataValue → List ℕ → List ℕ
plain_data_text None detail = encode_lower detail
plain_data_text (Some said) detail = data_text said

unfoldable pub caused_data_text : ErrorFields → Option ErrorFields → List ℕ
caused_data_text e None = plain_data_text (data_value e) e.detail
caused_data_text e (Some cause) =
    bracketed_codes_text cause ++ detail_text (data_value cause) cause.detail

-- the data of an error: for a Hard Reset with a cause, the cause's codes and its data
unfoldable pub error_data_text : ErrorFields → List ℕ
error_data_text e = caused_data_text e (cause_of e)
