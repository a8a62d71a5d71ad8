-- What the data of a NOTIFICATION say (RFC 4271, 4.5).
use Rattle.std.specs.Prelude.{◌==◌, ◌&&◌, ◌||◌, ℕ, List, [], ◌∷◌, Option, None, Some, length, drop}
use Rattle.std.specs.Prelude.{slice_index, if◌then◌else◌}
use Rattle.byteorder.specs.Endian.{big_number}
use Rattle.bgp_open.specs.declared.notification.Notification.{Notification}
use Rattle.bgp_values.specs.Readable.{is_readable}
use Rattle.bgp_values.specs.declared.error_data.ErrorData as declared
use Rattle.bgp_values.specs.declared.error_data.ErrorData.TheVariants as variants

-- an error: its code, its subcode and its data
pub record ErrorFields : Type 0 where
  pub code : ℕ
  pub subcode : ℕ
  pub detail : List ℕ

-- what a NOTIFICATION in code says
abbrev pub error_of : Notification → ErrorFields
error_of n = record { code = n.code; subcode = n.subcode; detail = n.detail.now }

pub data DataValue : Type 0 where
  -- why the session is shut down or reset, as a person has written it (RFC 9003, 2)
  communication : List ℕ → DataValue
  -- the AFI and the SAFI of a family, and how many prefixes of it may be announced (RFC 4486, 4)
  maximum : ℕ → ℕ → ℕ → DataValue

-- a communication: an octet that counts the others, which are readable
abbrev pub communication_in : List ℕ → Option DataValue
communication_in [] = None
communication_in (count ∷ text) =
    if (count == length text) && is_readable text then Some (communication text) else None

-- a maximum: AFI 2 octets, SAFI 1, number of prefixes 4
abbrev pub maximum_in : List ℕ → Option DataValue
maximum_in detail =
    if length detail == 7
    then Some (maximum (big_number 2 detail) (slice_index detail 2) (big_number 4 (drop 3 detail)))
    else None

-- what data say behind these codes: Administrative Shutdown and Reset are 6/2 and 6/4, and Maximum
-- Number of Prefixes Reached is 6/1
abbrev pub data_value : ErrorFields → Option DataValue
data_value e =
    if e.code == 6
    then (if e.subcode == 1 then maximum_in e.detail
    else if (e.subcode == 2) || (e.subcode == 4) then communication_in e.detail
    else None)
    else None

-- a code and a subcode, and data to the end
abbrev pub fields_in : List ℕ → Option ErrorFields
fields_in [] = None
fields_in (code ∷ []) = None
fields_in (code ∷ subcode ∷ detail) =
    Some (record { code = code; subcode = subcode; detail = detail })

-- the error for which a Hard Reset, 6/9, is sent (RFC 8538, 3)
abbrev pub cause_of : ErrorFields → Option ErrorFields
cause_of e = if (e.code == 6) && (e.subcode == 9) then fields_in e.detail else None

-- what code has for a value
abbrev pub data_of : declared.ErrorData → DataValue
data_of (variants.Communication text) = communication text.now
data_of (variants.Maximum afi safi prefixes) = maximum afi safi prefixes
