-- What an OPEN lacks of the local system's own (RFC 4271, 4.2; RFC 6793, 4.1; RFC 4760, 8; RFC
-- 8654, 4; RFC 7911, 4; RFC 8950, 4): what was sent, and what is configured.
use Rattle.std.specs.Prelude.{◌++◌, ℕ, Bool, List, [], ◌∷◌, Option, None, Some, if◌then◌else◌}
use Rattle.std.specs.Prelude.{codes}
use Rattle.std.specs.Fmt.{decimal}
use Rattle.bgp_prefix.specs.Text.{address_text}
use Rattle.bgp_prefix.specs.declared.address.Address.TheVariants.{V4}
use Rattle.bgp_open.specs.declared.fault.OpenFault.{OpenFault}
use Rattle.bgp_open.specs.declared.fault.OpenFault.TheVariants as faults
use Rattle.bgp_open.specs.declared.families.Families.{Families}
use Rattle.bgp_open.specs.declared.route_offer.RouteOffer.{RouteOffer}
use Rattle.bgp_names.specs.Families.{families_name}
use Rattle.bgp_parts.specs.declared.own_open.Differing.{Differing}
use Rattle.bgp_parts.specs.declared.own_open.OpenDifferences.{OpenDifferences}
use Rattle.bgp_parts.specs.declared.own_open.OwnOpenParts as declared
use Rattle.bgp_parts.specs.declared.own_open.OwnOpenParts.TheVariants as parts
use Rattle.bgp_why_parts.specs.Codes.{code_text}
use Rattle.bgp_why_parts.specs.Offers.{offer_text}
use Rattle.bgp_why_parts.specs.Pieces.{listed}

-- a word, what was sent, and what is configured
abbrev pub differing : List ℕ → List ℕ → List ℕ → List ℕ
differing word sent configured = word ++ (sent ++ (codes ", configured " ++ configured))

-- a number
abbrev pub number_piece : List ℕ → Option (Differing ℕ) → Option (List ℕ)
number_piece word None = None
number_piece word (Some d) = Some (differing word (decimal d.sent) (decimal d.configured))

-- the BGP Identifier
abbrev pub id_piece : Option (Differing ℕ) → Option (List ℕ)
id_piece None = None
id_piece (Some d) =
    Some (differing (codes "BGP Identifier ") (address_text (V4 d.sent))
    (address_text (V4 d.configured)))

-- the families that are offered
abbrev pub families_piece : Option (Differing Families) → Option (List ℕ)
families_piece None = None
families_piece (Some d) =
    Some (differing (codes "families ") (families_name d.sent) (families_name d.configured))

-- the AS number in the capability of four-octet AS numbers, if it is there
abbrev pub as_number_text : Option ℕ → List ℕ
as_number_text None = codes "none"
as_number_text (Some number) = decimal number

abbrev pub as_number_piece : Option (Differing (Option ℕ)) → Option (List ℕ)
as_number_piece None = None
as_number_piece (Some d) =
    Some (differing (codes "four-octet AS ") (as_number_text d.sent) (as_number_text d.configured))

-- extended messages are offered, or aren't, unlike what is configured
abbrev pub extended_text : Bool → List ℕ
extended_text sent =
    if sent then codes "Extended Message offered, not configured"
    else codes "Extended Message not offered, configured"

abbrev pub extended_piece : Option (Differing Bool) → Option (List ℕ)
extended_piece None = None
extended_piece (Some d) = Some (extended_text d.sent)

-- what is offered about how routes are spelled
abbrev pub offers_piece : Option (Differing RouteOffer) → Option (List ℕ)
offers_piece None = None
offers_piece (Some d) =
    Some (differing (codes "offers ") (offer_text d.sent) (offer_text d.configured))

-- each field that differs
abbrev pub differences_text : OpenDifferences → List ℕ
differences_text told =
    listed
    (number_piece (codes "My AS ") told.my_as
    ∷ number_piece (codes "Hold Time ") told.hold
    ∷ id_piece told.id
    ∷ families_piece told.families
    ∷ as_number_piece told.as_number
    ∷ extended_piece told.extended
    ∷ offers_piece told.offers
    ∷ [])

-- the fault of its form: another version than 4, a length, or a parameter that isn't Capabilities
abbrev pub open_fault_text : OpenFault → List ℕ
open_fault_text faults.Version = code_text 2 1
open_fault_text faults.Malformed = codes "a length that does not fit"
open_fault_text faults.Parameter = code_text 2 4

-- that, or each field that differs
abbrev pub open_parts_text : declared.OwnOpenParts → List ℕ
open_parts_text (parts.Malformed fault) = open_fault_text fault
open_parts_text (parts.Differing told) = differences_text told
