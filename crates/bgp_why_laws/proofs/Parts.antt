-- What a message lacks has no control characters.
use Rattle.std.proofs.Common.{◌++◌, ◌==◌, ℕ, Bool, true, false, List, [], ◌∷◌, Option, None, Some, All, codes, refl}
use Rattle.std.specs.Bool.{then_some}
use Rattle.std.specs.Fmt.{decimal}
use Rattle.std.proofs.lemmas.List.Elements.{All-head, All-tail}
use Rattle.bgp_prefix.specs.declared.address.Address.TheVariants.{V4}
use Rattle.bgp_prefix.specs.declared.family.Family.{Family}
use Rattle.bgp_prefix.specs.declared.family.Family.TheVariants as families
use Rattle.bgp_wire.specs.Octets.{AreOctets}
use Rattle.bgp_wire.specs.AsNumber.{two_octet_as}
use Rattle.bgp_open.specs.declared.families.Families.{Families}
use Rattle.bgp_open.specs.declared.fault.OpenFault.{OpenFault}
use Rattle.bgp_open.specs.declared.fault.OpenFault.TheVariants as open_faults
use Rattle.bgp_open.specs.declared.route_offer.RouteOffer.{RouteOffer}
use Rattle.bgp_attr.specs.Field.{Attribute}
use Rattle.bgp_attr.specs.Types.{type_number}
use Rattle.bgp_names.specs.Attributes.{attribute_name, attribute_names}
use Rattle.bgp_names.specs.Errors.{code_name, code_names, has_subcode, short_error_name, subcode_name}
use Rattle.bgp_names.specs.Families.{families_by, families_name}
use Rattle.bgp_parts.specs.UpdateParts.{Part, LengthsRunOver, WithdrawnMalformed, NlriMalformed, Faulty, AttributesCut, Overrun, Missing, BaseNotInUse}
use Rattle.bgp_parts.specs.declared.attribute.AttributeFault.{AttributeFault}
use Rattle.bgp_parts.specs.declared.attribute.AttributeFault.TheVariants as faults
use Rattle.bgp_parts.specs.declared.notification.NotificationPart.{NotificationPart}
use Rattle.bgp_parts.specs.declared.notification.NotificationPart.TheVariants.{Subcode, Data}
use Rattle.bgp_parts.specs.declared.notification.NotificationParts.{NotificationParts}
use Rattle.bgp_parts.specs.declared.own_open.Differing.{Differing}
use Rattle.bgp_parts.specs.declared.own_open.OpenDifferences.{OpenDifferences}
use Rattle.bgp_parts.specs.declared.own_open.OwnOpenParts.{OwnOpenParts}
use Rattle.bgp_parts.specs.declared.own_open.OwnOpenParts.TheVariants as parts
use Rattle.bgp_why_parts.specs.Codes.{code_text, full_code_text}
use Rattle.bgp_why_parts.specs.Cut.{cut}
use Rattle.bgp_why_parts.specs.Notifications.{early_piece, notification_parts_text, word_piece}
use Rattle.bgp_why_parts.specs.Offers.{offer_text, offers_something, words_text}
use Rattle.bgp_why_parts.specs.Opens.{as_number_piece, as_number_text, differences_text, differing, extended_piece, families_piece, id_piece, number_piece, offers_piece, open_fault_text, open_parts_text}
use Rattle.bgp_why_parts.specs.OwnFaults as own
use Rattle.bgp_why_parts.specs.OwnFaults.{own_faults_text}
use Rattle.bgp_why_parts.specs.Parts.{behind, shown}
use Rattle.bgp_why_parts.specs.Pieces.{listed, separated}
use Rattle.bgp_why_parts.specs.Updates.{family_fault, family_word, fault_text, part_text, update_parts_by, update_parts_text, value_text}
use Rattle.bgp_why_parts.specs.declared.own_faults.OwnFaults.{OwnFaults}
use Rattle.bgp_visible_laws.specs.Visible.{IsVisible}
use Rattle.bgp_visible_laws.proofs.Texts.{address_visible, decimal_visible, error_visible, hex_visible, if_visible, named_visible, subcode_visible}
use Rattle.bgp_visible_laws.proofs.Visible.{both, nothing, word}
use Rattle.bgp_why_laws.specs.Octets.{HasOctets, IsWord}
use Rattle.bgp_why_laws.proofs.Cut.{cut_visible}

-- ---- pieces

abbrev pub IsPiece : Option (List ℕ) → Type 0
IsPiece None = Unit {0}
IsPiece (Some text) = IsVisible text

abbrev pub ArePieces : List (Option (List ℕ)) → Type 0
ArePieces [] = Unit {0}
ArePieces (piece ∷ pieces) = IsPiece piece × ArePieces pieces

pub pieces_visible : (separator before : List ℕ) → IsVisible separator → IsVisible before → (pieces : List (Option (List ℕ))) → ArePieces pieces → IsVisible (separated separator before pieces)
pieces_visible separator before between first [] all = nothing
pieces_visible separator before between first (None ∷ pieces) all = pieces_visible separator before between first pieces all.1
pieces_visible separator before between first (Some piece ∷ pieces) all = both first (both all.0 (pieces_visible separator separator between between pieces all.1))

pub listed_visible : (pieces : List (Option (List ℕ))) → ArePieces pieces → IsVisible (listed pieces)
listed_visible pieces all = pieces_visible (codes "; ") [] (word (codes "; ") refl) nothing pieces all

pub piece_if : (is_so : Bool) (text : List ℕ) → IsVisible text → IsPiece (then_some is_so text)
piece_if true text visible = visible
piece_if false text visible = tt

-- ---- codes, families and offers

short_visible : (code subcode : ℕ) → IsVisible (short_error_name code subcode)
short_visible code subcode =
    if_visible (has_subcode code subcode) (subcode_name code subcode) (code_name code) (subcode_visible code subcode) (named_visible (codes "code ") code_names refl refl code)

pub code_visible : (code subcode : ℕ) → IsVisible (code_text code subcode)
unfolding code_text
code_visible code subcode =
    both (decimal_visible code) (both (word (codes "/") refl) (both (decimal_visible subcode) (both (word (codes " (") refl) (both (short_visible code subcode) (word (codes ")") refl)))))

pub full_code_visible : (code subcode : ℕ) → IsVisible (full_code_text code subcode)
unfolding full_code_text
full_code_visible code subcode =
    both (decimal_visible code) (both (word (codes "/") refl) (both (decimal_visible subcode) (both (word (codes " (") refl) (both (error_visible code subcode) (word (codes ")") refl)))))

by_families : (v4 v6 : Bool) → IsVisible (families_by v4 v6)
by_families false false = word (codes "none") refl
by_families true false = word (codes "IPv4") refl
by_families false true = word (codes "IPv6") refl
by_families true true = word (codes "IPv4 and IPv6") refl

pub families_visible : (families : Families) → IsVisible (families_name families)
families_visible families = by_families families.v4 families.v6

pub offer_visible : (offer : RouteOffer) → IsVisible (offer_text offer)
offer_visible offer =
    if_visible (offers_something offer) (words_text offer) (codes "none")
    (pieces_visible (codes ",") [] (word (codes ",") refl) nothing
    (then_some offer.sends.v4 (codes "send-v4") ∷ then_some offer.sends.v6 (codes "send-v6") ∷ then_some offer.receives.v4 (codes "receive-v4")
    ∷ then_some offer.receives.v6 (codes "receive-v6") ∷ then_some offer.next_hops (codes "next-hops") ∷ [])
    (piece_if offer.sends.v4 (codes "send-v4") (word (codes "send-v4") refl), (piece_if offer.sends.v6 (codes "send-v6") (word (codes "send-v6") refl), (piece_if offer.receives.v4 (codes "receive-v4") (word (codes "receive-v4") refl), (piece_if offer.receives.v6 (codes "receive-v6") (word (codes "receive-v6") refl), (piece_if offer.next_hops (codes "next-hops") (word (codes "next-hops") refl), tt))))))
    (word (codes "none") refl)

-- ---- an OPEN

differing_visible : (front sent configured : List ℕ) → IsVisible front → IsVisible sent → IsVisible configured → IsVisible (differing front sent configured)
differing_visible front sent configured first second third = both first (both second (both (word (codes ", configured ") refl) third))

number_visible : (front : List ℕ) → IsVisible front → (d : Option (Differing ℕ)) → IsPiece (number_piece front d)
number_visible front first None = tt
number_visible front first (Some d) = differing_visible front (decimal d.sent) (decimal d.configured) first (decimal_visible d.sent) (decimal_visible d.configured)

id_visible : (d : Option (Differing ℕ)) → IsPiece (id_piece d)
id_visible None = tt
id_visible (Some d) = differing_visible (codes "BGP Identifier ") _ _ (word (codes "BGP Identifier ") refl) (address_visible (V4 d.sent)) (address_visible (V4 d.configured))

in_use_visible : (d : Option (Differing Families)) → IsPiece (families_piece d)
in_use_visible None = tt
in_use_visible (Some d) = differing_visible (codes "families ") _ _ (word (codes "families ") refl) (families_visible d.sent) (families_visible d.configured)

as_visible : (number : Option ℕ) → IsVisible (as_number_text number)
as_visible None = word (codes "none") refl
as_visible (Some number) = decimal_visible number

as_piece_visible : (d : Option (Differing (Option ℕ))) → IsPiece (as_number_piece d)
as_piece_visible None = tt
as_piece_visible (Some d) = differing_visible (codes "four-octet AS ") _ _ (word (codes "four-octet AS ") refl) (as_visible d.sent) (as_visible d.configured)

extended_visible : (d : Option (Differing Bool)) → IsPiece (extended_piece d)
extended_visible None = tt
extended_visible (Some d) =
    if_visible d.sent (codes "Extended Message offered, not configured") (codes "Extended Message not offered, configured")
    (word (codes "Extended Message offered, not configured") refl) (word (codes "Extended Message not offered, configured") refl)

offers_visible : (d : Option (Differing RouteOffer)) → IsPiece (offers_piece d)
offers_visible None = tt
offers_visible (Some d) = differing_visible (codes "offers ") _ _ (word (codes "offers ") refl) (offer_visible d.sent) (offer_visible d.configured)

differences_visible : (told : OpenDifferences) → IsVisible (differences_text told)
differences_visible told =
    listed_visible
    (number_piece (codes "My AS ") told.my_as ∷ number_piece (codes "Hold Time ") told.hold ∷ id_piece told.id ∷ families_piece told.families
    ∷ as_number_piece told.as_number ∷ extended_piece told.extended ∷ offers_piece told.offers ∷ [])
    (number_visible (codes "My AS ") (word (codes "My AS ") refl) told.my_as, (number_visible (codes "Hold Time ") (word (codes "Hold Time ") refl) told.hold, (id_visible told.id, (in_use_visible told.families, (as_piece_visible told.as_number, (extended_visible told.extended, (offers_visible told.offers, tt)))))))

open_fault_visible : (fault : OpenFault) → IsVisible (open_fault_text fault)
open_fault_visible open_faults.Version = code_visible 2 1
open_fault_visible open_faults.Malformed = word (codes "a length that does not fit") refl
open_fault_visible open_faults.Parameter = code_visible 2 4

pub open_parts_visible : (told : OwnOpenParts) → IsVisible (open_parts_text told)
open_parts_visible (parts.Malformed fault) = open_fault_visible fault
open_parts_visible (parts.Differing told) = differences_visible told

-- ---- own faults of an OPEN

own_as_visible : (my_as number : ℕ) → IsVisible (own.as_text my_as number)
unfolding own.as_text
own_as_visible my_as number =
    if_visible (my_as == two_octet_as number) (codes "AS " ++ decimal my_as) _ (both (word (codes "AS ") refl) (decimal_visible my_as))
    (both (word (codes "My AS ") refl) (both (decimal_visible my_as) (both (word (codes " and four-octet AS ") refl) (decimal_visible number))))

own_as_piece : (told : Option (ℕ × ℕ)) → IsPiece (own.as_piece told)
own_as_piece None = tt
own_as_piece (Some told) = own_as_visible told.0 told.1

own_id_piece : (is_so : Bool) → IsPiece (own.id_piece is_so)
own_id_piece false = tt
own_id_piece true = word (codes "BGP Identifier 0.0.0.0") refl

own_hold_piece : (hold : Option ℕ) → IsPiece (own.hold_piece hold)
own_hold_piece None = tt
own_hold_piece (Some hold) = both (word (codes "Hold Time ") refl) (decimal_visible hold)

pub own_faults_visible : (before : List ℕ) → IsVisible before → (told : OwnFaults) → IsVisible (own_faults_text before told)
own_faults_visible before first told =
    pieces_visible (codes " and ") before (word (codes " and ") refl) first (own.as_piece told.as_numbers ∷ own.id_piece told.id ∷ own.hold_piece told.hold ∷ [])
    (own_as_piece told.as_numbers, (own_id_piece told.id, (own_hold_piece told.hold, tt)))

-- ---- a NOTIFICATION

word_visible : (code : ℕ) (part : Option NotificationPart) → IsWord part → IsPiece (word_piece code part)
word_visible code None is = tt
word_visible code (Some (Subcode subcode)) is = code_visible code subcode
word_visible code (Some (Data octets)) is = both (word (codes "data ") refl) (hex_visible octets.now is)

early_visible : (early : Option ℕ) → IsPiece (early_piece early)
early_visible None = tt
early_visible (Some second) = word (codes "too early") refl

pub notification_parts_visible : (code : ℕ) (told : NotificationParts) → IsWord told.part → IsVisible (notification_parts_text code told)
notification_parts_visible code told is = listed_visible (word_piece code told.part ∷ early_piece told.early ∷ []) (word_visible code told.part is, (early_visible told.early, tt))

-- ---- an UPDATE

attribute_name_visible : (kind : ℕ) → IsVisible (attribute_name kind)
attribute_name_visible kind = named_visible (codes "attribute ") attribute_names refl refl kind

value_visible : (value : List ℕ) → AreOctets value → IsVisible (value_text value)
value_visible value are = both (word (codes " with wrong value ") refl) (hex_visible value are)

family_word_visible : (family : Family) → IsVisible (family_word family)
family_word_visible families.V4 = word (codes "IPv4") refl
family_word_visible families.V6 = word (codes "IPv6") refl

of_family : (family : Family) (fault : List ℕ) → IsVisible fault → IsVisible (family_fault family fault)
of_family family fault visible = both (word (codes " of ") refl) (both (family_word_visible family) visible)

fault_visible : (is_sent : Bool) (a : Attribute) (fault : AttributeFault) → AreOctets a.value → IsVisible (fault_text is_sent a fault)
fault_visible is_sent a faults.Unknown are = word (codes " marked well-known and unknown") refl
fault_visible is_sent a faults.Flags are = both (word (codes " with wrong flags ") refl) (decimal_visible a.flags)
fault_visible is_sent a faults.FourOctetAsNumbers are = word (codes " though AS numbers have 4 octets") refl
fault_visible is_sent a faults.FromExternalPeer are =
    if_visible is_sent (codes " to an external peer") (codes " from an external peer") (word (codes " to an external peer") refl) (word (codes " from an external peer") refl)
fault_visible is_sent a faults.Value are = value_visible a.value are
fault_visible is_sent a faults.DiscardedValue are = both (value_visible a.value are) (word (codes ", to be discarded") refl)
fault_visible is_sent a faults.BelowThreeOctets are = word (codes " of fewer than 3 octets") refl
fault_visible is_sent a (faults.NotInUse family) are = of_family family (codes ", which is not in use") (word (codes ", which is not in use") refl)
fault_visible is_sent a (faults.Contents family) are = of_family family (codes " malformed") (word (codes " malformed") refl)
fault_visible is_sent a faults.Repeated are = word (codes " repeated") refl

part_visible : (is_sent : Bool) (part : Part) → HasOctets part → IsVisible (part_text is_sent part)
unfolding part_text
part_visible is_sent LengthsRunOver has = word (codes "lengths that do not fit") refl
part_visible is_sent WithdrawnMalformed has = word (codes "withdrawn prefixes malformed") refl
part_visible is_sent NlriMalformed has = word (codes "NLRI malformed") refl
part_visible is_sent (Faulty a fault) has = both (attribute_name_visible a.kind) (fault_visible is_sent a fault has)
part_visible is_sent AttributesCut has = word (codes "the last attribute cut short") refl
part_visible is_sent (Overrun kind) has = both (attribute_name_visible kind) (word (codes " past the end of the attributes") refl)
part_visible is_sent (Missing t) has = both (attribute_name_visible (type_number t)) (word (codes " missing") refl)
part_visible is_sent BaseNotInUse has = word (codes "IPv4 prefixes, which are not in use") refl

parts_by : (is_sent : Bool) (before : List ℕ) → IsVisible before → (told : List Part) → All HasOctets told → IsVisible (update_parts_by is_sent before told)
parts_by is_sent before first [] all = nothing
parts_by is_sent before first (part ∷ told) all =
    both first (both (part_visible is_sent part (All-head HasOctets part told all))
    (parts_by is_sent (codes "; ") (word (codes "; ") refl) told (All-tail HasOctets part told all)))

pub update_parts_visible : (is_sent : Bool) (told : List Part) → All HasOctets told → IsVisible (update_parts_text is_sent told)
update_parts_visible is_sent told all = parts_by is_sent [] nothing told all

-- ---- as much of a text as is shown

behind_visible : (before text : List ℕ) → IsVisible before → IsVisible text → IsVisible (behind before text)
behind_visible before [] first visible = nothing
behind_visible before (octet ∷ text) first visible = both first visible

pub shown_visible : (before text : List ℕ) → IsVisible before → IsVisible text → IsVisible (shown before text)
unfolding shown
shown_visible before text first visible = behind_visible before (cut text) first (cut_visible text visible)
