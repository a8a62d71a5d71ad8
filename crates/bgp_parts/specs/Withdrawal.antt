-- Where the routes that an UPDATE announces are withdrawn in its place, "treat-as-withdraw" (RFC
-- 7606, 2): which of its parts ask for that. Such an UPDATE is received, so its parts are those in
-- the link's received form.
use Rattle.std.specs.Prelude.{◌==◌, ◌&&◌, ◌||◌, ◌↔◌, Bool, true, false, not, ℕ, List, Option, None}
use Rattle.std.specs.Prelude.{Some, IsTrue}
use Rattle.std.specs.List.{list_any}
use Rattle.bgp_open.specs.declared.families.Families.{Families}
use Rattle.bgp_open.specs.declared.link.Link.{Link}
use Rattle.bgp_open.specs.declared.route_form.RouteForm.{RouteForm}
use Rattle.bgp_attr.specs.declared.classes.AttrVerdict.TheVariants.{Withdraw}
use Rattle.bgp_attr.specs.declared.types.AttrType.{AttrType}
use Rattle.bgp_attr.specs.Class.{class_of}
use Rattle.bgp_attr.specs.Field.{Attribute}
use Rattle.bgp_attr.specs.Types.{is_multiprotocol, type_of}
use Rattle.bgp_update.specs.Found.{found, is_class, side_of}
use Rattle.bgp_update.specs.Sections.{Sections, IsUpdate}
use Rattle.bgp_update.specs.WithdrawFaults.{HasWithdrawFault}
use Rattle.bgp_parts.specs.AttributeFaults.{state_fault, state_in}
use Rattle.bgp_parts.specs.UpdateParts as told
use Rattle.bgp_parts.specs.UpdateParts.{AreUpdateParts}
use Rattle.bgp_parts.specs.declared.attribute.AttributeFault.{AttributeFault}
use Rattle.bgp_parts.specs.declared.attribute.AttributeFault.TheVariants as faults

abbrev pub is_repeat : AttributeFault → Bool
is_repeat faults.Repeated = true
is_repeat fault = false

abbrev pub is_flags : AttributeFault → Bool
is_flags faults.Flags = true
is_flags fault = false

-- nothing but its bits is wrong of an MP attribute, or that its family isn't in use
abbrev pub is_mild : Option AttributeFault → Bool
is_mild None = true
is_mild (Some (faults.NotInUse family)) = true
is_mild (Some fault) = false

abbrev pub is_mild_mp : Families → RouteForm → Option AttrType → Attribute → Bool
is_mild_mp used form None a = false
is_mild_mp used form (Some t) a =
    is_multiprotocol t && is_mild (state_fault (state_in used form t a))

-- a fault of an attribute, the first of its type, asks for it: by the attribute's class, or it is
-- the bits alone of an MP attribute
abbrev pub fault_withdraws : Link → Attribute → AttributeFault → Bool
fault_withdraws link a fault =
    not (is_repeat fault)
    && (is_class Withdraw (class_of (side_of link) a)
    || (is_flags fault && is_mild_mp link.families link.received (type_of a.kind) a))

-- a part asks for it
abbrev pub withdraws : Link → told.Part → Bool
withdraws link told.LengthsRunOver = false
withdraws link told.WithdrawnMalformed = false
withdraws link told.NlriMalformed = false
withdraws link (told.Faulty a fault) = fault_withdraws link a fault
withdraws link told.AttributesCut = true
withdraws link (told.Overrun kind) = not (kind == 14) && not (kind == 15)
withdraws link (told.Missing t) = true
withdraws link told.BaseNotInUse = false

-- the octets are an UPDATE that has a fault for which its routes are withdrawn
abbrev pub IsWithdrawal : Link → List ℕ → Type 0
IsWithdrawal link octets =
    (s : Sections) × IsUpdate octets s × HasWithdrawFault (found link s)

-- one of its parts asks for it exactly where it has one
abbrev pub PartsTellWithdrawals : Type 0
PartsTellWithdrawals =
    (link : Link) (octets : List ℕ) (parts : List told.Part)
    → AreUpdateParts link link.received octets parts
    → IsTrue (list_any (withdraws link) parts) ↔ IsWithdrawal link octets
