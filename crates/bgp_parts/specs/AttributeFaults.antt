-- What is wrong with one path attribute, the first of its type (RFC 4271, 6.3; RFC 7606, 3, 5.3 and
-- 7).
use Rattle.std.specs.Prelude.{◌==◌, ◌&&◌, ◌++◌, Bool, not, if◌then◌else◌, ℕ, List, [], ◌∷◌, Option}
use Rattle.std.specs.Prelude.{None, Some}
use Rattle.std.specs.List.{list_any}
use Rattle.bgp_prefix.specs.declared.family.Family.{Family}
use Rattle.bgp_open.specs.declared.families.Families.{Families}
use Rattle.bgp_open.specs.declared.link.Link.{Link}
use Rattle.bgp_open.specs.declared.route_form.RouteForm.{RouteForm}
use Rattle.bgp_attr.specs.declared.classes.AttrVerdict.{AttrVerdict}
use Rattle.bgp_attr.specs.declared.classes.AttrVerdict.TheVariants as classes
use Rattle.bgp_attr.specs.declared.types.AttrType.{AttrType}
use Rattle.bgp_attr.specs.Class.{class_of}
use Rattle.bgp_attr.specs.Field.{Attribute}
use Rattle.bgp_attr.specs.Types.{type_of, type_number, has_bits_of}
use Rattle.bgp_update.specs.Found.{side_of}
use Rattle.bgp_update.specs.Mp as mp
use Rattle.bgp_update.specs.MpValue.{Contents, reach_contents, unreach_contents}
use Rattle.bgp_parts.specs.declared.attribute.AttributeFault.{AttributeFault}
use Rattle.bgp_parts.specs.declared.attribute.AttributeFault.TheVariants as faults

-- AS4_PATH and AS4_AGGREGATOR, which a speaker with four-octet AS numbers doesn't send to another
-- (RFC 6793, 4.1)
abbrev pub is_for_two_octets : AttrType → Bool
is_for_two_octets t = list_any (λ number. type_number t == number) (17 ∷ 18 ∷ [])

-- LOCAL_PREF, ORIGINATOR_ID and CLUSTER_LIST, which are for internal peers (RFC 4271, 5.1.5; RFC
-- 4456, 8)
abbrev pub is_for_internal_peers : AttrType → Bool
is_for_internal_peers t = list_any (λ number. type_number t == number) (5 ∷ 9 ∷ 10 ∷ [])

-- the value, which is discarded alone, or with what the UPDATE announces
abbrev pub value_fault : AttrVerdict → AttributeFault
value_fault classes.Good = faults.Value
value_fault classes.Discard = faults.DiscardedValue
value_fault classes.Withdraw = faults.Value
value_fault classes.Reset = faults.Value

-- the fault of an attribute with these flags and a class that isn't Good: its type is unknown, and
-- so it is well-known; or the flags, what it is for, or the value is wrong
abbrev pub class_fault : Link → Option AttrType → ℕ → AttrVerdict → AttributeFault
class_fault link None flags verdict = faults.Unknown
class_fault link (Some t) flags verdict =
    if not (has_bits_of flags t) then faults.Flags
    else (if link.as4 && is_for_two_octets t then faults.FourOctetAsNumbers
    else (if not link.internal && is_for_internal_peers t then faults.FromExternalPeer
    else value_fault verdict))

-- how the contents of MP_REACH_NLRI and of MP_UNREACH_NLRI are read, where routes are spelled in
-- this form
abbrev pub mp_contents : RouteForm → AttrType → Family → List ℕ → Option Contents
mp_contents form t = if type_number t == 14 then reach_contents form else unreach_contents form

-- the state of an MP attribute of this type
abbrev pub state_in : Families → RouteForm → AttrType → Attribute → mp.Mp
state_in used form t a = mp.mp_state used (mp_contents form t) (Some a)

-- the fault of an MP attribute in a state; a family that is neither IPv4 nor IPv6 unicast isn't
-- judged
abbrev pub state_fault : mp.Mp → Option AttributeFault
state_fault mp.Absent = None
state_fault mp.Cut = Some faults.BelowThreeOctets
state_fault mp.Other = None
state_fault (mp.Unused family) = Some (faults.NotInUse family)
state_fault (mp.Broken family) = Some (faults.Contents family)
state_fault (mp.Sound family contents) = None

-- a fault that may not be there
abbrev pub fault_if : Option AttributeFault → List AttributeFault
fault_if None = []
fault_if (Some fault) = fault ∷ []

-- the faults of an MP attribute: its flags, and then its state
abbrev pub mp_faults : Families → RouteForm → Option AttrType → Attribute → List AttributeFault
mp_faults used form None a = []
mp_faults used form (Some t) a =
    (if has_bits_of a.flags t then [] else faults.Flags ∷ [])
    ++ fault_if (state_fault (state_in used form t a))

-- by the class, which MP attributes don't have
abbrev pub faults_with : Link → RouteForm → Option AttrType → Attribute → Option AttrVerdict
    → List AttributeFault
faults_with link form t a None = mp_faults link.families form t a
faults_with link form t a (Some classes.Good) = []
faults_with link form t a (Some classes.Discard) = class_fault link t a.flags classes.Discard ∷ []
faults_with link form t a (Some classes.Withdraw) =
    class_fault link t a.flags classes.Withdraw ∷ []
faults_with link form t a (Some classes.Reset) = class_fault link t a.flags classes.Reset ∷ []

-- what is wrong with an attribute, the first of its type, on the link and in this form
abbrev pub first_faults : Link → RouteForm → Attribute → List AttributeFault
first_faults link form a = faults_with link form (type_of a.kind) a (class_of (side_of link) a)
