-- What an MP attribute that was read is to a contract.
use Rattle.std.specs.Prelude.{ℕ, List, Option}
use Rattle.bgp_open.specs.Family.{Family}
use Rattle.bgp_open.specs.declared.route_form.RouteForm.{RouteForm}
use Rattle.bgp_attr.specs.declared.types.AttrType.{AttrType}
use Rattle.bgp_attr.specs.declared.types.AttrType.TheVariants as types
use Rattle.bgp_update.specs.declared.mp.MpContents.{MpContents}
use Rattle.bgp_update.specs.declared.mp.MpState.{MpState}
use Rattle.bgp_update.specs.declared.mp.MpState.TheVariants as states
use Rattle.bgp_update.specs.declared.mp.MpType.{MpType}
use Rattle.bgp_update.specs.declared.mp.MpType.TheVariants.{Reach, Unreach}
use Rattle.bgp_update.specs.Listed.{listed}
use Rattle.bgp_update.specs.Mp.{Mp, Absent, Cut, Other, Unused, Broken, Sound}
use Rattle.bgp_update.specs.MpValue.{Contents, reach_contents, unreach_contents}
use Rattle.bgp_update.specs.Field.{field_destinations}

-- the attribute type
abbrev pub type_of_mp : MpType → AttrType
type_of_mp Reach = types.MpReachNlri
type_of_mp Unreach = types.MpUnreachNlri

-- how the contents are read in this form
abbrev pub contents_read : RouteForm → MpType → Family → List ℕ → Option Contents
contents_read form Reach = reach_contents form
contents_read form Unreach = unreach_contents form

abbrev pub contents_of : MpContents → Contents
contents_of c = record {
  next_hop = c.next_hop;
  destinations = listed (field_destinations c.destinations);
}

abbrev pub state_of : MpState → Mp
state_of states.Absent = Absent
state_of states.Cut = Cut
state_of states.Other = Other
state_of (states.Unused family) = Unused family
state_of (states.Broken family) = Broken family
state_of (states.Sound family contents) = Sound family (contents_of contents)
