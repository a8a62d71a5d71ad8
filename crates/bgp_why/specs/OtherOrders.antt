-- What could have been sent in a record's place in other orders of a recording's messages, beside
-- what the order of its records allows.
use Rattle.std.specs.Prelude.{◌==◌, ◌&&◌, not, ℕ, Bool, false, Option, None, Some}
use Rattle.std.specs.Prelude.{if◌then◌else◌, nat_le}
use Rattle.bgp_wire.specs.declared.header.HeaderFaults.{HeaderFaults}
use Rattle.bgp_open.specs.declared.subcodes.OpenSubcodes.{OpenSubcodes}
use Rattle.bgp_update.specs.declared.subcodes.Subcodes.{Subcodes}
use Rattle.bgp_why_parts.specs.FsmErrors.{FsmErrors}
use Rattle.bgp_why_parts.specs.DeclaredPossible.{Possible}
use Rattle.bgp_why_parts.specs.States.{States}

-- the other one is so, and not the first
abbrev pub beside : Bool → Bool → Bool
beside one other = other && not one

abbrev pub count_beside : Option ℕ → Option ℕ → Option ℕ
count_beside None other = other
count_beside (Some one) None = None
count_beside (Some one) (Some other) = if one == other then None else Some other

abbrev pub header_errors_beside : HeaderFaults → HeaderFaults → HeaderFaults
header_errors_beside one other = record {
  marker = beside one.marker other.marker;
  length = count_beside one.length other.length;
  kind = count_beside one.kind other.kind;
}

abbrev pub open_errors_beside : OpenSubcodes → OpenSubcodes → OpenSubcodes
open_errors_beside one other = record {
  unspecific = beside one.unspecific other.unspecific;
  version = beside one.version other.version;
  peer_as = beside one.peer_as other.peer_as;
  identifier = beside one.identifier other.identifier;
  parameter = beside one.parameter other.parameter;
  hold = beside one.hold other.hold;
  capability = beside one.capability other.capability;
  role = beside one.role other.role;
}

abbrev pub update_errors_beside : Subcodes → Subcodes → Subcodes
update_errors_beside one other = record {
  malformed_attribute_list =
      beside one.malformed_attribute_list other.malformed_attribute_list;
  unrecognized_well_known =
      beside one.unrecognized_well_known other.unrecognized_well_known;
  missing_well_known = beside one.missing_well_known other.missing_well_known;
  attribute_flags = beside one.attribute_flags other.attribute_flags;
  attribute_length = beside one.attribute_length other.attribute_length;
  invalid_origin = beside one.invalid_origin other.invalid_origin;
  as_routing_loop = beside one.as_routing_loop other.as_routing_loop;
  invalid_next_hop = beside one.invalid_next_hop other.invalid_next_hop;
  optional_attribute = beside one.optional_attribute other.optional_attribute;
  invalid_network_field = beside one.invalid_network_field other.invalid_network_field;
  malformed_as_path = beside one.malformed_as_path other.malformed_as_path;
}

abbrev pub fsm_errors_beside : FsmErrors → FsmErrors → FsmErrors
fsm_errors_beside one other = record {
  unspecified = beside one.unspecified other.unspecified;
  open_sent = beside one.open_sent other.open_sent;
  open_confirm = beside one.open_confirm other.open_confirm;
  established = beside one.established other.established;
}

-- Hold Timer Expired, from the second on that the other one has: due at that second, unless the
-- first has it then
abbrev pub expiry_beside : Option ℕ → Option ℕ → Option ℕ
expiry_beside one None = None
expiry_beside None (Some second) = Some 0
expiry_beside (Some from) (Some second) = if nat_le from second then None else Some 0

abbrev pub no_state : States
no_state = record {
  idle = false;
  connect = false;
  active = false;
  open_sent = false;
  open_confirm = false;
  established = false;
}

-- of what the other one says could be sent, what the first doesn't
abbrev pub besides : Possible → Possible → Possible
besides one other = record {
  state = one.state;
  message = false;
  own_open = beside one.own_open other.own_open;
  keepalive = beside one.keepalive other.keepalive;
  update = beside one.update other.update;
  header_errors = header_errors_beside one.header_errors other.header_errors;
  open_errors = open_errors_beside one.open_errors other.open_errors;
  update_errors = update_errors_beside one.update_errors other.update_errors;
  hold_timer_expired = expiry_beside one.hold_timer_expired other.hold_timer_expired;
  send_hold_timer_expired =
      beside one.send_hold_timer_expired other.send_hold_timer_expired;
  fsm_errors = fsm_errors_beside one.fsm_errors other.fsm_errors;
  cease = beside one.cease other.cease;
  changes = no_state;
}
