use Rattle.bgp_reason.proofs.asking.update_errors.Goals as goal

pub returns : goal.returns
returns g c = λ config records stands. record {
  malformed_attribute_list = c.in_ok-may_notify.ensures config records stands;
  unrecognized_well_known = c.in_ok-may_notify-2.ensures config records stands;
  missing_well_known = c.in_ok-may_notify-3.ensures config records stands;
  attribute_flags = c.in_ok-may_notify-4.ensures config records stands;
  attribute_length = c.in_ok-may_notify-5.ensures config records stands;
  invalid_origin = c.in_ok-may_notify-6.ensures config records stands;
  as_routing_loop = c.in_ok-may_notify-7.ensures config records stands;
  invalid_next_hop = c.in_ok-may_notify-8.ensures config records stands;
  optional_attribute = c.in_ok-may_notify-9.ensures config records stands;
  invalid_network_field = c.in_ok-may_notify-10.ensures config records stands;
  malformed_as_path = c.in_ok-may_notify-11.ensures config records stands;
}
