use Rattle.bgp_instead.proofs.asking.update_errors.Goals as goal

pub returns : goal.returns
returns g c = λ of. record {
  malformed_attribute_list = c.in_ok-could_notify.ensures of;
  unrecognized_well_known = c.in_ok-could_notify-2.ensures of;
  missing_well_known = c.in_ok-could_notify-3.ensures of;
  attribute_flags = c.in_ok-could_notify-4.ensures of;
  attribute_length = c.in_ok-could_notify-5.ensures of;
  invalid_origin = c.in_ok-could_notify-6.ensures of;
  as_routing_loop = c.in_ok-could_notify-7.ensures of;
  invalid_next_hop = c.in_ok-could_notify-8.ensures of;
  optional_attribute = c.in_ok-could_notify-9.ensures of;
  invalid_network_field = c.in_ok-could_notify-10.ensures of;
  malformed_as_path = c.in_ok-could_notify-11.ensures of;
}
