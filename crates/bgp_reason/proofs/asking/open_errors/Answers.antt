use Rattle.bgp_reason.proofs.asking.open_errors.Goals as goal

pub returns : goal.returns
returns g c = λ config records stands. record {
  unspecific = c.in_ok-may_notify.ensures config records stands;
  version = c.in_ok-may_notify-2.ensures config records stands;
  peer_as = c.in_ok-may_notify-3.ensures config records stands;
  identifier = c.in_ok-may_notify-4.ensures config records stands;
  parameter = c.in_ok-may_notify-5.ensures config records stands;
  hold = c.in_ok-may_notify-6.ensures config records stands;
  capability = c.in_ok-may_notify-7.ensures config records stands;
  role = c.in_ok-may_notify-8.ensures config records stands;
}
