use Rattle.bgp_instead.proofs.asking.open_errors.Goals as goal

pub returns : goal.returns
returns g c = λ of. record {
  unspecific = c.in_ok-could_notify.ensures of;
  version = c.in_ok-could_notify-2.ensures of;
  peer_as = c.in_ok-could_notify-3.ensures of;
  identifier = c.in_ok-could_notify-4.ensures of;
  parameter = c.in_ok-could_notify-5.ensures of;
  hold = c.in_ok-could_notify-6.ensures of;
  capability = c.in_ok-could_notify-7.ensures of;
  role = c.in_ok-could_notify-8.ensures of;
}
