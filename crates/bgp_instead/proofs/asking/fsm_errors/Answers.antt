use Rattle.bgp_instead.proofs.asking.fsm_errors.Goals as goal

pub returns : goal.returns
returns g c = λ of. record {
  unspecified = c.in_ok-could_notify.ensures of;
  open_sent = c.in_ok-could_notify-2.ensures of;
  open_confirm = c.in_ok-could_notify-3.ensures of;
  established = c.in_ok-could_notify-4.ensures of;
}
