use Rattle.bgp_instead.proofs.asking.sendable_in.Goals as goal

pub returns : goal.returns
returns g c = λ of. record {
  own_open = c.in_ok-could_open.ensures of;
  keepalive = c.in_ok-could_keep_alive.ensures of;
  update = c.in_ok-could_update.ensures of;
  header_errors = c.in_ok-header_errors.ensures of;
  open_errors = c.in_ok-open_errors.ensures of;
  update_errors = c.in_ok-update_errors.ensures of;
  hold_timer_expired = c.in_ok-could_notify.ensures of;
  send_hold_timer_expired = c.in_ok-could_notify-2.ensures of;
  fsm_errors = c.in_ok-fsm_errors.ensures of;
  cease = c.in_ok-could_notify-3.ensures of;
}
