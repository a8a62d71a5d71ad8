use Rattle.bgp_reason.proofs.asking.possible.Goals as goal

pub returns-clause-each : goal.returns-clause-each
returns-clause-each g c = λ records stands same last. record {
  state = same;
  message = c.in_ok-may_receive.ensures c.args.config.now records stands;
  own_open = c.in_ok-may_open.ensures records stands;
  keepalive = c.in_ok-may_keep_alive.ensures c.args.config.now records stands;
  update = c.in_ok-may_update.ensures c.args.config.now records stands;
  header_errors = c.in_ok-header_errors.ensures c.args.config.now records stands last;
  open_errors = c.in_ok-open_errors.ensures c.args.config.now records stands;
  update_errors = c.in_ok-update_errors.ensures c.args.config.now records stands;
  hold_timer_expired = c.in_ok-least_expiry.ensures c.args.config.now records stands;
  send_hold_timer_expired = c.in_ok-may_notify.ensures c.args.config.now records stands;
  fsm_errors = c.in_ok-fsm_errors.ensures c.args.config.now records stands;
  cease = c.in_ok-may_notify-2.ensures c.args.config.now records stands;
  changes = c.in_ok-changes.ensures c.args.config.now records stands same;
}

pub returns-clause-exact : goal.returns-clause-exact
returns-clause-exact g c = λ records stands same last.
    c.one_record_of_each_kind_tells_all.ensures c.args.config.now records _ (returns-clause-each g c records stands same last)
