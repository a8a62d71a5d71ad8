use Rattle.bgp_check_text.proofs.shown.is_allowed.Goals as goal

pub returns-in-In : goal.returns-in-In
returns-in-In c = rw c.in-In.is (λ t. (c.is_message_allowed.ensures.0 t, λ none. none), λ allowed. c.is_message_allowed.ensures.1 allowed.0)

pub returns-in-Out : goal.returns-in-Out
returns-in-Out c = rw c.in-Out.is (λ t. (c.is_message_allowed-in-Out.ensures.0 t, λ none. none), λ allowed. c.is_message_allowed-in-Out.ensures.1 allowed.0)
