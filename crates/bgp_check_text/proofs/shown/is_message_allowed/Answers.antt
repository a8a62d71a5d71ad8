use Rattle.bgp_check_text.proofs.Held.{each_not, false_not, not_true, true_not}
use Rattle.bgp_check_text.proofs.shown.is_message_allowed.Goals as goal

pub returns : goal.returns
returns c =
    let refresh = c.args.session.now.refresh in
    let octets = c.args.octets.now in
    let each = each_not refresh octets (λ held. false_not c.is_refresh.result c.if-is_refresh.false (c.is_refresh.ensures.1 held)) in
    let other = rw c.with_extended.ensures at c.has_other_length.ensures in (
      λ t. (c.if-octets-lt-HEADER_LEN.false, each.0, each.1, λ h. not_true c.has_other_length.result t (other.1 h)),
      λ allowed. true_not c.has_other_length.result (λ t. allowed.3 (other.0 t)),
    )
