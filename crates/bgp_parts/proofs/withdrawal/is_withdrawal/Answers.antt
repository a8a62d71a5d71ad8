use Rattle.std.proofs.Common.{◌∙◌, map, sym}
use Rattle.bgp_parts.specs.UpdateParts.{shown_part}
use Rattle.bgp_parts.proofs.Withdrawals.{any_shown}
use Rattle.bgp_parts.proofs.withdrawal.is_withdrawal.Goals as goal

pub returns : goal.returns
returns c = λ octets are.
    let law = c.parts_tell_withdrawals.ensures c.args.link.now octets (map shown_part c.args.parts.now) are in
    let same = c.some_withdraws.ensures ∙ any_shown c.args.link.now c.args.parts.now in
    (λ e. law.0 (sym same ∙ e), λ is. same ∙ law.1 is)
