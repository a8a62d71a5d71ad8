use Rattle.bgp_check.proofs.OpenMessages.{announces_open, faulty_header}
use Rattle.bgp_check.proofs.opens.is_open_message.Goals as goal

pub returns-in-Whole : goal.returns-in-Whole
returns-in-Whole c =
    let both = announces_open c.args.octets.now c.in-Some.header.now c.in-Whole.field-0 c.in-Whole.kind c.in-Some.ensures.some (c.header_at.ensures.whole.0 (cc)) c.in-Whole.ensures.verdict in
    (λ t. both.0 (c.is_open.ensures.0 t), λ message. c.is_open.ensures.1 (both.1 message))

pub returns-in-Faulty : goal.returns-in-Faulty
returns-in-Faulty c = (λ t. absurd (cc), λ message. absurd (faulty_header c.args.octets.now c.in-Some.header.now c.in-Faulty.field-0 c.in-Some.ensures.some c.in-Faulty.ensures.verdict message))
