use Rattle.std.proofs.Common.{◌∙◌, ap, List, ℕ, take, arith}
use Rattle.segments.proofs.Headers.{carried}
use Rattle.segments.specs.Values.{ipv6_value}
use Rattle.segments.proofs.ip.ipv6_payload.Goals as goal

pub returns : goal.returns
returns c =
    let header = c.read_ipv6_header-header.result in
    c.payload_behind.ensures
    ∙ carried c.args.octets.now c.without_padding-rest.result.now (ipv6_value header) (omega arith) c.read_ipv6_header-header.ensures
    (c.without_padding-rest.ensures ∙ ap (λ (o : List ℕ). take header.payload_len o) c.split_at.ensures.back)
