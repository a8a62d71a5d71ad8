use Rattle.std.proofs.Common.{◌∙◌, ap, length}
use Rattle.bgp_path.specs.Path.{value_of}
use Rattle.bgp_attr.proofs.Written.{octets_of_parts}
use Rattle.bgp_attr.proofs.writing.octet_len.Goals as goal

pub returns : goal.returns
returns g c = record {
  len = c.attributes_len.ensures.len ∙ ap length (octets_of_parts c.args.side (value_of c.parts.result.now) c.args.path.now c.parts.ensures.value);
}
