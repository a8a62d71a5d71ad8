use Rattle.bgp_open.proofs.OpenParts.{readable_is_its_parts, capabilities_are_joined}
use Rattle.bgp_open.proofs.laws.each_readable_open_is_its_parts.Goals as goal

pub returns : goal.returns
returns c = record { parts = readable_is_its_parts; capabilities = capabilities_are_joined }
