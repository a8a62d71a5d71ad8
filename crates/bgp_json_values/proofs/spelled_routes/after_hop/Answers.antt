use Rattle.byteorder.specs.Endian.{big_bytes}
use Rattle.bgp_json_values.proofs.FrontsCompared.{in_words}
use Rattle.bgp_json_values.proofs.spelled_routes.after_hop.Goals as goal

pub returns-in-V6 : goal.returns-in-V6
returns-in-V6 c =
    rw c.in-V6.is (in_words _ (big_bytes 16 c.in-V6.address) c.args.octets.now c.after-in-V6.result c.to_be_bytes-in-V6.ensures c.after-in-V6.ensures)

pub returns-in-V6WithLinkLocal : goal.returns-in-V6WithLinkLocal
returns-in-V6WithLinkLocal c = rw c.in-V6WithLinkLocal.is c.after_pair.ensures
