use Rattle.std.proofs.Common.{◌∷◌, [], refl}
use Rattle.byteorder.specs.Endian.{big_bytes}
use Rattle.bgp_json_values.proofs.FrontsCompared.{then_after, without_first}
use Rattle.bgp_json_values.proofs.spelled_routes.after_numbers.Goals as goal

pub returns-in_err-rest : goal.returns-in_err-rest
returns-in_err-rest c =
    rw c.from_residual.ensures (without_first _ (big_bytes 2 c.args.afi) (c.args.safi ∷ []) c.args.octets.now c.to_be_bytes.ensures c.in_err-rest.ensures)

pub returns : goal.returns
returns c =
    then_after _ (big_bytes 2 c.args.afi) _ (c.args.safi ∷ []) c.args.octets.now c.in_ok-rest.rest.now c.after-2.result c.to_be_bytes.ensures refl c.in_ok-rest.ensures c.after-2.ensures
