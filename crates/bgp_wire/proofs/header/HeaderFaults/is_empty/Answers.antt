use Rattle.bgp_wire.proofs.EachFault.{no_field_is_set}
use Rattle.bgp_wire.proofs.header.HeaderFaults.is_empty.Goals as goal

pub returns : goal.returns
returns c =
    let fields = no_field_is_set c.args.self.now in (
      λ is. fields.0 (c.has_no_field.ensures.0 is),
      λ empty. c.has_no_field.ensures.1 (fields.1 empty),
    )
