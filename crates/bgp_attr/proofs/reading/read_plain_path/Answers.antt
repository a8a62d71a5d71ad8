use Rattle.std.proofs.Common.{arith, inl, inr}
use Rattle.std.proofs.lemmas.Bool.{cases_Bool}
use Rattle.bgp_attr.specs.Class.{as_width}
use Rattle.bgp_attr.specs.Segments.{are_segments}
use Rattle.bgp_attr.proofs.WholeSegments.{wider}
use Rattle.bgp_attr.proofs.reading.read_plain_path.Goals as goal

pub read_path_of-requires : goal.read_path_of-requires
read_path_of-requires g c = λ v good. elim (cases_Bool (are_segments 2 (as_width c.args.side) v)) [
  | inl e ↦ wider 2 4 (as_width c.args.side) v (omega arith) e
  | inr e ↦ absurd (let h = rw e at good in cc)
]
