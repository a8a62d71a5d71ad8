use Rattle.std.proofs.Common.{◌∙◌}
use Rattle.bgp_wire.proofs.EachFault.{same_faults, bad_type_is_a_fault, sound_is_empty, empty_is_sound}
use Rattle.bgp_wire.proofs.header.check_header.Goals as goal

pub returns-in_default-clause-verdict : goal.returns-in_default-clause-verdict
returns-in_default-clause-verdict c = (
  bad_type_is_a_fault c.args.limit c.args.header.now (rw c.read_type.ensures at c.in_default.ensures.bad),
  same_faults _ _ _ c.faults_of-faults.ensures,
)

pub returns-else-is_empty-clause-verdict : goal.returns-else-is_empty-clause-verdict
returns-else-is_empty-clause-verdict c = (
  λ sound. let empty = c.is_empty.ensures.1 (sound_is_empty _ _ _ c.faults_of-faults.ensures sound) in cc,
  same_faults _ _ _ c.faults_of-faults.ensures,
)

pub returns-then-is_empty-clause-verdict : goal.returns-then-is_empty-clause-verdict
returns-then-is_empty-clause-verdict c = (
  empty_is_sound _ _ _ c.faults_of-faults.ensures (c.is_empty.ensures.0 c.if-is_empty.true),
  c.read_length.ensures,
  c.in-Some.ensures.known ∙ c.read_type.ensures,
)
