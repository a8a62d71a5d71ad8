use Rattle.std.proofs.Common.{ap, ◌∙◌}
use Rattle.bgp_open.specs.Link.{link_of}
use Rattle.bgp_machine.proofs.Hearings.{both_sets, not_valid}
use Rattle.bgp_machine.proofs.hearing.hear_open.Goals as goal

pub returns-then-not-is_empty : goal.returns-then-not-is_empty
returns-then-not-is_empty c = (
  c.requires,
  not_valid c.args.config.now c.args.octets.now c.open_faults-faults.result.must c.is_empty.result c.open_faults-faults.ensures.valid c.is_empty.ensures c.if-not-is_empty.true,
  both_sets c.args.config.now c.args.octets.now _ _ _ c.open_faults-faults.ensures.must c.open_faults-faults.ensures.may c.union-subcodes.ensures,
)

pub unreachable-requires : goal.unreachable-requires
unreachable-requires c =
    c.one_fault.ensures.none c.args.octets.now c.in-Err.field-0
    (c.open_faults-faults.ensures.well_formed (c.open_faults-faults.ensures.valid.0 (c.is_empty.ensures.0 c.if-not-is_empty.false))) c.in-Err.ensures.err

pub returns : goal.returns
returns c = (
  c.requires,
  c.open_faults-faults.ensures.valid.0 (c.is_empty.ensures.0 c.if-not-is_empty.false),
  c.negotiate.ensures ∙ ap (link_of c.args.config.now) c.in-Ok.ensures.open,
  both_sets c.args.config.now c.args.octets.now _ _ _ c.open_faults-faults.ensures.must c.open_faults-faults.ensures.may c.union-subcodes.ensures,
)
