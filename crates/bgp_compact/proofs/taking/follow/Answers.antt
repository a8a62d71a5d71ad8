use Rattle.std.proofs.Common.{◌≡◌, rules}
use Rattle.bgp_machine.specs.declared.fsm.Fsm.TheVariants as fsms
use Rattle.bgp_compact.proofs.Behind.{kept_by}
use Rattle.bgp_compact.proofs.taking.follow.Goals as goal

pub returns-in-None-clause-ok : goal.returns-in-None-clause-ok
returns-in-None-clause-ok g c =
    let up : c.args.left.now.words.shown ≡ fsms.Idle → ⊥ = search rules in
    kept_by c.args.left.now.words.shown c.args.left.now.changes c.args.table.now up c.in-None.is
