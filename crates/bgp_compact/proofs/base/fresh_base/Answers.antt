use Rattle.std.proofs.Common.{sym, subst}
use Rattle.bgp_machine.specs.declared.state.Head.TheVariants as heads
use Rattle.bgp_compact.specs.declared.disabled.DisabledSets.{DisabledSets}
use Rattle.bgp_compact.specs.Parts.{IsBase}
use Rattle.bgp_compact.proofs.Bases.{idle_base}
use Rattle.bgp_compact.proofs.SetsOfSets.{not_false}
use Rattle.bgp_compact.proofs.base.fresh_base.Goals as goal

pub returns : goal.returns
returns c =
    subst (λ (v : DisabledSets). IsBase c.args.words (record { head = heads.Idle; sets = v })) (sym c.only_none.ensures)
    (idle_base c.args.words c.requires.fine c.requires.idle (not_false c.args.words.falls.silent c.if-not-words.false))
