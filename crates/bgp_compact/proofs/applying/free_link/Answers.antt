use Rattle.std.proofs.Common.{◌≡◌, sym, ap, ◌∙◌}
use Rattle.bgp_machine.specs.declared.fsm.Fsm.TheVariants as fsms
use Rattle.bgp_machine.specs.State.{fsm_of}
use Rattle.bgp_machine.specs.Want.{wants_of}
use Rattle.bgp_compact.proofs.Bases.{up_base}
use Rattle.bgp_compact.proofs.applying.free_link.Goals as goal

pub returns-in-Established-Established-Nothing : goal.returns-in-Established-Established-Nothing
returns-in-Established-Established-Nothing c =
    let words = c.args.words.now in
    let shown : words.shown ≡ fsms.Established = c.in-Established-Established-Nothing.is-0 in
    let some = c.is_empty.ensures.no (λ t. let k : ⊥ = cc in k) in
    record {
      base = up_base words c.requires (λ e. let k : fsms.Established ≡ fsms.Idle = sym shown ∙ e in cc)
          (ap wants_of c.in-Established-Established-Nothing.is-2) (ap fsm_of c.in-Established-Established-Nothing.is-1 ∙ sym shown) some;
      head_is = c.in-Established-Established-Nothing.is-1;
      wants_are = c.in-Established-Established-Nothing.is-2;
    }
