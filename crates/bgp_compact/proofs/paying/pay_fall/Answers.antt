use Rattle.std.proofs.Common.{◌∙◌, ap, sym, subst}
use Rattle.mrt.specs.Reader.{shown_of}
use Rattle.bgp_judge.specs.declared.unshown.Unshown.{Unshown}
use Rattle.bgp_judge.specs.Unshown.{Leaves}
use Rattle.bgp_compact.specs.Members.{sends_of}
use Rattle.bgp_compact.specs.Parts.{LeavesFall}
use Rattle.bgp_compact.proofs.FallsPaid.{fall_leaves}
use Rattle.bgp_compact.proofs.paying.pay_fall.Goals as goal

pub returns : goal.returns
returns c =
    let x : Unshown = record { wants = c.sends.result; change = c.change_from.result } in
    subst (λ f. LeavesFall c.args.config.now c.args.words (shown_of c.args.shown.now) c.args.fall f) (sym c.of.ensures)
    (fall_leaves c.args.config.now c.args.words (shown_of c.args.shown.now) c.args.fall x c.in_ok-left.left
    (c.sends.ensures ∙ ap (λ v. sends_of v c.args.fall) c.left.ensures) c.change_from.ensures
    (subst (λ v. Leaves c.args.config.now v (shown_of c.args.shown.now) x c.in_ok-left.left) c.link_before.ensures c.in_ok-left.ensures))
