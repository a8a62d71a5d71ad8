use Rattle.std.proofs.Common.{◌↔◌, ◌⊎◌, sym, subst}
use Rattle.mrt.specs.Reader.{shown_of}
use Rattle.bgp_compact.specs.Parts.{AreFallsOf, FallsTo, IsPaid, shown_by}
use Rattle.bgp_compact.proofs.FallsPaid.{added_falls, added_paid}
use Rattle.bgp_compact.proofs.paying.add_paid.Goals as goal

pub returns-in-Some-pay_fall-clause-falls : goal.returns-in-Some-pay_fall-clause-falls
returns-in-Some-pay_fall-clause-falls c =
    subst (λ v. AreFallsOf c.args.words.falls v) (sym c.with.ensures)
    (added_falls c.args.config.now c.args.words (shown_of c.args.shown.now) c.in-Some.fall c.in-Some-pay_fall.left c.args.falls
    (c.requires.some c.in-Some.fall c.in-Some.is) c.requires.falls c.in-Some-pay_fall.ensures)

pub returns-in-Some-pay_fall-clause-members : goal.returns-in-Some-pay_fall-clause-members
returns-in-Some-pay_fall-clause-members c = λ m.
    let n = shown_by c.args.words (shown_of c.args.shown.now) in
    subst (λ v. FallsTo n v m ↔ (FallsTo n c.args.falls m ⊎ IsPaid c.args.config.now c.args.words (shown_of c.args.shown.now) c.args.fall m)) (sym c.with.ensures)
    (added_paid c.args.config.now c.args.words (shown_of c.args.shown.now) c.args.fall c.in-Some.fall c.in-Some-pay_fall.left c.args.falls m
    c.in-Some.is (c.requires.some c.in-Some.fall c.in-Some.is) c.requires.falls c.in-Some-pay_fall.ensures)
