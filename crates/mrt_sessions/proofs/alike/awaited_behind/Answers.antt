use Rattle.std.proofs.Common.{Option, subst, sym}
use Rattle.mrt.specs.Reader.{shown_of}
use Rattle.mrt.specs.Rules.{Refused}
use Rattle.mrt_sessions.specs.Located.{located}
use Rattle.mrt_sessions.specs.Taking.{IsAwaitedBehind}
use Rattle.mrt_sessions.specs.declared.alike.Awaited.{Awaited}
use Rattle.mrt_sessions.proofs.Awaiting.{other_behind, shown_behind, skipped_behind}
use Rattle.mrt_sessions.proofs.alike.awaited_behind.Goals as goal

pub returns-in-Shown : goal.returns-in-Shown
returns-in-Shown c =
    shown_behind c.args.session.now c.args.awaited (located c.args.named.now) (shown_of c.in-Shown.shown) c.behind_first.result c.in-Shown.ensures.0 c.in-Shown.ensures.1 c.behind_first.ensures

pub returns-in-Skipped : goal.returns-in-Skipped
returns-in-Skipped c =
    subst (λ (o : Option Awaited). IsAwaitedBehind c.args.session.now c.args.awaited (located c.args.named.now) o) (sym c.then_some.ensures)
    (skipped_behind c.args.session.now c.args.awaited (located c.args.named.now) c.in-Skipped.skip c.is_passed_over.result c.in-Skipped.ensures c.is_passed_over.ensures)

pub returns-in-Refused : goal.returns-in-Refused
returns-in-Refused c =
    other_behind c.args.session.now c.args.awaited (located c.args.named.now) (Refused c.in-Refused.field-0) c.in-Refused.ensures (λ e. cc) (λ e. cc)
