use Rattle.std.proofs.Common.{◌≡◌, ◌∙◌, ap, sym, subst, Option}
use Rattle.mrt.specs.Reader.{shown_of}
use Rattle.bgp_machine.specs.declared.fsm.Fsm.{Fsm}
use Rattle.bgp_machine.specs.Going.{shown_after}
use Rattle.bgp_compact.specs.declared.words.Words.{Words}
use Rattle.bgp_compact.specs.Parts.{PaidTo, shown_by}
use Rattle.bgp_compact.proofs.AllPaid.{paid_some, paid_none}
use Rattle.bgp_compact.proofs.paying.paid_own.Goals as goal

pub returns-in-Some : goal.returns-in-Some
returns-in-Some c =
    let n : Words = c.args.words in
    let r = shown_of c.args.shown.now in
    let e : (shown_by n r).shown ≡ c.shown_after.result = sym (c.shown_after.ensures ∙ ap (λ (v : Option Fsm). shown_after n.shown v) c.told_by.ensures) in
    subst (λ (v : Words). PaidTo c.args.config.now n r v)
    (λ i. record { shown = e i; left = sym c.left.ensures i; head = n.head; wants = c.in-Some.wants; sets = n.sets; falls = c.paid_falls.result })
    (paid_some c.args.config.now n r c.in-Some.wants c.paid_falls.result c.requires c.in-Some.ensures c.paid_falls.ensures.members c.paid_falls.ensures.falls)

pub returns-in-None : goal.returns-in-None
returns-in-None c =
    let n : Words = c.args.words in
    let r = shown_of c.args.shown.now in
    let e : (shown_by n r).shown ≡ c.shown_after.result = sym (c.shown_after.ensures ∙ ap (λ (v : Option Fsm). shown_after n.shown v) c.told_by.ensures) in
    subst (λ (v : Words). PaidTo c.args.config.now n r v)
    (λ i. record { shown = e i; left = sym c.left.ensures i; head = n.head; wants = n.wants; sets = sym c.empty.ensures i; falls = c.paid_falls.result })
    (paid_none c.args.config.now n r c.paid_falls.result c.in-None.ensures c.paid_falls.ensures.members c.paid_falls.ensures.falls)
