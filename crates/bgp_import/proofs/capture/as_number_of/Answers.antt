use Rattle.std.proofs.Common.{refl, subst, sym, List}
use Rattle.std.proofs.Math.ListN.{drop_of_length-le}
use Rattle.bgp_recording.specs.declared.entry.Entry.{Entry}
use Rattle.bgp_import.specs.Captures.{IsAsNumberOf}
use Rattle.bgp_import.proofs.Entries.{number_here, number_behind}
use Rattle.bgp_import.proofs.capture.as_number_of.Goals as goal

pub loop-entry-init : goal.loop-entry-init
loop-entry-init c = λ number is. is

pub returns-in-Some : goal.returns-in-Some
returns-in-Some c =
    c.loop-entry.invariant c.as_number.result
    (number_here c.args.entries.now c.loop-entry.entry-index _ c.loop-entry-test.true c.args.from c.in-Some.octets.now c.as_number.result c.in-Some.ensures.some c.as_number.ensures)

pub loop-entry-preserved : goal.loop-entry-preserved
loop-entry-preserved c = λ number later.
    c.loop-entry.invariant number
    (number_behind c.args.entries.now c.loop-entry.entry-index _ c.loop-entry-test.true c.args.from number c.in-None.ensures.none later)

pub returns : goal.returns
returns c =
    c.loop-entry.invariant 0
    (subst (λ (q : List Entry). IsAsNumberOf c.args.from q 0) (sym (drop_of_length-le c.args.entries.now c.loop-entry-test.false)) refl)
