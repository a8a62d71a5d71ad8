use Rattle.std.proofs.Common.{refl, [], ◌∷◌, ◌++◌}
use Rattle.mrt.specs.Reader.{shown_of}
use Rattle.bgp_machine.specs.Listed.{changes_of}
use Rattle.bgp_compact.specs.Memory.{TakesMemory}
use Rattle.bgp_compact.specs.Steps.{table_behind}
use Rattle.bgp_compact.proofs.Behind.{alive_so, take_stands}
use Rattle.bgp_compact.proofs.Refusals.{base_takes, on_err}
use Rattle.bgp_compact.proofs.compact.CompactTrackerTracker.may_take.Goals as goal

pub returns-clause-may : goal.returns-clause-may
returns-clause-may g c = λ config records stands.
    let table = table_behind c.in_ok-after.after.words.shown (changes_of c.in_ok-after.after.changes) c.args.self.now.table in
    alive_so config (records ++ shown_of c.args.shown.now ∷ []) c.in_ok-after.after.words table c.is_alive.result
    (take_stands c.each_owed_want_can_be_met.ensures.met c.args.self.now.config config records (shown_of c.args.shown.now) c.args.self.now.words c.in_ok-after.after.words
    (changes_of c.in_ok-after.after.changes) c.args.self.now.table table stands.0 stands.1 c.in_ok-after.ensures.image refl)
    c.is_alive.ensures.yes c.is_alive.ensures.no

pub returns-in_err-after-clause-memory : goal.returns-in_err-after-clause-memory
returns-in_err-after-clause-memory g c = λ config records stands.
    on_err (TakesMemory config records (shown_of c.args.shown.now)) c.from_residual.result
    (base_takes config c.args.self.now.words c.args.self.now.table records (shown_of c.args.shown.now) stands.1 (c.in_err-after.ensures.memory refl))
