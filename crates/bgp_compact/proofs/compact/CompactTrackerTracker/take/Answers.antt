use Rattle.std.proofs.Common.{rules, true, IsTrue, Some, refl, sym, subst, [], ◌∷◌, ◌++◌, ◌∙◌}
use Rattle.mrt.specs.Reader.{shown_of}
use Rattle.bgp_open.specs.declared.config.Config.{Config}
use Rattle.bgp_machine.specs.Listed.{changes_of}
use Rattle.bgp_update.specs.Allowed.{changes_value}
use Rattle.bgp_compact.specs.declared.words.Words.{Words}
use Rattle.bgp_compact.specs.Applied.{words_applied}
use Rattle.bgp_compact.specs.Memory.{TakesMemory}
use Rattle.bgp_compact.specs.Parts.{AreFine}
use Rattle.bgp_compact.specs.Standing.{Stands}
use Rattle.bgp_compact.specs.Steps.{AreMade, table_behind}
use Rattle.bgp_compact.proofs.Applied.{applied_behind, applied_image, applied_made, applied_shown, applied_some, some_of}
use Rattle.bgp_compact.proofs.Behind.{alive_so, take_makes, take_stands}
use Rattle.bgp_compact.proofs.Refusals.{base_takes, changes_take, on_err}
use Rattle.bgp_compact.proofs.compact.CompactTrackerTracker.take.Goals as goal

pub returns-in_err-update-clause-memory : goal.returns-in_err-update-clause-memory
returns-in_err-update-clause-memory g c = λ config records stands.
    on_err (TakesMemory config records (shown_of c.args.shown.now)) c.from_residual.result
    (base_takes config c.args.self.now.words c.args.self.now.table records (shown_of c.args.shown.now) stands.1 (c.in_err-update.ensures.memory refl))

pub returns-in_err-apply-clause-memory : goal.returns-in_err-apply-clause-memory
returns-in_err-apply-clause-memory g c = λ config records stands.
    let update = some_of _ _ c.in-Some.update c.in-Some.is c.in_ok-update.ensures.some in
    let made = applied_made c.args.self.now.config c.args.self.now.words (shown_of c.args.shown.now) c.in-Some.update.head c.in-Some.update.changes (search rules) update in
    on_err (TakesMemory config records (shown_of c.args.shown.now)) c.from_residual-in_err-apply.result
    (changes_take config c.args.self.now.words c.args.self.now.table records (shown_of c.args.shown.now) (Some c.in-Some.update.changes) stands.1
    (subst (λ (v : Config). AreMade v c.args.self.now.words (shown_of c.args.shown.now) (Some c.in-Some.update.changes)) stands.0 made)
    refl)

pub returns-in-Some-clause-alive : goal.returns-in-Some-clause-alive
returns-in-Some-clause-alive g c = λ config records stands.
    let own = c.args.self.now.config in
    let words = c.args.self.now.words in
    let r = shown_of c.args.shown.now in
    let head = c.in-Some.update.head in
    let changes = c.in-Some.update.changes in
    let update = some_of _ _ c.in-Some.update c.in-Some.is c.in_ok-update.ensures.some in
    let fine : AreFine words = search rules in
    alive_so config (records ++ r ∷ []) (words_applied words head) c.apply.new.self true
    (take_stands c.each_owed_want_can_be_met.ensures.met own config records r words (words_applied words head) (changes_value changes)
    c.args.self.now.table c.apply.new.self stands.0 stands.1 (applied_image own words r head changes fine update)
    (c.in_ok-apply.ensures.ok ∙ sym (applied_behind own words r head changes fine update c.args.self.now.table)))
    (λ t. applied_some own words r head changes fine update) (λ none. absurd (none refl))

pub returns-in-Some-clause-next : goal.returns-in-Some-clause-next
returns-in-Some-clause-next g c = λ config records stands alive.
    let own = c.args.self.now.config in
    let words = c.args.self.now.words in
    let r = shown_of c.args.shown.now in
    let head = c.in-Some.update.head in
    let changes = c.in-Some.update.changes in
    let update = some_of _ _ c.in-Some.update c.in-Some.is c.in_ok-update.ensures.some in
    let fine : AreFine words = search rules in (
      stands.0,
      subst (λ (v : Words). Stands config v c.apply.new.self (records ++ r ∷ [])) (sym c.apply-in-Some.ensures)
          (take_makes c.each_owed_want_can_be_met.ensures.met own config records r words (words_applied words head) (Some changes)
          c.args.self.now.table c.apply.new.self stands.0 stands.1 (applied_image own words r head changes fine update)
          (c.in_ok-apply.ensures.ok ∙ sym (applied_behind own words r head changes fine update c.args.self.now.table))
          (applied_shown own words r head changes fine update) fine (applied_made own words r head changes fine update)
          (applied_some own words r head changes fine update)),
    )

pub returns-then-not-is_alive-clause-alive : goal.returns-then-not-is_alive-clause-alive
returns-then-not-is_alive-clause-alive g c = λ config records stands.
    let table = table_behind c.in_ok-left.left.words.shown (changes_of c.in_ok-left.left.changes) c.args.self.now.table in
    let so = alive_so config (records ++ shown_of c.args.shown.now ∷ []) c.in_ok-left.left.words table c.is_alive.result
    (take_stands c.each_owed_want_can_be_met.ensures.met c.args.self.now.config config records (shown_of c.args.shown.now) c.args.self.now.words c.in_ok-left.left.words
    (changes_of c.in_ok-left.left.changes) c.args.self.now.table table stands.0 stands.1 c.in_ok-left.ensures.image refl)
    c.is_alive.ensures.yes c.is_alive.ensures.no in (
      λ t. absurd cc,
      λ begins.
          let t : IsTrue c.is_alive.result = so.1 begins in
          let no = c.if-not-is_alive.true in absurd cc,
    )

pub returns-clause-alive : goal.returns-clause-alive
returns-clause-alive g c = λ config records stands.
    let so = alive_so config (records ++ shown_of c.args.shown.now ∷ []) c.in_ok-left.left.words c.follow.new.table c.is_alive.result
    (take_stands c.each_owed_want_can_be_met.ensures.met c.args.self.now.config config records (shown_of c.args.shown.now) c.args.self.now.words c.in_ok-left.left.words
    (changes_of c.in_ok-left.left.changes) c.args.self.now.table c.follow.new.table stands.0 stands.1 c.in_ok-left.ensures.image c.in_ok-follow.ensures.ok)
    c.is_alive.ensures.yes c.is_alive.ensures.no in
    (λ t. so.0 c.if-not-is_alive.false, λ begins. refl)

pub returns-clause-next : goal.returns-clause-next
returns-clause-next g c = λ config records stands alive. (
  stands.0,
  take_makes c.each_owed_want_can_be_met.ensures.met c.args.self.now.config config records (shown_of c.args.shown.now) c.args.self.now.words c.in_ok-left.left.words
      c.in_ok-left.left.changes c.args.self.now.table c.follow.new.table stands.0 stands.1 c.in_ok-left.ensures.image c.in_ok-follow.ensures.ok
      c.in_ok-left.ensures.shown (search rules) c.in_ok-left.ensures.made (c.is_alive.ensures.yes c.if-not-is_alive.false),
)

pub returns-in_err-left-clause-memory : goal.returns-in_err-left-clause-memory
returns-in_err-left-clause-memory g c = λ config records stands.
    on_err (TakesMemory config records (shown_of c.args.shown.now)) c.from_residual-in_err-left.result
    (base_takes config c.args.self.now.words c.args.self.now.table records (shown_of c.args.shown.now) stands.1 (c.in_err-left.ensures.memory refl))

pub returns-in_err-follow-clause-memory : goal.returns-in_err-follow-clause-memory
returns-in_err-follow-clause-memory g c = λ config records stands.
    on_err (TakesMemory config records (shown_of c.args.shown.now)) c.from_residual-in_err-follow.result
    (changes_take config c.args.self.now.words c.args.self.now.table records (shown_of c.args.shown.now) c.in_ok-left.left.changes stands.1
    (subst (λ (v : Config). AreMade v c.args.self.now.words (shown_of c.args.shown.now) c.in_ok-left.left.changes) stands.0 c.in_ok-left.ensures.made)
    (c.in_err-follow.ensures.memory refl))
