use Rattle.std.proofs.Common.{◌≡◌, ◌++◌, ◌∷◌, [], ℕ, List, length, Option, Some, None, IfSome, IsSome, sym, ap, subst, ◌∙◌}
use Rattle.std.proofs.lemmas.List.{nil_from_length}
use Rattle.std.proofs.lemmas.List.Elements.{All-pop}
use Rattle.std.specs.BTreeMap.{is_at}
use Rattle.std.specs.Map.{lookup}
use Rattle.std.specs.Option.{option_to_list, MatchOption}
use Rattle.bgp_update.specs.declared.destination.Destination.{Destination}
use Rattle.bgp_rib.specs.DestinationOrder.{destination_cmp}
use Rattle.bgp_rib.specs.Rooms.{route_to, undone}
use Rattle.bgp_rib.proofs.DestinationKeys.{destinations_total, exact_destinations}
use Rattle.bgp_rib.proofs.RoomLemmas.{found_route}
use Rattle.bgp_rib.proofs.Undoing.{note_undone, still_each, put_writes}
use Rattle.bgp_rib.proofs.writing.undo.Goals as goal

pub overwrite-requires : goal.overwrite-requires
overwrite-requires g c =
    let P : Destination × Option g.row.V.Denot → Type 0 = λ e. IsSome (lookup (is_at (destination_cmp e.0)) c.loop-note.table) in
    record {
      room = subst (λ r. IfSome r P) c.in-Some.is
          (All-pop P c.loop-note.log.items c.pop.new.self.items c.pop.result c.pop.ensures.items c.loop-note.invariant.noted).1;
    }

pub loop-note-preserved : goal.loop-note-preserved
loop-note-preserved g c =
    let P : Destination × Option g.row.V.Denot → Type 0 = λ e. IsSome (lookup (is_at (destination_cmp e.0)) c.loop-note.table) in
    let ds = c.loop-note.table in
    let es = c.overwrite.new.table in
    let rest = c.pop.new.self.items in
    let note = c.in-Some.note in
    let popped : c.loop-note.log.items ≡ rest ++ note ∷ [] = c.pop.ensures.items ∙ ap (λ r. rest ++ option_to_list r) c.in-Some.is in
    record {
      back = λ q. note_undone rest ds note.0 note.1 es (put_writes ds note.0 note.1 es c.overwrite.ensures.entries) q
          ∙ ap (λ l. undone l (route_to ds) q) (sym popped)
          ∙ c.loop-note.invariant.back q;
      noted = still_each rest ds note.0 note.1 es (put_writes ds note.0 note.1 es c.overwrite.ensures.entries)
          (All-pop P c.loop-note.log.items rest c.pop.result c.pop.ensures.items c.loop-note.invariant.noted).0;
    }

emptied : {X Y : Type 0} (r : Option Y) (xs : List X) (n m : ℕ) (Q : Y → Type 0) → r ≡ None → n ≡ length xs
    → MatchOption r ((n ≡ 0) × (m ≡ 0)) Q → xs ≡ []
emptied None xs n m Q e l h = nil_from_length xs (sym l ∙ h.0)
emptied (Some y) xs n m Q e l h = absurd cc

pub returns-clause-back : goal.returns-clause-back
returns-clause-back g c = λ q.
    let ds = c.loop-note.table in
    let es = c.clear_room.new.table in
    let log = c.loop-note.log.items in
    let none : log ≡ [] = emptied c.pop.result log _ _ _ c.in_default.is c.loop-note.log.ok.0 c.pop.ensures.cases in
    sym (found_route destinations_total exact_destinations q es c.clear_room.ensures.ordered)
    ∙ ap (lookup (is_at (destination_cmp q))) c.clear_room.ensures.same
    ∙ found_route destinations_total exact_destinations q ds c.clear_room.ensures.was_ordered
    ∙ ap (λ l. undone l (route_to ds) q) (sym none)
    ∙ c.loop-note.invariant.back q
