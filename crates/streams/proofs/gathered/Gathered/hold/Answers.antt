use Rattle.std.proofs.Common.{◌≡◌, ◌∙◌, ◌⊎◌, Some, None, length, sym, ap, subst, arith, inl, inr, refl, rules}
use Rattle.std.specs.BTreeMap.{get}
use Rattle.std.specs.Ordering.{nat_cmp}
use Rattle.streams.specs.declared.stretch.Stretch.{Stretch}
use Rattle.streams.specs.Given.{AreCounted, extent_of}
use Rattle.streams.specs.Islands.{EndsAt}
use Rattle.streams.proofs.Holding.{extends_by, islands_extended, after_extended, given_held, removed_octets, inserted_octets, extent_or}
use Rattle.streams.proofs.gathered.Gathered.hold.Goals as goal
use Rattle.streams.proofs.gathered.Gathered.hold.Goals.{in-Some, in-None}

pub returns-in-Ok : goal.returns-in-Ok
returns-in-Ok g c =
    let m = c.args.self.now.islands in
    let place = c.args.place in
    let octets = c.args.octets.now in
    let base = c.match-remove.island in
    let new = c.append.new.self in
    let sound = c.requires.sound in
    let was : EndsAt m place base ⊎ ((get nat_cmp m place ≡ None) × (extent_of base ≡ 0)) = elim c.match-remove.branch [
      | in-Some w ↦ inl (sym w.in-Some.ensures.value ∙ ap (λ (s : Stretch _). Some s) (sym w.island-is))
      | in-None w ↦ inr (sym w.in-None.ensures.value, ap extent_of w.island-is ∙ ap length w.new-island.ensures.octets)
    ] in
    let counted : AreCounted base.runs.items = elim c.match-remove.branch [
      | in-Some w ↦ subst (λ (s : Stretch _). AreCounted s.runs.items) (sym w.island-is) (sound.islands.each place w.in-Some.island (sym w.in-Some.ensures.value)).counted
      | in-None w ↦ subst (λ (s : Stretch _). AreCounted s.runs.items) (sym w.island-is) (subst AreCounted (sym w.new-island.ensures.runs) (search rules))
    ] in
    let x = extends_by m c.remove.new.self c.insert.new.self place octets c.args.giver base new sound.islands c.insert.ensures.ordered c.requires.some c.requires.free.islands was
    c.remove.ensures.updates c.in-Ok.ensures.updates c.in_ok-append.ensures.octets c.in_ok-append.ensures.covered (c.in_ok-append.ensures.counted counted) c.in_ok-append.ensures.known in
    let removed = removed_octets m c.remove.new.self.entries place c.remove.ensures.entries in
    let inserted = inserted_octets c.remove.new.self c.insert.new.self.entries _ new c.remove.ensures.ordered c.in-Ok.ensures.entries in
    let taken : extent_or (get nat_cmp m place) ≡ extent_of base = elim was [
      | inl is ↦ ap extent_or is
      | inr none ↦ ap extent_or none.0 ∙ sym none.1
    ] in record {
      sound = record {
        covered = sound.covered;
        counted = sound.counted;
        islands = islands_extended m c.insert.new.self place octets c.args.giver base new x;
        hole = after_extended m c.insert.new.self place octets c.args.giver base new x _ c.requires.apart sound.hole;
      };
      given = given_held c.args.self.now _ place octets c.args.giver base new refl x (omega (arith, c.requires.apart)) sound.covered;
      size = omega (arith, removed, inserted, taken, x.extent);
    }
