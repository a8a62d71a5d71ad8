use Rattle.std.proofs.Common.{◌≡◌, ◌↔◌, ◌++◌, ◌≤◌, ◌+◌, ℕ, List, length, drop, sym, ap, subst, ◌∙◌, arith, Result, Ok, Err, rules}
use Rattle.std.proofs.Math.Seq.{drop-append_seam}
use Rattle.bgp_open.specs.declared.link.Link.{Link}
use Rattle.bgp_wire.specs.Header.{limit_with}
use Rattle.bgp_wire.specs.Framing.{IsFrame}
use Rattle.bgp_update.specs.Clean.{IsClean, most_octets}
use Rattle.bgp_update_writer.specs.declared.lengths.Lengths.{Lengths}
use Rattle.bgp_update_writer.specs.declared.update.UpdateFault.{UpdateFault}
use Rattle.bgp_update_writer.specs.declared.update.UpdateFault.TheVariants.{TooLarge, Memory}
use Rattle.bgp_update_writer.specs.Update.{UpdateValue, update_value}
use Rattle.bgp_update_writer.specs.Written.{update_octets}
use Rattle.bgp_update_writer.specs.Refusals.{IsFamilyUsed, IsSendable, IsTooLarge}
use Rattle.bgp_update_writer.specs.Applied.{IsJustApplied, changes_of_update}
use Rattle.bgp_update_writer.specs.Lengths.{AreLengths}
use Rattle.bgp_update_writer.proofs.Measured.{length_of_update}
use Rattle.bgp_update_writer.proofs.WrittenUpdate.{written_applied}
use Rattle.bgp_update_writer.proofs.update.write_update.Goals as goal

-- the message has as many octets as was measured
exactly : (link : Link) (value : UpdateValue) (n : Lengths) → AreLengths link value n
    → length (update_octets link value) ≡ 23 + n.withdrawn + n.attributes + n.nlri
exactly link value n are = omega (arith, are.withdrawn, are.attributes, are.nlri, length_of_update link value)

small : (link : Link) (value : UpdateValue) (n : Lengths) → AreLengths link value n → length (update_octets link value) ≤ most_octets link
small link value n are = omega (arith, are.room, exactly link value n are)

not_large : (link : Link) (value : UpdateValue) (n : Lengths) → AreLengths link value n → ¬ IsTooLarge link value
not_large link value n are large = absurd (omega (arith, small link value n are))

applied : (link : Link) (value : UpdateValue) (n : Lengths) (old new : List ℕ) → AreLengths link value n → IsFamilyUsed link value → IsSendable link value
    → new ≡ old ++ update_octets link value
    → IsClean link (drop (length old) new) × IsJustApplied link (drop (length old) new) (changes_of_update value) × IsFrame (limit_with link.extended) (drop (length old) new)
applied link value n old new are used sendable e =
    let own : drop (length old) new ≡ update_octets link value = ap (drop (length old)) e ∙ drop-append_seam old (update_octets link value) in
    subst (λ (octets : List ℕ). IsClean link octets × IsJustApplied link octets (changes_of_update value) × IsFrame (limit_with link.extended) octets) (sym own)
    (written_applied link value are.fits used sendable (not_large link value n are))

never : (P : Type 0) (r : Result (Unit {0}) UpdateFault) → (r ≡ Err TooLarge → ⊥) → ¬ P → (r ≡ Err TooLarge) ↔ P
never P r a b = (λ e. absurd (a e), λ p. absurd (b p))

pub returns-in-Err-clause-too_large : goal.returns-in-Err-clause-too_large
returns-in-Err-clause-too_large g c =
    never _ (Err Memory) (λ e. absurd cc) (λ p. not_large c.args.link.now (update_value c.args.update.now) c.in-Some.lengths c.in-Some.ensures.some p.2)

pub returns-in-Err-clause-memory : goal.returns-in-Err-clause-memory
returns-in-Err-clause-memory g c =
    λ _. omega (arith, c.in-Err.ensures.full, exactly c.args.link.now (update_value c.args.update.now) c.in-Some.lengths c.in-Some.ensures.some)

pub put_update-requires-clause-room : goal.put_update-requires-clause-room
put_update-requires-clause-room g c =
    omega (arith, c.in_default-reserve.ensures.ok, c.reserve.ensures.len, exactly c.args.link.now (update_value c.args.update.now) c.in-Some.lengths c.in-Some.ensures.some)

pub returns-clause-clean : goal.returns-clause-clean
returns-clause-clean g c =
    let used : IsFamilyUsed c.args.link.now (update_value c.args.update.now) = search rules in
    let sendable : IsSendable c.args.link.now (update_value c.args.update.now) = search rules in
    (applied c.args.link.now (update_value c.args.update.now) c.in-Some.lengths c.args.out.now.items c.put_update.new.out.items c.in-Some.ensures.some used sendable
    (rw c.reserve.ensures.items at c.put_update.ensures)).0

pub returns-clause-outcome : goal.returns-clause-outcome
returns-clause-outcome g c =
    let used : IsFamilyUsed c.args.link.now (update_value c.args.update.now) = search rules in
    let sendable : IsSendable c.args.link.now (update_value c.args.update.now) = search rules in
    (applied c.args.link.now (update_value c.args.update.now) c.in-Some.lengths c.args.out.now.items c.put_update.new.out.items c.in-Some.ensures.some used sendable
    (rw c.reserve.ensures.items at c.put_update.ensures)).1

pub returns-clause-frame : goal.returns-clause-frame
returns-clause-frame g c =
    let used : IsFamilyUsed c.args.link.now (update_value c.args.update.now) = search rules in
    let sendable : IsSendable c.args.link.now (update_value c.args.update.now) = search rules in
    (applied c.args.link.now (update_value c.args.update.now) c.in-Some.lengths c.args.out.now.items c.put_update.new.out.items c.in-Some.ensures.some used sendable
    (rw c.reserve.ensures.items at c.put_update.ensures)).2

pub returns-clause-too_large : goal.returns-clause-too_large
returns-clause-too_large g c =
    never _ (Ok tt) (λ e. absurd cc) (λ p. not_large c.args.link.now (update_value c.args.update.now) c.in-Some.lengths c.in-Some.ensures.some p.2)
