use Rattle.std.proofs.Common.{◌≡◌, ◌∙◌, ◌==◌, ◌++◌, ◌∷◌, Bool, true, false, ℕ, List, [], arith, codes, length, refl, sym}
use Rattle.std.proofs.lemmas.Bool.{ne_eqb}
use Rattle.bgp_text.proofs.Pieces.{Joins, and_then}
use Rattle.bgp_check_text.specs.Text.{deed_if}
use Rattle.bgp_check_text.proofs.lines.put_deed_if.Goals as goal

not_true : (b : Bool) → b ≡ true → b ≡ false → ⊥
not_true true is other = let k : ⊥ = cc in k
not_true false is other = let k : ⊥ = cc in k

no_deed : (deed : List ℕ) → (length deed == 0) ≡ true → deed_if deed ≡ []
no_deed [] none = refl
no_deed (x ∷ deed) none = absurd (not_true (length (x ∷ deed) == 0) none (ne_eqb (length (x ∷ deed)) 0 (λ e. omega (arith, e))))

some_deed : (deed : List ℕ) → (length deed == 0) ≡ false → deed_if deed ≡ codes " " ++ deed
some_deed [] some = let k : ⊥ = cc in absurd k
some_deed (x ∷ deed) some = refl

pub returns-then-is_empty : goal.returns-then-is_empty
returns-then-is_empty g c = rw (no_deed c.args.deed.now (sym c.is_empty.ensures ∙ c.if-is_empty.true)) c.put.ensures

pub returns-else-is_empty : goal.returns-else-is_empty
returns-else-is_empty g c =
    let law : Joins g.W.Sink = record { joined = g.met.W.Sink.joined } in
    rw (some_deed c.args.deed.now (sym c.is_empty.ensures ∙ c.if-is_empty.false)) (and_then law c.put-else-is_empty.ensures c.put-else-is_empty-2.ensures)
