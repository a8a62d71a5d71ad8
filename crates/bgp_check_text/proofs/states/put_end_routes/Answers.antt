use Rattle.std.proofs.Common.{◌≡◌, ◌∙◌, ◌==◌, true, false, ℕ, length, map, sym, ap}
use Rattle.std.proofs.lemmas.List.{length-map}
use Rattle.bgp_judge.specs.Ends.{end_value}
use Rattle.bgp_check_text.proofs.states.put_end_routes.Goals as goal

pub returns-then-is_one : goal.returns-then-is_one
returns-then-is_one g c =
    let one : (length (map end_value c.args.endings.now) == 1) ≡ true =
    ap (λ (n : ℕ). n == 1) (length-map c.args.endings.now end_value) ∙ sym c.is_one.ensures ∙ c.if-is_one.true in
    rw one c.put_plain_routes.ensures

pub returns-else-is_one : goal.returns-else-is_one
returns-else-is_one g c =
    let other : (length (map end_value c.args.endings.now) == 1) ≡ false =
    ap (λ (n : ℕ). n == 1) (length-map c.args.endings.now end_value) ∙ sym c.is_one.ensures ∙ c.if-is_one.false in
    rw other c.put_each_routes.ensures
