use Rattle.std.proofs.Common.{◌≡◌, ◌++◌, ◌∷◌, List, [], ℕ, sym, get_or, decimal}
use Rattle.std.proofs.Math.ListN.{drop_of_length-le}
use Rattle.std.proofs.lemmas.List.{nil_from_length, get_or_default}
use Rattle.std.specs.List.{flat_map}
use Rattle.bgp_text.specs.RouteText.{numbers_text}
use Rattle.bgp_text.proofs.Joined.{joined, one_more, none_left}
use Rattle.bgp_text.proofs.Pieces.{Joins, and_then, nothing_yet}
use Rattle.bgp_text.proofs.routes.put_numbers.Goals as goal

-- the numbers behind the first
text_of_some : (between : ℕ) (numbers others : List ℕ) (first : ℕ) → numbers ≡ first ∷ others
    → decimal first ++ flat_map (λ n. between ∷ decimal n) others ≡ numbers_text between numbers
text_of_some between numbers others first is = rw is (sym (joined between decimal first others))

pub returns-in_default : goal.returns-in_default
returns-in_default g c =
    let none : c.args.numbers.now ≡ [] = nil_from_length c.args.numbers.now (c.in_default.ensures {u = tt}).cases in
    rw none (nothing_yet g.W.Sink g.met.W.Sink.nothing c.args.lines.now.outlet c.args.lines.now.held.items)

pub loop-number-init : goal.loop-number-init
loop-number-init g c =
    (decimal c.in-Some.first.now, c.put_decimal.ensures, text_of_some c.args.between c.args.numbers.now c.in-Some.others.now c.in-Some.first.now c.in-Some.ensures.cases.0)

pub loop-number-preserved : goal.loop-number-preserved
loop-number-preserved g c =
    let law : Joins g.W.Sink = record { joined = g.met.W.Sink.joined } in
    let so_far = c.loop-number.invariant in
    let number = get_or c.in-Some.others.now c.loop-number.number-index 0 in (
      so_far.0 ++ (c.args.between ∷ decimal number),
      and_then law so_far.1 (and_then law c.put.ensures c.put_decimal-in-loop-number.ensures),
      one_more (λ n. c.args.between ∷ decimal n) so_far.0 (numbers_text c.args.between c.args.numbers.now) c.in-Some.others.now c.loop-number.number-index number c.loop-number-test.true (get_or_default c.in-Some.others.now c.loop-number.number-index 0 number c.loop-number-test.true) so_far.2,
    )

pub returns : goal.returns
returns g c =
    let so_far = c.loop-number.invariant in
    let all : so_far.0 ≡ numbers_text c.args.between c.args.numbers.now =
    none_left (λ n. c.args.between ∷ decimal n) so_far.0 (numbers_text c.args.between c.args.numbers.now) c.in-Some.others.now c.loop-number.number-index (drop_of_length-le c.in-Some.others.now c.loop-number-test.false) so_far.2
    in
    rw all at so_far.1
