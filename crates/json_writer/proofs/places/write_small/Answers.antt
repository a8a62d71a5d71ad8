use Rattle.std.proofs.Common.{◌≡◌, ◌∙◌, ◌+◌, ◌-◌, ℕ, length, take, ap, arith}
use Rattle.std.specs.Fmt.{decimal}
use Rattle.json_writer.proofs.InPlace.{front_put}
use Rattle.json_writer.proofs.Threes.{four_of, last_of, plain}
use Rattle.json_writer.proofs.places.write_small.Goals as goal

pub returns-clause-written : goal.returns-clause-written
returns-clause-written c =
    let n = c.args.number in
    let count = c.small_count-count.result in
    let copied : c.copy_from_slice.new.self ≡ last_of count n = c.copy_from_slice.ensures.after in
    let four : length c.copy_from_slice.new.self ≡ 4 = ap length copied ∙ four_of count n c.requires.0 in
    let text : take count c.copy_from_slice.new.self ≡ decimal n =
    ap (take count) copied ∙ ap (λ (k : ℕ). take k (last_of k n)) c.small_count-count.ensures.digits ∙ plain n c.requires.0
    in
    rw text at (front_put c.args.at (c.args.at + 4 - c.args.at) count c.args.places.now c.copy_from_slice.new.self (omega arith) (omega arith) (omega arith))
