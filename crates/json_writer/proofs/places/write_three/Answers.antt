use Rattle.std.proofs.Common.{◌≡◌, ◌∙◌, ◌+◌, ◌-◌, length, take, ap, arith}
use Rattle.json_writer.specs.Places.{three_digits}
use Rattle.json_writer.proofs.InPlace.{front_put}
use Rattle.json_writer.proofs.Threes.{four_places, three, threes_of}
use Rattle.json_writer.proofs.places.write_three.Goals as goal

pub returns-clause-written : goal.returns-clause-written
returns-clause-written c =
    let copied : c.copy_from_slice.new.self ≡ threes_of c.args.number = c.copy_from_slice.ensures.after in
    let four : length c.copy_from_slice.new.self ≡ 4 = ap length copied ∙ four_places c.args.number c.requires.0 in
    let text : take 3 c.copy_from_slice.new.self ≡ three_digits c.args.number = ap (take 3) copied ∙ three c.args.number c.requires.0 in
    rw text at (front_put c.args.at (c.args.at + 4 - c.args.at) 3 c.args.places.now c.copy_from_slice.new.self (omega arith) (omega arith) (omega arith))
