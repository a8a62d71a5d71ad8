use Rattle.std.proofs.Common.{◌≡◌, ◌∙◌, ◌+◌, ◌-◌, ◌++◌, ◌∷◌, [], List, ℕ, take, length, refl, ap, sym, arith, append_assoc}
use Rattle.std.specs.Fmt.{decimal}
use Rattle.json_writer.proofs.Dotted.{dotted, four_places, plain, places_of}
use Rattle.json_writer.proofs.InPlace.{front_put}
use Rattle.json_writer.proofs.places.write_octet.Goals as goal

-- the octet's places in the table were written
is_copied : (c : goal.After-digit_count) → c.copy_from_slice.new.self ≡ places_of c.args.octet
is_copied c =
    let same : c.from-from.result ≡ c.args.octet = c.from-from.ensures in
    let after : c.copy_from_slice.new.self ≡ places_of c.from-from.result = c.copy_from_slice.ensures.after in
    after ∙ ap places_of same

is_four : (c : goal.After-digit_count) → length c.copy_from_slice.new.self ≡ 4
is_four c = ap length (is_copied c) ∙ four_places c.args.octet c.ranges.octet.fits

pub returns-clause-written : goal.returns-clause-written
returns-clause-written c =
    let four = is_four c in
    let text : take c.digit_count.result c.copy_from_slice.new.self ≡ decimal c.args.octet =
    ap (take c.digit_count.result) (is_copied c)
    ∙ ap (λ (k : ℕ). take k (places_of c.args.octet)) c.digit_count.ensures.digits
    ∙ plain c.args.octet c.ranges.octet.fits
    in
    rw text at (front_put c.args.at (c.args.at + 4 - c.args.at) c.digit_count.result c.args.places.now c.copy_from_slice.new.self (omega arith) (omega arith) (omega arith))

pub returns-clause-dot : goal.returns-clause-dot
returns-clause-dot c =
    let four = is_four c in
    let further : c.args.at + (c.digit_count.result + 1) ≡ c.args.at + c.digit_count.result + 1 = omega arith in
    let text : take (c.digit_count.result + 1) c.copy_from_slice.new.self ≡ decimal c.args.octet ++ 46 ∷ [] =
    ap (take (c.digit_count.result + 1)) (is_copied c)
    ∙ ap (λ (k : ℕ). take (k + 1) (places_of c.args.octet)) c.digit_count.ensures.digits
    ∙ dotted c.args.octet c.ranges.octet.fits
    in
    let both = rw (text, further) at (front_put c.args.at (c.args.at + 4 - c.args.at) (c.digit_count.result + 1) c.args.places.now c.copy_from_slice.new.self (omega arith) (omega arith) (omega arith)) in
    record {
      front = both.front ∙ sym (append_assoc (take c.args.at c.args.places.now) (decimal c.args.octet) (46 ∷ [])) ∙ ap (λ (front : List ℕ). front ++ 46 ∷ []) (sym (returns-clause-written c).front);
      len = refl;
    }
