use Rattle.std.proofs.Common.{◌++◌, ◌∷◌, ℕ, List, Ok, Result, subst, sym}
use Rattle.json.specs.Json.{Json}
use Rattle.json.specs.Token.{Token, begin_object}
use Rattle.json.specs.Written.{Written}
use Rattle.bgp_json_values.specs.Adding.{Adds}
use Rattle.bgp_json_values.specs.Objects.{members_tokens}
use Rattle.bgp_json_values.proofs.Chains.{then}
use Rattle.bgp_json_values.proofs.Members.{braced, in_two}
use Rattle.bgp_update.specs.Parts.{parts_of}
use Rattle.bgp_json.specs.MessageJson.{update_members}
use Rattle.bgp_json.specs.Parts.{update_type}
use Rattle.bgp_json.specs.Place.{place_members}
use Rattle.bgp_json.proofs.update.write_update.Goals as goal

-- members were put behind the opening brace, and then others
then_braced : {E : Type 0} {u : Unit {0}} {r : Result (Unit {0}) E} {a b c : Written} (ms others : List (List ℕ × Json))
    → Adds {E = E} (Ok u) a b (begin_object ∷ members_tokens ms) → Adds r b c (members_tokens others) → Adds r a c (begin_object ∷ members_tokens (ms ++ others))
then_braced {r} {a} {c} ms others first second = subst (λ (ts : List Token). Adds r a c (begin_object ∷ ts)) (sym (in_two ms others)) (then first second)

pub put_parts-requires : goal.put_parts-requires
put_parts-requires g c = (c.requires.sections, c.requires.update)

pub returns : goal.returns
returns g c =
    let front = update_type ∷ place_members c.args.place in
    let said = update_members c.args.reading (parts_of c.args.parts) c.args.octets.now in
    braced (front ++ said) (then_braced front said c.in_ok-begin_update.ensures c.in_ok-put_parts.ensures) c.end_object.ensures
