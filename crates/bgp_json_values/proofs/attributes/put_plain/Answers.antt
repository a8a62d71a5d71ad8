use Rattle.std.proofs.Common.{◌≡◌, ◌∙◌, ◌++◌, ◌∷◌, [], ℕ, Bool, List, Ok, Result, ap, append-nil, append_assoc, arith, codes, decimal, if◌then◌else◌, option_map, subst, sym}
use Rattle.json.specs.Json.{Json}
use Rattle.json.specs.Token.{Token, end_object, key, number}
use Rattle.json.specs.Tree.{json_tokens}
use Rattle.json.specs.Written.{Written, Writes}
use Rattle.bgp_values.specs.AttributeValue.{attribute_value_of}
use Rattle.bgp_names.specs.Attributes.{attribute_names}
use Rattle.bgp_json_values.specs.Adding.{Adds}
use Rattle.bgp_json_values.specs.AttributeJson.{attribute_value_json, spelled_attribute, width_member, width_of_type}
use Rattle.bgp_json_values.specs.Heads.{attribute_with, front_tokens, head_tokens}
use Rattle.bgp_json_values.specs.Objects.{members_tokens, number_of}
use Rattle.bgp_json_values.specs.Octets.{octets_members, value_members}
use Rattle.bgp_json_values.specs.Texts.{name_json}
use Rattle.bgp_json_values.proofs.AttributesSpelled.{Spells, spelled}
use Rattle.bgp_json_values.proofs.Chains.{then as and_then}
use Rattle.bgp_json_values.proofs.Joins.{equal}
use Rattle.bgp_json_values.proofs.Members.{braced, in_two}
use Rattle.bgp_json_values.proofs.attributes.put_plain.Goals as goal

-- members, and then one more
one_more : (ms : List (List ℕ × Json)) (value : Json) → (members_tokens ms ++ key (codes "value") ∷ []) ++ json_tokens value ≡ members_tokens (ms ++ (codes "value", value) ∷ [])
one_more ms value =
    append_assoc (members_tokens ms) (key (codes "value") ∷ []) (json_tokens value)
    ∙ ap (λ (ts : List Token). members_tokens ms ++ (key (codes "value") ∷ ts)) (sym (append-nil (json_tokens value)))
    ∙ sym (in_two ms ((codes "value", value) ∷ []))

-- what the object begins with was put, the value, which spells the octets, and the closing brace
put_in_turn : {E : Type 0} {u v : Unit {0}} {r : Result (Unit {0}) E} {a b c d : Written} (as4 : Bool) (kind flags : ℕ) (value : Json) (its octets : List ℕ) → its ≡ octets
    → Adds {E = E} (Ok u) a b (front_tokens as4 kind flags) → Adds {E = E} (Ok v) b c (json_tokens value) → Writes r c d end_object
    → Adds r a d (json_tokens (attribute_with kind flags (width_member as4 kind ++ value_members value its octets)))
put_in_turn {E} {u} {v} {r} {a} {b} {c} {d} as4 kind flags value its octets same front put ended =
    let said = width_member as4 kind ++ (codes "value", value) ∷ [] in
    let inside : Adds {E = E} (Ok v) a c (head_tokens kind ++ number (decimal flags) ∷ members_tokens said) =
    subst (λ (ts : List Token). Adds {E = E} (Ok v) a c (head_tokens kind ++ number (decimal flags) ∷ ts)) (one_more (width_member as4 kind) value) (and_then front put) in
    subst (λ (test : Bool). Adds r a d (json_tokens (attribute_with kind flags (width_member as4 kind ++ ((codes "value", value) ∷ (if test then [] else octets_members octets)))))) (equal its octets same)
    (braced ((codes "type", number_of kind) ∷ (codes "name", name_json (codes "attribute ") attribute_names kind) ∷ (codes "flags", number_of flags) ∷ said) inside ended)

pub returns-in_ok-put_value-in-Some : goal.returns-in_ok-put_value-in-Some
returns-in_ok-put_value-in-Some g c =
    let kind = c.args.kind in
    let octets = c.args.octets.now in
    let value = attribute_value_of c.in-Some.value in
    let width = width_of_type c.args.as4 kind in
    let same : spelled_attribute width value ≡ octets =
    subst (Spells width octets) (sym c.requires ∙ ap (option_map attribute_value_of) c.in-Some.is) (spelled c.args.as4 kind octets (λ k. omega (arith, c.type_inv.octets k))) in
    rw c.in-Some.is (put_in_turn c.args.as4 kind c.args.flags (attribute_value_json value) (spelled_attribute width value) octets same c.in_ok-put_front-in-Some.ensures c.in_ok-put_value-in-Some.ensures c.end_object.ensures)
