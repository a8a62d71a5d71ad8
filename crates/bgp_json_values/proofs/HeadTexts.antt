-- The texts of what objects begin with: a path attribute, and a segment of a path.
use Rattle.std.proofs.Common.{◌≡◌, ◌∙◌, ◌++◌, ◌∷◌, [], ℕ, Bool, List, ◌<◌, ◌^◌, ap, append_assoc, codes, decimal, refl, sym, subst}
use Rattle.json.specs.Print.{ArePrintable, IsNumber, escape, escape_byte, print, print_from}
use Rattle.json.specs.Token.{Token, begin_object, key, number, string}
use Rattle.json.proofs.Printed.Decimals.{IsNumber-decimal}
use Rattle.json_writer.specs.Piece.{IsPiece}
use Rattle.bgp_attr.specs.Segments.{number_width}
use Rattle.bgp_names.specs.Attributes.{attribute_name, segment_names}
use Rattle.bgp_names.specs.Naming.{name_in, name_or}
use Rattle.bgp_json_values.specs.Heads.{head_tokens, segment_head_tokens, width_tokens}

-- the tokens, by the digits of the type and the name
abbrev tokens_of : List ℕ → List ℕ → List Token
tokens_of digits name =
    begin_object ∷ key (codes "type") ∷ number digits ∷ key (codes "name") ∷ string name ∷ key (codes "flags") ∷ []

text_is : (digits name : List ℕ) → escape name ≡ name
    → print (tokens_of digits name) ≡ codes "{\"type\":" ++ (digits ++ (codes ",\"name\":\"" ++ (name ++ codes "\",\"flags\":")))
unfolding print_from escape_byte
text_is digits name plain =
    ap (λ (rest : List ℕ). codes "{\"type\":" ++ (digits ++ (codes ",\"name\":\"" ++ rest)))
    (append_assoc (escape name) (codes "\"") (codes ",\"flags\":") ∙ ap (λ (text : List ℕ). text ++ codes "\",\"flags\":") plain)

printable : (digits name : List ℕ) → IsNumber digits → ArePrintable (tokens_of digits name)
unfolding ArePrintable
printable digits name is = (tt, (tt, (is, (tt, (tt, (tt, tt))))))

pub is_head : (kind : ℕ) (digits name : List ℕ) → decimal kind ≡ digits → kind < 2 ^ 64 → attribute_name kind ≡ name → escape name ≡ name
    → IsPiece (head_tokens kind) (codes "{\"type\":" ++ (digits ++ (codes ",\"name\":\"" ++ (name ++ codes "\",\"flags\":"))))
is_head kind digits name number_is fits name_is plain =
    let same : tokens_of digits name ≡ head_tokens kind = λ i. tokens_of (sym number_is i) (sym name_is i) in
    let is : IsNumber digits = subst IsNumber number_is (IsNumber-decimal kind fits) in
    subst (λ (ts : List Token). IsPiece ts (codes "{\"type\":" ++ (digits ++ (codes ",\"name\":\"" ++ (name ++ codes "\",\"flags\":"))))) same
    (record { printed = text_is digits name plain; printable = printable digits name is; begun = refl; open_ended = refl })

-- ---- behind the flags

pub value_back : IsPiece (key (codes "value") ∷ []) (codes "\"value\":")
unfolding print_from escape_byte ArePrintable
value_back = record { printed = refl; printable = (tt, tt); begun = refl; open_ended = refl }

abbrev width_tokens_of : List ℕ → List Token
width_tokens_of digits = key (codes "width") ∷ number digits ∷ key (codes "value") ∷ []

width_text_is : (digits : List ℕ) → print (width_tokens_of digits) ≡ codes "\"width\":" ++ (digits ++ codes ",\"value\":")
unfolding print_from escape_byte
width_text_is digits = refl

width_printable : (digits : List ℕ) → IsNumber digits → ArePrintable (width_tokens_of digits)
unfolding ArePrintable
width_printable digits is = (tt, (is, (tt, tt)))

pub width_back : (as4 : Bool) (digits : List ℕ) → decimal (number_width as4) ≡ digits → number_width as4 < 2 ^ 64
    → IsPiece (width_tokens as4) (codes "\"width\":" ++ (digits ++ codes ",\"value\":"))
width_back as4 digits number_is fits =
    let same : width_tokens_of digits ≡ width_tokens as4 = λ i. width_tokens_of (sym number_is i) in
    let is : IsNumber digits = subst IsNumber number_is (IsNumber-decimal (number_width as4) fits) in
    subst (λ (ts : List Token). IsPiece ts (codes "\"width\":" ++ (digits ++ codes ",\"value\":"))) same
    (record { printed = width_text_is digits; printable = width_printable digits is; begun = refl; open_ended = refl })

-- ---- segments

abbrev segment_tokens_of : List ℕ → List Token
segment_tokens_of name = begin_object ∷ key (codes "kind") ∷ string name ∷ key (codes "as") ∷ []

segment_text_is : (name : List ℕ) → escape name ≡ name → print (segment_tokens_of name) ≡ codes "{\"kind\":\"" ++ (name ++ codes "\",\"as\":")
unfolding print_from escape_byte
segment_text_is name plain =
    ap (λ (rest : List ℕ). codes "{\"kind\":\"" ++ rest)
    (append_assoc (escape name) (codes "\"") (codes ",\"as\":") ∙ ap (λ (text : List ℕ). text ++ codes "\",\"as\":") plain)

segment_printable : (name : List ℕ) → ArePrintable (segment_tokens_of name)
unfolding ArePrintable
segment_printable name = (tt, (tt, (tt, (tt, tt))))

pub is_segment_head : (kind : ℕ) (name : List ℕ) → name_or [] (name_in segment_names kind) ≡ name → escape name ≡ name
    → IsPiece (segment_head_tokens kind) (codes "{\"kind\":\"" ++ (name ++ codes "\",\"as\":"))
is_segment_head kind name name_is plain =
    let same : segment_tokens_of name ≡ segment_head_tokens kind = λ i. segment_tokens_of (sym name_is i) in
    subst (λ (ts : List Token). IsPiece ts (codes "{\"kind\":\"" ++ (name ++ codes "\",\"as\":"))) same
    (record { printed = segment_text_is name plain; printable = segment_printable name; begun = refl; open_ended = refl })
