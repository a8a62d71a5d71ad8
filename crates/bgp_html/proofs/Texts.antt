-- A text in HTML: no markup, and that text alone.
use Rattle.std.proofs.Common.{◌≡◌, ◌∙◌, ◌++◌, ◌∷◌, ◌||◌, ℕ, true, false, List, [], refl, sym, ap, ap₂}
use Rattle.std.proofs.lemmas.Bool.{false≢true}
use Rattle.std.proofs.lemmas.List.{append_cancel_left}
use Rattle.std.proofs.lemmas.List.Folds.{list_any-append}
use Rattle.bgp_html.specs.Escaped.{escape_octet, escaped, is_markup, EscapedTextIsNoMarkup, EscapedTextIsThatTextAlone}
use Rattle.bgp_html.proofs.Octets.{inert, first_in, first_of, is_some, some_of}

pub no_markup : EscapedTextIsNoMarkup
no_markup [] = refl
no_markup (octet ∷ text) =
    list_any-append is_markup (escape_octet octet) (escaped text) ∙ ap₂ ◌||◌ (inert octet) (no_markup text)

-- nothing stands for no text
none_is_some : (octet : ℕ) (text : List ℕ) → [] ≡ escaped (octet ∷ text) → false ≡ true
none_is_some octet text e = ap is_some e ∙ some_of octet (escaped text)

pub that_alone : EscapedTextIsThatTextAlone
that_alone [] [] e = refl
that_alone [] (octet ∷ text) e = absurd (false≢true (none_is_some octet text e))
that_alone (octet ∷ text) [] e = absurd (false≢true (none_is_some octet text (sym e)))
that_alone (a ∷ texts) (b ∷ others) e =
    let same : b ≡ a = sym (first_of b (escaped others)) ∙ ap first_in (sym e) ∙ first_of a (escaped texts) in
    let behind : escaped texts ≡ escaped others =
    append_cancel_left (escape_octet a) (escaped texts) (escaped others)
    (e ∙ ap (λ (octet : ℕ). escape_octet octet ++ escaped others) same)
    in
    ap₂ ◌∷◌ (sym same) (that_alone texts others behind)
