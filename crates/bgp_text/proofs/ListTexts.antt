-- The text of a list of values, put value by value.
use Rattle.std.proofs.Common.{◌≡◌, ◌∙◌, ◌++◌, ◌∷◌, ◌==◌, ℕ, List, [], true, false, refl, sym, length}
use Rattle.std.proofs.lemmas.Bool.{false≢true, eqb-true, eq-eqb}
use Rattle.std.proofs.lemmas.List.{nil_from_length}
use Rattle.std.specs.List.{flat_map}
use Rattle.bgp_text.specs.RouteText.{list_text}

-- no text stands for no values
of_none : {X : Type 0} (word : List ℕ) (text : X → List ℕ) (values : List X) → values ≡ [] → [] ≡ list_text word text values
unfolding list_text
of_none word text values none = rw none refl

pub nothing_listed : {X : Type 0} (word : List ℕ) (text : X → List ℕ) (values : List X) → true ≡ (length values == 0) → [] ≡ list_text word text values
nothing_listed word text values empty = of_none word text values (nil_from_length values (eqb-true (length values) 0 (sym empty)))

-- the word, and then each value behind a blank
of_some : {X : Type 0} (word : List ℕ) (text : X → List ℕ) (values : List X) → ¬ (length values ≡ 0)
    → word ++ flat_map (λ v. 32 ∷ text v) values ≡ list_text word text values
unfolding list_text
of_some word text [] some = absurd (some refl)
of_some word text (value ∷ values) some = refl

pub some_listed : {X : Type 0} (word : List ℕ) (text : X → List ℕ) (values : List X) → false ≡ (length values == 0)
    → word ++ flat_map (λ v. 32 ∷ text v) values ≡ list_text word text values
some_listed word text values some = of_some word text values (λ none. false≢true (some ∙ eq-eqb (length values) 0 none))
