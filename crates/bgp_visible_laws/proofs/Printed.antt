-- Lines without control characters, one behind another.
use Rattle.std.proofs.Common.{◌∙◌, ◌++◌, ℕ, List, [], ◌∷◌, All, refl, sym, ap, ap₂}
use Rattle.std.specs.List.{flat_map}
use Rattle.std.proofs.lemmas.List.Elements.{All-append, All-cons, All-head, All-nil, All-tail}
use Rattle.std.proofs.lemmas.List.Folds.{concat-append}
use Rattle.bgp_visible_laws.specs.Visible.{AreVisibleLines, IsVisibleLine}

pub no_lines : AreVisibleLines []
no_lines = ([], refl, All-nil IsVisibleLine)

pub one_more : {line text : List ℕ} → IsVisibleLine line → AreVisibleLines text → AreVisibleLines (line ++ text)
one_more {line} {text} is are = (line ∷ are.0, ap (λ (t : List ℕ). line ++ t) are.1, All-cons IsVisibleLine line are.0 is are.2)

pub all_of_both : {text more : List ℕ} → AreVisibleLines text → AreVisibleLines more → AreVisibleLines (text ++ more)
all_of_both {text} {more} first second = (
  first.0 ++ second.0,
  ap₂ (λ (a b : List ℕ). a ++ b) first.1 second.1 ∙ sym (concat-append first.0 second.0),
  All-append IsVisibleLine first.0 second.0 first.2 second.2,
)

pub all_of : {X : Type 0} (line : X → List ℕ) (xs : List X) → All (λ x. IsVisibleLine (line x)) xs → AreVisibleLines (flat_map line xs)
all_of line [] all = no_lines
all_of {X} line (x ∷ xs) all =
    let Is : X → Type 0 = λ y. IsVisibleLine (line y) in
    one_more (All-head Is x xs all) (all_of line xs (All-tail Is x xs all))
