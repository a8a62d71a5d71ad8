-- Ends that are added one after another, each where it is there, are those in this order.
use Rattle.std.proofs.Common.{◌≡◌, ◌++◌, ◌∙◌, Bool, true, false, List, [], refl, ap}
use Rattle.bgp_machine.specs.Run.{End}
use Rattle.bgp_compact.specs.Parts.{kept}

in_order : (a b c d : Bool) (w x y z : End)
    → ((kept a w [] ++ kept b x []) ++ kept c y []) ++ kept d z []
    ≡ kept a w (kept b x (kept c y (kept d z [])))
in_order true true true true w x y z = refl
in_order true true true false w x y z = refl
in_order true true false true w x y z = refl
in_order true true false false w x y z = refl
in_order true false true true w x y z = refl
in_order true false true false w x y z = refl
in_order true false false true w x y z = refl
in_order true false false false w x y z = refl
in_order false true true true w x y z = refl
in_order false true true false w x y z = refl
in_order false true false true w x y z = refl
in_order false true false false w x y z = refl
in_order false false true true w x y z = refl
in_order false false true false w x y z = refl
in_order false false false true w x y z = refl
in_order false false false false w x y z = refl

pub four_ends : (none first second third fourth : List End) (a b c d : Bool) (w x y z : End)
    → none ≡ [] → first ≡ none ++ kept a w [] → second ≡ first ++ kept b x []
    → third ≡ second ++ kept c y [] → fourth ≡ third ++ kept d z []
    → fourth ≡ kept a w (kept b x (kept c y (kept d z [])))
four_ends none first second third fourth a b c d w x y z is_none is_first is_second is_third is_fourth =
    is_fourth ∙ ap (λ l. l ++ kept d z []) (is_third ∙ ap (λ l. l ++ kept c y [])
    (is_second ∙ ap (λ l. l ++ kept b x []) (is_first ∙ ap (λ l. l ++ kept a w []) is_none)))
    ∙ in_order a b c d w x y z
