-- A reader of JSON reads the text of a value as that value.
use Rattle.std.proofs.Common.{◌≡◌, ◌∙◌, ◌≤◌, [], List, Some, option_and_then, ap, append-nil, subst, sym}
use Rattle.json.specs.Json.{Json, document, if_last, max_depth, value}
use Rattle.json.specs.Lex.{tokens}
use Rattle.json.specs.Print.{print}
use Rattle.json.specs.Token.{Token}
use Rattle.json.specs.Tree.{depth, json_tokens}
use Rattle.json.proofs.Printed.Trees.{value-json_tokens}

of_tokens : (v : Json) → tokens (print (json_tokens v)) ≡ json_tokens v → depth v ≤ max_depth → document (print (json_tokens v)) ≡ Some v
of_tokens v back shallow =
    ap (option_and_then (λ p. if_last p.0 p.1))
    (ap (value max_depth) (back ∙ sym (append-nil (json_tokens v))) ∙ value-json_tokens v max_depth [] shallow)

pub reads_back : (v : Json) (written : List Token) → written ≡ json_tokens v → tokens (print written) ≡ written → depth v ≤ max_depth
    → document (print (json_tokens v)) ≡ Some v
reads_back v written is back shallow =
    of_tokens v (subst (λ (ts : List Token). tokens (print ts) ≡ ts) is back) shallow
