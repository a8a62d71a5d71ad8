-- The objects of lines that belong to a verdict, or to one of its ends.
use Rattle.std.proofs.Common.{◌++◌, ℕ, List, [], ◌∷◌, Result, Ok, codes, sym, subst}
use Rattle.json.specs.Json.{Json, string}
use Rattle.json.specs.Token as tokens
use Rattle.json.specs.Token.{Token}
use Rattle.json.specs.Tree.{json_tokens}
use Rattle.json.specs.Written.{Written, Writes}
use Rattle.bgp_json_values.specs.Adding.{Adds}
use Rattle.bgp_json_values.specs.Objects.{members_tokens, number_of}
use Rattle.bgp_json_values.proofs.Chains.{one, then}
use Rattle.bgp_json_values.proofs.Members.{closed}
use Rattle.bgp_json_verdicts.specs.Objects.{of_end, of_verdict}
use Rattle.bgp_json_verdicts.specs.declared.telling.Counts.{Counts}

-- what begins them
abbrev begun : List ℕ → Counts → List Token
begun kind counts =
    tokens.begin_object ∷ members_tokens ((codes "type", string kind) ∷ (codes "judged", number_of counts.judged) ∷ [])

abbrev begun_end : List ℕ → Counts → List Token
begun_end kind counts =
    tokens.begin_object ∷ members_tokens ((codes "type", string kind) ∷ (codes "judged", number_of counts.judged) ∷ (codes "end", number_of counts.end) ∷ [])

module _ {E : Type 0} {u v : Unit {0}} {r : Result (Unit {0}) E} {a b c d : Written} (kind : List ℕ) (counts : Counts) (ms : List (List ℕ × Json)) where
  pub of_verdict_whole : Adds {E = E} (Ok u) a b (begun kind counts) → Adds {E = E} (Ok v) b c (members_tokens ms) → Writes r c d tokens.end_object → Adds r a d (json_tokens (of_verdict kind counts ms))
  of_verdict_whole first inside ended =
      subst (λ (ts : List Token). Adds r a d (begun kind counts ++ ts)) (sym (closed ms)) (then first (then inside (one ended)))

  pub of_end_whole : Adds {E = E} (Ok u) a b (begun_end kind counts) → Adds {E = E} (Ok v) b c (members_tokens ms) → Writes r c d tokens.end_object → Adds r a d (json_tokens (of_end kind counts ms))
  of_end_whole first inside ended =
      subst (λ (ts : List Token). Adds r a d (begun_end kind counts ++ ts)) (sym (closed ms)) (then first (then inside (one ended)))
