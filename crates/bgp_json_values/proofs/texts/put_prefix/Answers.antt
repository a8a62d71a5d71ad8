use Rattle.std.proofs.Common.{◌++◌, ◌∷◌, ℕ, List, decimal, sym, ◌∙◌, subst}
use Rattle.json.specs.Json.{string}
use Rattle.json.specs.Tree.{json_tokens}
use Rattle.bgp_prefix.specs.Text.{address_text, prefix_text}
use Rattle.bgp_json_values.specs.Adding.{Adds}
use Rattle.bgp_json_values.proofs.Chains.{one}
use Rattle.bgp_json_values.proofs.texts.put_prefix.Goals as goal

pub returns-in-V4 : goal.returns-in-V4
unfolding prefix_text
returns-in-V4 g c =
    let lowest = sym c.in-V4.is ∙ c.address.ensures in
    subst (λ (text : List ℕ). Adds c.ipv4_prefix.result c.args.writer.now c.ipv4_prefix.new.self (json_tokens (string text)))
    (λ i. address_text (lowest i) ++ 47 ∷ decimal (c.length.ensures.value i)) (one c.ipv4_prefix.ensures)

pub returns-in-V6 : goal.returns-in-V6
unfolding prefix_text
returns-in-V6 g c =
    let lowest = sym c.in-V6.is ∙ c.address.ensures in
    subst (λ (text : List ℕ). Adds c.ipv6_prefix.result c.args.writer.now c.ipv6_prefix.new.self (json_tokens (string text)))
    (λ i. address_text (lowest i) ++ 47 ∷ decimal (c.length-in-V6.ensures.value i)) (one c.ipv6_prefix.ensures)
