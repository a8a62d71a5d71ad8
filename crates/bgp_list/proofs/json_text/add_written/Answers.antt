use Rattle.std.proofs.Common.{◌∙◌, ◌++◌, List, ℕ, ap, append_assoc, codes, refl, subst, IsUtf8}
use Rattle.json.specs.Print.{print}
use Rattle.json.specs.Token.{Token}
use Rattle.bgp_json.specs.Object.{json_line}
use Rattle.bgp_json.proofs.ReadsBack.{reads_back}
use Rattle.bgp_list.proofs.json_text.add_written.Goals as goal

pub returns : goal.returns
unfolding json_line
returns g c = λ value is shallow. (
  c.in_ok-push.ensures.items
      ∙ ap (λ (t : List ℕ). t ++ codes "\n") c.in_ok-extend_from_slice.ensures.items
      ∙ append_assoc c.args.text.now.items _ (codes "\n")
      ∙ ap (λ (t : List ℕ). c.args.text.now.items ++ (t ++ codes "\n"))
      (c.as_slice.ensures.value ∙ c.into_inner-line.ensures.items ∙ ap (λ (o : List ℕ). o ++ print c.args.writer.tokens) c.requires ∙ ap (λ (ts : List Token). print ts) is),
  record {
    value = value;
    is_its = refl;
    reads_back = reads_back value c.args.writer.tokens is c.into_inner-line.ensures.reads_back shallow;
    utf8 = subst (λ (ts : List Token). IsUtf8 (print ts)) is c.into_inner-line.ensures.utf8;
  },
)
