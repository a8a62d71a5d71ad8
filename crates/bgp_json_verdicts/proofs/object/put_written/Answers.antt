use Rattle.std.proofs.Common.{◌∙◌, ◌++◌, List, ℕ, ap, refl, subst, IsUtf8}
use Rattle.json.specs.Print.{print}
use Rattle.json.specs.Token.{Token}
use Rattle.bgp_text.proofs.Pieces.{Joins, and_then}
use Rattle.bgp_tool.specs.Object.{json_line}
use Rattle.bgp_tool.proofs.ReadsBack.{reads_back}
use Rattle.bgp_json_verdicts.proofs.object.put_written.Goals as goal

pub returns-in-Ok : goal.returns-in-Ok
unfolding json_line
returns-in-Ok g c =
    let law : Joins g.W.Sink = record { joined = g.met.W.Sink.joined } in
    let before = rw c.in-Ok.is at c.requires in
    let text = c.as_slice.ensures.value ∙ c.into_inner-text.ensures.items ∙ ap (λ (o : List ℕ). o ++ print c.args.writer.tokens) before in
    rw c.in-Ok.is (λ value is shallow. (
      rw (text ∙ ap (λ (ts : List Token). print ts) is) at (and_then law c.put.ensures c.put-in-Ok.ensures),
      record {
        value = value;
        is_its = refl;
        reads_back = reads_back value c.args.writer.tokens is c.into_inner-text.ensures.reads_back shallow;
        utf8 = subst (λ (ts : List Token). IsUtf8 (print ts)) is c.into_inner-text.ensures.utf8;
      },
    ))
