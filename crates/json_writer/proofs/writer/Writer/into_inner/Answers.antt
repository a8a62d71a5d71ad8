use Rattle.std.proofs.Common.{◌≡◌, ◌∙◌, ◌++◌, IsUtf8, List, ap, subst, sym}
use Rattle.json.specs.Lex.{tokens}
use Rattle.json.specs.Print.{print}
use Rattle.json.specs.Token.{Token}
use Rattle.json.proofs.Printed.Tokens.{tokens-print}
use Rattle.json_writer.proofs.Tokens.{shows}
use Rattle.json_writer.proofs.writer.Writer.into_inner.Goals as goal

pub returns : goal.returns
returns g c =
    let w = c.self.inside in
    let h = c.self.invariant in
    let printed : h.printed ≡ c.args.self.tokens = sym (shows w h) ∙ ap (λ v. v.tokens) c.self.view_is in
    record {
      items = c.into_text.ensures ∙ h.text ∙ (λ i. (c.self.view_is i).before ++ print (printed i));
      reads_back = subst (λ (ts : List Token). tokens (print ts) ≡ ts) printed (tokens-print h.printed h.printable);
      utf8 = subst IsUtf8 (h.text ∙ ap print printed) h.utf8;
    }
