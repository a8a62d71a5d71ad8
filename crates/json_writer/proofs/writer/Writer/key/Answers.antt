use Rattle.std.proofs.Common.{◌∙◌, ◌++◌, [], ◌∷◌, IsUtf8, List, ℕ, ap, append_assoc, refl, subst, sym, false}
use Rattle.json.specs.Print.{escape}
use Rattle.json.specs.Token.{key}
use Rattle.json.proofs.Printed.Utf8.{IsUtf8-key}
use Rattle.json_writer.specs.Places.{comma_text}
use Rattle.json_writer.proofs.Tokens.{began, writes}
use Rattle.json_writer.proofs.writer.Writer.key.Goals as goal

pub invariant_of-self-2 : goal.invariant_of-self-2
invariant_of-self-2 g c = (began c.self.inside _ c.self.invariant (key c.args.name.now) refl tt (IsUtf8-key c.args.name.now (subst IsUtf8 c.as_bytes.ensures.value c.as_bytes.ensures.utf8)) refl (rw c.as_bytes.ensures.value at c.in_ok-put_key.ensures.ok ∙ ap (λ (its : List ℕ). c.self.inside.out.items ++ (comma_text c.self.inside.after_value ++ 34 ∷ its)) (sym (append_assoc (escape c.args.name.now) (34 ∷ []) (58 ∷ []))))).0

pub returns : goal.returns
returns g c =
    writes c.self.inside (record c.self.inside { out = c.put_key.new.out; after_value = false }) c.args.self.now (key c.args.name.now) c.self.view_is (began c.self.inside (record c.self.inside { out = c.put_key.new.out; after_value = false }) c.self.invariant (key c.args.name.now) refl tt (IsUtf8-key c.args.name.now (subst IsUtf8 c.as_bytes.ensures.value c.as_bytes.ensures.utf8)) refl (rw c.as_bytes.ensures.value at c.in_ok-put_key.ensures.ok ∙ ap (λ (its : List ℕ). c.self.inside.out.items ++ (comma_text c.self.inside.after_value ++ 34 ∷ its)) (sym (append_assoc (escape c.args.name.now) (34 ∷ []) (58 ∷ []))))).1
