use Rattle.std.proofs.Common.{IsUtf8, refl, subst, true}
use Rattle.json.specs.Token.{string}
use Rattle.json.proofs.Printed.Utf8.{IsUtf8-quoted}
use Rattle.json_writer.proofs.Tokens.{began, writes}
use Rattle.json_writer.proofs.writer.Writer.word.Goals as goal

pub invariant_of-self-2 : goal.invariant_of-self-2
invariant_of-self-2 g c = (began c.self.inside _ c.self.invariant (string c.args.text.now) refl tt (IsUtf8-quoted c.args.text.now (subst IsUtf8 c.as_bytes.ensures.value c.as_bytes.ensures.utf8)) refl (rw c.as_bytes.ensures.value at c.in_ok-put_quoted.ensures.ok)).0

pub returns : goal.returns
returns g c =
    writes c.self.inside (record c.self.inside { out = c.put_quoted.new.out; after_value = true }) c.args.self.now (string c.args.text.now) c.self.view_is (began c.self.inside (record c.self.inside { out = c.put_quoted.new.out; after_value = true }) c.self.invariant (string c.args.text.now) refl tt (IsUtf8-quoted c.args.text.now (subst IsUtf8 c.as_bytes.ensures.value c.as_bytes.ensures.utf8)) refl (rw c.as_bytes.ensures.value at c.in_ok-put_quoted.ensures.ok)).1
