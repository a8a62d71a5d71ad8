use Rattle.std.proofs.Common.{◌∙◌, ◌++◌, IsUtf8, ap, false, refl, subst}
use Rattle.json.specs.Written.{Written}
use Rattle.json_writer.proofs.Tokens.{piece_put, piece_tokens}
use Rattle.json_writer.proofs.writer.Writer.piece.Goals as goal

pub invariant_of-self-2 : goal.invariant_of-self-2
invariant_of-self-2 g c =
    piece_put c.self.inside (record c.self.inside { out = c.put.new.self; after_value = false }) c.self.invariant c.requires.0 c.args.text.now c.requires.1 (subst IsUtf8 c.as_bytes-octets.ensures.value c.as_bytes-octets.ensures.utf8) refl
    (rw (c.in_ok-make_room.ensures.items, c.as_bytes-octets.ensures.value) at c.put.ensures)

pub returns-clause-tokens : goal.returns-clause-tokens
returns-clause-tokens g c = λ ts is.
    piece_tokens c.self.inside (record c.self.inside { out = c.put.new.self; after_value = false }) c.self.invariant ts c.args.text.now is (subst IsUtf8 c.as_bytes-octets.ensures.value c.as_bytes-octets.ensures.utf8) refl
    (rw (c.in_ok-make_room.ensures.items, c.as_bytes-octets.ensures.value) at c.put.ensures)
    ∙ ap (λ (o : Written). o.tokens ++ ts) c.self.view_is
