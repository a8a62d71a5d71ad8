use Rattle.std.proofs.Common.{◌∙◌, ◌++◌, ◌∷◌, arith, decimal, IsUtf8, ap, false, refl, subst}
use Rattle.json.specs.Written.{Written}
use Rattle.json.specs.Token.{number}
use Rattle.json_writer.proofs.Tokens.{around_piece, around_utf8, piece_put, piece_tokens}
use Rattle.json_writer.proofs.writer.Writer.around_u8.Goals as goal

pub invariant_of-self-2 : goal.invariant_of-self-2
invariant_of-self-2 g c =
    piece_put c.self.inside (record c.self.inside { out = c.put_around.new.self; after_value = false }) c.self.invariant _ _
    (around_piece c.args.n (omega arith) c.requires.front.0 c.requires.back.0 c.args.front.now c.args.back.now c.requires.front.1 c.requires.back.1)
    (around_utf8 c.args.n (omega arith) c.requires.front.0 c.requires.back.0 c.args.front.now c.args.back.now c.requires.front.1 c.requires.back.1 (subst IsUtf8 c.as_bytes-first.ensures.value c.as_bytes-first.ensures.utf8) (subst IsUtf8 c.as_bytes-second.ensures.value c.as_bytes-second.ensures.utf8)) refl
    (rw (c.in_ok-make_room.ensures.items, c.as_bytes-first.ensures.value, c.as_bytes-second.ensures.value) at c.put_around.ensures)

pub returns-clause-tokens : goal.returns-clause-tokens
returns-clause-tokens g c = λ ts us is its.
    piece_tokens c.self.inside (record c.self.inside { out = c.put_around.new.self; after_value = false }) c.self.invariant _ _
    (around_piece c.args.n (omega arith) ts us c.args.front.now c.args.back.now is its)
    (around_utf8 c.args.n (omega arith) ts us c.args.front.now c.args.back.now is its (subst IsUtf8 c.as_bytes-first.ensures.value c.as_bytes-first.ensures.utf8) (subst IsUtf8 c.as_bytes-second.ensures.value c.as_bytes-second.ensures.utf8)) refl
    (rw (c.in_ok-make_room.ensures.items, c.as_bytes-first.ensures.value, c.as_bytes-second.ensures.value) at c.put_around.ensures)
    ∙ ap (λ (o : Written). o.tokens ++ (ts ++ number (decimal c.args.n) ∷ us)) c.self.view_is
