use Rattle.std.proofs.Common.{[], IsUtf8, ap, refl, subst, sym}
use Rattle.std.proofs.lemmas.Str.{IsUtf8-nil}
use Rattle.json.specs.Lex.{lex, punctuate, tokens}
use Rattle.json.specs.Print.{ArePrintable, print_from}
use Rattle.json_writer.proofs.writer.Writer.new.Goals as goal

pub invariant_of-result : goal.invariant_of-result
unfolding print_from ArePrintable
invariant_of-result g c = record { printed = []; printable = tt; text = c.new.ensures; place = refl; utf8 = subst IsUtf8 (sym c.new.ensures) IsUtf8-nil }

pub returns-clause-tokens : goal.returns-clause-tokens
unfolding lex punctuate
returns-clause-tokens g c = ap tokens c.new.ensures
