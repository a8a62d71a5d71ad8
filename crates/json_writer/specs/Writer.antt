-- What a contract sees of a writer, and what holds of its fields.
use Rattle.std.specs.Prelude.{◌≡◌, List, []}
use Rattle.std.specs.Str.{IsUtf8}
use Rattle.json.specs.Lex.{tokens}
use Rattle.json.specs.Print.{ArePrintable, ends_value, print}
use Rattle.json.specs.Token.{Token}
use Rattle.json.specs.Written.{Written}
use Rattle.json_writer.specs.declared.writer.Writer.TheInside.{Inside}

-- The tokens that a reader finds in the text. Nothing stands before them, and nothing is said of
-- the room behind them.
abbrev pub writer_view : {A : Type 0} → Inside A → Written
writer_view w = record { before = []; tokens = tokens w.out.items; spare = 0 }

-- the text is the print of some tokens, and a comma is wanted if the last one ends a value
pub record IsWriter {A : Type 0} (w : Inside A) : Type 0 where
  pub printed : List Token
  pub printable : ArePrintable printed
  pub text : w.out.items ≡ print printed
  pub place : w.after_value ≡ ends_value printed
  pub utf8 : IsUtf8 w.out.items
