use Rattle.std.proofs.Common.{◌∷◌, [], List, codes, refl}
use Rattle.json.specs.Print.{ArePrintable, escape_byte, print_from}
use Rattle.json.specs.Token.{Token, begin_object, key, string}
use Rattle.bgp_json_values.specs.Piece.{IsPiece}
use Rattle.bgp_json_values.proofs.Chains.{adding, one, then}
use Rattle.bgp_json.proofs.update.begin_at.Goals as goal

abbrev head : List Token
head = begin_object ∷ key (codes "type") ∷ string (codes "update") ∷ key (codes "at") ∷ []

is_head : IsPiece head (codes "{\"type\":\"update\",\"at\":")
unfolding print_from escape_byte ArePrintable
is_head = record { printed = refl; printable = (tt, (tt, (tt, (tt, tt)))); begun = refl; open_ended = refl }

pub piece-requires : goal.piece-requires
piece-requires g c = (head, is_head)

pub returns : goal.returns
returns g c = then (adding (c.in_ok-piece.ensures.tokens head is_head) c.in_ok-piece.ensures.before) (one c.u64.ensures)
