use Rattle.std.proofs.Common.{◌∙◌, ◌++◌, [], ◌∷◌, List, ℕ, ap, refl, true}
use Rattle.json.specs.Token.{end_array}
use Rattle.json.proofs.Printed.Utf8.{IsUtf8-are_ascii}
use Rattle.json_writer.proofs.Tokens.{closed, writes}
use Rattle.json_writer.proofs.writer.Writer.end_array.Goals as goal

pub invariant_of-self-2 : goal.invariant_of-self-2
invariant_of-self-2 g c = (closed c.self.inside _ c.self.invariant end_array refl tt (IsUtf8-are_ascii (93 ∷ []) refl) refl (c.put.ensures ∙ ap (λ (its : List ℕ). its ++ 93 ∷ []) c.in_ok-make_room.ensures.items)).0

pub returns : goal.returns
returns g c =
    writes c.self.inside (record c.self.inside { out = c.put.new.self; after_value = true }) c.args.self.now (end_array) c.self.view_is (closed c.self.inside (record c.self.inside { out = c.put.new.self; after_value = true }) c.self.invariant end_array refl tt (IsUtf8-are_ascii (93 ∷ []) refl) refl (c.put.ensures ∙ ap (λ (its : List ℕ). its ++ 93 ∷ []) c.in_ok-make_room.ensures.items)).1
