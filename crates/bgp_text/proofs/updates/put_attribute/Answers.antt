use Rattle.std.proofs.Common.{◌≡◌, ◌∙◌, ◌++◌, List, ℕ, ap, append_assoc}
use Rattle.std.specs.Prelude.{codes}
use Rattle.std.specs.Fmt.{decimal}
use Rattle.bgp_text.specs.Text.{attribute_text, hex_text}
use Rattle.bgp_text.proofs.Pieces.{Joins, and_then}
use Rattle.bgp_text.proofs.updates.put_attribute.Goals as goal

-- the head of an attribute, and its value behind it
in_order : (flags kind : ℕ) (value : List ℕ)
    → (decimal flags ++ (codes "." ++ (decimal kind ++ codes ":"))) ++ value ≡ decimal flags ++ (codes "." ++ (decimal kind ++ (codes ":" ++ value)))
in_order flags kind value =
    append_assoc (decimal flags) (codes "." ++ (decimal kind ++ codes ":")) value
    ∙ ap (λ (rest : List ℕ). decimal flags ++ (codes "." ++ rest)) (append_assoc (decimal kind) (codes ":") value)

pub returns : goal.returns
unfolding attribute_text
returns g c =
    let law : Joins g.W.Sink = record { joined = g.met.W.Sink.joined } in
    let attr = c.args.attr in
    rw (in_order attr.flags attr.kind (hex_text attr.value.now)) at (and_then law c.put_head.ensures c.put_hex.ensures)
