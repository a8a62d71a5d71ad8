use Rattle.std.proofs.Common.{◌≡◌, ◌∙◌, ◌++◌, List, [], ℕ, refl, sym, ap, append-nil, append_assoc}
use Rattle.bgp_text.proofs.Pieces.{Joins, and_then, nothing_yet}
use Rattle.bgp_lines.specs.Joined.{each_behind}
use Rattle.bgp_values.specs.Items.{items_of}
use Rattle.bgp_lines.specs.ItemText.{item_text}
use Rattle.bgp_lines.proofs.items.put_each.Goals as goal

pub loop-piece-init : goal.loop-piece-init
loop-piece-init g c =
    ([], nothing_yet g.W.Sink g.met.W.Sink.nothing c.args.lines.now.outlet c.args.lines.now.held.items, refl)

pub loop-piece-preserved : goal.loop-piece-preserved
loop-piece-preserved g c =
    let law : Joins g.W.Sink = record { joined = g.met.W.Sink.joined } in
    let so_far = c.loop-piece.invariant in
    let one = c.args.before.now ++ item_text c.args.item (c.in-Some.piece.now) in
    let behind = each_behind (c.args.before.now) (item_text c.args.item) (items_of c.args.item c.in-Some.others.now) in (
      so_far.0 ++ one,
      and_then law so_far.1 (and_then law c.put.ensures c.put_item.ensures),
      append_assoc so_far.0 one behind
          ∙ sym (ap (λ (left : List (List ℕ)). so_far.0 ++ each_behind (c.args.before.now) (item_text c.args.item) left) (rw c.size.ensures.size at c.in-Some.ensures.some))
          ∙ so_far.2,
    )

pub put_item-requires : goal.put_item-requires
put_item-requires g c = c.in-Some.ensures.size ∙ c.size.ensures.size

pub returns : goal.returns
returns g c =
    let so_far = c.loop-piece.invariant in
    let all : so_far.0 ≡ each_behind (c.args.before.now) (item_text c.args.item) (items_of c.args.item c.args.octets.now) =
    sym (append-nil so_far.0)
    ∙ sym (ap (λ (left : List (List ℕ)). so_far.0 ++ each_behind (c.args.before.now) (item_text c.args.item) left) (rw c.size.ensures.size at c.in_default.ensures.none))
    ∙ so_far.2
    in
    rw all at so_far.1
