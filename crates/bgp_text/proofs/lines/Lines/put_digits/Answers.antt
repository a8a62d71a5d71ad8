use Rattle.std.proofs.Common.{◌≡◌, ◌∙◌, ◌++◌, List, [], ℕ, refl, sym, ap, subst, append_assoc, arith}
use Rattle.std.proofs.lemmas.List.{take-append-drop}
use Rattle.hex.specs.Hex.{encode_lower, lower_digits}
use Rattle.bgp_text.specs.Outlet.{Passes}
use Rattle.bgp_text.proofs.HexDigits.{no_digits, encode_with-append}
use Rattle.bgp_text.proofs.Pieces.{Joins, nothing_yet, and_then, more_held}
use Rattle.bgp_text.proofs.lines.Lines.put_digits.Goals as goal

pub loop-rest-init : goal.loop-rest-init
loop-rest-init g c = (
  [],
  refl,
  subst (λ (text : List ℕ). Passes c.args.self.now.outlet c.args.self.now.outlet c.args.self.now.held.items text c.args.self.now.held.items)
      (sym no_digits) (nothing_yet g.W.Sink g.met.W.Sink.nothing c.args.self.now.outlet c.args.self.now.held.items),
)

pub loop-rest-preserved : goal.loop-rest-preserved
loop-rest-preserved g c =
    let law : Joins g.W.Sink = record { joined = g.met.W.Sink.joined } in
    let so_far = c.loop-rest.invariant in
    let piece = c.split_at.result.0.now in
    let room = c.make_room.new.self in
    let split : c.loop-rest.rest.now ≡ piece ++ c.split_at.result.1.now = cc (take-append-drop c.min.result c.loop-rest.rest.now) in
    let digits : encode_lower (so_far.0 ++ piece) ≡ encode_lower so_far.0 ++ encode_lower piece =
    encode_with-append lower_digits so_far.0 piece
    in
    let put = and_then law c.make_room.ensures.writes (more_held g.W.Sink g.met.W.Sink.nothing room.outlet room.held.items (encode_lower piece)) in (
      so_far.0 ++ piece,
      so_far.1 ∙ ap (λ (rest : List ℕ). so_far.0 ++ rest) split ∙ sym (append_assoc so_far.0 piece c.split_at.result.1.now),
      rw (digits, c.push_hex.ensures) (and_then law so_far.2 put),
    )

pub split_at-requires : goal.split_at-requires
split_at-requires g c = omega arith
