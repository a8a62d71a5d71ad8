use Rattle.std.proofs.Common.{◌≡◌, ◌++◌, [], ℕ, refl, get_or, codes}
use Rattle.std.proofs.Math.ListN.{drop_of_length-le}
use Rattle.std.proofs.lemmas.List.{get_or_default}
use Rattle.std.specs.List.{flat_map}
use Rattle.bgp_text.proofs.Joined.{one_more, none_left}
use Rattle.bgp_text.proofs.Pieces.{Joins, and_then, nothing_yet}
use Rattle.bgp_lines.specs.Others.{fault_text}
use Rattle.bgp_lines.proofs.others.put_more_faults.Goals as goal

pub loop-subcode-init : goal.loop-subcode-init
loop-subcode-init g c =
    ([], nothing_yet g.W.Sink g.met.W.Sink.nothing c.args.lines.now.outlet c.args.lines.now.held.items, refl)

pub loop-subcode-preserved : goal.loop-subcode-preserved
loop-subcode-preserved g c =
    let law : Joins g.W.Sink = record { joined = g.met.W.Sink.joined } in
    let so_far = c.loop-subcode.invariant in
    let value = get_or c.args.subcodes.now c.loop-subcode.subcode-index 0 in (
      so_far.0 ++ (λ (s : ℕ). codes ", " ++ fault_text s) value,
      and_then law so_far.1 (and_then law c.put.ensures c.put_fault.ensures),
      one_more (λ (s : ℕ). codes ", " ++ fault_text s) so_far.0 (flat_map (λ (s : ℕ). codes ", " ++ fault_text s) c.args.subcodes.now) c.args.subcodes.now c.loop-subcode.subcode-index value c.loop-subcode-test.true (get_or_default c.args.subcodes.now c.loop-subcode.subcode-index 0 value c.loop-subcode-test.true) so_far.2,
    )

pub returns : goal.returns
returns g c =
    let so_far = c.loop-subcode.invariant in
    let all : so_far.0 ≡ flat_map (λ (s : ℕ). codes ", " ++ fault_text s) c.args.subcodes.now =
    none_left (λ (s : ℕ). codes ", " ++ fault_text s) so_far.0 (flat_map (λ (s : ℕ). codes ", " ++ fault_text s) c.args.subcodes.now) c.args.subcodes.now c.loop-subcode.subcode-index (drop_of_length-le c.args.subcodes.now c.loop-subcode-test.false) so_far.2
    in
    rw all at so_far.1
