use Rattle.std.proofs.Common.{rules}
use Rattle.bgp_import.proofs.ListedSoFar.{can_be_told}
use Rattle.bgp_list.proofs.PutSoFar.{all_made, one_left, one_more, start_made}
use Rattle.bgp_list.proofs.recording.lines_of.Goals as goal

pub loop-packet-init : goal.loop-packet-init
loop-packet-init g c = λ packets right.
    start_made c.args.port packets c.args.last_packet c.in_ok-listed.listed.entries _ c.new-list.result.items (search rules)
    (c.in_ok-listed.ensures.listed c.args.port packets right) (search rules)

pub at-requires : goal.at-requires
at-requires g c =
    let (packets, right) = c.requires in
    can_be_told c.args.port packets c.in-Some.packet.now c.in-Some.one.now
    (one_left c.args.port packets c.args.last_packet c.in-Some.packet.now c.in-Some.one.now _ c.loop-packet.packet-iterator _ _ c.in-Some.ensures.steps (c.loop-packet.invariant packets right))

pub loop-packet-preserved : goal.loop-packet-preserved
loop-packet-preserved g c = λ packets right.
    one_more c.args.port packets c.args.last_packet c.in-Some.packet.now c.in-Some.one.now c.in_ok-line.line _ c.loop-packet.packet-iterator _
    c.loop-packet.list.items c.push.new.self.items c.in-Some.ensures.steps (c.loop-packet.invariant packets right) (c.in_ok-line.ensures packets) c.in_ok-push.ensures.items

pub returns : goal.returns
returns g c = λ packets right.
    all_made c.args.port packets c.args.talks.now c.args.last_packet c.in_ok-listed.listed _ c.loop-packet.packet-iterator _ (search rules) c.in-None.ensures.steps.0 (search rules)
    (c.in_ok-listed.ensures.all c.args.port packets) (c.loop-packet.invariant packets right)
