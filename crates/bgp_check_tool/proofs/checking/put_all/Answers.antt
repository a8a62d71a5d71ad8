use Rattle.std.proofs.Common.{refl, rules}
use Rattle.bgp_text.proofs.Pieces.{Joins}
use Rattle.bgp_check_lines.proofs.Puts.{no_lines}
use Rattle.bgp_import.proofs.ListedSoFar.{can_be_told}
use Rattle.bgp_check_tool.proofs.OneMore.{all_put, none_put, one_listed, one_more, start_put}
use Rattle.bgp_check_tool.proofs.checking.put_all.Goals as goal

pub loop-packet-init : goal.loop-packet-init
loop-packet-init g c = record {
  front = λ packets right.
      start_put c.args.options.now packets c.args.last_packet c.in-Ok.listed.entries _ c.args.lines.now c.args.counted.now.tally c.args.counted.now.refusals.items c.args.marks.now (search rules)
      (c.in-Ok.ensures.listed c.args.options.now.port packets right) (no_lines g.met.W.Sink.nothing c.args.lines.now);
  apart = c.requires.apart;
}

pub put_listed-requires : goal.put_listed-requires
put_listed-requires g c =
    let (packets, right) = c.requires.holds in
    let front = c.loop-packet.invariant.front packets right in record {
      told = can_be_told c.args.options.now.port packets c.in-Some.packet.now c.in-Some.one.now
          (one_listed c.args.options.now.port packets c.in-Some.packet.now c.in-Some.one.now c.loop-packet.packet-iterator _ c.in-Some.ensures.steps front.left);
      apart = c.loop-packet.invariant.apart;
    }

pub loop-packet-preserved : goal.loop-packet-preserved
loop-packet-preserved g c =
    let law : Joins g.W.Sink = record { joined = g.met.W.Sink.joined } in record {
      front = λ packets right.
          one_more law c.args.options.now packets c.args.last_packet c.in-Some.packet.now c.in-Some.one.now _ c.loop-packet.packet-iterator _
          c.args.lines.now c.loop-packet.lines c.put_listed.new.lines c.args.counted.now.tally c.loop-packet.counted.tally c.put_listed.new.counted.tally
          c.args.counted.now.refusals.items c.loop-packet.counted.refusals.items c.put_listed.new.counted.refusals.items
          c.args.marks.now c.loop-packet.marks c.put_listed.new.marks c.in-Some.ensures.steps
          (c.loop-packet.invariant.front packets right) (c.put_listed.ensures.puts packets);
      apart = c.put_listed.ensures.apart;
    }

pub returns-in-Err-clause-puts : goal.returns-in-Err-clause-puts
returns-in-Err-clause-puts g c = λ packets right.
    none_put c.args.options.now packets c.args.talks.now c.args.last_packet c.args.lines.now c.args.counted.now.tally c.args.counted.now.refusals.items c.args.marks.now _
    (no_lines g.met.W.Sink.nothing c.args.lines.now) refl
    (c.in-Err.ensures.some c.args.options.now.port packets right)

pub returns-clause-puts : goal.returns-clause-puts
returns-clause-puts g c = λ packets right.
    all_put c.args.options.now packets c.args.talks.now c.args.last_packet c.in-Ok.listed _ c.loop-packet.packet-iterator c.args.lines.now c.loop-packet.lines
    c.args.counted.now.tally c.loop-packet.counted.tally c.args.counted.now.refusals.items c.loop-packet.counted.refusals.items c.args.marks.now c.loop-packet.marks _
    (search rules) c.in-None.ensures.steps.0 (search rules) (c.in-Ok.ensures.all c.args.options.now.port packets) refl (c.loop-packet.invariant.front packets right)
