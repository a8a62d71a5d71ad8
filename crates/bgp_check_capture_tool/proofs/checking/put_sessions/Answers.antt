use Rattle.std.proofs.Common.{List, Option, subst, sym}
use Rattle.mrt.specs.declared.fault.CaptureFault.{CaptureFault}
use Rattle.bgp_text.proofs.Pieces.{Joins}
use Rattle.bgp_check_lines.proofs.Puts.{no_lines}
use Rattle.bgp_check_capture_tool.specs.Firsts.{AreApart}
use Rattle.bgp_check_capture_tool.proofs.Apart.{none_apart}
use Rattle.bgp_check_capture_tool.proofs.Blocks.{all_put, held_are_own, none_put, one_put}
use Rattle.bgp_check_capture_tool.proofs.checking.put_sessions.Goals as goal

pub loop-addresses-init : goal.loop-addresses-init
loop-addresses-init g c = record {
  puts = λ named holds.
      none_put c.args.telling named c.args.lines.now c.new-counted.result.tally c.new-counted.result.refusals.items c.args.marks.now (no_lines g.met.W.Sink.nothing c.args.lines.now)
      c.new-counted.ensures.tally c.new-counted.ensures.refusals;
  apart = subst (λ (fs : List (Option CaptureFault)). AreApart fs) (sym c.new-counted.ensures.refusals) none_apart;
}

pub put_held-requires-clause-mine : goal.put_held-requires-clause-mine
put_held-requires-clause-mine g c = held_are_own c.requires.0 c.args.sessions.now _ c.requires.1

pub loop-addresses-preserved : goal.loop-addresses-preserved
loop-addresses-preserved g c = record {
  puts = λ named holds.
      let law : Joins g.W.Sink = record { joined = g.met.W.Sink.joined } in
      one_put law c.args.telling named c.args.sessions.now c.in_order-addresses-items.result.now c.loop-addresses.addresses-index _ c.args.lines.now c.loop-addresses.lines _ c.loop-addresses.counted.tally _ c.loop-addresses.counted.refusals.items _ c.args.marks.now c.loop-addresses.marks _
      c.in_order-addresses-items.ensures c.loop-addresses-test.true holds (c.loop-addresses.invariant.puts named holds) c.put_held.ensures.puts;
  apart = c.put_held.ensures.apart;
}

pub returns-clause-puts : goal.returns-clause-puts
returns-clause-puts g c = λ named holds.
    all_put c.args.telling named c.args.sessions.now c.in_order-addresses-items.result.now c.loop-addresses.addresses-index c.args.lines.now _ _ _ c.args.marks.now _ c.in_order-addresses-items.ensures
    c.loop-addresses-test.false holds (c.loop-addresses.invariant.puts named holds)
