use Rattle.std.proofs.Common.{refl, ap, arith}
use Rattle.packets.specs.Packet.{recorded_of}
use Rattle.packets.specs.Reader.{ReaderState}
use Rattle.bgp_import.proofs.SoFar.{counted, less_left}
use Rattle.bgp_import.proofs.ReadSoFar.{all_taken, answer_of, file_refused, nothing_read, no_failure, number_is, packet_refused, taken_on}
use Rattle.bgp_import.proofs.talks.take_all.Goals as goal

pub loop-packet-init : goal.loop-packet-init
loop-packet-init g c =
    let number = ap (λ (s : ReaderState). s.number) c.requires.fresh in record {
      so_far = nothing_read g.R.Source.gives g.R.Source.has_ended g.met.R.Source.joined c.args.talks.now.port c.args.source.now c.args.reader.now c.args.talks.now c.requires.fresh
          c.requires.empty c.requires.none (g.met.R.Source.nothing c.args.source.now);
      one_source = omega (arith, number);
      calm = refl;
    }

pub returns-in-Ok-None-clause-takes : goal.returns-in-Ok-None-clause-takes
returns-in-Ok-None-clause-takes g c =
    let so = c.loop-packet.invariant.so_far in
    let answer = answer_of g.R.Source.gives g.R.Source.has_ended g.met.R.Source.joined c.args.talks.now.port c.args.source.now c.loop-packet.source c.next_packet.new.source c.loop-packet.reader
    c.next_packet.follows.lender-at-none c.loop-packet.talks c.next_packet.result so c.next_packet.follows.holds-at-none.0 in
    let is = rw (c.in-Ok-None.is, c.in-Ok-None.field-0-is) at answer in
    all_taken g.R.Source.gives g.R.Source.has_ended g.met.R.Source.joined c.args.talks.now.port c.args.source.now _ _ _ _ c.loop-packet.talks so is

pub returns-in-Err-clause-takes : goal.returns-in-Err-clause-takes
returns-in-Err-clause-takes g c =
    let so = c.loop-packet.invariant.so_far in
    let answer = answer_of g.R.Source.gives g.R.Source.has_ended g.met.R.Source.joined c.args.talks.now.port c.args.source.now c.loop-packet.source c.next_packet.new.source c.loop-packet.reader
    c.next_packet.follows.lender-at-none c.loop-packet.talks c.next_packet.result so c.next_packet.follows.holds-at-none.0 in
    let is = rw (c.in-Err.is) at answer in
    file_refused g.R.Source.gives g.R.Source.has_ended g.met.R.Source.joined c.args.talks.now.port c.args.source.now _ _ _ _ c.loop-packet.talks c.in-Err.fault so is

pub returns-in-Err-taken-clause-takes : goal.returns-in-Err-taken-clause-takes
returns-in-Err-taken-clause-takes g c =
    let so = c.loop-packet.invariant.so_far in
    let answer = answer_of g.R.Source.gives g.R.Source.has_ended g.met.R.Source.joined c.args.talks.now.port c.args.source.now c.loop-packet.source c.next_packet.new.source c.loop-packet.reader
    c.next_packet.follows.lender-at-none c.loop-packet.talks c.next_packet.result so c.next_packet.follows.holds-at-none.0 in
    let is = rw (c.in-Ok-Some.is, c.in-Ok-Some.field-0-is) at answer in
    let number = number_is g.R.Source.gives g.R.Source.has_ended g.met.R.Source.joined c.args.talks.now.port c.args.source.now _ _ _ _ c.loop-packet.talks c.in-Ok-Some.packet so is in
    packet_refused g.R.Source.gives g.R.Source.has_ended g.met.R.Source.joined c.args.talks.now.port c.args.source.now _ _ _ _ c.loop-packet.talks _ c.in-Ok-Some.packet c.in-Err-taken.refusal so is
    (c.in-Err-taken.ensures.takes c.args.talks.now.port so.packets number so.held)

pub returns-in-Err-clause-failures : goal.returns-in-Err-clause-failures
returns-in-Err-clause-failures g c =
    let so = c.loop-packet.invariant.so_far in
    let failures = rw (c.in-Err.is) at c.next_packet.ensures.failures in
    let one = counted c.loop-packet.reader c.in-Err.fault so.calm in
    omega (arith, failures, one, c.loop-packet.invariant.calm)

pub returns-in-Err-taken-clause-failures : goal.returns-in-Err-taken-clause-failures
returns-in-Err-taken-clause-failures g c =
    let so = c.loop-packet.invariant.so_far in
    let answer = answer_of g.R.Source.gives g.R.Source.has_ended g.met.R.Source.joined c.args.talks.now.port c.args.source.now c.loop-packet.source c.next_packet.new.source c.loop-packet.reader
    c.next_packet.follows.lender-at-none c.loop-packet.talks c.next_packet.result so c.next_packet.follows.holds-at-none.0 in
    let is = rw (c.in-Ok-Some.is, c.in-Ok-Some.field-0-is) at answer in
    let number = number_is g.R.Source.gives g.R.Source.has_ended g.met.R.Source.joined c.args.talks.now.port c.args.source.now _ _ _ _ c.loop-packet.talks c.in-Ok-Some.packet so is in
    let failures = rw (c.in-Ok-Some.is) at c.next_packet.ensures.failures in
    let none = no_failure c.args.talks.now.port so.packets (recorded_of c.in-Ok-Some.packet) c.take-taken.new.self c.in-Err-taken.refusal (c.in-Err-taken.ensures.takes c.args.talks.now.port so.packets number so.held) in
    omega (arith, failures, none, c.loop-packet.invariant.calm)

pub loop-packet-smaller : goal.loop-packet-smaller
loop-packet-smaller g c =
    let so = c.loop-packet.invariant.so_far in
    let answer = answer_of g.R.Source.gives g.R.Source.has_ended g.met.R.Source.joined c.args.talks.now.port c.args.source.now c.loop-packet.source c.next_packet.new.source c.loop-packet.reader
    c.next_packet.follows.lender-at-none c.loop-packet.talks c.next_packet.result so c.next_packet.follows.holds-at-none.0 in
    let is = rw (c.in-Ok-Some.is, c.in-Ok-Some.field-0-is) at answer in
    less_left _ _ _ (ap (λ (s : ReaderState). s.number) is.0.stands) c.next_packet.follows.holds-at-none.1 (g.met.R.Source.below c.next_packet.new.source)

pub loop-packet-preserved : goal.loop-packet-preserved
loop-packet-preserved g c =
    let so = c.loop-packet.invariant.so_far in
    let answer = answer_of g.R.Source.gives g.R.Source.has_ended g.met.R.Source.joined c.args.talks.now.port c.args.source.now c.loop-packet.source c.next_packet.new.source c.loop-packet.reader
    c.next_packet.follows.lender-at-none c.loop-packet.talks c.next_packet.result so c.next_packet.follows.holds-at-none.0 in
    let is = rw (c.in-Ok-Some.is, c.in-Ok-Some.field-0-is) at answer in
    let failures = rw (c.in-Ok-Some.is) at c.next_packet.ensures.failures in
    let number = number_is g.R.Source.gives g.R.Source.has_ended g.met.R.Source.joined c.args.talks.now.port c.args.source.now _ _ _ _ c.loop-packet.talks c.in-Ok-Some.packet so is in
    record {
      so_far = taken_on g.R.Source.gives g.R.Source.has_ended g.met.R.Source.joined c.args.talks.now.port c.args.source.now _ _ _ _ c.loop-packet.talks _ c.in-Ok-Some.packet so is
          (c.in-Ok.ensures.takes c.args.talks.now.port so.packets number so.held) (c.take-taken.ensures.wrapped so.packets so.wrapped);
      one_source = c.next_packet.follows.holds-at-none.1;
      calm = omega (arith, failures, c.loop-packet.invariant.calm);
    }
