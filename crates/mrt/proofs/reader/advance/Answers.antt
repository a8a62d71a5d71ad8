use Rattle.std.proofs.Common.{◌+◌, ap, refl, arith, inl, inr}
use Rattle.mrt.specs.Reader.{ReaderState, device_count}
use Rattle.mrt.specs.declared.fault.CaptureFault.{CaptureFault}
use Rattle.mrt.specs.declared.fault.FaultKind.TheVariants as kinds
use Rattle.mrt.proofs.Advancing.{skips, ends_there, finds_there, fails_there, refused_is_no_device, skipped_some}
use Rattle.mrt.proofs.reader.advance.Goals as goal

pub returns-in-Ok-End-clause-next : goal.returns-in-Ok-End-clause-next
returns-in-Ok-End-clause-next g c =
    let (octets, given, is) = rw c.in-Ok-End.field-0-is at c.in-Ok-End.ensures.ok in
    ends_there _ _ g.met.S.Source.joined _ _ _ _ _ _ _ octets c.loop-progress.invariant.passes given is.0 is.1 c.end.ensures

pub loop-progress-preserved : goal.loop-progress-preserved
loop-progress-preserved g c =
    let (octets, given, is) = rw c.in-Ok-Skipped.field-0-is at c.in-Ok-Skipped.ensures.ok in
    let counted = g.met.S.Source.counted _ _ octets given in
    let passed = ap (λ (s : ReaderState). s.passed) c.skip.ensures in record {
      room = cc;
      passes = skips _ _ g.met.S.Source.joined _ _ _ _ _ _ _ octets c.in-Ok-Skipped.skip c.in-Ok-Skipped.count c.loop-progress.invariant.passes given is.0 is.1 is.2 c.skip.ensures;
      one_source = omega (arith, is.2);
      calm = cc (c.in-Ok-Skipped.ensures.failures);
    }

pub returns-in-Ok-Refused-clause-next : goal.returns-in-Ok-Refused-clause-next
returns-in-Ok-Refused-clause-next g c =
    let (octets, given, is) = rw c.in-Ok-Refused.field-0-is at c.in-Ok-Refused.ensures.ok in
    rw c.refuse.ensures.fault (fails_there _ _ g.met.S.Source.joined _ _ _ _ _ _ _ octets c.in-Ok-Refused.kind c.loop-progress.invariant.passes given (inl is)
    (rw c.refuse.ensures.fault at c.refuse.ensures.state))

pub returns-in-Ok-Refused-clause-failures : goal.returns-in-Ok-Refused-clause-failures
returns-in-Ok-Refused-clause-failures g c =
    let (octets, given, is) = rw c.in-Ok-Refused.field-0-is at c.in-Ok-Refused.ensures.ok in
    let none = refused_is_no_device _ _ octets _ _ is in
    let kind = ap (λ (f : CaptureFault). device_count f.kind) c.refuse.ensures.fault in
    let calm = c.in-Ok-Refused.ensures.failures in omega (arith, c.loop-progress.invariant.calm)

pub returns-in-Ok-OfSession-clause-next : goal.returns-in-Ok-OfSession-clause-next
returns-in-Ok-OfSession-clause-next g c =
    let (octets, given, is) = rw c.in-Ok-OfSession.field-0-is at c.in-Ok-OfSession.ensures.ok in
    finds_there _ _ g.met.S.Source.joined _ _ _ _ _ _ _ octets _ c.in-Ok-OfSession.found (12 + c.in-Ok-OfSession.found.count) c.loop-progress.invariant.passes given is.0 is.1 refl c.answer.ensures

pub returns-in-Err-clause-next : goal.returns-in-Err-clause-next
returns-in-Err-clause-next g c =
    let (taken, given, begun) = c.in-Err.ensures.err in
    rw c.refuse-in-Err.ensures.fault (fails_there _ _ g.met.S.Source.joined _ _ _ _ _ _ _ taken kinds.Device c.loop-progress.invariant.passes given
    (inr (inl (refl, begun))) (rw c.refuse-in-Err.ensures.fault at c.refuse-in-Err.ensures.state))

pub loop-progress-smaller : goal.loop-progress-smaller
loop-progress-smaller g c =
    let (octets, given, is) = rw c.in-Ok-Skipped.field-0-is at c.in-Ok-Skipped.ensures.ok in
    let counted = g.met.S.Source.counted _ _ octets given in
    let some = skipped_some _ _ c.in-Ok-Skipped.skip octets is.0 in
    let below = g.met.S.Source.below c.read_record.new.source in omega (arith, is.2)

pub skip-requires-clause-some : goal.skip-requires-clause-some
skip-requires-clause-some g c =
    let (octets, given, is) = rw c.in-Ok-Skipped.field-0-is at c.in-Ok-Skipped.ensures.ok in
    let some = skipped_some _ _ c.in-Ok-Skipped.skip octets is.0 in omega (arith, is.2)

pub skip-requires-clause-room : goal.skip-requires-clause-room
skip-requires-clause-room g c =
    let (octets, given, is) = rw c.in-Ok-Skipped.field-0-is at c.in-Ok-Skipped.ensures.ok in
    let counted = g.met.S.Source.counted _ _ octets given in
    let below = g.met.S.Source.below c.read_record.new.source in omega (arith, is.2)

pub answer-requires : goal.answer-requires
answer-requires g c =
    let (octets, given, is) = rw c.in-Ok-OfSession.field-0-is at c.in-Ok-OfSession.ensures.ok in
    let counted = g.met.S.Source.counted _ _ octets given in
    let below = g.met.S.Source.below c.read_record.new.source in omega (arith, is.1.count)

pub overflow_add-found : goal.overflow_add-found
overflow_add-found g c =
    let (octets, given, is) = rw c.in-Ok-OfSession.field-0-is at c.in-Ok-OfSession.ensures.ok in
    let counted = g.met.S.Source.counted _ _ octets given in
    let below = g.met.S.Source.below c.read_record.new.source in omega (arith, is.1.count)

pub returns-in-Ok-End-clause-one_source : goal.returns-in-Ok-End-clause-one_source
returns-in-Ok-End-clause-one_source g c =
    let (octets, given, is) = rw c.in-Ok-End.field-0-is at c.in-Ok-End.ensures.ok in
    let counted = g.met.S.Source.counted _ _ octets given in
    let passed = ap (λ (s : ReaderState). s.passed) c.end.ensures in omega arith

pub returns-in-Ok-Refused-clause-one_source : goal.returns-in-Ok-Refused-clause-one_source
returns-in-Ok-Refused-clause-one_source g c =
    let (octets, given, is) = rw c.in-Ok-Refused.field-0-is at c.in-Ok-Refused.ensures.ok in
    let counted = g.met.S.Source.counted _ _ octets given in
    let passed = ap (λ (s : ReaderState). s.passed) c.refuse.ensures.state in omega arith

pub returns-in-Ok-OfSession-clause-one_source : goal.returns-in-Ok-OfSession-clause-one_source
returns-in-Ok-OfSession-clause-one_source g c =
    let (octets, given, is) = rw c.in-Ok-OfSession.field-0-is at c.in-Ok-OfSession.ensures.ok in
    let counted = g.met.S.Source.counted _ _ octets given in
    let passed = ap (λ (s : ReaderState). s.passed) c.answer.ensures in omega (arith, is.1.count)

pub returns-in-Err-clause-one_source : goal.returns-in-Err-clause-one_source
returns-in-Err-clause-one_source g c =
    let (taken, given, begun) = c.in-Err.ensures.err in
    let counted = g.met.S.Source.counted _ _ taken given in
    let passed = ap (λ (s : ReaderState). s.passed) c.refuse-in-Err.ensures.state in omega arith

pub returns-in-Ok-End-clause-failures : goal.returns-in-Ok-End-clause-failures
returns-in-Ok-End-clause-failures g c =
    let calm = c.in-Ok-End.ensures.failures in omega (arith, c.loop-progress.invariant.calm)

pub returns-in-Ok-OfSession-clause-failures : goal.returns-in-Ok-OfSession-clause-failures
returns-in-Ok-OfSession-clause-failures g c =
    let calm = c.in-Ok-OfSession.ensures.failures in omega (arith, c.loop-progress.invariant.calm)

pub returns-in-Err-clause-failures : goal.returns-in-Err-clause-failures
returns-in-Err-clause-failures g c =
    let kind = ap (λ (f : CaptureFault). device_count f.kind) c.refuse-in-Err.ensures.fault in
    let once = c.in-Err.ensures.failures in omega (arith, c.loop-progress.invariant.calm)
