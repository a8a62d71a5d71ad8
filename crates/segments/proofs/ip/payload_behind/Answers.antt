use Rattle.std.proofs.Common.{◌≡◌, ◌∙◌, ◌-◌, ℕ, suc, List, sym, ap, length, drop, arith, length-drop, slice_index}
use Rattle.segments.specs.Ip.{payload_behind}
use Rattle.segments.proofs.Headers.{behind_transport, behind_fragmented, behind_unknown, behind_one, enough}
use Rattle.segments.proofs.ip.payload_behind.Goals as goal

pub returns-in-Transport : goal.returns-in-Transport
returns-in-Transport c = sym (behind_transport _ _ _ _ _ (sym c.in-Transport.ensures.value)) ∙ c.loop-len.invariant.same

pub returns-in-Fragmented : goal.returns-in-Fragmented
returns-in-Fragmented c = sym (behind_fragmented _ _ _ _ _ (sym c.in-Fragmented.ensures.value)) ∙ c.loop-len.invariant.same

pub returns-in-Unknown : goal.returns-in-Unknown
returns-in-Unknown c = sym (behind_unknown _ _ _ _ _ (sym c.in-Unknown.ensures.value)) ∙ c.loop-len.invariant.same

pub loop-len-preserved : goal.loop-len-preserved
loop-len-preserved c =
    let within = c.in-Passed.ensures.within in
    let rest = c.loop-len.rest.now in
    let len = c.in-Passed.len in
    let left = length-drop len rest in
    let back = c.split_at.ensures.back in
    let many : length c.split_at.result.1.now ≡ length rest - len = ap length back ∙ left in
    let addresses = c.args.header.now.addresses in
    let kind = slice_index rest 0 in
    let count = c.loop-len.wire_count in record {
      same =
          ap (λ (o : List ℕ). payload_behind (suc (length o)) addresses kind o (count - len)) back
          ∙ enough (suc (length (drop len rest))) (length rest) addresses kind (drop len rest) (count - len) (omega arith) (omega (arith, within.0, within.1))
          ∙ sym (behind_one (length rest) addresses c.loop-len.kind rest count len (sym c.in-Passed.ensures.value))
          ∙ c.loop-len.invariant.same;
      kept = omega (arith, within.0, within.1, c.loop-len.invariant.kept);
    }
