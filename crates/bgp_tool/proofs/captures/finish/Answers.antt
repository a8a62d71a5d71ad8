use Rattle.std.proofs.Common.{◌≡◌, ◌∙◌, ◌⊎◌, ℕ, Bool, IsTrue, IsFalse, inl, inr}
use Rattle.bgp_text.proofs.Pieces.{Joins, and_nothing}
use Rattle.bgp_tool.proofs.PlacedLines.{refusal_is_json}
use Rattle.bgp_tool.proofs.captures.finish.Goals as goal

told_as : (failed : Bool) (status one wanted : ℕ) → (IsFalse failed × (status ≡ one)) ⊎ (IsTrue failed × (status ≡ 5)) → one ≡ wanted
    → (IsFalse failed × (status ≡ wanted)) ⊎ (IsTrue failed × (status ≡ 5))
told_as failed status one wanted (inl calm) is = inl (calm.0, calm.1 ∙ is)
told_as failed status one wanted (inr broken) is = inr broken

pub returns-in-Ok-put_capture_refusal : goal.returns-in-Ok-put_capture_refusal
returns-in-Ok-put_capture_refusal g c =
    let law : Joins g.W.Sink = record { joined = g.met.W.Sink.joined } in
    rw c.in-Err.is (inl (record {
      wrote = and_nothing law c.in-Ok-put_capture_refusal.ensures.0 c.hand_over-in-Ok-put_capture_refusal.ensures.writes;
      handed_over = c.hand_over-in-Ok-put_capture_refusal.ensures.none;
      told = told_as _ _ _ _ c.hand_over-in-Ok-put_capture_refusal.ensures.told c.status_of.ensures;
    }))

-- memory was refused for the last line
pub returns-in-Err-put_capture_refusal : goal.returns-in-Err-put_capture_refusal
returns-in-Err-put_capture_refusal g c =
    let law : Joins g.W.Sink = record { joined = g.met.W.Sink.joined } in
    let put = c.in-Err-put_capture_refusal.ensures in
    rw c.in-Err.is (inr (
      put.1,
      refusal_is_json c.args.form c.in-Err.fault put.1,
      record {
        wrote = and_nothing law put.0 c.hand_over-in-Err-put_capture_refusal.ensures.writes;
        handed_over = c.hand_over-in-Err-put_capture_refusal.ensures.none;
        told = c.hand_over-in-Err-put_capture_refusal.ensures.told;
      },
    ))
