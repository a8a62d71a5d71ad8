use Rattle.bgp_recording.specs.Tells.{numbered_of}
use Rattle.bgp_check_text.proofs.SameAt.{not_true, same_at}
use Rattle.bgp_check_text.proofs.read_alike.are_same.Goals as goal

pub returns-then-not-is_same : goal.returns-then-not-is_same
returns-then-not-is_same c = (
  λ no. let k : ⊥ = cc in absurd k,
  λ same. absurd (not_true c.is_same.result (c.is_same.ensures.1 (same_at numbered_of _ c.args.one.now c.args.other.now c.loop-index.index same)) c.if-not-is_same.true),
)
