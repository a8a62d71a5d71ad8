use Rattle.bgp_json_values.proofs.Members.{then_members}
use Rattle.std.proofs.Common.{◌∷◌, [], codes}
use Rattle.bgp_json_verdicts.specs.At.{since_members}
use Rattle.bgp_json_verdicts.specs.Objects.{first_members, skipped_members, state_member}
use Rattle.bgp_json_verdicts.proofs.reason.put_reason.Goals as goal

pub returns-in_ok-put_state-in-State : goal.returns-in_ok-put_state-in-State
returns-in_ok-put_state-in-State g c =
    rw c.in-State.is (then_members (state_member c.in-State.state ∷ []) (since_members c.in-State.since) c.in_ok-put_state-in-State.ensures c.put_since.ensures)

pub returns-in-AnotherAs : goal.returns-in-AnotherAs
returns-in-AnotherAs g c = rw c.in-AnotherAs.is (rw c.from.ensures at c.put_number.ensures)

pub returns-in_ok-put_skipped-in-OtherSessions : goal.returns-in_ok-put_skipped-in-OtherSessions
returns-in_ok-put_skipped-in-OtherSessions g c =
    rw c.in-OtherSessions.is
    (then_members (skipped_members (codes "sessions") c.in-OtherSessions.count) (first_members c.in-OtherSessions.first) c.in_ok-put_skipped-in-OtherSessions.ensures c.put_first.ensures)
