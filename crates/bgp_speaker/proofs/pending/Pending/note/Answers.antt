use Rattle.bgp_machine.specs.Listed.{changes_of}
use Rattle.bgp_speaker.proofs.Noting.{one_more_noted}
use Rattle.bgp_speaker.proofs.pending.Pending.note.Goals as goal

pub returns-in_ok-push-in-Given : goal.returns-in_ok-push-in-Given
returns-in_ok-push-in-Given g c routes =
    rw c.in-Given.is (one_more_noted c.args.self.now c.push.new.self.items (record { changes = c.given-changes.result; disabled = c.in-Given.disabled }) (changes_of c.args.changes) routes c.in_ok-push-in-Given.ensures.items c.given-changes.ensures)
