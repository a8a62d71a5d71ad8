use Rattle.std.proofs.Common.{refl}
use Rattle.bgp_machine.specs.Listed.{changes_of}
use Rattle.bgp_speaker.proofs.Drafting.{performs}
use Rattle.bgp_speaker.proofs.draft.Draft.perform.Goals as goal

pub returns : goal.returns
returns g c routes wants change turn is =
    performs routes c.args.speaker.now _ (changes_of c.args.changes) c.args.t c.args.kind c.args.step wants change turn c.args.self.now c.say.new.self c.note.new.self _ is
    c.in_ok-say.ensures.said c.say.ensures.pending c.in_ok-note.ensures.shows c.note.ensures.pending c.note.ensures.sent_at refl (c.in_ok-note-2.ensures routes) refl refl refl
