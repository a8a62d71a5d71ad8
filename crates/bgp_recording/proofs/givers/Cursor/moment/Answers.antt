use Rattle.bgp_recording.proofs.Gave.{some_given}
use Rattle.bgp_recording.proofs.givers.Cursor.moment.Goals as goal

pub unwrap-requires : goal.unwrap-requires
unwrap-requires c = some_given c.args.self.now.runs.now c.args.place _ c.giver.ensures.gives c.requires.given
