use Rattle.bgp_commands.proofs.saying.read.Goals as goal

pub returns : goal.returns
returns g c =
    g.met.V.Voice.joined _ _ _ _ _ c.of_records.ensures
    (rw c.as_slice.ensures.value at (g.met.V.Voice.joined _ _ _ _ _ c.say_remarks.ensures (rw c.note_sentence.ensures at c.say_some.ensures)))
