use Rattle.std.proofs.Common.{◌∙◌, ap}
use Rattle.streams.specs.Passed.{segment_of}
use Rattle.streams.specs.Gatherings.{noted}
use Rattle.streams.proofs.Taking.{when_gathered, when_refused, when_over, none_is}
use Rattle.streams.proofs.gathering.Gathering.take.Goals as goal
use Rattle.streams.proofs.gathering.Gathering.take.Goals.{then-is_none+then-is_none-2+in_ok-gather, then-is_none+else-is_none-2, else-is_none}

pub returns-clause-holds : goal.returns-clause-holds
returns-clause-holds g c = λ before holds.
    let s = segment_of c.args.passed.now in
    let start = c.start_with-start.result in
    elim c.if-is_none.branch [
      | then-is_none+then-is_none-2+in_ok-gather w ↦
          when_gathered s before c.args.self.now w.gather.new.self c.note.new.self start w.find_fault-self.result holds c.start_with-start.ensures
          (c.note.ensures ∙ ap (noted s start) w.self-is)
          (none_is c.args.self.now.fault w.if-is_none.ensures) w.find_fault-self.ensures (none_is w.find_fault-self.result w.if-is_none-2.ensures)
          w.gather.ensures.rest w.in_ok-gather.ensures.gathered
      | then-is_none+else-is_none-2 w ↦
          when_refused s before c.args.self.now c.note.new.self start w.find_fault-self.result holds c.start_with-start.ensures
          (c.note.ensures ∙ ap (noted s start) w.self-is)
          (none_is c.args.self.now.fault w.if-is_none.ensures) w.find_fault-self.ensures w.if-is_none-2.ensures
      | else-is_none w ↦
          when_over s before c.args.self.now c.note.new.self start holds c.start_with-start.ensures
          (c.note.ensures ∙ ap (noted s start) w.self-is) w.if-is_none.ensures
    ]
