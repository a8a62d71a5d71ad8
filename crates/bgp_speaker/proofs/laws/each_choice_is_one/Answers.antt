use Rattle.bgp_speaker.proofs.OneChoice.{choice_is_one}
use Rattle.bgp_speaker.proofs.laws.each_choice_is_one.Goals as goal

pub returns : goal.returns
returns c = choice_is_one (record { change = c.one_change.ensures.same; sets = c.subcodes_are_sets.ensures })
