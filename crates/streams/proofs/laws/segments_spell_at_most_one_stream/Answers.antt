use Rattle.streams.proofs.Standing.{at_most_one}
use Rattle.streams.proofs.laws.segments_spell_at_most_one_stream.Goals as goal

pub returns : goal.returns
returns c = at_most_one
