use Rattle.packets.proofs.OneReading.{one_reading}
use Rattle.packets.proofs.SomeReading.{some_reading}
use Rattle.packets.proofs.laws.each_recording_has_one_reading.Goals as goal

pub returns-clause-some : goal.returns-clause-some
returns-clause-some c = some_reading

pub returns-clause-one : goal.returns-clause-one
returns-clause-one c = one_reading
