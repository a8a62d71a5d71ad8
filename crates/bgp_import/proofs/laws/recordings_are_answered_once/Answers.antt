use Rattle.bgp_import.proofs.OneAnswer.{first_refusals_are_one, none_is_imported_and_refused}
use Rattle.bgp_import.proofs.laws.recordings_are_answered_once.Goals as goal

pub returns-clause-one : goal.returns-clause-one
returns-clause-one c =
    first_refusals_are_one c.each_recording_has_one_reading.ensures.some c.each_recording_has_one_reading.ensures.one

pub returns-clause-none : goal.returns-clause-none
returns-clause-none c =
    none_is_imported_and_refused c.each_recording_has_one_reading.ensures.some c.each_recording_has_one_reading.ensures.one
