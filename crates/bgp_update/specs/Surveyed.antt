-- What a survey of an UPDATE that was read is to a contract: the facts that it found.
use Rattle.bgp_update.specs.declared.survey.MpSurvey.{MpSurvey}
use Rattle.bgp_update.specs.declared.survey.Survey.{Survey}
use Rattle.bgp_update.specs.Found.{Found, MpFound}
use Rattle.bgp_update.specs.MpShown.{state_of}
use Rattle.bgp_update.specs.Noted.{classes_of, types_of}
use Rattle.bgp_update.specs.Field.{field_destinations}

abbrev pub mp_found_by : MpSurvey → MpFound
mp_found_by m = record {
  state = state_of m.state;
  other_bits = m.other_bits;
  is_repeated = m.is_repeated;
}

abbrev pub found_by : Survey → Found
found_by s = record {
  withdrawn = field_destinations s.withdrawn;
  nlri = field_destinations s.nlri;
  reach = mp_found_by s.reach;
  unreach = mp_found_by s.unreach;
  classes = classes_of s.pass.classes;
  types = types_of s.pass.types;
  tail = s.tail;
}
