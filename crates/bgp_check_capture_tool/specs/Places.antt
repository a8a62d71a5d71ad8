-- Where the records of a stretch stand in their session, which has these records in the file.
use Rattle.std.specs.Prelude.{◌+◌, ◌-◌, ℕ, List, Option, None, length, map, option_map}
use Rattle.std.specs.Prelude.{slice_get, unwrap_or}
use Rattle.bgp_prefix.specs.Shown.{ShownRecord, second_of}
use Rattle.mrt.specs.Capture.{micro_of}
use Rattle.mrt_sessions.specs.File.{Located}
use Rattle.bgp_judge.specs.Verdict.{No, Unfinished, VerdictValue, Yes}
use Rattle.bgp_why.specs.declared.place.Place.{Place}
use Rattle.bgp_check.specs.Answered.{AnswerValue, JudgedAs, Unjudged}
use Rattle.bgp_check.specs.StretchTold.{ToldValue}
use Rattle.bgp_check_lines.specs.Places.{NumberedRecord}

-- the fraction of the second of the record before which so many stand, if it has one
abbrev pub micro_after : List Located → ℕ → Option ℕ
micro_after named before =
    unwrap_or (option_map (λ (l : Located). micro_of l.octets) (slice_get named before)) None

abbrev pub numbered_after : List Located → ℕ → NumberedRecord
numbered_after named before = record { number = before + 1; micro = micro_after named before }

-- the numbers that the judged records of a stretch have in their session, and their fractions
abbrev pub numbers_of : List Located → ℕ → List ℕ → List NumberedRecord
numbers_of named before places = map (λ place. numbered_after named (before + place)) places

-- the second of the record after so many of these, 0 if there is none
abbrev pub second_at : List ShownRecord → ℕ → ℕ
second_at records count = unwrap_or (option_map second_of (slice_get records count)) 0

-- the record of the session before which so many stand, with this second
abbrev pub place_after : List Located → ℕ → ℕ → Place
place_after named before second = record {
  number = before + 1;
  packet = None;
  second = second;
  micro = micro_after named before;
}

-- how many records of the stretch stand before the last one that is judged
abbrev pub last_place : List ℕ → ℕ
last_place places = unwrap_or (slice_get places (length places - 1)) 0

-- the last one that is judged of the stretch before which so many records stand
abbrev pub place_of_last : List Located → ℕ → ToldValue → Place
place_of_last named before told =
    place_after named (before + last_place told.places)
    (second_at told.records (length told.records - 1))

-- where a verdict stands: a no at the impossible record, and what is unfinished after the last one
abbrev pub place_by : List Located → ℕ → ToldValue → VerdictValue → Place
place_by named before told (Yes ends) = place_of_last named before told
place_by named before told (No count) =
    place_after named (before + unwrap_or told.impossible 0) (second_at told.records count)
place_by named before told Unfinished = place_of_last named before told

abbrev pub place_to : List Located → ℕ → ToldValue → AnswerValue → Place
place_to named before told (Unjudged why) = place_of_last named before told
place_to named before told (JudgedAs number peer under verdict) =
    place_by named before told verdict

abbrev pub place_in : List Located → ℕ → ToldValue → Place
place_in named before told = place_to named before told told.answer
