-- What is known of the stretches that are judged and whose answers are printed.
use Rattle.std.specs.Prelude.{◌≡◌, ◌++◌, ℕ, Bool, false, not, List, [], ◌∷◌, Option, None, Some}
use Rattle.std.specs.Prelude.{IsFalse, if◌then◌else◌, map}
use Rattle.std.specs.List.{flat_map}
use Rattle.bgp_prefix.specs.Shown.{ShownRecord}
use Rattle.mrt.specs.Reader.{shown_of}
use Rattle.mrt_sessions.specs.File.{Located}
use Rattle.mrt_sessions.specs.declared.addresses.Addresses.{Addresses}
use Rattle.bgp_judge.specs.Verdict.{No, Unfinished, VerdictValue, Yes}
use Rattle.bgp_check.specs.Answered.{AnswerValue, JudgedAs, Unjudged}
use Rattle.bgp_check_lines.specs.Quiet.{is_left_out}
use Rattle.bgp_check_lines.specs.Sessions.{first_second}
pub use Rattle.bgp_check_lines.specs.EndName.{EndName}
pub use Rattle.bgp_check_lines.specs.Places.{NumberedRecord}
use Rattle.bgp_check_capture_tool.specs.Ends.{End, Silent, Staying, Stretch}
use Rattle.bgp_check_capture_tool.specs.Places.{micro_after, numbers_of}
use Rattle.bgp_check_capture_tool.specs.StretchEnd.{StretchEnd}
use Rattle.bgp_check_capture_tool.specs.declared.marks.StretchMark.{StretchMark}
use Rattle.bgp_check_capture_tool.specs.declared.marks.StretchMarks.{StretchMarks}

-- what is known of a stretch
pub record MarkValue : Type 0 where
  pub addresses : Addresses
  -- how its lines name the local system
  pub name : EndName
  -- the second of the session's first record in the file, and its fraction
  pub first : ℕ
  pub micro : Option ℕ
  -- the records that are judged, and the numbers that they have in the session
  pub records : List ShownRecord
  pub numbers : List NumberedRecord
  -- an extended message may be sent
  pub extended : Bool
  -- how many of the records stand before that of the no
  pub no : Option ℕ

-- as it is held
abbrev pub mark_value : {X : Type 0} → StretchMark X → MarkValue
mark_value mark = record {
  addresses = mark.addresses;
  name = mark.name;
  first = mark.first;
  micro = mark.micro;
  records = map shown_of mark.records.items;
  numbers = mark.numbers.items;
  extended = mark.extended;
  no = mark.no;
}

-- ---- of what is told

abbrev pub no_by : VerdictValue → Option ℕ
no_by (Yes ends) = None
no_by (No count) = Some count
no_by Unfinished = None

-- how many of the judged records stand before that of the no, if the answer is one
abbrev pub no_in : AnswerValue → Option ℕ
no_in (Unjudged why) = None
no_in (JudgedAs number peer under verdict) = no_by verdict

-- a stretch with this answer is judged, and isn't left out
abbrev pub is_marked : Bool → AnswerValue → Bool
is_marked quiet (Unjudged why) = false
is_marked quiet (JudgedAs number peer under verdict) =
    not (is_left_out quiet (JudgedAs number peer under verdict))

-- of a stretch of the session between these addresses, which has these records in the file
abbrev pub mark_of : Addresses → List Located → StretchEnd → MarkValue
mark_of addresses named end = record {
  addresses = addresses;
  name = end.name;
  first = first_second named;
  micro = micro_after named 0;
  records = end.told.records;
  numbers = numbers_of named end.part.before end.told.places;
  extended = end.told.extended;
  no = no_in end.told.answer;
}

-- of an end, if it is a stretch that is judged and isn't left out
abbrev pub end_marks : Bool → Addresses → List Located → End → List MarkValue
end_marks quiet addresses named (Silent count) = []
end_marks quiet addresses named (Staying count) = []
end_marks quiet addresses named (Stretch end) =
    if is_marked quiet end.told.answer then mark_of addresses named end ∷ [] else []

abbrev pub ends_marks : Bool → Addresses → List Located → List End → List MarkValue
ends_marks quiet addresses named ends = flat_map (end_marks quiet addresses named) ends

-- ---- one after another

-- these were added, if none is missing
abbrev pub AddsMarks : {Y : Type 0} → StretchMarks Y → StretchMarks Y → List MarkValue → Type 0
AddsMarks old new marks =
    IsFalse new.are_missing
    → IsFalse old.are_missing
    × (map mark_value new.stretches.items ≡ map mark_value old.stretches.items ++ marks)
