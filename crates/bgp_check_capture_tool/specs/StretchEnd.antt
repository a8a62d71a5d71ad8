-- What is told of a stretch of a session in a capture.
use Rattle.std.specs.Prelude.{◌≡◌, ◌-◌, false, ℕ, List, [], Option, None, Some, length, map}
use Rattle.std.specs.Prelude.{option_map, take}
use Rattle.bgp_prefix.specs.Shown.{ShownRecord}
use Rattle.bgp_prefix.specs.declared.session.Session.{Session}
use Rattle.bgp_why.specs.declared.other_orders.OtherOrders.TheVariants.{Unasked}
use Rattle.bgp_why.specs.declared.place.Place.{Place}
use Rattle.mrt_sessions.specs.File.{Located}
use Rattle.mrt_sessions.specs.Located.{located}
use Rattle.bgp_wire.specs.Header.{limit_with}
use Rattle.bgp_check.specs.StretchTold.{IsStretchTold, ToldValue, told_value}
use Rattle.bgp_check_lines.specs.Sessions.{first_second}
use Rattle.bgp_check_lines.specs.CheckTextReason.{IsReasonTo, deed_text, lines_text}
use Rattle.bgp_check_lines.specs.EndName.{EndName}
use Rattle.bgp_check_lines.specs.DeclaredReason.{Reason}
use Rattle.bgp_check_lines.specs.Reached.{IsReached, ReachedValue, reached_value}
use Rattle.bgp_check_lines.specs.Places.{numbered_places}
use Rattle.bgp_check_lines.specs.JudgeOptions.{JudgeOptions}
use Rattle.bgp_check_capture_tool.specs.Judging.{AreOptionsOf}
use Rattle.bgp_check_capture_tool.specs.Naming.{IsNameOf, endpoint_of}
use Rattle.bgp_check_capture_tool.specs.Places.{numbers_of, place_in}
use Rattle.bgp_check_capture_tool.specs.ToldEnd.{IsEndTold, ToldEndValue, told_end_value}
use Rattle.bgp_check_capture_tool.specs.declared.part.Part.{Part}
use Rattle.bgp_check_capture_tool.specs.declared.stretch_end.StretchEnd.{StretchEnd as Held}
use Rattle.bgp_check_capture_tool.specs.declared.stretch_end.View.{View as HeldView}
use Rattle.bgp_check_capture_tool.specs.declared.telling.Telling.{Telling}

-- what is told of a stretch
pub record StretchEnd : Type 0 where
  -- which records of the session it is
  pub part : Part
  -- how a line names the local system
  pub name : EndName
  pub told : ToldValue
  -- how far the session came in it before its end
  pub reached : ReachedValue
  -- how it ended, if it did
  pub ended : Option ToldEndValue
  -- the record at which a no stands, or after which it is unfinished
  pub place : Place
  -- what the record shows was done at which a no stands
  pub deed : List ℕ
  -- the lines on why it is a no or unfinished, where it is
  pub reason : List ℕ
  -- how `bgp judge` gives the verdict, where it does and that is told
  pub judge : Option JudgeOptions

-- the two parts of a reason, where there is one
abbrev pub deed_in : {X : Type 0} → Option (Reason X) → List ℕ
deed_in None = []
deed_in (Some reason) = deed_text reason

abbrev pub lines_in : {X : Type 0} → Option (Reason X) → List ℕ
lines_in None = []
lines_in (Some reason) = lines_text reason

-- as it is held
abbrev pub stretch_value : {X : Type 0} → Held X → StretchEnd
stretch_value end = record {
  part = end.part;
  name = end.name;
  told = told_value end.told;
  reached = reached_value end.reached;
  ended = option_map told_end_value end.ended;
  place = end.place;
  deed = deed_in end.reason;
  reason = lines_in end.reason;
  judge = end.judge;
}

-- What is told besides, and the session: how it is judged, its records in the file, and which of
-- its messages may be extended ones.
pub record View : Type 0 where
  pub telling : Telling
  pub session : Session
  pub named : List Located

abbrev pub view_value : HeldView → View
view_value view = record {
  telling = view.telling;
  session = view.session;
  named = map located view.named.now;
}

-- why what is told of it is so, where it is a no or unfinished: the text of a message that was sent
-- goes by what the OPEN of its receiver offers that is heard in the stretch, a time has a date unless
-- its day is that of the session's first record, and nothing is said of other orders
abbrev pub IsReasonFor : View → ℕ → ToldValue → List ℕ → List ℕ → Type 0
IsReasonFor view before told deed lines =
    IsReasonTo view.session (limit_with told.extended) (first_second view.named) false
    (endpoint_of view.session.peer)
    (numbered_places (numbers_of view.named before told.places)) Unasked told.records told.answer
    deed lines

-- the stretch's own records, of those that are judged: all but the one that leaves it
abbrev pub own_records : List ShownRecord → Option ShownRecord → List ShownRecord
own_records judged None = judged
own_records judged (Some leaving) = take (length judged - 1) judged

-- This is told of the stretch before which so many records stand, and which this one leaves: how it
-- ended, what is answered of it, and why, and how `bgp judge` gives it.
pub record IsStretchEnd (view : View) (before : ℕ) (stretch : List ShownRecord)
    (leaving : Option ShownRecord) (end : StretchEnd) : Type 0 where
  pub is_part : end.part ≡ record { before = before; count = length stretch }
  pub is_name : IsNameOf view.session.local before stretch leaving end.name
  pub is_told : IsStretchTold view.session stretch (length stretch) leaving end.told
  pub is_reached : IsReached (own_records end.told.records leaving) end.told.answer end.reached
  pub tells_end : IsEndTold view.named view.session before stretch end.ended
  pub is_place : end.place ≡ place_in view.named before end.told
  pub explains : IsReasonFor view before end.told end.deed end.reason
  pub judges : AreOptionsOf view.telling view.named end.told before leaving end.judge
