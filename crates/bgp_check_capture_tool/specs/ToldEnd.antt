-- How a stretch ended, as its line tells it.
use Rattle.std.specs.Prelude.{◌≡◌, ◌+◌, ℕ, Bool, true, false, List, [], ◌∷◌, Option, None, Some}
use Rattle.std.specs.Prelude.{option_map}
use Rattle.bgp_machine.specs.Run.{End}
use Rattle.bgp_machine.specs.declared.fsm.Fsm.{Fsm}
use Rattle.bgp_machine.specs.declared.fsm.Fsm.TheVariants as fsms
use Rattle.streams.specs.declared.passed.Side.{Side}
use Rattle.streams.specs.declared.passed.Side.TheVariants.{Local, Peer}
use Rattle.bgp_prefix.specs.Shown.{ShownRecord}
use Rattle.bgp_prefix.specs.declared.address.Address.{Address}
use Rattle.bgp_prefix.specs.declared.session.Session.{Session}
use Rattle.mrt_sessions.specs.File.{Located}
use Rattle.bgp_why.specs.declared.endpoint.Endpoint.{Endpoint}
use Rattle.bgp_check_lines.specs.Values.{open_line}
use Rattle.bgp_check_lines.specs.EndedLine.{ended_stretch_line}
use Rattle.bgp_check_lines.specs.Stretch.{EndedStretchValue, IsEndOf, ended_stretch_value}
use Rattle.bgp_check_lines.specs.Sessions.{first_second}
use Rattle.bgp_check_capture_tool.specs.Naming.{endpoint_of}
use Rattle.bgp_check_capture_tool.specs.Places.{micro_after}
use Rattle.bgp_check_capture_tool.specs.declared.told_end.ToldEnd.{ToldEnd}

-- The second of the session's first record, the number in the session of the record that shows the
-- end, the fraction of its second, who ended the stretch, and how.
pub record ToldEndValue : Type 0 where
  pub first : ℕ
  pub number : ℕ
  pub micro : Option ℕ
  pub by : Endpoint
  pub ended : EndedStretchValue

abbrev pub told_end_value : ToldEnd → ToldEndValue
told_end_value told = record {
  first = told.first;
  number = told.number;
  micro = told.micro;
  by = told.by;
  ended = ended_stretch_value told.ended;
}

-- the address of one of the systems
abbrev pub address_of : Side → Session → Address
address_of Local session = session.local
address_of Peer session = session.peer

-- of a stretch of this session, which has these records in the file, and before which so many of
-- them stand
abbrev pub told_end : List Located → Session → ℕ → EndedStretchValue → ToldEndValue
told_end named session before ended = record {
  first = first_second named;
  number = before + ended.before + 1;
  micro = micro_after named (before + ended.before);
  by = endpoint_of (address_of ended.by session);
  ended = ended;
}

-- this is told of these records of it
pub record IsEndTold (named : List Located) (session : Session) (before : ℕ)
    (stretch : List ShownRecord) (told : Option ToldEndValue) : Type 0 where
  pub ended : Option EndedStretchValue
  pub is_end : IsEndOf stretch ended
  pub is : told ≡ option_map (told_end named session before) ended

-- the state is Idle
abbrev pub is_idle : Fsm → Bool
is_idle fsms.Idle = true
is_idle state = false

-- The session is over if it may have ended in these ways: in Idle. All are in one state, since the
-- records determine it.
abbrev pub is_over : List End → Bool
is_over [] = false
is_over (e ∷ others) = is_idle e.fsm

-- nothing is told of one that is over and whose records show no end
abbrev pub open_text : Bool → List ℕ
open_text true = []
open_text false = open_line

-- the line: it ended, or it is open
abbrev pub told_end_line : Bool → Option ToldEndValue → List ℕ
told_end_line over None = open_text over
told_end_line over (Some told) =
    ended_stretch_line told.first told.number told.micro told.by told.ended
