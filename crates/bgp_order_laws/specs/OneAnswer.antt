-- What is printed of a connection about all orders of its messages is one thing.
use Rattle.std.specs.Prelude.{◌≡◌, ◌⊎◌, ℕ, List, Option}
use Rattle.packets.specs.Packet.{Recorded}
use Rattle.streams.specs.Passed.{Segment}
use Rattle.bgp_open.specs.declared.config.Config.{Config}
use Rattle.bgp_machine.specs.Run.{End}
use Rattle.bgp_judge.specs.Verdict.{VerdictValue}
use Rattle.bgp_orders.specs.declared.connection.Unexplained.{Unexplained}
use Rattle.bgp_tool.specs.VerdictText.{unfinished_line, yes_text}
use Rattle.bgp_explain.specs.declared.report.Report.{Report}
use Rattle.bgp_import.specs.Refusals.{refusal_line}
use Rattle.bgp_import.specs.Selecting.{AreTaken}
use Rattle.bgp_import.specs.declared.importing.Import.{Import}
use Rattle.bgp_import.specs.declared.refusal.Refusal.{Refusal}
use Rattle.bgp_recording_tool.specs.Connections.{IsNotJudged, IsToldAs}
use Rattle.bgp_recording_tool.specs.Found.{IsNoYes}
use Rattle.bgp_recording_tool.specs.Headline.{BeginsWith, IsAsMade, IsByNoOrder}
use Rattle.bgp_recording_tool.specs.Headline.{IsUnfinishedByEach}
use Rattle.bgp_recording_tool.specs.Told.{no_order_line, refused_status, value_status, value_text}
use Rattle.bgp_recording_tool.specs.declared.remark.Remark.{Remark}
use Rattle.bgp_order_laws.specs.AllEnds.{AreAllEnds}

-- what is printed about all orders
pub data Answer : Type 0 where
  -- a yes, with these ends
  Yes : List End → Answer
  -- a no, at this packet
  NoAt : ℕ → Answer
  Unfinished : Answer

-- its lines: of a yes each end
abbrev pub answer_lines : Answer → List ℕ
answer_lines (Yes ends) = yes_text ends
answer_lines (NoAt packet) = no_order_line packet
answer_lines Unfinished = unfinished_line

abbrev pub answer_status : Answer → ℕ
answer_status (Yes ends) = 0
answer_status (NoAt packet) = 1
answer_status Unfinished = 2

-- what is printed begins with these lines, and has this exit status
abbrev pub Prints : Answer → List ℕ → ℕ → Type 0
Prints answer text status = BeginsWith (answer_lines answer) (answer_status answer) text status

-- The connection with this number, or the only one, of the session's packets, which have these
-- segments.
module _ (config : Config) (wanted : Import) (packets : List Recorded) (segments : List Segment)
    (number : Option ℕ) where
  -- It is so over all orders of the connection's messages that the packets allow within the
  -- patience: these are all ends; or the packet is that of a sent message that no order explains,
  -- and some order explains all before it; or some order explains all that was sent, and no run
  -- shows just the records of any.
  abbrev pub IsSo : Answer → Type 0
  IsSo (Yes ends) = AreAllEnds config wanted packets segments number ends
  IsSo (NoAt packet) =
      (u : Unexplained) × (u.packet ≡ packet) × IsByNoOrder config wanted packets segments number u
  IsSo Unfinished = IsUnfinishedByEach config wanted packets segments number

  -- The connection is refused, as it is if memory is.
  abbrev pub IsRefused : Option ℕ → List ℕ → ℕ → List Remark → Type 0
  IsRefused named text status remarks =
      (refusal : Refusal)
      × IsNotJudged config wanted packets segments number named refusal remarks
      × (text ≡ refusal_line refusal) × (status ≡ refused_status refusal)

  -- What is printed is about the order that is made: this verdict on its records, which is no yes.
  -- It isn't known what all orders say, for too many nodes.
  abbrev pub IsOfOneOrder : List ℕ → ℕ → Type 0
  IsOfOneOrder text status =
      (verdict : VerdictValue) × IsNoYes verdict
      × IsAsMade config wanted packets segments number verdict
      × BeginsWith (value_text verdict) (value_status verdict) text status

  -- so nothing is printed about all orders
  abbrev pub SaysNothing : Option ℕ → List ℕ → ℕ → List Remark → Type 0
  SaysNothing named text status remarks =
      IsRefused named text status remarks ⊎ IsOfOneOrder text status

-- ---- the laws

-- Of one connection, with one configuration and one patience, two prints that say something of all
-- orders say the same, and so it is.
abbrev pub PrintsOneAnswer : Type 0
PrintsOneAnswer =
    (config : Config) (report reported : Report) (wanted : Import) (packets : List Recorded)
    (segments : List Segment) (number named called : Option ℕ) (text printed : List ℕ)
    (status code : ℕ) (remarks others : List Remark)
    → AreTaken wanted.selection 0 packets segments
    → IsToldAs config report wanted packets segments number named text status remarks
    → IsToldAs config reported wanted packets segments number called printed code others
    → ((answer : Answer) × IsSo config wanted packets segments number answer
    × Prints answer text status × Prints answer printed code)
    ⊎ SaysNothing config wanted packets segments number named text status remarks
    ⊎ SaysNothing config wanted packets segments number called printed code others

-- And two that are about the order that is made have the same verdict on it.
abbrev pub PrintsOneMadeVerdict : Type 0
PrintsOneMadeVerdict =
    (config : Config) (wanted : Import) (packets : List Recorded) (segments : List Segment)
    (number : Option ℕ) (text printed : List ℕ) (status code : ℕ)
    → AreTaken wanted.selection 0 packets segments
    → IsOfOneOrder config wanted packets segments number text status
    → IsOfOneOrder config wanted packets segments number printed code
    → (verdict : VerdictValue) × BeginsWith (value_text verdict) (value_status verdict) text status
    × BeginsWith (value_text verdict) (value_status verdict) printed code
