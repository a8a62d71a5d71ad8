-- All ends in which the session of a connection can have ended are those of a printed yes.
use Rattle.std.specs.Prelude.{◌≡◌, ◌≢◌, ◌↔◌, ◌++◌, ℕ, List, [], Option, None, Some}
use Rattle.std.specs.Prelude.{length, reverse, codes}
use Rattle.packets.specs.Packet.{Recorded}
use Rattle.streams.specs.Choice.{IsAnswered}
use Rattle.streams.specs.Connections.{numbered}
use Rattle.streams.specs.Passed.{Segment}
use Rattle.streams.specs.declared.connection.Connection.{Connection}
use Rattle.bgp_open.specs.declared.config.Config.{Config}
use Rattle.bgp_machine.specs.Lists.{Has, NoneTwice}
use Rattle.bgp_machine.specs.Run.{End}
use Rattle.bgp_recording.specs.Pieces.{framings_of}
use Rattle.bgp_recording.specs.declared.framing.Framings.{Framings}
use Rattle.bgp_recording.specs.declared.ordering.Exchange.{Exchange}
use Rattle.bgp_judge.specs.Verdict.{Yes, No, Unfinished}
use Rattle.bgp_orders.specs.Connections.{TellsConnection}
use Rattle.bgp_orders.specs.WholeWays.{CanHaveEnded}
use Rattle.bgp_tool.specs.VerdictText.{yes_text}
use Rattle.bgp_way_ends.specs.Starts.{IsWholeFromAny}
use Rattle.bgp_explain.specs.declared.report.Report.{Report}
use Rattle.bgp_import.specs.Selecting.{AreTaken}
use Rattle.bgp_import.specs.declared.importing.Import.{Import}
use Rattle.bgp_recording_tool.specs.Connections.{IsToldAs}
use Rattle.bgp_recording_tool.specs.Headline.{BeginsWith}
use Rattle.bgp_recording_tool.specs.Told.{Told, Judged, NoOrder, InAnotherOrder, Refused}
use Rattle.bgp_recording_tool.specs.Told.{UnfinishedOverAll}
use Rattle.bgp_recording_tool.specs.declared.remark.Remark.{Remark}

-- the ends of the yes that is told, of the made order or of another, if one is
abbrev pub ends_told : Told → Option (List End)
ends_told (Judged (Yes ends) more) = Some ends
ends_told (Judged (No count) more) = None
ends_told (Judged Unfinished more) = None
ends_told (NoOrder u more) = None
ends_told (InAnotherOrder ends more) = Some ends
ends_told (UnfinishedOverAll more) = None
ends_told (Refused refusal) = None

-- The session can have ended so, from one of the standard's four starts: some run of the session
-- machine ends so and shows just the records of the connection's messages, in an order that the
-- packets allow within the patience.
pub record CanHaveEndedFromAny (config : Config) (within : ℕ) (framings : Framings)
    (connection : Connection) (e : End) : Type 0 where
  pub exchange : Exchange
  pub tells : TellsConnection framings connection exchange
  pub whole : IsWholeFromAny config within exchange e

-- Just these are the ends in which the session of the connection with this number, or of the only
-- one, can have ended: by some way, and so from one of the four starts. There are some, and none
-- stands twice.
pub record AreAllEnds (config : Config) (wanted : Import) (packets : List Recorded)
    (segments : List Segment) (number : Option ℕ) (ends : List End) : Type 0 where
  pub connection : Connection
  pub chosen : IsAnswered number (length packets) (numbered (reverse segments)) connection
  pub some : ends ≢ []
  pub none_twice : NoneTwice ends
  pub by_ways : (e : End)
      → CanHaveEnded config wanted.within (framings_of wanted.selection.session) connection e
      ↔ Has (λ x. x ≡ e) ends
  pub from_any : (e : End)
      → CanHaveEndedFromAny config wanted.within (framings_of wanted.selection.session) connection
      e ↔ Has (λ x. x ≡ e) ends

-- ---- the law

-- If what is printed of a connection begins as a yes does, then it begins with `yes` and the lines
-- of the ends that are told, its exit status is 0, and these are all ends.
abbrev pub PrintedYesListsEveryEnd : Type 0
PrintedYesListsEveryEnd =
    (config : Config) (report : Report) (wanted : Import) (packets : List Recorded)
    (segments : List Segment) (number named : Option ℕ) (text : List ℕ) (status : ℕ)
    (remarks : List Remark) (rest : List ℕ)
    → AreTaken wanted.selection 0 packets segments
    → (print : IsToldAs config report wanted packets segments number named text status remarks)
    → text ≡ codes "yes\n" ++ rest
    → (ends : List End) × (ends_told print.told ≡ Some ends)
    × BeginsWith (yes_text ends) 0 text status
    × AreAllEnds config wanted packets segments number ends
