-- What the reason of a no on a recording is worth, that it is of the verdict that is told without
-- one, and that it is one text.
use Rattle.std.specs.Prelude.{◌≡◌, ◌≢◌, ℕ, List, Option, IsTrue, length, reverse, take}
use Rattle.packets.specs.Packet.{Recorded}
use Rattle.streams.specs.Choice.{IsAnswered}
use Rattle.streams.specs.Connections.{numbered}
use Rattle.streams.specs.Passed.{Segment}
use Rattle.streams.specs.declared.connection.Connection.{Connection}
use Rattle.bgp_open.specs.declared.config.Config.{Config}
use Rattle.bgp_judge.specs.Verdict.{VerdictValue, No}
use Rattle.bgp_import.specs.Selecting.{AreTaken}
use Rattle.bgp_import.specs.declared.importing.Import.{Import}
use Rattle.bgp_recording.specs.Captured.{CanBeNamed, records_of}
use Rattle.bgp_recording.specs.Pieces.{framings_of}
use Rattle.bgp_recording.specs.declared.entry.Entry.{Entry}
use Rattle.bgp_recording.specs.declared.ordering.Exchange.{Exchange}
use Rattle.bgp_orders.specs.Connections.{TellsConnection}
use Rattle.bgp_orders.specs.SentPlaces.{CouldBeSent}
use Rattle.bgp_orders.specs.declared.connection.Unexplained.{Unexplained}
use Rattle.bgp_instead.specs.Kinds.{IsOfAKind}
use Rattle.bgp_instead.specs.MessageAt.{is_message_at, second_at}
use Rattle.bgp_instead.specs.OtherOrders.{possible_at}
use Rattle.bgp_instead.specs.Places.{last_octets}
use Rattle.bgp_instead.specs.Sendable.{AreSendable}
use Rattle.bgp_instead.specs.declared.sendable.Sendable.{Sendable}
use Rattle.bgp_reason.specs.declared.kinds.Possible.{Possible}
use Rattle.bgp_reason.specs.Possible.{ArePossible}
use Rattle.bgp_why.specs.declared.other_orders.OtherOrders.TheVariants.{Known}
use Rattle.bgp_recording_tool.specs.declared.remark.Remark.{Remark}
use Rattle.bgp_recording_tool.specs.Connections.{IsJudged, IsReported}
use Rattle.bgp_recording_tool.specs.Found.{Found, Nothing, TooMany, ByNone, ByAnother, ByAll}
use Rattle.bgp_explain.specs.Laws.{CouldStand}
use Rattle.bgp_explain.specs.Text.{no_memory_line}
use Rattle.bgp_explain.specs.declared.report.Report.TheVariants.{WithReason}

-- Of a connection that is explained as a no, over all orders or in the made one, and of what is
-- possible in the place of the first impossible of its made records: each of those could have stood
-- there, and no other that a capture can hold.
abbrev pub MadeCouldHaveStood : Type 0
MadeCouldHaveStood =
    (config : Config) (wanted : Import) (packets : List Recorded) (segments : List Segment)
    (number named : Option ℕ) (count : ℕ) (found : Found) (more : List ℕ)
    (remarks : List Remark) (possible : Possible)
    → (told : IsReported config WithReason wanted packets segments number named (No count) found
    more remarks)
    → ArePossible config (take count (records_of told.judged.entries)) possible
    → CouldStand config (records_of told.judged.entries) count possible

-- The record after so many of the made entries is the sent message of a connection that no order
-- explains. In its place those could have been sent, in some order that the packets allow, and each
-- message that could have been is of one of these kinds.
pub record CouldBeInstead (config : Config) (wanted : Import) (packets : List Recorded)
    (segments : List Segment) (number : Option ℕ) (u : Unexplained) (made : List Entry)
    (count : ℕ) (possible : Possible) : Type 0 where
  pub connection : Connection
  pub chosen : IsAnswered number (length packets) (numbered (reverse segments)) connection
  pub is_there : IsTrue (is_message_at made count u.before)
  pub exchange : Exchange
  pub tells : TellsConnection (framings_of wanted.selection.session) connection exchange
  pub sendable : Sendable
  pub is : possible ≡ possible_at (second_at made count) sendable
  pub just : AreSendable (CouldBeSent config wanted.within exchange u.before) config
      (last_octets exchange.received.now) sendable
  pub each : (octets : List ℕ) → CouldBeSent config wanted.within exchange u.before octets
      → IsOfAKind config (last_octets exchange.received.now) sendable octets

-- Of a connection that is explained as a no over all orders, and of what is said to be possible in
-- other orders: just that could have been sent in one.
abbrev pub OthersCouldHaveBeen : Type 0
OthersCouldHaveBeen =
    (config : Config) (wanted : Import) (packets : List Recorded) (segments : List Segment)
    (number named : Option ℕ) (count : ℕ) (u : Unexplained) (possible : Possible)
    (more : List ℕ) (remarks : List Remark)
    → (told : IsReported config WithReason wanted packets segments number named (No count)
    (ByNone u (Known possible)) more remarks)
    → CouldBeInstead config wanted packets segments number u told.judged.entries count possible

-- The verdict that is explained of a connection's made order is the one that is told of it without
-- a reason.
abbrev pub RecordingsAreExplainedAsJudged : Type 0
RecordingsAreExplainedAsJudged =
    (config : Config) (wanted : Import) (packets : List Recorded) (segments : List Segment)
    (number named other : Option ℕ) (verdict judged : VerdictValue)
    (found also : Found) (more : List ℕ) (remarks others : List Remark)
    → AreTaken wanted.selection 0 packets segments
    → IsReported config WithReason wanted packets segments number named verdict found more remarks
    → IsJudged config wanted packets segments number other judged also others
    → verdict ≡ judged

-- these are the entries of one order, if what is found is the yes of another than the made one
abbrev pub AreOfOneOrder : Found → List Entry → List Entry → Type 0
AreOfOneOrder Nothing entries others = Unit {0}
AreOfOneOrder TooMany entries others = Unit {0}
AreOfOneOrder (ByNone u instead) entries others = Unit {0}
AreOfOneOrder (ByAnother ends) entries others = entries ≡ others
AreOfOneOrder ByAll entries others = Unit {0}

-- What explains the verdict on a connection, where the same is found over all orders, is one text:
-- two that explain it are equal, and so are the verdicts on the made order, unless memory was
-- refused for a reason.
abbrev pub RecordingsAreExplainedInOneWay : Type 0
RecordingsAreExplainedInOneWay =
    (config : Config) (wanted : Import) (packets : List Recorded) (segments : List Segment)
    (number named other : Option ℕ) (verdict judged : VerdictValue)
    (found : Found) (more also : List ℕ) (remarks others : List Remark)
    → CanBeNamed config.parts.session
    → wanted.selection.session ≡ config.parts.session
    → AreTaken wanted.selection 0 packets segments
    → (one : IsReported config WithReason wanted packets segments number named verdict found more
    remarks)
    → (two : IsReported config WithReason wanted packets segments number other judged found also
    others)
    → AreOfOneOrder found one.judged.others two.judged.others
    → more ≢ no_memory_line → also ≢ no_memory_line
    → (verdict ≡ judged) × (more ≡ also)
