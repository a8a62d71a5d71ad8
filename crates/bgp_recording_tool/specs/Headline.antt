-- The laws on what a yes and a no over all orders are worth that are answered of a recording, and
-- that what is imported of it is judged the same.
use Rattle.std.specs.Prelude.{◌≡◌, ◌⊎◌, ◌++◌, ℕ, List, ◌∷◌, Option, length, reverse, codes}
use Rattle.std.specs.List.{AllByRecursion}
use Rattle.bgp_prefix.specs.Shown.{ShownRecord}
use Rattle.bgp_prefix.specs.declared.session.RouteRefresh.TheVariants as refreshes
use Rattle.streams.specs.declared.connection.Connection.{Connection}
use Rattle.streams.specs.Choice.{IsAnswered}
use Rattle.streams.specs.Connections.{numbered}
use Rattle.streams.specs.Passed.{Segment}
use Rattle.mrt.specs.Capture.{Spells, IsFirstFault}
use Rattle.mrt.specs.declared.fault.FaultKind.{FaultKind}
use Rattle.mrt.specs.declared.fault.FaultKind.TheVariants as kinds
use Rattle.packets.specs.Packet.{Recorded}
use Rattle.bgp_open.specs.declared.config.Config.{Config}
use Rattle.bgp_machine.specs.Lists.{Has}
use Rattle.bgp_machine.specs.Run.{End, IsComplete}
use Rattle.bgp_tool.specs.VerdictText.{no_line, unfinished_line}
use Rattle.bgp_judge.specs.Ends.{ListsEnds}
use Rattle.bgp_judge.specs.Verdict.{VerdictValue, No, Unfinished, HasVerdict}
use Rattle.bgp_recording.specs.Captured.{CanBeNamed, IsNoRefresh, records_of}
use Rattle.bgp_recording.specs.Pieces.{framings_of}
use Rattle.bgp_recording.specs.Recorded.{IsRecorded}
use Rattle.bgp_recording.specs.declared.entry.Entry.{Entry}
use Rattle.bgp_recording.specs.declared.ordering.Exchange.{Exchange}
use Rattle.bgp_orders.specs.Connections.{IsPacketOf, NoWayExplains, TellsConnection}
use Rattle.bgp_orders.specs.Explained.{IsExplained, IsWhole}
use Rattle.bgp_orders.specs.WholeWays.{CanHaveEnded}
use Rattle.bgp_orders.specs.declared.connection.OverOrders.{OverOrders}
use Rattle.bgp_orders.specs.declared.connection.OverOrders.TheVariants as over
use Rattle.bgp_orders.specs.declared.connection.Unexplained.{Unexplained}
use Rattle.bgp_explain.specs.declared.report.Report.{Report}
use Rattle.bgp_import.specs.Captures.{IsCapture}
use Rattle.bgp_import.specs.Importing.{IsMadeOf}
use Rattle.bgp_import.specs.Once.{IsMadeOfPackets, MeanTheSame}
use Rattle.bgp_import.specs.declared.importing.Import.{Import}
use Rattle.bgp_import.specs.Refusals.{refusal_line, refusal_number}
use Rattle.bgp_import.specs.declared.refusal.Refusal.{Refusal}
use Rattle.bgp_import.specs.Selecting.{AreTaken}
use Rattle.bgp_import.specs.declared.note.Notes.{Notes}
use Rattle.bgp_recording_tool.specs.Connections.{IsMadeVerdict, IsNotJudged, IsOverAll}
use Rattle.bgp_recording_tool.specs.Connections.{IsTold, IsToldAs}
use Rattle.bgp_recording_tool.specs.Found.{IsNoYes}
use Rattle.bgp_recording_tool.specs.Told.{Told, Judged, NoOrder, InAnotherOrder, Refused}
use Rattle.bgp_recording_tool.specs.Told.{UnfinishedOverAll, no_order_line, refused_status}
use Rattle.bgp_recording_tool.specs.Told.{value_status, value_text}
use Rattle.bgp_recording_tool.specs.declared.remark.Remark.{Remark}

-- Some run of the session machine ends so and shows just the records of these entries, and they
-- tell the connection: its messages, but for those that the session passes over, in an order that
-- is allowed within the patience, and the changes of state to which that order leads.
pub record IsShownWithin (config : Config) (wanted : Import) (connection : Connection)
    (entries : List Entry) (notes : Notes) (e : End) : Type 0 where
  pub complete : IsComplete config (records_of entries) e
  pub recorded : IsRecorded (framings_of config.parts.session) wanted.within connection entries
      notes.received notes.sent

-- Whatever ends are listed of the entries that are made of a connection, each is one that such a
-- run has.
abbrev pub EachEndIsShown : Type 0
EachEndIsShown =
    (config : Config) (wanted : Import) (connection : Connection) (entries : List Entry)
    (notes : Notes) (ends : List End) (e : End)
    → wanted.selection.session ≡ config.parts.session
    → IsMadeOf wanted connection entries notes
    → ListsEnds config (records_of entries) ends → Has (λ x. x ≡ e) ends
    → IsShownWithin config wanted connection entries notes e

-- The session of the connection with this number, or of the only one, can have ended so: some run
-- of the session machine ends so and shows just the records of a way of the connection's messages,
-- in an order that the packets allow within the patience.
pub record IsShownByAWay (config : Config) (wanted : Import) (packets : List Recorded)
    (segments : List Segment) (number : Option ℕ) (e : End) : Type 0 where
  pub connection : Connection
  pub chosen : IsAnswered number (length packets) (numbered (reverse segments)) connection
  pub ended : CanHaveEnded config wanted.within (framings_of wanted.selection.session) connection e

-- Whatever ends are told of another order than the made one, each is one that such a run has.
abbrev pub EachEndOfAnotherIsShown : Type 0
EachEndOfAnotherIsShown =
    (config : Config) (report : Report) (wanted : Import) (packets : List Recorded)
    (segments : List Segment) (number named : Option ℕ) (ends : List End) (more : List ℕ)
    (remarks : List Remark) (e : End)
    → IsTold config report wanted packets segments number named (InAnotherOrder ends more) remarks
    → Has (λ x. x ≡ e) ends
    → IsShownByAWay config wanted packets segments number e

-- What packets tell of the connection with this number, or of the only one: this sent message has
-- the packet that is told; some order that they allow explains all sent ones before it, and none
-- explains it, whichever state the session begins in.
pub record IsByNoOrder (config : Config) (wanted : Import) (packets : List Recorded)
    (segments : List Segment) (number : Option ℕ) (u : Unexplained) : Type 0 where
  pub connection : Connection
  pub chosen : IsAnswered number (length packets) (numbered (reverse segments)) connection
  pub exchange : Exchange
  pub tells : TellsConnection (framings_of wanted.selection.session) connection exchange
  pub packet : IsPacketOf exchange u
  pub others : IsExplained config wanted.within exchange u.before
  pub none : NoWayExplains config wanted.within exchange u

-- If what is printed of a connection begins as a no over all orders does, its first line names the
-- packet of a sent message that no order explains, and the exit status is 1.
abbrev pub NoAtPacketIsByNoOrder : Type 0
NoAtPacketIsByNoOrder =
    (config : Config) (report : Report) (wanted : Import) (packets : List Recorded)
    (segments : List Segment) (number named : Option ℕ) (text : List ℕ) (status : ℕ)
    (remarks : List Remark) (rest : List ℕ)
    → IsToldAs config report wanted packets segments number named text status remarks
    → text ≡ codes "no at packet " ++ rest
    → (u : Unexplained) × (more : List ℕ) × (text ≡ no_order_line u.packet ++ more)
    × (status ≡ 1) × IsByNoOrder config wanted packets segments number u

-- This is the verdict on the made records of the connection with this number, or of the only one,
-- and it isn't known what all orders say, for too many nodes.
pub record IsAsMade (config : Config) (wanted : Import) (packets : List Recorded)
    (segments : List Segment) (number : Option ℕ) (verdict : VerdictValue) : Type 0 where
  pub entries : List Entry
  pub made : IsMadeVerdict config wanted packets segments number entries verdict
  pub many : IsOverAll config wanted packets segments number over.TooMany

-- If what is printed of a connection begins as a no of the made records does, it is theirs, at the
-- record behind so many, and the exit status is 1.
abbrev pub NoAtRecordIsAsMade : Type 0
NoAtRecordIsAsMade =
    (config : Config) (report : Report) (wanted : Import) (packets : List Recorded)
    (segments : List Segment) (number named : Option ℕ) (text : List ℕ) (status : ℕ)
    (remarks : List Remark) (rest : List ℕ)
    → IsToldAs config report wanted packets segments number named text status remarks
    → text ≡ codes "no at record " ++ rest
    → (count : ℕ) × (more : List ℕ) × (text ≡ no_line count ++ more) × (status ≡ 1)
    × IsAsMade config wanted packets segments number (No count)

-- What packets tell of that connection: some order that they allow explains all that was sent, and
-- no run shows just the records of any, whichever state the session begins in.
pub record IsUnfinishedByEach (config : Config) (wanted : Import) (packets : List Recorded)
    (segments : List Segment) (number : Option ℕ) : Type 0 where
  pub connection : Connection
  pub chosen : IsAnswered number (length packets) (numbered (reverse segments)) connection
  pub exchange : Exchange
  pub tells : TellsConnection (framings_of wanted.selection.session) connection exchange
  pub explained : IsExplained config wanted.within exchange (length exchange.sent.now)
  pub none : (e : End) → ¬ IsWhole config wanted.within exchange e

-- If what is printed of a connection begins as what is unfinished does, that holds, or the made
-- records are unfinished, and it isn't known what all orders say; and the exit status is 2.
abbrev pub UnfinishedIsSo : Type 0
UnfinishedIsSo =
    (config : Config) (report : Report) (wanted : Import) (packets : List Recorded)
    (segments : List Segment) (number named : Option ℕ) (text : List ℕ) (status : ℕ)
    (remarks : List Remark) (rest : List ℕ)
    → IsToldAs config report wanted packets segments number named text status remarks
    → text ≡ codes "unfinished" ++ rest
    → (status ≡ 2)
    × (IsAsMade config wanted packets segments number Unfinished
    ⊎ IsUnfinishedByEach config wanted packets segments number)

-- what is printed begins with this line, and this is its exit status
abbrev pub BeginsWith : List ℕ → ℕ → List ℕ → ℕ → Type 0
BeginsWith line code text status =
    (rest : List ℕ) × (text ≡ line ++ rest) × (status ≡ code)

-- What is printed of a connection, and its exit status, if this is the verdict over all orders:
-- that verdict. If it isn't known, for too many nodes, it is the one on the made records, which is
-- no yes.
abbrev pub IsPrintedOver : Config → Import → List Recorded → List Segment → Option ℕ → OverOrders
    → List ℕ → ℕ → Type 0
IsPrintedOver config wanted packets segments number over.Yes text status =
    BeginsWith (codes "yes\n") 0 text status
IsPrintedOver config wanted packets segments number (over.No u) text status =
    BeginsWith (no_order_line u.packet) 1 text status
IsPrintedOver config wanted packets segments number over.Unfinished text status =
    BeginsWith unfinished_line 2 text status
IsPrintedOver config wanted packets segments number over.TooMany text status =
    (entries : List Entry) × (verdict : VerdictValue)
    × IsMadeVerdict config wanted packets segments number entries verdict × IsNoYes verdict
    × BeginsWith (value_text verdict) (value_status verdict) text status

-- Whatever is printed of a connection that isn't refused, it is printed of what all orders say.
abbrev pub PrintsVerdictOverAll : Type 0
PrintsVerdictOverAll =
    (config : Config) (report : Report) (wanted : Import) (packets : List Recorded)
    (segments : List Segment) (number named : Option ℕ) (text : List ℕ) (status : ℕ)
    (remarks : List Remark)
    → IsToldAs config report wanted packets segments number named text status remarks
    → ((verdict : OverOrders) × IsOverAll config wanted packets segments number verdict
    × IsPrintedOver config wanted packets segments number verdict text status)
    ⊎ ((refusal : Refusal)
    × IsNotJudged config wanted packets segments number named refusal remarks
    × (text ≡ refusal_line refusal) × (status ≡ refused_status refusal))

-- The first ROUTE-REFRESH of some records stands after these.
pub record IsFirstRefresh (records front : List ShownRecord) : Type 0 where
  pub refresh : ShownRecord
  pub later : List ShownRecord
  pub whole : records ≡ front ++ (refresh ∷ later)
  pub none_before : AllByRecursion IsNoRefresh front
  pub is_one : ¬ IsNoRefresh refresh

-- The octets read as just the records of these entries, unless one of them is a ROUTE-REFRESH and
-- the session refuses it; and any verdict on what they read as is the one on these records. Where
-- there is one and the session refuses it, a reader refuses them at the first, and for nothing
-- else.
pub record Agrees (config : Config) (entries : List Entry) (octets : List ℕ) : Type 0 where
  pub reads :
      (config.parts.session.refresh ≡ refreshes.Refused
      → AllByRecursion IsNoRefresh (records_of entries))
      → Spells config.parts.session octets (records_of entries)
  pub shows : (records : List ShownRecord)
      → Spells config.parts.session octets records → records_of entries ≡ records
  pub one : (records : List ShownRecord) (verdict judged : VerdictValue)
      → Spells config.parts.session octets records → HasVerdict config records verdict
      → HasVerdict config (records_of entries) judged → verdict ≡ judged
  pub refused : config.parts.session.refresh ≡ refreshes.Refused → (front : List ShownRecord)
      → IsFirstRefresh (records_of entries) front
      → (offset : ℕ) × IsFirstFault config.parts.session octets front kinds.RouteRefresh offset
  pub alone : (front : List ShownRecord) (kind : FaultKind) (offset : ℕ)
      → IsFirstFault config.parts.session octets front kind offset
      → (kind ≡ kinds.RouteRefresh) × (config.parts.session.refresh ≡ refreshes.Refused)
      × IsFirstRefresh (records_of entries) front

-- Whatever is imported of packets and whatever is judged of them, of the same session, number and
-- patience, are one list of records, of which the same is told, and the capture of the former is
-- judged as the latter are. Whether the session of the import refuses a ROUTE-REFRESH plays no
-- part; what it passes over, that of the judge does, too.
abbrev pub ImportAndJudgeAgree : Type 0
ImportAndJudgeAgree =
    (config : Config) (imports judges : Import) (number : Option ℕ) (packets : List Recorded)
    (entries judged : List Entry) (notes told : Notes) (octets : List ℕ)
    → CanBeNamed config.parts.session
    → judges.selection.session ≡ config.parts.session
    → MeanTheSame imports judges
    → IsMadeOfPackets imports number packets entries notes
    → IsCapture imports.selection.session entries octets
    → IsMadeOfPackets judges number packets judged told
    → (notes ≡ told) × (records_of entries ≡ records_of judged) × Agrees config judged octets

-- What is told of a connection is what these octets read as: a verdict, where they spell records
-- that have it; of a no over all orders a no, too, and of what is unfinished over all; of a yes of
-- another order none that is a yes; 18 RouteRefresh, where a reader refuses them by 7 RouteRefresh;
-- or memory was refused.
abbrev pub TellsAs : Config → List ℕ → Told → Type 0
TellsAs config octets (Judged verdict more) =
    (records : List ShownRecord) × Spells config.parts.session octets records
    × HasVerdict config records verdict
TellsAs config octets (NoOrder u more) =
    (records : List ShownRecord) × Spells config.parts.session octets records
    × (count : ℕ) × HasVerdict config records (No count)
TellsAs config octets (InAnotherOrder ends more) =
    (records : List ShownRecord) × Spells config.parts.session octets records
    × (verdict : VerdictValue) × IsNoYes verdict × HasVerdict config records verdict
TellsAs config octets (UnfinishedOverAll more) =
    (records : List ShownRecord) × Spells config.parts.session octets records
    × (count : ℕ) × HasVerdict config records (No count)
TellsAs config octets (Refused refusal) =
    ((refusal_number refusal ≡ 18) × (front : List ShownRecord) × (offset : ℕ)
    × IsFirstFault config.parts.session octets front kinds.RouteRefresh offset)
    ⊎ (refusal_number refusal ≡ 17)

-- Where a capture can be imported of packets, whatever is told of the connection that is judged is
-- what the capture reads as.
abbrev pub JudgeTellsTheCapture : Type 0
JudgeTellsTheCapture =
    (config : Config) (report : Report) (imports judges : Import) (number : Option ℕ)
    (packets : List Recorded) (segments : List Segment) (connection : Connection)
    (entries : List Entry) (notes : Notes) (octets : List ℕ) (named : Option ℕ) (told : Told)
    (remarks : List Remark)
    → CanBeNamed config.parts.session
    → judges.selection.session ≡ config.parts.session
    → MeanTheSame imports judges
    → AreTaken imports.selection 0 packets segments
    → AreTaken judges.selection 0 packets segments
    → IsAnswered number (length packets) (numbered (reverse segments)) connection
    → IsMadeOf imports connection entries notes
    → IsCapture imports.selection.session entries octets
    → IsTold config report judges packets segments number named told remarks
    → TellsAs config octets told
