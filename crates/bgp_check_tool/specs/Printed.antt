-- What the lines of an end are worth: a verdict that is printed of a recording.
use Rattle.std.specs.Prelude.{◌≡◌, ◌≢◌, ◌<◌, ◌+◌, ◌++◌, ◌⊎◌, ℕ, Bool, true, false, List, []}
use Rattle.std.specs.Prelude.{Option, None, Some, codes, reverse, take}
use Rattle.std.specs.List.{AllByRecursion, slice_get}
use Rattle.packets.specs.Packet.{Recorded}
use Rattle.bgp_prefix.specs.declared.session.Session.{Session}
use Rattle.bgp_open.specs.declared.config.Config.{Config}
use Rattle.bgp_machine.specs.Run.{Begins, End}
use Rattle.bgp_judge.specs.Verdict.{HasVerdict, No, Unfinished, VerdictValue, Yes}
use Rattle.segments.specs.declared.found.Addresses.{Addresses}
use Rattle.streams.specs.Choice.{IsAnswered}
use Rattle.streams.specs.Connections.{numbered}
use Rattle.streams.specs.Passed.{Segment}
use Rattle.streams.specs.declared.connection.Connection.{Connection}
use Rattle.streams.specs.declared.connection.Opening.{Opening}
use Rattle.streams.specs.declared.passed.Side.{Side}
use Rattle.bgp_recording.specs.Captured.{records_of}
use Rattle.bgp_recording.specs.Recorded.{IsRecorded}
use Rattle.bgp_recording.specs.declared.entry.Entry.{Entry}
use Rattle.bgp_recording.specs.declared.framing.Framings.{Framings}
use Rattle.bgp_recording.specs.declared.framing.Unshown.{Unshown}
use Rattle.bgp_import.specs.ListText.{end_of, other_side}
use Rattle.bgp_import.specs.declared.cut_short.CutShort.{CutShort}
use Rattle.bgp_import.specs.declared.refusal.Refusal.{Refusal}
use Rattle.bgp_check_lines.specs.Printed.{IsWrittenIn}
use Rattle.bgp_check.specs.Answered.{HasFault, JudgedAs}
use Rattle.bgp_check.specs.Configurations.{IsOf}
use Rattle.bgp_parts.specs.Opens.{HasOwnOpen}
use Rattle.bgp_check.specs.Over.{HasVerdictOver, ListsEndsOver}
use Rattle.bgp_check.specs.WidestMade.{IsFaultless}
use Rattle.bgp_check.specs.declared.own_fault.OwnFault.{OwnFault}
use Rattle.bgp_check.specs.declared.peer_as.PeerAs.{PeerAs}
use Rattle.bgp_ended.specs.Offered.{with_both_offers}
use Rattle.bgp_ended.specs.Values.{OutlineValue}
use Rattle.bgp_check_lines.specs.Tally.{last_text, status_of}
use Rattle.bgp_check_lines.specs.AsNumber.{HasAsNumber}
use Rattle.bgp_check_lines.specs.Reached.{AreBeforeOf, counts_of}
use Rattle.bgp_check_lines.specs.Text.{no_line, unfinished_line, yes_lines}
use Rattle.bgp_check_lines.specs.DeclaredTally.{Tally}
use Rattle.bgp_import.specs.Pairs.{session_of}
use Rattle.bgp_import.specs.Places.{HasConnection}
use Rattle.bgp_import.specs.Reading.{IsReadTo, looked_at}
use Rattle.bgp_check_tool.specs.declared.options.CheckOptions.{CheckOptions}
use Rattle.bgp_check_tool.specs.Blocks.{AllRefused, Block, BothEnds, OneEnd, Refused}
use Rattle.bgp_check_tool.specs.Checking.{blocks_text, cut_note, file_text, nothing_text}
use Rattle.bgp_check_tool.specs.Headline.{IsToldOfSide}
use Rattle.bgp_check_tool.specs.declared.another.Order.{Order}
use Rattle.bgp_check_tool.specs.declared.another.Order.TheVariants as orders
use Rattle.bgp_check_tool.specs.Judging.{options_by}
use Rattle.bgp_check_tool.specs.Orders.{NoOrderExplains, NoOrderIsWhole}
use Rattle.bgp_orders.specs.WholeWays.{AreOfAWayOver}
use Rattle.bgp_check_tool.specs.declared.orders.NoOrder.{NoOrder}
use Rattle.bgp_check_tool.specs.Place.{last_place, place_at, sent_place}
use Rattle.bgp_check_tool.specs.Made.{AreOffered}
use Rattle.bgp_check_tool.specs.Places.{IsToldAt}
use Rattle.bgp_check_tool.specs.Seen.{seen_from, session_from}
use Rattle.bgp_check_tool.specs.Text.{after_no, after_unfinished, after_yes, deed_by}
use Rattle.bgp_check_tool.specs.Text.{name_with, told_lines}
use Rattle.bgp_check_tool.specs.Told.{EndTold, IsForCause}

-- ---- the records of an end

-- These records show what an end sent and received over the connection, as it has it: the messages
-- in both streams and the changes of state to which they lead, in an order that is allowed where a
-- received message is handled so many seconds after it came at the latest. Either direction is
-- framed by what its receiver offers, by the OPENs in records with the framing of both offers.
pub record AreRecordsOf (within : ℕ) (connection : Connection) (entries : List Entry) : Type 0 where
  pub framings : Framings
  pub received_unshown : Unshown
  pub sent_unshown : Unshown
  pub recorded : IsRecorded framings within connection entries received_unshown sent_unshown
  pub looked_in : List Entry
  pub looked_in_received : Unshown
  pub looked_in_sent : Unshown
  pub is_looked_in : IsRecorded with_both_offers within connection looked_in looked_in_received
      looked_in_sent
  pub are_offered : AreOffered (records_of looked_in) framings

-- These records show the same in another order that is allowed so, which may begin in Connect or in
-- Active, whoever opened the connection: they are those of a way.
pub record AreRecordsOfAWay (within : ℕ) (connection : Connection) (entries : List Entry) : Type 0
  where
    pub framings : Framings
    pub received_unshown : Unshown
    pub sent_unshown : Unshown
    pub way : AreOfAWayOver framings within connection entries received_unshown sent_unshown
    pub looked_in : List Entry
    pub looked_in_received : Unshown
    pub looked_in_sent : Unshown
    pub is_looked_in : IsRecorded with_both_offers within connection looked_in looked_in_received
        looked_in_sent
    pub are_offered : AreOffered (records_of looked_in) framings

-- The packets have the connection that was opened so, and these are records of that side of it.
pub record HasRecordsSo (Are : ℕ → Connection → List Entry → Type 0) (options : CheckOptions)
    (packets : List Recorded) (last_packet : ℕ) (session : Session) (opening : Opening)
    (side : Side) (entries : List Entry) : Type 0 where
  pub addresses : Addresses
  pub segments : List Segment
  pub has : HasConnection options.port packets addresses segments opening
  pub is_session : session ≡ session_of addresses
  pub connection : Connection
  pub chosen : IsAnswered (Some opening.number) last_packet (numbered (reverse segments))
      connection
  pub are_records : Are options.within (seen_from side connection) entries

abbrev pub HasRecords : CheckOptions → List Recorded → ℕ → Session → Opening → Side → List Entry
    → Type 0
HasRecords options packets last_packet session opening side entries =
    HasRecordsSo AreRecordsOf options packets last_packet session opening side entries

-- These are records of that side in the order in which an answer is told; over all orders, those of
-- the made one.
abbrev pub HasRecordsIn : Order → CheckOptions → List Recorded → ℕ → Session → Opening → Side
    → List Entry → Type 0
HasRecordsIn orders.Made options packets last_packet session opening side entries =
    HasRecords options packets last_packet session opening side entries
HasRecordsIn orders.Another options packets last_packet session opening side entries =
    HasRecordsSo AreRecordsOfAWay options packets last_packet session opening side entries
HasRecordsIn orders.All options packets last_packet session opening side entries =
    HasRecords options packets last_packet session opening side entries

-- a no and what is unfinished is told of those of the made one alone
abbrev pub HasRecordsWith : VerdictValue → Order → CheckOptions → List Recorded → ℕ → Session
    → Opening → Side → List Entry → Type 0
HasRecordsWith (Yes ends) order options packets last_packet session opening side entries =
    HasRecordsIn order options packets last_packet session opening side entries
HasRecordsWith (No count) order options packets last_packet session opening side entries =
    HasRecords options packets last_packet session opening side entries
HasRecordsWith Unfinished order options packets last_packet session opening side entries =
    HasRecords options packets last_packet session opening side entries

-- ---- a verdict

-- The verdict on that side's records, in that order, is this one over all configurations under
-- which the OPEN that it sent is its own, where that has no own fault.
pub record HasVerdictOverAll (options : CheckOptions) (packets : List Recorded) (last_packet : ℕ)
    (session : Session) (opening : Opening) (side : Side) (order : Order) (verdict : VerdictValue)
    : Type 0 where
  pub entries : List Entry
  pub has_records : HasRecordsWith verdict order options packets last_packet session opening side
      entries
  pub over_all : (own : Option (List ℕ)) → HasOwnOpen (records_of entries) own → IsFaultless own
      → HasVerdictOver (IsOf (session_from side session) own) (records_of entries) verdict

-- Of all orders that the packets allow none is whole, under none of these configurations, and under
-- one of them some order explains all that the end sent.
pub record IsUnfinishedOverAll (options : CheckOptions) (packets : List Recorded)
    (last_packet : ℕ) (session : Session) (opening : Opening) (side : Side) : Type 0 where
  pub entries : List Entry
  pub has_records : HasRecords options packets last_packet session opening side entries
  pub no_order : NoOrderIsWhole (session_from side session) options.within
      has_records.are_records.framings (seen_from side has_records.connection)

-- the verdict in the order in which it is told
abbrev pub HasVerdictIn : Order → CheckOptions → List Recorded → ℕ → Session → Opening → Side
    → VerdictValue → Type 0
HasVerdictIn orders.Made options packets last_packet session opening side verdict =
    HasVerdictOverAll options packets last_packet session opening side orders.Made verdict
HasVerdictIn orders.Another options packets last_packet session opening side verdict =
    HasVerdictOverAll options packets last_packet session opening side orders.Another verdict
HasVerdictIn orders.All options packets last_packet session opening side verdict =
    (verdict ≡ Unfinished)
    × IsUnfinishedOverAll options packets last_packet session opening side

-- ---- a line that begins with the word `no`

-- the lines of an end begin so
abbrev pub BeginWith : List ℕ → Bool → EndTold → Type 0
BeginWith word routes told = (rest : List ℕ) × (told_lines routes told ≡ word ++ rest)

-- They name this end, and the packet and the second of a record of it. No run under a configuration
-- under which the OPEN that the end sent is its own shows the records up to that one; nor all of
-- them. Some run under one of these configurations shows those before it, if there is such a
-- configuration: it is the record at which no run goes on. If there is none, for a fault of the
-- OPEN, no record behind that OPEN is named. All of that is said of one order of the records, as a
-- note says. That is so only if memory is refused for the search over all orders; or if more nodes
-- are reached than it looks at under one of the end's widest configurations, and under each of these
-- that is so, or no order is whole.
pub record IsTrueNo (options : CheckOptions) (packets : List Recorded) (last_packet : ℕ)
    (session : Session) (opening : Opening) (side : Side) (told : EndTold) : Type 0 where
  pub entries : List Entry
  pub has_records : HasRecords options packets last_packet session opening side entries
  pub count : ℕ
  pub impossible : Entry
  pub stands : slice_get entries count ≡ Some impossible
  pub not_found : told.found ≡ None
  pub cause : IsForCause (session_from side session) options.within
      has_records.are_records.framings (seen_from side has_records.connection) told.lacks_memory
  pub number : Option ℕ
  pub has_number : HasAsNumber (records_of entries) number
  pub named : told_lines options.printing.routes told
      ≡ no_line (place_at entries count) (name_with (end_of side session opening) number)
      (deed_by told.deed told.other) ++ after_no told
  pub none : (own : Option (List ℕ)) (config : Config) → HasOwnOpen (records_of entries) own
      → IsOf (session_from side session) own config
      → (¬ Begins config (take (count + 1) (records_of entries)))
      × (¬ Begins config (records_of entries))
  pub possible : (own : Option (List ℕ)) → HasOwnOpen (records_of entries) own → IsFaultless own
      → (config : Config) × IsOf (session_from side session) own config
      × Begins config (take count (records_of entries))
  pub by_open : (own : Option (List ℕ)) (fault : OwnFault) → HasOwnOpen (records_of entries) own
      → HasFault own fault → (n : ℕ) → HasOwnOpen (take n (records_of entries)) own → count < n

-- They name this end, and the first packet that shows a message that the end sent, with the
-- message's second. In no order that the packets allow a run explains that message and all before
-- it, under no configuration under which the OPEN that the end sent is its own. In some such order
-- a run explains those before it, under one of these configurations, if there is one. If there is
-- none, for a fault of the OPEN, the message is that OPEN at the latest.
pub record IsTrueOverall (options : CheckOptions) (packets : List Recorded) (last_packet : ℕ)
    (session : Session) (opening : Opening) (side : Side) (told : EndTold) : Type 0 where
  pub entries : List Entry
  pub has_records : HasRecords options packets last_packet session opening side entries
  pub found : NoOrder
  pub is_found : told.found ≡ Some found
  pub number : Option ℕ
  pub has_number : HasAsNumber (records_of entries) number
  pub named : told_lines options.printing.routes told
      ≡ no_line (sent_place found) (name_with (end_of side session opening) number)
      (deed_by told.deed told.other) ++ after_no told
  pub no_order : NoOrderExplains (session_from side session) options.within
      has_records.are_records.framings (seen_from side has_records.connection) found.unexplained

-- Each line of an end that begins with the word `no` is one of these two, and true: the first if
-- the note on one order follows, and the second if it doesn't.
abbrev pub HasTrueNoes : CheckOptions → List Recorded → ℕ → Session → Opening → Side → EndTold
    → Type 0
HasTrueNoes options packets last_packet session opening side told =
    BeginWith (codes "no ") options.printing.routes told
    → IsTrueNo options packets last_packet session opening side told
    ⊎ IsTrueOverall options packets last_packet session opening side told

-- so it is of both ends of a connection
abbrev pub NoesAreTrue : CheckOptions → List Recorded → ℕ → Block → Type 0
NoesAreTrue options packets last_packet
    (BothEnds session opening outline first second opener other) =
    HasTrueNoes options packets last_packet session opening opening.opened_by opener
    × HasTrueNoes options packets last_packet session opening (other_side opening.opened_by) other
NoesAreTrue options packets last_packet (OneEnd session opening outline first second) = Unit {0}
NoesAreTrue options packets last_packet (Refused session opening refusal) = Unit {0}
NoesAreTrue options packets last_packet (AllRefused addresses refusal) = Unit {0}

-- ---- a line that begins with the word `yes`

-- They name this end, and list these ends of its session: all that a run can have which shows just
-- these records of it, under a configuration under which the OPEN that the end sent is its own. The
-- records are those of the made order; or else those of another one that the packets allow, and
-- then a note says so. After Established they have the counts of routes that stood before, by the
-- longest front of these records that has an end in Established, or of those before an UPDATE that
-- the end refused, under the configuration under which the verdict is told.
pub record IsTrueYes (options : CheckOptions) (packets : List Recorded) (last_packet : ℕ)
    (session : Session) (opening : Opening) (side : Side) (told : EndTold) : Type 0 where
  pub entries : List Entry
  pub has_records : HasRecordsIn told.order options packets last_packet session opening side
      entries
  pub number : Option ℕ
  pub has_number : HasAsNumber (records_of entries) number
  pub peer : PeerAs
  pub ends : List End
  pub named : told_lines options.printing.routes told
      ≡ yes_lines options.printing.routes (name_with (end_of side session opening) number) peer
      told.reached ends ++ after_yes told
  pub own : Option (List ℕ)
  pub has_own : HasOwnOpen (records_of entries) own
  pub some : ends ≢ []
  pub lists : ListsEndsOver (IsOf (session_from side session) own) (records_of entries) ends
  pub under : Config
  pub holds : HasVerdict under (records_of entries) (Yes ends)
  pub are_before : AreBeforeOf under (records_of entries) (Yes ends) told.reached.before
  pub are_counts : told.reached.counts ≡ counts_of told.reached.before

-- the lines of an end begin so, and are true
abbrev pub HasTrueYes : CheckOptions → List Recorded → ℕ → Session → Opening → Side → EndTold
    → Type 0
HasTrueYes options packets last_packet session opening side told =
    BeginWith (codes "yes") options.printing.routes told
    → IsTrueYes options packets last_packet session opening side told

-- so it is of both ends of a connection
abbrev pub YesesAreTrue : CheckOptions → List Recorded → ℕ → Block → Type 0
YesesAreTrue options packets last_packet
    (BothEnds session opening outline first second opener other) =
    HasTrueYes options packets last_packet session opening opening.opened_by opener
    × HasTrueYes options packets last_packet session opening (other_side opening.opened_by) other
YesesAreTrue options packets last_packet (OneEnd session opening outline first second) = Unit {0}
YesesAreTrue options packets last_packet (Refused session opening refusal) = Unit {0}
YesesAreTrue options packets last_packet (AllRefused addresses refusal) = Unit {0}

-- ---- a line that begins with the word `unfinished`

-- They name this end, and the packet and the second of its last record in the made order. The
-- verdict is that on its records in that order. Or it is so over all orders that the packets allow,
-- and then a note says so. If no note says that one order was judged, it is so over all of them. One
-- says so only for a cause, as of a no.
pub record IsTrueUnfinished (options : CheckOptions) (packets : List Recorded) (last_packet : ℕ)
    (session : Session) (opening : Opening) (side : Side) (told : EndTold) : Type 0 where
  pub entries : List Entry
  pub has_records : HasRecords options packets last_packet session opening side entries
  pub number : Option ℕ
  pub has_number : HasAsNumber (records_of entries) number
  pub named : told_lines options.printing.routes told
      ≡ unfinished_line (last_place entries) (name_with (end_of side session opening) number)
      ++ after_unfinished told
  pub verdict : HasVerdictIn told.order options packets last_packet session opening side
      Unfinished
  pub known : told.over_all ≡ true
      → IsUnfinishedOverAll options packets last_packet session opening side
  pub cause : told.order ≡ orders.Made → told.over_all ≡ false
      → IsForCause (session_from side session) options.within
      has_records.are_records.framings (seen_from side has_records.connection) told.lacks_memory

-- the lines of an end begin so, and are true
abbrev pub HasTrueUnfinished : CheckOptions → List Recorded → ℕ → Session → Opening → Side
    → EndTold → Type 0
HasTrueUnfinished options packets last_packet session opening side told =
    BeginWith (codes "unfinished") options.printing.routes told
    → IsTrueUnfinished options packets last_packet session opening side told

-- so it is of both ends of a connection
abbrev pub UnfinishedAreTrue : CheckOptions → List Recorded → ℕ → Block → Type 0
UnfinishedAreTrue options packets last_packet
    (BothEnds session opening outline first second opener other) =
    HasTrueUnfinished options packets last_packet session opening opening.opened_by opener
    × HasTrueUnfinished options packets last_packet session opening
    (other_side opening.opened_by) other
UnfinishedAreTrue options packets last_packet (OneEnd session opening outline first second) =
    Unit {0}
UnfinishedAreTrue options packets last_packet (Refused session opening refusal) = Unit {0}
UnfinishedAreTrue options packets last_packet (AllRefused addresses refusal) = Unit {0}

-- ---- what is printed

-- These packets are read of the source. What is written are blocks, each of which is told of the
-- packets where it stands: so each line that begins with the word `no`, `yes` or `unfinished` is
-- that of an end. In these each such line is true, as `AreTrue` says it. Behind them stands no line
-- of an end.
pub record PrintsTrue {S T : Type 0} (AreTrue : CheckOptions → List Recorded → ℕ → Block → Type 0)
    (gives : S → S → List ℕ → Type 0) (has_ended : S → Bool)
    (takes : T → T → List ℕ → Type 0) (failures : T → ℕ) (options : CheckOptions)
    (source source' : S) (sink sink' : T) (status : ℕ) (cut_short : Option CutShort) : Type 0
  where
    pub packets : List Recorded
    pub short : Bool
    pub stopped : Option Refusal
    pub read : IsReadTo gives has_ended source source' packets short stopped
    pub blocks : List (ℕ × Block)
    pub told : AllByRecursion (λ (b : ℕ × Block). IsToldAt (options_by stopped options) packets
        (looked_at packets stopped) b.0 b.1) blocks
    pub are_true : AllByRecursion
        (λ (b : ℕ × Block). AreTrue options packets (looked_at packets stopped) b.1) blocks
    pub lacking : Option Refusal
    pub tally : Tally
    pub written : IsWrittenIn options.form takes failures
        (blocks_text options.printing blocks
        ++ (file_text stopped ++ (file_text lacking ++ (cut_note options.printing.quiet cut_short
        ++ (nothing_text options.port tally ++ last_text options.printing.quiet tally)))))
        (status_of tally) sink sink' status

-- ---- the laws

-- The lines of an end of a recording begin with `no` only if no run shows its records: those of one
-- order, or those of any.
abbrev pub ToldNoesAreTrue : Type 0
ToldNoesAreTrue =
    (options : CheckOptions) (last_packet place : ℕ) (packets : List Recorded) (block : Block)
    → IsToldAt options packets last_packet place block
    → NoesAreTrue options packets last_packet block

-- and with `yes` only if some run shows just its records, and lists the ends of such runs
abbrev pub ToldYesesAreTrue : Type 0
ToldYesesAreTrue =
    (options : CheckOptions) (last_packet place : ℕ) (packets : List Recorded) (block : Block)
    → IsToldAt options packets last_packet place block
    → YesesAreTrue options packets last_packet block

-- and with `unfinished` only if no run shows just its records, or none shows just those of any
-- order
abbrev pub ToldUnfinishedAreTrue : Type 0
ToldUnfinishedAreTrue =
    (options : CheckOptions) (last_packet place : ℕ) (packets : List Recorded) (block : Block)
    → IsToldAt options packets last_packet place block
    → UnfinishedAreTrue options packets last_packet block

-- So it is of each verdict in a block: of a yes, a no and an unfinished.
abbrev pub ToldVerdictIsOverAll : Type 0
ToldVerdictIsOverAll =
    (options : CheckOptions) (last_packet place : ℕ) (packets : List Recorded) (session : Session)
    (opening : Opening) (outline : OutlineValue) (first second : ℕ)
    (opener other told : EndTold) (side : Side)
    (number : Option ℕ) (peer : PeerAs) (under : Config) (verdict : VerdictValue)
    → IsToldAt options packets last_packet place
    (BothEnds session opening outline first second opener other)
    → IsToldOfSide opening opener other side told
    → told.answer ≡ JudgedAs number peer under verdict
    → HasVerdictIn told.order options packets last_packet session opening side verdict
