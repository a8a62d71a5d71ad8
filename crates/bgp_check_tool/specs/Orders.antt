-- What all orders say that the packets allow, of an end whose verdict in the made order isn't a
-- yes: the verdict over all of them, under the widest configurations of the end.
use Rattle.std.specs.Prelude.{◌≡◌, ◌⊎◌, ◌+◌, ◌<◌, ℕ, Bool, true, false, List, Option, None}
use Rattle.std.specs.Prelude.{Some, IfSome, length, map, nat_lt, option_map, slice_get, take}
use Rattle.mrt.specs.Reader.{shown_of}
use Rattle.bgp_prefix.specs.Shown as shown
use Rattle.bgp_prefix.specs.Shown.{ShownRecord}
use Rattle.bgp_prefix.specs.declared.session.Session.{Session}
use Rattle.streams.specs.declared.connection.Connection.{Connection}
use Rattle.bgp_open.specs.declared.config.Config.{Config}
use Rattle.bgp_open.specs.Open.{OpenFields, open_of}
use Rattle.bgp_machine.specs.Lists.{Each, Has}
use Rattle.bgp_machine.specs.Run.{End}
use Rattle.bgp_judge.specs.Verdict as verdicts
use Rattle.bgp_judge.specs.Verdict.{VerdictValue}
use Rattle.bgp_recording.specs.Captured.{records_of}
use Rattle.bgp_recording.specs.declared.framing.Framings.{Framings}
use Rattle.bgp_recording.specs.declared.making.Recording.{Recording}
use Rattle.bgp_recording.specs.declared.message.Message.{Message}
use Rattle.bgp_recording.specs.declared.ordering.Exchange.{Exchange}
use Rattle.bgp_orders.specs.Connections.{IsOverOrders, IsPacketOf, TellsConnection}
use Rattle.bgp_orders.specs.Explained.{HasVerdictOver, IsExplained, IsWhole, ShowARun}
use Rattle.bgp_orders.specs.Explained.{Yes, No, Unfinished, VerdictOver}
use Rattle.bgp_orders.specs.WholeWays.{AreOfAWayOver, NoneIsFoundOver, NoneIsWholeOver}
use Rattle.bgp_orders.specs.declared.connection.OverOrders.TheVariants as all_orders
use Rattle.bgp_orders.specs.declared.connection.Unexplained.{Unexplained}
use Rattle.bgp_parts.specs.Opens.{HasOwnOpen, HasPeersOpen}
use Rattle.bgp_check.specs.Answered.{AnswerValue, HasFault, JudgedAs, Unjudged, heard_as}
use Rattle.bgp_check.specs.Answered.{peer_as_by}
use Rattle.bgp_check.specs.Checked.{IsUnder}
use Rattle.bgp_check.specs.Configurations.{IsOf}
use Rattle.bgp_check.specs.WidestMade.{IsFaultless, configurations_of}
use Rattle.bgp_check.specs.WidestOf.{AreTold, OffersNone, parts_of, widest_of}
use Rattle.bgp_check.specs.declared.own_fault.OwnFault.{OwnFault}
use Rattle.bgp_check.specs.declared.peer_as.PeerAs.{PeerAs}
use Rattle.bgp_check.specs.declared.widest.Widest.{Widest}
use Rattle.bgp_check_tool.specs.declared.orders.NoOrder.{NoOrder}
use Rattle.bgp_check_tool.specs.declared.orders.Said.{Said}
use Rattle.bgp_check_tool.specs.declared.orders.Said.TheVariants as said
use Rattle.bgp_check_tool.specs.declared.orders.Finding.{Finding}
use Rattle.bgp_check_tool.specs.declared.orders.Finding.TheVariants as findings
use Rattle.bgp_check_tool.specs.declared.orders.TooLong.{TooLong}

-- ---- messages

-- messages that were received, and messages that were sent, as records
abbrev pub records_received : List Message → List ShownRecord
records_received messages =
    map (λ (m : Message). shown.Received m.second m.octets.now) messages

abbrev pub records_sent : List Message → List ShownRecord
records_sent messages = map (λ (m : Message). shown.Sent m.second m.octets.now) messages

-- This is the sent message of an exchange before which so many sent ones stand, and its packet.
pub record IsMessageOf (exchange : Exchange) (found : NoOrder) : Type 0 where
  pub is_message : slice_get exchange.sent.now found.unexplained.before ≡ Some found.message
  pub is_packet : IsPacketOf exchange found.unexplained

-- ---- the verdict over all orders, under the widest configurations

-- under this configuration there is no better verdict over all orders than this one
abbrev pub IsNoBetter : ℕ → Exchange → VerdictOver → Config → Type 0
IsNoBetter within exchange Yes config = Unit {0}
IsNoBetter within exchange Unfinished config = (e : End) → ¬ IsWhole config within exchange e
IsNoBetter within exchange (No count) config = ¬ IsExplained config within exchange (count + 1)

-- It holds under this one of the widest configurations, and none of them has a better one. It is
-- told under the one that wants the AS number of the peer's OPEN, if it holds under that, and else
-- under the other.
pub record IsToldOver (widest : Widest) (within : ℕ) (exchange : Exchange) (wants : Bool)
    (under : Config) (verdict : VerdictOver) : Type 0 where
  pub is_under : IsUnder widest wants under
  pub holds : HasVerdictOver under within exchange verdict
  pub best : Each (IsNoBetter within exchange verdict) (configurations_of widest)
  pub first : wants ≡ false
      → IfSome widest.wanting (λ config. ¬ HasVerdictOver config within exchange verdict)

-- ---- what the search finds

-- under this one of both widest configurations the search is too long
abbrev pub known_of : TooLong → Bool → Bool
known_of known true = known.wanting
known_of known false = known.another

-- some order is whole
abbrev pub is_whole : {X : Type 0} → Finding X → Bool
is_whole (findings.Whole recording) = true
is_whole findings.Unfinished = false
is_whole (findings.Only count) = false
is_whole findings.TooMany = false

-- there are too many nodes
abbrev pub is_too_many : {X : Type 0} → Finding X → Bool
is_too_many (findings.Whole recording) = false
is_too_many findings.Unfinished = false
is_too_many (findings.Only count) = false
is_too_many findings.TooMany = true

-- Of what is found under two configurations the other is told: told is the first that some order is
-- whole; else that there are too many nodes, if there are; else the first that explains all; else
-- the one that explains more, of equals the first.
abbrev pub tells_other : {X : Type 0} → Finding X → Finding X → Bool
tells_other (findings.Whole recording) other = false
tells_other one (findings.Whole recording) = true
tells_other findings.TooMany other = false
tells_other one findings.TooMany = true
tells_other findings.Unfinished other = false
tells_other one findings.Unfinished = true
tells_other (findings.Only count) (findings.Only later) = nat_lt count later

-- Of the orders of the messages of a connection, framed so, where a received message is handled
-- within so many seconds after it came.
module _ (within : ℕ) (framings : Framings) (connection : Connection) where
  -- under this configuration more nodes are reached than the search looks at
  abbrev pub AreTooManyUnder : Config → Type 0
  AreTooManyUnder config = IsOverOrders config within framings connection all_orders.TooMany

  -- so it is under one of these two, as is known
  abbrev pub AreKnownOf : Widest → TooLong → Type 0
  AreKnownOf widest known =
      (wants : Bool) (under : Config) → IsUnder widest wants under
      → known_of known wants ≡ true → AreTooManyUnder under

  -- the records of an order that is whole under this configuration: those of a way that a run shows
  pub record IsWholeWay {X : Type 0} (config : Config) (recording : Recording X) : Type 0 where
    pub way : AreOfAWayOver framings within connection recording.entries.items
        recording.received recording.sent
    pub run : ShowARun config (records_of recording.entries.items)

  -- this is found under that configuration, if what is known of it is so
  abbrev pub IsFinding : {X : Type 0} → Config → Exchange → Bool → Finding X → Type 0
  IsFinding config exchange known (findings.Whole recording) = IsWholeWay config recording
  IsFinding config exchange known findings.Unfinished =
      HasVerdictOver config within exchange Unfinished
  IsFinding config exchange known (findings.Only count) =
      HasVerdictOver config within exchange (No count)
  IsFinding config exchange known findings.TooMany =
      (known ≡ true → AreTooManyUnder config) → AreTooManyUnder config

  -- If the search is named as too long under this configuration, it is. If it isn't named, no order
  -- is whole.
  abbrev pub IsNamed : Bool → Config → Type 0
  IsNamed true config = AreTooManyUnder config
  IsNamed false config = NoneIsWholeOver config within framings connection

  -- These of two configurations are named, or that of one; one of them is.
  abbrev pub AreNamed : Option Config → Config → TooLong → Type 0
  AreNamed None another its =
      (its.wanting ≡ false) × (its.another ≡ true) × IsNamed true another
  AreNamed (Some wanting) another its =
      IsNamed its.wanting wanting × IsNamed its.another another
      × ((its.wanting ≡ true) ⊎ (its.another ≡ true))

  -- This is told under that configuration, one of both; or the search is too long under these, if
  -- what is known of them is so.
  abbrev pub IsSaidOver : {X : Type 0} → Widest → Exchange → TooLong → Bool → Config → TooLong
      → Finding X → Type 0
  IsSaidOver widest exchange known wants under its (findings.Whole recording) =
      IsUnder widest wants under × IsWholeWay under recording
  IsSaidOver widest exchange known wants under its findings.Unfinished =
      IsToldOver widest within exchange wants under Unfinished
  IsSaidOver widest exchange known wants under its (findings.Only count) =
      IsToldOver widest within exchange wants under (No count)
  IsSaidOver widest exchange known wants under its findings.TooMany =
      AreKnownOf widest known → AreNamed widest.wanting widest.another its

-- the records of a recording are those of its entries
abbrev pub AreShown : {X : Type 0} → Recording X → Type 0
AreShown recording =
    map shown_of recording.records.items ≡ records_of recording.entries.items

-- so they are of an order that is found to be whole
abbrev pub FindsRecords : {X : Type 0} → Finding X → Type 0
FindsRecords (findings.Whole recording) = AreShown recording
FindsRecords findings.Unfinished = Unit {0}
FindsRecords (findings.Only count) = Unit {0}
FindsRecords findings.TooMany = Unit {0}

-- the OPENs that are told with such a message: the end's, and its peer's
abbrev pub own_of : NoOrder → Option (List ℕ)
own_of found = option_map (λ octets. octets.now) found.own

abbrev pub peers_of : NoOrder → Option (List ℕ)
peers_of found = option_map (λ octets. octets.now) found.peers

-- a sent message would be the first that isn't explained, and there is none in its place
abbrev pub IsNoMessage : {X : Type 0} → Exchange → Finding X → Type 0
IsNoMessage exchange (findings.Whole recording) = ⊥
IsNoMessage exchange findings.Unfinished = ⊥
IsNoMessage exchange (findings.Only count) = slice_get exchange.sent.now count ≡ None
IsNoMessage exchange findings.TooMany = ⊥

-- What is said by what is found under that configuration, which is for this peer: of a no with its
-- message, the configuration, and these OPENs; of a search that is too long under which it is.
abbrev pub IsSaidBy : {X : Type 0} → Exchange → Option (List ℕ) → Option (List ℕ) → PeerAs
    → Config → TooLong → Finding X → Said X → Type 0
IsSaidBy exchange own peers peer under long finding (said.Whole config recording) =
    (finding ≡ findings.Whole recording) × (config ≡ under)
IsSaidBy exchange own peers peer under long finding (said.NoOrder found) =
    (finding ≡ findings.Only found.unexplained.before) × IsMessageOf exchange found
    × (found.its.peer_as ≡ peer) × (found.its.under ≡ under)
    × (own_of found ≡ own) × (peers_of found ≡ peers)
IsSaidBy exchange own peers peer under long finding (said.Unfinished its) =
    (finding ≡ findings.Unfinished) × (its.peer_as ≡ peer) × (its.under ≡ under)
IsSaidBy exchange own peers peer under long finding (said.TooLong its) =
    (finding ≡ findings.TooMany) × (its ≡ long)
IsSaidBy exchange own peers peer under long finding said.Neither = IsNoMessage exchange finding

-- The local system of a session that has the connection so, framed so.
module _ (session : Session) (framings : Framings) (connection : Connection) where
  -- These are its widest configurations: those of the first well-formed OPEN that it sent and the
  -- first OPEN that it received.
  pub record AreItsWidest (widest : Widest) : Type 0 where
    pub exchange : Exchange
    pub tells : TellsConnection framings connection exchange
    pub own : Option (List ℕ)
    pub peers : Option (List ℕ)
    pub told : Option OpenFields
    pub has_own : HasOwnOpen (records_sent exchange.sent.now) own
    pub has_peers : HasPeersOpen (records_received exchange.received.now) peers
    pub are_told : AreTold peers told
    pub made : parts_of widest ≡ widest_of session (option_map open_of own) told

  -- this is one of them
  pub record IsAWidest (config : Config) : Type 0 where
    pub widest : Widest
    pub are : AreItsWidest widest
    pub wants : Bool
    pub is_under : IsUnder widest wants config

-- The local system of a session that has the connection so, framed so, where a received message is
-- handled within so many seconds after it came.
module _ (session : Session) (within : ℕ) (framings : Framings) (connection : Connection) where
  -- This verdict over all orders is told of it, under one of its widest configurations. They are
  -- those of the first well-formed OPEN that it sent and the first OPEN that it received.
  pub record IsOver (verdict : VerdictOver) : Type 0 where
    pub exchange : Exchange
    pub tells : TellsConnection framings connection exchange
    pub own : Option (List ℕ)
    pub peers : Option (List ℕ)
    pub told : Option OpenFields
    pub widest : Widest
    pub has_own : HasOwnOpen (records_sent exchange.sent.now) own
    pub has_peers : HasPeersOpen (records_received exchange.received.now) peers
    pub are_told : AreTold peers told
    pub made : parts_of widest ≡ widest_of session (option_map open_of own) told
    pub wants : Bool
    pub under : Config
    pub is_told : IsToldOver widest within exchange wants under verdict

  -- Under none of its widest configurations some order explains this sent message. Those before it
  -- are explained under the configuration that is told with it, which is for that peer, and is the
  -- widest by these OPENs.
  pub record IsUnexplained (found : NoOrder) : Type 0 where
    pub over : IsOver (No found.unexplained.before)
    pub is_message : IsMessageOf over.exchange found
    pub is_under : found.its.under ≡ over.under
    pub is_peer : found.its.peer_as
        ≡ peer_as_by over.wants over.told (heard_as over.widest.wanting)
    pub is_own : own_of found ≡ over.own
    pub is_peers : peers_of found ≡ over.peers

  -- All that was sent is explained under this configuration, which is for this peer, and under none
  -- of the widest some order is whole.
  pub record IsUnfinished (peer : PeerAs) (under : Config) : Type 0 where
    pub over : IsOver Unfinished
    pub is_under : under ≡ over.under
    pub is_peer : peer ≡ peer_as_by over.wants over.told (heard_as over.widest.wanting)

  -- that it is unfinished over all orders, where that is known
  abbrev pub IsKnown : Bool → Type 0
  IsKnown false = Unit {0}
  IsKnown true = (peer : PeerAs) × (under : Config) × IsUnfinished peer under

  -- these are the records of an order that is whole under this one of them
  pub record IsWholeOver {X : Type 0} (config : Config) (recording : Recording X) : Type 0 where
    pub is_widest : IsAWidest session framings connection config
    pub is_whole : IsWholeWay within framings connection config recording

  -- Under one of them more nodes are reached than the search looks at. Under each of them either
  -- that is so, or no order is whole.
  pub record AreTooManyOver : Type 0 where
    pub widest : Widest
    pub are : AreItsWidest session framings connection widest
    pub some : Has (AreTooManyUnder within framings connection) (configurations_of widest)
    pub each : Each (λ config. NoneIsFoundOver config within framings connection)
        (configurations_of widest)

  -- So it is under those that are named, and no order is whole under one that isn't.
  pub record IsTooLongOver (its : TooLong) : Type 0 where
    pub widest : Widest
    pub are : AreItsWidest session framings connection widest
    pub named : AreNamed within framings connection widest.wanting widest.another its

  -- so it is known of these
  abbrev pub AreKnown : TooLong → Type 0
  AreKnown known =
      (widest : Widest) → AreItsWidest session framings connection widest
      → AreKnownOf within framings connection widest known

  -- the OPEN that it sent offers neither family, so that it has no widest configuration
  pub record IsOfNoFamily : Type 0 where
    pub exchange : Exchange
    pub tells : TellsConnection framings connection exchange
    pub own : Option (List ℕ)
    pub has_own : HasOwnOpen (records_sent exchange.sent.now) own
    pub offers : OffersNone own

  -- what the search says, where this is known of it
  abbrev pub IsSaid : {X : Type 0} → TooLong → Said X → Type 0
  IsSaid known (said.Whole config recording) = IsWholeOver config recording
  IsSaid known (said.NoOrder found) = IsUnexplained found
  IsSaid known (said.Unfinished its) = IsUnfinished its.peer_as its.under
  IsSaid known (said.TooLong its) = AreKnown known → IsTooLongOver its
  IsSaid known said.Neither = IsOfNoFamily

  -- such a message is found of a no alone; that none is found says nothing
  abbrev pub IsFoundFor : VerdictValue → Option NoOrder → Type 0
  IsFoundFor (verdicts.Yes ends) found = found ≡ None
  IsFoundFor (verdicts.No count) found = IfSome found IsUnexplained
  IsFoundFor verdicts.Unfinished found = found ≡ None

  abbrev pub IsFoundTo : AnswerValue → Option NoOrder → Type 0
  IsFoundTo (Unjudged why) found = found ≡ None
  IsFoundTo (JudgedAs number peer under verdict) found = IsFoundFor verdict found

-- the records of a whole order are those of its entries
abbrev pub SaysRecords : {X : Type 0} → Said X → Type 0
SaysRecords (said.Whole config recording) = AreShown recording
SaysRecords (said.NoOrder found) = Unit {0}
SaysRecords (said.Unfinished its) = Unit {0}
SaysRecords (said.TooLong its) = Unit {0}
SaysRecords said.Neither = Unit {0}

-- ---- what it says

-- No order explains a sent message, which this packet is the first to show. The OPEN that the end
-- sent is the first well-formed one among the messages that it sent.
module _ (session : Session) (within : ℕ) (framings : Framings) (connection : Connection) where
  pub record NoOrderExplains (unexplained : Unexplained) : Type 0 where
    pub exchange : Exchange
    pub tells : TellsConnection framings connection exchange
    pub is_packet : IsPacketOf exchange unexplained
    -- no way explains it, under no configuration under which that OPEN is the end's own
    pub none : (own : Option (List ℕ)) (config : Config)
        → HasOwnOpen (records_sent exchange.sent.now) own → IsOf session own config
        → ¬ IsExplained config within exchange (unexplained.before + 1)
    -- some way explains those before it under one of these, unless that OPEN has an own fault
    pub possible : (own : Option (List ℕ))
        → HasOwnOpen (records_sent exchange.sent.now) own → IsFaultless own
        → (config : Config) × IsOf session own config
        × IsExplained config within exchange unexplained.before
    -- if it has one, there are no such configurations, and the message is no later than that OPEN
    pub by_open : (own : Option (List ℕ)) (fault : OwnFault)
        → HasOwnOpen (records_sent exchange.sent.now) own → HasFault own fault → (n : ℕ)
        → HasOwnOpen (records_sent (take n exchange.sent.now)) own → unexplained.before < n

  -- No order is whole: under no configuration under which that OPEN is the end's own some run shows
  -- just the records of a way. Under one of these some way explains all that was sent.
  pub record NoOrderIsWhole : Type 0 where
    pub exchange : Exchange
    pub tells : TellsConnection framings connection exchange
    pub none : (own : Option (List ℕ)) (config : Config) (e : End)
        → HasOwnOpen (records_sent exchange.sent.now) own → IsOf session own config
        → ¬ IsWhole config within exchange e
    pub explained : (own : Option (List ℕ)) → HasOwnOpen (records_sent exchange.sent.now) own
        → (config : Config) × IsOf session own config
        × IsExplained config within exchange (length exchange.sent.now)

-- ---- the laws

-- that no order explains the message is what follows
abbrev pub UnexplainedByAll : Type 0
UnexplainedByAll =
    (session : Session) (within : ℕ) (framings : Framings) (connection : Connection)
    (found : NoOrder) → IsUnexplained session within framings connection found
    → NoOrderExplains session within framings connection found.unexplained

-- that none is whole is what follows where it is unfinished
abbrev pub UnfinishedByAll : Type 0
UnfinishedByAll =
    (session : Session) (within : ℕ) (framings : Framings) (connection : Connection)
    (peer : PeerAs) (under : Config) → IsUnfinished session within framings connection peer under
    → NoOrderIsWhole session within framings connection
