-- What a verdict on an end is worth.
use Rattle.std.specs.Prelude.{◌≡◌, ◌⊎◌, ◌+◌, true, false, ℕ, List, Option, None, Some, reverse}
use Rattle.std.specs.Prelude.{take}
use Rattle.packets.specs.Packet.{Recorded}
use Rattle.bgp_prefix.specs.declared.session.Session.{Session}
use Rattle.bgp_open.specs.declared.config.Config.{Config}
use Rattle.bgp_machine.specs.Run.{Begins}
use Rattle.bgp_judge.specs.Verdict.{No, Unfinished, VerdictValue}
use Rattle.segments.specs.declared.found.Addresses.{Addresses}
use Rattle.streams.specs.Choice.{IsAnswered}
use Rattle.streams.specs.Connections.{numbered}
use Rattle.streams.specs.Passed.{Segment}
use Rattle.streams.specs.declared.connection.Connection.{Connection}
use Rattle.streams.specs.declared.connection.Opening.{Opening}
use Rattle.streams.specs.declared.passed.Side.{Side}
use Rattle.bgp_recording.specs.Captured.{records_of}
use Rattle.bgp_recording.specs.declared.entry.Entry.{Entry}
use Rattle.bgp_recording.specs.declared.framing.Framings.{Framings}
use Rattle.bgp_recording.specs.declared.framing.Unshown.{Unshown}
use Rattle.bgp_import.specs.ListText.{other_side}
use Rattle.bgp_check.specs.Answered.{JudgedAs}
use Rattle.bgp_check.specs.Configurations.{IsOf}
use Rattle.bgp_check.specs.NotJudged.{SendsSome}
use Rattle.bgp_parts.specs.Opens.{HasOwnOpen}
use Rattle.bgp_check.specs.Over.{HasVerdictOver}
use Rattle.bgp_check.specs.Stretch.{IsStretch}
use Rattle.bgp_check.specs.WidestMade.{IsFaultless}
use Rattle.bgp_check.specs.declared.peer_as.PeerAs.{PeerAs}
use Rattle.bgp_ended.specs.Values.{OutlineValue}
use Rattle.bgp_check_lines.specs.DeclaredAsked.{Asked}
use Rattle.bgp_check_tool.specs.declared.another.Order.TheVariants as orders
use Rattle.bgp_check_tool.specs.declared.options.CheckOptions.{CheckOptions}
use Rattle.bgp_check_tool.specs.Blocks.{BothEnds}
use Rattle.bgp_check_tool.specs.Made.{IsMade}
use Rattle.bgp_check_tool.specs.Orders.{AreTooManyOver, NoOrderExplains, NoOrderIsWhole}
use Rattle.bgp_check_tool.specs.declared.orders.NoOrder.{NoOrder}
use Rattle.bgp_import.specs.Pairs.{session_of}
use Rattle.bgp_import.specs.Places.{HasConnection}
use Rattle.bgp_check_tool.specs.Places.{IsToldAt}
use Rattle.bgp_check_tool.specs.Seen.{seen_from, session_from}
use Rattle.bgp_check_tool.specs.Told.{EndTold, IsEndTold, IsOfOneOrder}

-- What is told of an end is told of a stretch, so that the verdict is the one over all
-- configurations under which the OPEN that the end sent is its own, where that has no own fault. Or
-- it is unfinished over all orders, and none of them is whole under any of these configurations.
abbrev pub VerdictIsOverAll : Type 0
VerdictIsOverAll =
    (options : CheckOptions) (asked : Asked) (session : Session) (opening : Opening)
    (connection : Connection) (side : Side) (told : EndTold) (number : Option ℕ) (peer : PeerAs)
    (under : Config) (verdict : VerdictValue) (own : Option (List ℕ))
    (end : IsEndTold options asked session opening connection side told)
    → told.answer ≡ JudgedAs number peer under verdict
    → HasOwnOpen (records_of end.entries) own → IsFaultless own
    → HasVerdictOver (IsOf (session_from side session) own) (records_of end.entries) verdict
    ⊎ ((verdict ≡ Unfinished) × (told.order ≡ orders.All)
    × NoOrderIsWhole (session_from side session) options.within end.framings
    (seen_from side connection))

-- A no after so many records says that no configuration under which the router's OPEN is its own
-- has a run that shows these and one more; nor one, then, that shows all of the records.
abbrev pub NoConfigurationHasARun : Type 0
NoConfigurationHasARun =
    (options : CheckOptions) (asked : Asked) (session : Session) (opening : Opening)
    (connection : Connection) (side : Side) (told : EndTold) (number : Option ℕ) (peer : PeerAs)
    (under : Config) (count : ℕ) (own : Option (List ℕ)) (config : Config)
    (end : IsEndTold options asked session opening connection side told)
    → told.answer ≡ JudgedAs number peer under (No count)
    → HasOwnOpen (records_of end.entries) own → IsOf (session_from side session) own config
    → (¬ Begins config (take (count + 1) (records_of end.entries)))
    × (¬ Begins config (records_of end.entries))

-- A no over all orders says that none that the packets allow explains the sent message that its
-- packet is the first to show.
abbrev pub NoOrderHasARun : Type 0
NoOrderHasARun =
    (options : CheckOptions) (asked : Asked) (session : Session) (opening : Opening)
    (connection : Connection) (side : Side) (told : EndTold) (found : NoOrder)
    (end : IsEndTold options asked session opening connection side told)
    → told.found ≡ Some found
    → NoOrderExplains (session_from side session) options.within end.framings
    (seen_from side connection) found.unexplained

-- What is known to be unfinished over all orders: none that the packets allow is whole, and some of
-- them explains all that was sent.
abbrev pub NoneIsWhole : Type 0
NoneIsWhole =
    (options : CheckOptions) (asked : Asked) (session : Session) (opening : Opening)
    (connection : Connection) (side : Side) (told : EndTold)
    (end : IsEndTold options asked session opening connection side told)
    → told.over_all ≡ true
    → NoOrderIsWhole (session_from side session) options.within end.framings
    (seen_from side connection)

-- A no or an unfinished that isn't known to hold over all orders is about one only if more nodes
-- are reached, under one of the end's widest configurations, than the search over all looks at, and
-- under each of these that is so, or no order is whole; or if memory is refused for that search.
abbrev pub OneOrderHasACause : Type 0
OneOrderHasACause =
    (options : CheckOptions) (asked : Asked) (session : Session) (opening : Opening)
    (connection : Connection) (side : Side) (told : EndTold)
    (end : IsEndTold options asked session opening connection side told)
    → told.order ≡ orders.Made → told.found ≡ None → IsOfOneOrder told.answer told.over_all
    → told.lacks_memory ≡ false
    → AreTooManyOver (session_from side session) options.within end.framings
    (seen_from side connection)

-- A verdict is told only of records with a sent message, the first of which leaves Idle.
abbrev pub NothingIsVacuous : Type 0
NothingIsVacuous =
    (options : CheckOptions) (asked : Asked) (session : Session) (opening : Opening)
    (connection : Connection) (side : Side) (told : EndTold) (number : Option ℕ) (peer : PeerAs)
    (under : Config) (verdict : VerdictValue)
    (end : IsEndTold options asked session opening connection side told)
    → told.answer ≡ JudgedAs number peer under verdict
    → IsStretch (records_of end.entries) × SendsSome (records_of end.entries)

-- ---- of a no that is told of a recording

-- of both ends of a connection that was opened so, this is told of that side
abbrev pub IsToldOfSide : Opening → EndTold → EndTold → Side → EndTold → Type 0
IsToldOfSide opening opener other side told =
    ((side ≡ opening.opened_by) × (told ≡ opener))
    ⊎ ((side ≡ other_side opening.opened_by) × (told ≡ other))

-- The packets have the connection that was opened so. Of the records that are made of it for this
-- end no run shows the first so many and one more, under no configuration under which the OPEN that
-- the end sent is its own.
pub record NoneHasARun (port : ℕ) (packets : List Recorded) (within last_packet : ℕ)
    (session : Session) (opening : Opening) (side : Side) (count : ℕ) : Type 0 where
  pub addresses : Addresses
  pub segments : List Segment
  pub has : HasConnection port packets addresses segments opening
  pub is_session : session ≡ session_of addresses
  pub connection : Connection
  pub chosen : IsAnswered (Some opening.number) last_packet (numbered (reverse segments))
      connection
  pub entries : List Entry
  pub received_unshown : Unshown
  pub sent_unshown : Unshown
  pub framings : Framings
  pub made : IsMade within (seen_from side connection) framings entries received_unshown
      sent_unshown
  pub none : (own : Option (List ℕ)) (config : Config) → HasOwnOpen (records_of entries) own
      → IsOf (session_from side session) own config
      → ¬ Begins config (take (count + 1) (records_of entries))

-- that is what a no says that is told of an end, in a block of a recording
abbrev pub ToldNoHasNoRun : Type 0
ToldNoHasNoRun =
    (options : CheckOptions) (last_packet place : ℕ) (packets : List Recorded) (session : Session)
    (opening : Opening) (outline : OutlineValue) (first second : ℕ)
    (opener other told : EndTold) (side : Side) (number : Option ℕ) (peer : PeerAs) (under : Config) (count : ℕ)
    → IsToldAt options packets last_packet place
    (BothEnds session opening outline first second opener other)
    → IsToldOfSide opening opener other side told
    → told.answer ≡ JudgedAs number peer under (No count)
    → NoneHasARun options.port packets options.within last_packet session opening side count
