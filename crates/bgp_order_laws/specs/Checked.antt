-- All ends in which a session can have ended, of whose end `check` prints a yes.
use Rattle.std.specs.Prelude.{◌≡◌, ◌↔◌, ℕ, List, Some, reverse}
use Rattle.packets.specs.Packet.{Recorded}
use Rattle.segments.specs.declared.found.Addresses.{Addresses}
use Rattle.streams.specs.Choice.{IsAnswered}
use Rattle.streams.specs.Connections.{numbered}
use Rattle.streams.specs.Passed.{Segment}
use Rattle.streams.specs.declared.connection.Connection.{Connection}
use Rattle.streams.specs.declared.connection.Opening.{Opening}
use Rattle.streams.specs.declared.passed.Side.{Side}
use Rattle.bgp_prefix.specs.declared.session.Session.{Session}
use Rattle.bgp_open.specs.declared.config.Config.{Config}
use Rattle.bgp_machine.specs.Lists.{Has}
use Rattle.bgp_machine.specs.Run.{End, IsComplete}
use Rattle.bgp_recording.specs.Captured.{records_of}
use Rattle.bgp_recording.specs.Recorded.{IsRecorded}
use Rattle.bgp_recording.specs.declared.entry.Entry.{Entry}
use Rattle.bgp_recording.specs.declared.framing.Framings.{Framings}
use Rattle.bgp_recording.specs.declared.framing.Unshown.{Unshown}
use Rattle.bgp_orders.specs.WholeWays.{CanHaveEnded}
use Rattle.bgp_import.specs.Pairs.{session_of}
use Rattle.bgp_import.specs.Places.{HasConnection}
use Rattle.bgp_ended.specs.Offered.{with_both_offers}
use Rattle.bgp_check.specs.Configurations.{IsOf}
use Rattle.bgp_check_tool.specs.Made.{AreOffered}
use Rattle.bgp_check_tool.specs.Printed.{IsTrueYes}
use Rattle.bgp_check_tool.specs.Seen.{seen_from, session_from}
use Rattle.bgp_check_tool.specs.Told.{EndTold}
use Rattle.bgp_check_tool.specs.declared.options.CheckOptions.{CheckOptions}

-- The packets have the connection that was opened so, and that side has it so. Either direction is
-- framed so: by what its receiver offers, by the OPENs in records with the framing of both offers.
pub record IsSeen (options : CheckOptions) (packets : List Recorded) (last_packet : ℕ)
    (session : Session) (opening : Opening) (side : Side) (framings : Framings)
    (connection : Connection) : Type 0 where
  pub addresses : Addresses
  pub segments : List Segment
  pub has : HasConnection options.port packets addresses segments opening
  pub is_session : session ≡ session_of addresses
  pub whole : Connection
  pub chosen : IsAnswered (Some opening.number) last_packet (numbered (reverse segments)) whole
  pub seen : connection ≡ seen_from side whole
  pub looked_in : List Entry
  pub looked_in_received : Unshown
  pub looked_in_sent : Unshown
  pub is_looked_in : IsRecorded with_both_offers options.within connection looked_in
      looked_in_received looked_in_sent
  pub are_offered : AreOffered (records_of looked_in) framings

-- Of the connection as that side has it: under the configuration under which the yes is told, just
-- the ends that it lists are those in which the session can have ended, by some way. And under each
-- configuration under which the OPEN that the end sent is its own, and which allows the order of
-- the answer, the session can have ended in no other.
pub record AreAllEndsOf (options : CheckOptions) (packets : List Recorded) (last_packet : ℕ)
    (session : Session) (opening : Opening) (side : Side) (told : EndTold)
    (yes : IsTrueYes options packets last_packet session opening side told) : Type 0 where
  pub framings : Framings
  pub connection : Connection
  pub is_seen : IsSeen options packets last_packet session opening side framings connection
  pub under : (e : End) → CanHaveEnded yes.under options.within framings connection e
      ↔ Has (λ x. x ≡ e) yes.ends
  pub over_all : (config : Config) (one e : End) → IsOf (session_from side session) yes.own config
      → IsComplete config (records_of yes.entries) one
      → CanHaveEnded config options.within framings connection e → Has (λ x. x ≡ e) yes.ends

-- ---- the law

-- So it is of each end whose lines begin with `yes`.
abbrev pub CheckedYesListsEveryEnd : Type 0
CheckedYesListsEveryEnd =
    (options : CheckOptions) (packets : List Recorded) (last_packet : ℕ) (session : Session)
    (opening : Opening) (side : Side) (told : EndTold)
    (yes : IsTrueYes options packets last_packet session opening side told)
    → AreAllEndsOf options packets last_packet session opening side told yes
