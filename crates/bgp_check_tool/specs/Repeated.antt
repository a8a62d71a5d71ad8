-- What a line is worth that tells how `bgp judge` gives a verdict.
use Rattle.std.specs.Prelude.{◌≡◌, ℕ, IsFalse, List, Option, None, Some}
use Rattle.std.specs.List.{AllByRecursion}
use Rattle.bgp_prefix.specs.Shown.{ShownRecord}
use Rattle.bgp_prefix.specs.declared.session.Session.{Session}
use Rattle.bgp_open.specs.declared.config.Config.{Config}
use Rattle.streams.specs.declared.connection.Connection.{Connection}
use Rattle.streams.specs.declared.connection.Opening.{Opening}
use Rattle.streams.specs.declared.passed.Side.{Side}
use Rattle.bgp_judge.specs.Verdict.{HasVerdict, No, VerdictValue}
use Rattle.bgp_orders.specs.Connections.{IsPacketOf, TellsConnection}
use Rattle.bgp_orders.specs.Explained.{HasVerdictOver, No as NoOver}
use Rattle.bgp_orders.specs.declared.connection.Unexplained.{Unexplained}
use Rattle.bgp_recording.specs.Captured.{IsNoRefresh, records_of}
use Rattle.bgp_recording.specs.declared.framing.Framings.{Framings}
use Rattle.bgp_recording.specs.declared.ordering.Exchange.{Exchange}
use Rattle.bgp_check.specs.Answered.{JudgedAs}
use Rattle.bgp_check.specs.declared.peer_as.PeerAs.{PeerAs}
use Rattle.bgp_check_lines.specs.ReadAlike.{IsReadAlike, framings_by}
use Rattle.bgp_check_lines.specs.DeclaredAsked.{Asked}
use Rattle.bgp_check_lines.specs.JudgeOptions.{JudgeOptions}
use Rattle.bgp_check_tool.specs.declared.options.CheckOptions.{CheckOptions}
use Rattle.bgp_check_tool.specs.Seen.{seen_from}
use Rattle.bgp_check_tool.specs.declared.orders.NoOrder.{NoOrder}
use Rattle.bgp_check_tool.specs.Told.{EndTold, IsEndTold}

-- Over all orders that the packets allow, the verdict under this configuration is a no, at the sent
-- message that this packet is the first to show.
pub record IsNoOver (config : Config) (within : ℕ) (framings : Framings) (connection : Connection)
    (unexplained : Unexplained) : Type 0 where
  pub exchange : Exchange
  pub tells : TellsConnection framings connection exchange
  pub is_packet : IsPacketOf exchange unexplained
  pub holds : HasVerdictOver config within exchange (NoOver unexplained.before)

-- Under this configuration the records have the verdict that is told. If no order explains a sent
-- message, they have a no, and over all orders the no is the one that is told.
abbrev pub GivesVerdict : Config → ℕ → Framings → Connection → List ShownRecord → Option NoOrder
    → VerdictValue → Type 0
GivesVerdict config within framings connection records None verdict =
    HasVerdict config records verdict
GivesVerdict config within framings connection records (Some found) verdict =
    (count : ℕ) × HasVerdict config records (No count)
    × IsNoOver config within framings connection found.unexplained

-- Framed as `judge` frames it by the options of the line, the connection has the records that were
-- judged, and under their configuration it has the verdict that is told. None of the records is a
-- ROUTE-REFRESH, for which `judge` would refuse the connection, unless the options say that none
-- was offered. The connection is asked for as it has to be.
abbrev pub LineGivesTheVerdict : Type 0
LineGivesTheVerdict =
    (options : CheckOptions) (asked : Asked) (session : Session) (opening : Opening)
    (connection : Connection) (side : Side) (told : EndTold) (number : Option ℕ) (peer : PeerAs)
    (under : Config) (verdict : VerdictValue) (line : JudgeOptions)
    (end : IsEndTold options asked session opening connection side told)
    → told.answer ≡ JudgedAs number peer under verdict → told.judge ≡ Some line
    → IsReadAlike (framings_by line.config line.skips_refresh) options.within
    (seen_from side connection) end.entries
    × GivesVerdict line.config options.within end.framings (seen_from side connection)
    (records_of end.entries) told.found verdict
    × (IsFalse line.no_refresh → AllByRecursion IsNoRefresh (records_of end.entries))
    × (line.asked ≡ asked)
