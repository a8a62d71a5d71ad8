-- A verdict over all orders of a connection is that of each connection that tells the same.
use Rattle.std.proofs.Common.{◌≡◌, ◌<◌, ◌+◌, ℕ, List, Option, length, reverse, subst}
use Rattle.packets.specs.Packet.{Recorded}
use Rattle.streams.specs.Choice.{IsAnswered}
use Rattle.streams.specs.Connections.{numbered}
use Rattle.streams.specs.Passed.{Segment}
use Rattle.streams.specs.declared.connection.Connection.{Connection}
use Rattle.bgp_open.specs.declared.config.Config.{Config}
use Rattle.bgp_machine.specs.Run.{End}
use Rattle.bgp_recording.specs.declared.framing.Framings.{Framings}
use Rattle.bgp_recording.specs.declared.ordering.Exchange.{Exchange}
use Rattle.bgp_recording.specs.Gathered.{IsClocked}
use Rattle.bgp_recording.specs.Once.{TellTheSame}
use Rattle.bgp_recording.specs.Pieces.{framings_of}
use Rattle.bgp_ended.proofs.OneConnection.{same_answer}
use Rattle.bgp_orders.specs.Connections.{TellsConnection}
use Rattle.bgp_orders.specs.Explained.{HasOneVerdictOver, HasVerdictOver, IsExplained, IsWhole, VerdictOver}
use Rattle.bgp_orders.specs.Explained as orders
use Rattle.bgp_import.specs.Selecting.{AreTaken}
use Rattle.bgp_import.specs.declared.importing.Import.{Import}
use Rattle.bgp_recording_tool.proofs.SameWays.{explained_there, sent_there, whole_there}
use Rattle.bgp_order_laws.proofs.Yeses.{goes_by_clock}

-- what packets tell of the connection with this number, or of the only one
pub record Place (wanted : Import) (packets : List Recorded) (segments : List Segment) (number : Option ℕ) : Type 0 where
  pub connection : Connection
  pub chosen : IsAnswered number (length packets) (numbered (reverse segments)) connection
  pub exchange : Exchange
  pub tells : TellsConnection (framings_of wanted.selection.session) connection exchange

module _ (config : Config) (wanted : Import) (packets : List Recorded) (segments : List Segment) (number : Option ℕ) (taken : AreTaken wanted.selection 0 packets segments) where
  abbrev framings : Framings
  framings = framings_of wanted.selection.session

  pub same : (a b : Place wanted packets segments number) → TellTheSame a.connection b.connection
  same a b = same_answer number (length packets) (numbered (reverse segments)) a.connection b.connection a.chosen b.chosen

  pub clock : (a : Place wanted packets segments number) → IsClocked a.connection
  clock a = goes_by_clock wanted packets segments number a.connection taken a.chosen

  pub whole_in : (within : ℕ) (a b : Place wanted packets segments number) (e : End) → IsWhole config within a.exchange e → IsWhole config within b.exchange e
  whole_in within a b e =
      whole_there config within framings a.connection b.connection a.exchange b.exchange e (same a b) (clock a) a.tells b.tells

  pub explained_in : (within : ℕ) (a b : Place wanted packets segments number) (count : ℕ) → IsExplained config within a.exchange count → IsExplained config within b.exchange count
  explained_in within a b count =
      explained_there config within framings a.connection b.connection a.exchange b.exchange count (same a b) (clock a) a.tells b.tells

  pub as_many : (a b : Place wanted packets segments number) → length a.exchange.sent.now ≡ length b.exchange.sent.now
  as_many a b = sent_there framings a.connection b.connection a.exchange b.exchange (same a b) (clock a) a.tells b.tells

  moved : (a b : Place wanted packets segments number) (verdict : VerdictOver) → HasVerdictOver config wanted.within a.exchange verdict → HasVerdictOver config wanted.within b.exchange verdict
  moved a b orders.Yes (e, whole) = (e, whole_in wanted.within a b e whole)
  moved a b (orders.No count) (few, before, none) = (
    subst (λ (n : ℕ). count < n) (as_many a b) few,
    explained_in wanted.within a b count before,
    λ more. none (explained_in wanted.within b a (count + 1) more),
  )
  moved a b orders.Unfinished (all, none) = (
    subst (λ (n : ℕ). IsExplained config wanted.within b.exchange n) (as_many a b) (explained_in wanted.within a b (length a.exchange.sent.now) all),
    λ e whole. none e (whole_in wanted.within b a e whole),
  )

  -- so just one holds
  pub one_over : HasOneVerdictOver → (a b : Place wanted packets segments number) (one other : VerdictOver) → HasVerdictOver config wanted.within a.exchange one
      → HasVerdictOver config wanted.within b.exchange other → one ≡ other
  one_over law a b one other has also =
      law config wanted.within b.exchange one other (moved a b one has) also
