-- What it says of all orders that the made one is unfinished.
use Rattle.std.specs.Prelude.{◌≡◌, ◌⊎◌, ℕ, List}
use Rattle.streams.specs.declared.connection.Connection.{Connection}
use Rattle.bgp_open.specs.declared.config.Config.{Config}
use Rattle.bgp_recording.specs.declared.entry.Entry.{Entry}
use Rattle.bgp_recording.specs.declared.framing.Framings.{Framings}
use Rattle.bgp_recording.specs.declared.framing.Unshown.{Unshown}
use Rattle.bgp_recording.specs.declared.ordering.Exchange.{Exchange}
use Rattle.bgp_recording.specs.Captured.{records_of}
use Rattle.bgp_recording.specs.Recorded.{IsExchangeOf, IsRecorded}
use Rattle.bgp_judge.specs.Verdict as verdicts
use Rattle.bgp_judge.specs.Verdict.{HasVerdict}
use Rattle.bgp_orders.specs.Explained.{HasVerdictOver, Unfinished, VerdictOver, Yes}

-- If the made order is unfinished, some order is a yes, or it is unfinished over all of them: no
-- message that was sent is one that no order explains.
abbrev pub MadeUnfinishedIsNoNo : Type 0
MadeUnfinishedIsNoNo =
    (config : Config) (within : ℕ) (framings : Framings) (connection : Connection)
    (entries : List Entry) (received sent : Unshown) (exchange : Exchange)
    (verdict : VerdictOver)
    (recorded : IsRecorded framings within connection entries received sent)
    → IsExchangeOf connection recorded.received recorded.sent exchange
    → HasVerdict config (records_of entries) verdicts.Unfinished
    → HasVerdictOver config within exchange verdict
    → (verdict ≡ Yes) ⊎ (verdict ≡ Unfinished)
