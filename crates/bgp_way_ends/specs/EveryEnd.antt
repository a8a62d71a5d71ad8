-- All ends in which the session of a connection can have ended are those that a yes lists.
use Rattle.std.specs.Prelude.{◌≡◌, ◌≢◌, ◌↔◌, ℕ, List, []}
use Rattle.streams.specs.declared.connection.Connection.{Connection}
use Rattle.bgp_open.specs.declared.config.Config.{Config}
use Rattle.bgp_machine.specs.Lists.{Has}
use Rattle.bgp_machine.specs.Run.{End}
use Rattle.bgp_recording.specs.declared.entry.Entry.{Entry}
use Rattle.bgp_recording.specs.declared.framing.Framings.{Framings}
use Rattle.bgp_recording.specs.declared.framing.Unshown.{Unshown}
use Rattle.bgp_recording.specs.Captured.{records_of}
use Rattle.bgp_recording.specs.Gathered.{IsClocked}
use Rattle.bgp_recording.specs.Recorded.{IsRecorded}
use Rattle.bgp_judge.specs.Ends.{ListsEnds}
use Rattle.bgp_orders.specs.WholeWays.{AreOfAWayOver, CanHaveEnded}

-- Of the entries of a way of the connection's messages these ends are listed, and there are some.
-- Then just these are the ends in which the session can have ended by some way.
abbrev pub WayYesListsEveryEnd : Type 0
WayYesListsEveryEnd =
    (config : Config) (within : ℕ) (framings : Framings) (connection : Connection)
    (entries : List Entry) (received sent : Unshown) (ends : List End) (e : End)
    → IsClocked connection
    → AreOfAWayOver framings within connection entries received sent
    → ListsEnds config (records_of entries) ends → ends ≢ []
    → CanHaveEnded config within framings connection e ↔ Has (λ x. x ≡ e) ends

-- And so they are all of these, if the entries are those of the order that is made.
abbrev pub MadeYesListsEveryEnd : Type 0
MadeYesListsEveryEnd =
    (config : Config) (within : ℕ) (framings : Framings) (connection : Connection)
    (entries : List Entry) (received sent : Unshown) (ends : List End) (e : End)
    → IsClocked connection → IsRecorded framings within connection entries received sent
    → ListsEnds config (records_of entries) ends → ends ≢ []
    → CanHaveEnded config within framings connection e → Has (λ x. x ≡ e) ends
