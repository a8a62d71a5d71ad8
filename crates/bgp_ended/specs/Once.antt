-- What is known of a connection is one thing.
use Rattle.std.specs.Prelude.{◌≡◌, ℕ, List, Option}
use Rattle.streams.specs.Choice.{IsAnswered}
use Rattle.streams.specs.Clock.{AreInOrder}
use Rattle.streams.specs.Connections.{numbered}
use Rattle.streams.specs.Passed.{Segment}
use Rattle.streams.specs.declared.connection.Connection.{Connection}
use Rattle.bgp_ended.specs.Outline.{IsOutlineOf}
use Rattle.bgp_ended.specs.Values.{OutlineValue}

-- Of segments that were taken in the order of their packets, whatever is answered as the connection
-- of this number has one outline.
abbrev pub EachConnectionHasOneOutline : Type 0
EachConnectionHasOneOutline =
    (segments : List Segment) (number : Option ℕ) (last_packet : ℕ) (one other : Connection)
    (outline another : OutlineValue) →
    AreInOrder segments →
    IsAnswered number last_packet (numbered segments) one →
    IsAnswered number last_packet (numbered segments) other →
    IsOutlineOf one outline → IsOutlineOf other another → outline ≡ another
