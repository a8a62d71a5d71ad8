-- What is made of a connection.
use Rattle.std.specs.Prelude.{◌≡◌, ℕ, List, map}
use Rattle.std.specs.List.{AllByRecursion}
use Rattle.streams.specs.declared.connection.Connection.{Connection}
use Rattle.bgp_recording.specs.declared.entry.Entry.{Entry}
use Rattle.bgp_recording.specs.declared.framing.Framings.{Framings}
use Rattle.bgp_recording.specs.declared.framing.Unshown.{Unshown}
use Rattle.bgp_recording.specs.declared.message.Message.{Message}
use Rattle.bgp_recording.specs.declared.ordering.Exchange.{Exchange}
use Rattle.bgp_recording.specs.Gathered.{IsHeard, IsSaid}
use Rattle.bgp_recording.specs.MadeOrder.{made_order}
use Rattle.bgp_recording.specs.Moments.{first_moment}
use Rattle.bgp_recording.specs.Tells.{Tells, HasSecond, numbered_of}
use Rattle.bgp_recording.specs.Values.{values_of}

-- what packets tell of the connection's session, whose messages these are
pub record IsExchangeOf
    (connection : Connection) (heard said : List Message) (exchange : Exchange) : Type 0 where
  pub opened_by : exchange.opened_by ≡ connection.opened_by
  pub packet : exchange.packet ≡ connection.packet
  pub second : exchange.second ≡ connection.second
  pub micro : exchange.micro ≡ connection.micro
  pub received : exchange.received.now ≡ heard
  pub sent : exchange.sent.now ≡ said
  pub end : exchange.end ≡ connection.end

-- These records tell the connection: the messages in its streams, each framed by its direction's
-- rules, in an order that is allowed where one is handled so many seconds after it came, with the
-- changes to which that order leads. And this of its streams is in none of them.
pub record IsRecorded
    (framings : Framings) (within : ℕ) (connection : Connection) (entries : List Entry)
    (received_unshown sent_unshown : Unshown) : Type 0 where
  pub received : List Message
  pub sent : List Message
  pub heard : IsHeard framings.received connection.received received received_unshown
  pub said : IsSaid framings.sent connection.sent connection.end sent sent_unshown
  pub tells : Tells within connection.opened_by (first_moment connection) received sent
      connection.end (map numbered_of entries)
  pub seconds : AllByRecursion HasSecond entries

-- And of all such orders they are in the made one.
pub record IsRecordedInOrder
    (framings : Framings) (within : ℕ) (connection : Connection) (entries : List Entry)
    (received_unshown sent_unshown : Unshown) : Type 0 where
  pub told : IsRecorded framings within connection entries received_unshown sent_unshown
  pub order : map numbered_of entries ≡ made_order within connection.opened_by
      (first_moment connection) (values_of told.received) (values_of told.sent) connection.end
