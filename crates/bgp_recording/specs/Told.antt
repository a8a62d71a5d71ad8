-- What packets tell of a session goes by the file's clock.
use Rattle.std.specs.Prelude.{◌≡◌, ◌≤◌, ℕ, List, [], ◌∷◌, Option, IfSome, map}
use Rattle.std.specs.List.{AllByRecursion}
use Rattle.bgp_recording.specs.declared.entry.Entry.{Entry}
use Rattle.bgp_recording.specs.declared.ordering.Exchange.{Exchange}
use Rattle.bgp_recording.specs.declared.message.Message.{Message}
use Rattle.streams.specs.declared.connection.End.{End}
use Rattle.streams.specs.declared.passed.Side.TheVariants.{Local}
use Rattle.bgp_recording.specs.Moments.{opening_moment}
use Rattle.bgp_recording.specs.Tells.{Tells, numbered_of}

-- a clock of packets: a later packet has no lesser second
abbrev pub IsClock : (ℕ → ℕ) → Type 0
IsClock clock = (packet later : ℕ) → packet ≤ later → clock packet ≤ clock later

-- a message goes by the clock
abbrev pub GoesBy : (ℕ → ℕ) → Message → Type 0
GoesBy clock message = message.second ≡ clock message.packet

-- none goes by a packet before that of one that stands before it
abbrev pub Rises : List Message → Type 0
Rises [] = Unit {0}
Rises (m ∷ later) = AllByRecursion (λ n. m.packet ≤ n.packet) later × Rises later

-- of an end of the local system: all its messages were made by that packet, or before it
abbrev pub IsLast : List Message → End → Type 0
IsLast sent end = end.side ≡ Local → AllByRecursion (λ m. m.packet ≤ end.packet) sent

-- the messages and the end go by the clock, each direction in its own order
pub record AreClocked
    (clock : ℕ → ℕ) (received sent : List Message) (end : Option End) : Type 0 where
  pub clocked : IsClock clock
  pub received_by : AllByRecursion (GoesBy clock) received
  pub sent_by : AllByRecursion (GoesBy clock) sent
  pub end_by : IfSome end (λ e. e.second ≡ clock e.packet)
  pub received_rise : Rises received
  pub sent_rise : Rises sent
  pub sent_last : IfSome end (IsLast sent)

-- What packets tell of a session: some clock is that of the first packet and of all that comes
-- after it.
pub record IsTold (exchange : Exchange) : Type 0 where
  pub clock : ℕ → ℕ
  pub begins : exchange.second ≡ clock exchange.packet
  pub first : AllByRecursion (λ m. exchange.packet ≤ m.packet) exchange.sent.now
  pub go_by : AreClocked clock exchange.received.now exchange.sent.now exchange.end

-- these records tell it
abbrev pub IsMade : ℕ → Exchange → List Entry → Type 0
IsMade within exchange entries =
    Tells within exchange.opened_by (opening_moment exchange) exchange.received.now
    exchange.sent.now exchange.end (map numbered_of entries)
