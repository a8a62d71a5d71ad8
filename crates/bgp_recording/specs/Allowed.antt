-- The orders in which a local system may have handled what packets tell of a session: its received
-- messages, the sent ones and the end of the connection.
use Rattle.std.specs.Prelude.{◌≡◌, ◌<◌, ◌≤◌, ◌+◌, ℕ, List, [], ◌∷◌, Option, None, Some}
use Rattle.std.specs.List.{AllByRecursion}
use Rattle.bgp_recording.specs.declared.message.Message.{Message}
use Rattle.streams.specs.declared.connection.End.{End}
use Rattle.streams.specs.declared.passed.Side.TheVariants.{Local}

-- one of them
pub data Item : Type 0 where
  Received : Message → Item
  Sent : Message → Item
  Ended : End → Item

-- the received messages of an order, in their order
abbrev pub received_in : List Item → List Message
received_in [] = []
received_in (Received message ∷ later) = message ∷ received_in later
received_in (Sent message ∷ later) = received_in later
received_in (Ended end ∷ later) = received_in later

-- the sent ones
abbrev pub sent_in : List Item → List Message
sent_in [] = []
sent_in (Received message ∷ later) = sent_in later
sent_in (Sent message ∷ later) = message ∷ sent_in later
sent_in (Ended end ∷ later) = sent_in later

-- the ends
abbrev pub ends_in : List Item → List End
ends_in [] = []
ends_in (Received message ∷ later) = ends_in later
ends_in (Sent message ∷ later) = ends_in later
ends_in (Ended end ∷ later) = end ∷ ends_in later

-- no end, or the one
abbrev pub ends_of : Option End → List End
ends_of None = []
ends_of (Some end) = end ∷ []

-- Whether the first may stand before the second, where a received message is handled so many
-- seconds after it came at the latest:
-- - a received message before a sent one: where it came by a packet before that was made, since
--   what was on the wire had been written, and nothing is handled before it came;
-- - a sent message before a received one: unless that came more than so many seconds before the
--   sent one was made;
-- - the end before a sent message: never;
-- - the end before a received message: unless that came more than so many seconds before the end;
-- - a received message before the end: unless it came by a packet after an end that is the local
--   system's own.
-- What stands after the end was never read.
abbrev pub MayPrecede : ℕ → Item → Item → Type 0
MayPrecede within (Received r) (Received q) = Unit {0}
MayPrecede within (Received r) (Sent s) = r.packet < s.packet
MayPrecede within (Received r) (Ended e) = e.side ≡ Local → r.packet ≤ e.packet
MayPrecede within (Sent s) (Received r) = s.second ≤ r.second + within
MayPrecede within (Sent s) (Sent t) = Unit {0}
MayPrecede within (Sent s) (Ended e) = Unit {0}
MayPrecede within (Ended e) (Received r) = e.second ≤ r.second + within
MayPrecede within (Ended e) (Sent s) = ⊥
MayPrecede within (Ended e) (Ended f) = Unit {0}

-- each may stand before each later one
abbrev pub EachMayPrecede : ℕ → List Item → Type 0
EachMayPrecede within [] = Unit {0}
EachMayPrecede within (item ∷ later) =
    AllByRecursion (MayPrecede within item) later × EachMayPrecede within later

-- an order of these messages and the end, each direction keeping its own, that is allowed where a
-- received message is handled so many seconds after it came at the latest
pub record IsAllowed
    (within : ℕ) (received sent : List Message) (end : Option End) (order : List Item)
    : Type 0 where
  pub of_received : received_in order ≡ received
  pub of_sent : sent_in order ≡ sent
  pub of_end : ends_in order ≡ ends_of end
  pub each : EachMayPrecede within order
