-- What the place of a sent message is of, and what could have been sent in it.
use Rattle.std.specs.Prelude.{◌-◌, ℕ, List, [], Option, None, Some, length, slice_get}
use Rattle.bgp_open.specs.declared.config.Config.{Config}
use Rattle.bgp_recording.specs.declared.message.Message.{Message}
use Rattle.bgp_recording.specs.declared.ordering.Exchange.{Exchange}
use Rattle.bgp_recording.specs.Told.{IsTold}
use Rattle.bgp_orders.specs.declared.sent_place.SentPlace.{SentPlace}
use Rattle.bgp_orders.specs.SentPlaces.{CouldBeSent, IsSentPlace}

-- under which configuration and patience, of which exchange, and behind how many sent messages
pub record PlaceOf {X : Type 0} (place : SentPlace X) : Type 0 where
  pub config : Config
  pub within : ℕ
  pub exchange : Exchange
  pub before : ℕ
  pub told : IsTold exchange
  pub is : IsSentPlace config within exchange before place

-- the octets could have been sent in it
abbrev pub Could : {X : Type 0} {place : SentPlace X} → PlaceOf place → List ℕ → Type 0
Could of octets = CouldBeSent of.config of.within of.exchange of.before octets

abbrev pub octets_of : Option Message → List ℕ
octets_of None = []
octets_of (Some message) = message.octets.now

-- the message that was received last, and no octets where none was
abbrev pub last_octets : List Message → List ℕ
last_octets messages = octets_of (slice_get messages (length messages - 1))
