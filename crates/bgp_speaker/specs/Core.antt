-- The speaker's core between two inputs: what it is set up with, and what it holds.
use Rattle.std.specs.Prelude.{◌≡◌, ℕ, List, [], Option, None, Some}
use Rattle.bgp_prefix.specs.Prefix.{PrefixBits}
use Rattle.bgp_open.specs.declared.config.Config.{Config}
use Rattle.bgp_open.specs.declared.link.Link.{Link}
use Rattle.bgp_open.specs.Config.{offering_nothing}
use Rattle.bgp_open.specs.RouteForm.{plain_form}
use Rattle.bgp_open.specs.RouteOffer.{nothing}
use Rattle.bgp_machine.specs.declared.state.Head.{Head}
use Rattle.bgp_machine.specs.declared.state.Head.TheVariants.{OpenSent, OpenConfirm, Established}
use Rattle.bgp_machine.specs.State.{SessionState, fresh_state}
use Rattle.bgp_speaker.specs.declared.speaker.Speaker.{Speaker}

-- what a step looks at and leaves: the session's state, and the second of the last sent message
pub record Moment : Type 0 where
  pub session : SessionState
  pub sent_at : ℕ

-- the core's state: besides, the prefixes that it keeps, in their order and none twice; the second
-- of the last input; the octets of the connection that no frame is made of yet
pub record CoreState : Type 0 where
  pub speaker : Speaker
  pub moment : Moment
  pub kept : List PrefixBits
  pub second : ℕ
  pub held : List ℕ

-- nothing happened yet
abbrev pub fresh_core : Speaker → CoreState
fresh_core speaker = record {
  speaker = speaker;
  moment = record { session = fresh_state; sent_at = 0 };
  kept = [];
  second = 0;
  held = [];
}

-- ---- a core offers nothing about routes, so those that it receives and sends are plain

-- the same configuration, except that it offers nothing about routes
abbrev pub without_offers : Config → Config
without_offers config = record {
  parts = offering_nothing config.parts;
  valid = record {
    local_as = config.valid.local_as;
    peer_as = config.valid.peer_as;
    local_id = config.valid.local_id;
    hold = config.valid.hold;
    families = config.valid.families;
    large_hold = config.valid.large_hold;
    two_octets = config.valid.two_octets;
  };
  fits = record {
    local_as = config.fits.local_as;
    peer_as = config.fits.peer_as;
    local_id = config.fits.local_id;
    hold = config.fits.hold;
    large_hold = config.fits.large_hold;
  };
}

abbrev pub OffersNothing : Config → Type 0
OffersNothing config = config.parts.offers ≡ nothing

-- On the link, if there is one, the routes that are received are spelled as without any offer, and
-- those that are sent have no path identifiers (RFC 7911, 5). IPv6 next hops may be sent if the peer
-- offers them (RFC 8950, 4).
abbrev pub IsPlain : Option Link → Type 0
IsPlain None = Unit {0}
IsPlain (Some link) =
    (link.received ≡ plain_form) × (link.sent.identified ≡ plain_form.identified)

-- ---- connections and inputs

-- there is a connection that octets come from
abbrev pub IsConnected : Head → Type 0
IsConnected (OpenSent timer) = Unit {0}
IsConnected (OpenConfirm link timer) = Unit {0}
IsConnected (Established link timer) = Unit {0}
IsConnected head = ⊥

-- what the core is told
pub data InputValue : Type 0 where
  Start : InputValue
  Passive : InputValue
  Stop : InputValue
  Connected : InputValue
  Failed : InputValue
  Bytes : List ℕ → InputValue
  Tick : InputValue
  Announce : PrefixBits → InputValue
  Withdraw : PrefixBits → InputValue
