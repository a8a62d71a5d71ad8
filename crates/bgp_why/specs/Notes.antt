-- Notes on a reason: facts by which a no is often not the fault of the system that is judged. That
-- one of them is the cause of a no isn't said.
use Rattle.std.specs.Prelude.{◌≡◌, ◌≢◌, ◌<◌, ◌↔◌, ◌++◌, ℕ, Bool, List, [], Option, None}
use Rattle.std.specs.Prelude.{Some, IsTrue, IsFalse, if◌then◌else◌, is_some, length, slice_index}
use Rattle.std.specs.Prelude.{codes}
use Rattle.bgp_prefix.specs.Shown.{ShownRecord, Received, Sent, Changed}
use Rattle.bgp_wire.specs.Message.{IsKeepalive}
use Rattle.bgp_open.specs.declared.config.Config.{Config}
use Rattle.bgp_open.specs.declared.link.Link.{Link}
use Rattle.bgp_open.specs.declared.route_offer.RouteOffer.{RouteOffer}
use Rattle.bgp_open.specs.Notification.{IsNotification}
use Rattle.bgp_machine.specs.declared.fsm.Fsm.{Fsm}
use Rattle.bgp_machine.specs.declared.fsm.Fsm.TheVariants as states
use Rattle.bgp_machine.specs.Heard.{Announces}
use Rattle.bgp_why_parts.specs.DeclaredPossible.{Possible}
use Rattle.bgp_why_parts.specs.Told.{Told}
use Rattle.bgp_why.specs.declared.notes.Notes.{Notes}
use Rattle.bgp_why.specs.Items.{has_sent}

-- the first record is a change of another state than Idle, which has the number 1
abbrev pub BeginsElsewhere : ℕ → ShownRecord → Type 0
BeginsElsewhere number (Changed second old new) = (number ≡ 1) × (old ≢ 1)
BeginsElsewhere number shown = ⊥

-- a state in which a connection is tried or listened for
abbrev pub WaitsForAnOpen : Fsm → Type 0
WaitsForAnOpen states.Connect = Unit {0}
WaitsForAnOpen states.Active = Unit {0}
WaitsForAnOpen state = ⊥

-- a message is sent
abbrev pub IsSent : ShownRecord → Type 0
IsSent (Sent second octets) = Unit {0}
IsSent shown = ⊥

-- a KEEPALIVE is sent
abbrev pub IsSentKeepalive : ShownRecord → Type 0
IsSentKeepalive (Sent second octets) = IsKeepalive octets
IsSentKeepalive shown = ⊥

-- Optional Parameters Length, octet 28 of an OPEN, isn't 0, and the next octet is 255 (RFC 9072, 2)
abbrev pub HasExtendedParameters : List ℕ → Type 0
HasExtendedParameters octets =
    (29 < length octets) × (slice_index octets 28 ≢ 0) × (slice_index octets 29 ≡ 255)

-- an OPEN with such parameters
abbrev pub IsExtendedOpen : Config → List ℕ → Type 0
IsExtendedOpen config octets = Announces config 1 octets × HasExtendedParameters octets

-- a NOTIFICATION of this code
abbrev pub IsNotificationOf : ℕ → List ℕ → Type 0
IsNotificationOf code octets =
    (subcode : ℕ) × (detail : List ℕ) × IsNotification octets code subcode detail

-- a NOTIFICATION is received, by its header, or the state changes to Idle
abbrev pub EndsTheSession : Config → ShownRecord → Type 0
EndsTheSession config (Received second octets) = Announces config 3 octets
EndsTheSession config (Sent second octets) = ⊥
EndsTheSession config (Changed second old new) = new ≡ 1

-- another message is received, or there is another change
abbrev pub GoesOn : Config → ShownRecord → Type 0
GoesOn config (Received second octets) = ¬ Announces config 3 octets
GoesOn config (Sent second octets) = ⊥
GoesOn config (Changed second old new) = new ≢ 1

-- both OPENs settled that there is no Hold Time
abbrev pub HasNoHold : Option Link → Type 0
HasNoHold None = ⊥
HasNoHold (Some link) = link.hold ≡ 0

-- a message has to be sent before another can be received
abbrev pub IsSendOwed : Possible → Type 0
IsSendOwed possible = IsFalse possible.message × IsTrue (has_sent possible)

-- the message that was received last since the last change to Idle: no octets if none was
abbrev pub since_idle : Told → List ℕ → List ℕ
since_idle told last = if is_some told.last_received then last else []

-- an OPEN was received before the local system's own was sent, without DelayOpen, and the record is
-- sent
abbrev pub CameFirst : Config → Fsm → List ℕ → ShownRecord → Type 0
CameFirst config state last shown =
    WaitsForAnOpen state × Announces config 1 last × IsSent shown
    × IsFalse config.parts.delay_open

-- The notes on a record, which is impossible after records that tell this and this link; the
-- message that was received last is this one.
pub record AreNotes (config : Config) (told : Told) (link : Option Link) (last : List ℕ)
    (possible : Possible) (number : ℕ) (shown : ShownRecord) (notes : Notes) : Type 0 where
  pub may_be_refused : notes.may_be_refused ≡ possible.open_errors.capability
  pub begins_elsewhere : IsTrue notes.begins_elsewhere ↔ BeginsElsewhere number shown
  pub open_came_first : IsTrue notes.open_came_first
      ↔ CameFirst config told.state (since_idle told last) shown
  pub without : notes.without ≡ None
  pub extended_parameters : IsTrue notes.extended_parameters
      ↔ IsExtendedOpen config (since_idle told last)
  pub keepalive_without_hold : IsTrue notes.keepalive_without_hold
      ↔ (IsSentKeepalive shown × HasNoHold link × IsTrue possible.message)
  pub may_have_ended : IsTrue notes.may_have_ended
      ↔ (IsSendOwed possible × EndsTheSession config shown)
  pub may_be_missing : IsTrue notes.may_be_missing ↔ (IsSendOwed possible × GoesOn config shown)

-- where the verdict is unfinished there is no record to note anything of
pub record AreEndNotes (config : Config) (told : Told) (last : List ℕ) (possible : Possible)
    (notes : Notes) : Type 0 where
  pub may_be_refused : notes.may_be_refused ≡ possible.open_errors.capability
  pub begins_elsewhere : IsFalse notes.begins_elsewhere
  pub open_came_first : IsFalse notes.open_came_first
  pub without : notes.without ≡ None
  pub extended_parameters : IsTrue notes.extended_parameters
      ↔ IsExtendedOpen config (since_idle told last)
  pub keepalive_without_hold : IsFalse notes.keepalive_without_hold
  pub may_have_ended : IsFalse notes.may_have_ended
  pub may_be_missing : IsFalse notes.may_be_missing

-- the same notes, and the one that this is judged without what both OPENs offer, if it is
abbrev pub judged_without : Option RouteOffer → Notes → Notes
judged_without without notes = record notes { without = without }
