-- Which messages could have been sent in a place, kind by kind. One message stands for each kind:
-- where it follows records, each of its kind does.
use Rattle.std.specs.Prelude.{◌≡◌, ◌≤◌, ◌↔◌, ℕ, List, [], IsTrue, MatchOption, length}
use Rattle.byteorder.specs.Endian.{big_bytes}
use Rattle.bgp_wire.specs.declared.header.HeaderFaults.{HeaderFaults}
use Rattle.bgp_wire.specs.Header.{header_of, length_of, type_of}
use Rattle.bgp_wire.specs.Message.{message_octets}
use Rattle.bgp_open.specs.declared.config.Config.{Config}
use Rattle.bgp_open.specs.declared.subcodes.OpenSubcodes.{OpenSubcodes}
use Rattle.bgp_open.specs.OwnOpen.{own_fields}
use Rattle.bgp_open.specs.Written.{notification_octets, open_octets}
use Rattle.bgp_update.specs.declared.subcodes.Subcodes.{Subcodes}
use Rattle.bgp_update.specs.Laws.{empty_update}
use Rattle.bgp_reason.specs.declared.kinds.FsmErrors.{FsmErrors}
use Rattle.bgp_instead.specs.declared.sendable.Sendable.{Sendable}

module _ (Could : List ℕ → Type 0) where
  -- the NOTIFICATION could have been sent
  abbrev pub CouldNotify : ℕ → ℕ → List ℕ → Type 0
  CouldNotify code subcode detail = Could (notification_octets code subcode detail)

  -- Message Header Error: the data are those fields of the message that was received last, behind
  -- which nothing is read if they are faulty
  pub record AreHeaderErrors (last : List ℕ) (errors : HeaderFaults) : Type 0 where
    pub marker : IsTrue errors.marker ↔ CouldNotify 1 1 []
    pub bad_length : MatchOption errors.length
        (19 ≤ length last → ¬ CouldNotify 1 2 (big_bytes 2 (length_of (header_of last))))
        (λ count. (count ≡ length_of (header_of last)) × CouldNotify 1 2 (big_bytes 2 count))
    pub bad_type : MatchOption errors.kind
        (19 ≤ length last → ¬ CouldNotify 1 3 (big_bytes 1 (type_of (header_of last))))
        (λ kind. (kind ≡ type_of (header_of last)) × CouldNotify 1 3 (big_bytes 1 kind))

  -- OPEN Message Error
  pub record AreOpenErrors (errors : OpenSubcodes) : Type 0 where
    pub unspecific : IsTrue errors.unspecific ↔ CouldNotify 2 0 []
    pub version : IsTrue errors.version ↔ CouldNotify 2 1 (big_bytes 2 4)
    pub peer_as : IsTrue errors.peer_as ↔ CouldNotify 2 2 []
    pub identifier : IsTrue errors.identifier ↔ CouldNotify 2 3 []
    pub parameter : IsTrue errors.parameter ↔ CouldNotify 2 4 []
    pub hold : IsTrue errors.hold ↔ CouldNotify 2 6 []
    pub capability : IsTrue errors.capability ↔ CouldNotify 2 7 []
    pub role : IsTrue errors.role ↔ CouldNotify 2 11 []

  -- UPDATE Message Error
  pub record AreUpdateErrors (errors : Subcodes) : Type 0 where
    pub malformed_attribute_list : IsTrue errors.malformed_attribute_list ↔ CouldNotify 3 1 []
    pub unrecognized_well_known : IsTrue errors.unrecognized_well_known ↔ CouldNotify 3 2 []
    pub missing_well_known : IsTrue errors.missing_well_known ↔ CouldNotify 3 3 []
    pub attribute_flags : IsTrue errors.attribute_flags ↔ CouldNotify 3 4 []
    pub attribute_length : IsTrue errors.attribute_length ↔ CouldNotify 3 5 []
    pub invalid_origin : IsTrue errors.invalid_origin ↔ CouldNotify 3 6 []
    pub as_routing_loop : IsTrue errors.as_routing_loop ↔ CouldNotify 3 7 []
    pub invalid_next_hop : IsTrue errors.invalid_next_hop ↔ CouldNotify 3 8 []
    pub optional_attribute : IsTrue errors.optional_attribute ↔ CouldNotify 3 9 []
    pub invalid_network_field : IsTrue errors.invalid_network_field ↔ CouldNotify 3 10 []
    pub malformed_as_path : IsTrue errors.malformed_as_path ↔ CouldNotify 3 11 []

  -- Finite State Machine Error
  pub record AreFsmErrors (errors : FsmErrors) : Type 0 where
    pub unspecified : IsTrue errors.unspecified ↔ CouldNotify 5 0 []
    pub open_sent : IsTrue errors.open_sent ↔ CouldNotify 5 1 []
    pub open_confirm : IsTrue errors.open_confirm ↔ CouldNotify 5 2 []
    pub established : IsTrue errors.established ↔ CouldNotify 5 3 []

  -- what is said of each kind is so of its message
  pub record AreSendable (config : Config) (last : List ℕ) (sendable : Sendable) : Type 0 where
    pub own_open : IsTrue sendable.own_open ↔ Could (open_octets (own_fields config))
    pub keepalive : IsTrue sendable.keepalive ↔ Could (message_octets 4 [])
    pub update : IsTrue sendable.update ↔ Could empty_update
    pub header_errors : AreHeaderErrors last sendable.header_errors
    pub open_errors : AreOpenErrors sendable.open_errors
    pub update_errors : AreUpdateErrors sendable.update_errors
    pub hold_timer_expired : IsTrue sendable.hold_timer_expired ↔ CouldNotify 4 0 []
    pub send_hold_timer_expired : IsTrue sendable.send_hold_timer_expired ↔ CouldNotify 8 0 []
    pub fsm_errors : AreFsmErrors sendable.fsm_errors
    pub cease : IsTrue sendable.cease ↔ CouldNotify 6 0 []
