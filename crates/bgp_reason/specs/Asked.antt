-- One record stands for each kind: whether the others may follow is what is said of it.
use Rattle.std.specs.Prelude.{◌≡◌, ◌≤◌, ◌<◌, ◌↔◌, ◌^◌, ℕ, List, [], Option, IsTrue, MatchOption}
use Rattle.std.specs.Prelude.{length}
use Rattle.byteorder.specs.Endian.{big_bytes}
use Rattle.bgp_prefix.specs.Shown.{ShownRecord, Received, Sent, Changed}
use Rattle.bgp_wire.specs.declared.header.HeaderFaults.{HeaderFaults}
use Rattle.bgp_wire.specs.Header.{header_of, length_of, type_of}
use Rattle.bgp_wire.specs.Message.{message_octets}
use Rattle.bgp_open.specs.declared.config.Config.{Config}
use Rattle.bgp_open.specs.declared.subcodes.OpenSubcodes.{OpenSubcodes}
use Rattle.bgp_open.specs.OwnOpen.{own_fields}
use Rattle.bgp_open.specs.Written.{notification_octets, open_octets}
use Rattle.bgp_machine.specs.DeclaredSubcodes.{Subcodes}
use Rattle.bgp_machine.specs.Laws.{empty_update}
use Rattle.bgp_machine.specs.declared.fsm.Fsm.{Fsm}
use Rattle.bgp_machine.specs.State.{number_of}
use Rattle.bgp_judge.specs.Told.{told}
use Rattle.bgp_reason.specs.declared.kinds.FsmErrors.{FsmErrors}
use Rattle.bgp_reason.specs.declared.kinds.Possible.{Possible}
use Rattle.bgp_reason.specs.declared.kinds.States.{States}
use Rattle.bgp_reason.specs.Following.{MayFollow}
use Rattle.bgp_reason.specs.Possible.{ArePossible, HasState}
use Rattle.bgp_reason.specs.Told.{last_message}

module _ (config : Config) (records : List ShownRecord) where
  -- the NOTIFICATION may follow, at any second
  abbrev pub MayNotify : ℕ → ℕ → List ℕ → Type 0
  MayNotify code subcode detail =
      MayFollow config records (Sent 0 (notification_octets code subcode detail))

  -- Message Header Error: the data are those fields of the message that was received last
  pub record AreHeaderErrors (errors : HeaderFaults) : Type 0 where
    pub marker : IsTrue errors.marker ↔ MayNotify 1 1 []
    pub bad_length : MatchOption errors.length
        (19 ≤ length (last_message records)
        → ¬ MayNotify 1 2 (big_bytes 2 (length_of (header_of (last_message records)))))
        (λ count. (count ≡ length_of (header_of (last_message records)))
        × MayNotify 1 2 (big_bytes 2 count))
    pub bad_type : MatchOption errors.kind
        (19 ≤ length (last_message records)
        → ¬ MayNotify 1 3 (big_bytes 1 (type_of (header_of (last_message records)))))
        (λ kind. (kind ≡ type_of (header_of (last_message records)))
        × MayNotify 1 3 (big_bytes 1 kind))

  -- OPEN Message Error
  pub record AreOpenErrors (errors : OpenSubcodes) : Type 0 where
    pub unspecific : IsTrue errors.unspecific ↔ MayNotify 2 0 []
    pub version : IsTrue errors.version ↔ MayNotify 2 1 (big_bytes 2 4)
    pub peer_as : IsTrue errors.peer_as ↔ MayNotify 2 2 []
    pub identifier : IsTrue errors.identifier ↔ MayNotify 2 3 []
    pub parameter : IsTrue errors.parameter ↔ MayNotify 2 4 []
    pub hold : IsTrue errors.hold ↔ MayNotify 2 6 []
    pub capability : IsTrue errors.capability ↔ MayNotify 2 7 []
    pub role : IsTrue errors.role ↔ MayNotify 2 11 []

  -- UPDATE Message Error
  pub record AreUpdateErrors (errors : Subcodes) : Type 0 where
    pub malformed_attribute_list : IsTrue errors.malformed_attribute_list ↔ MayNotify 3 1 []
    pub unrecognized_well_known : IsTrue errors.unrecognized_well_known ↔ MayNotify 3 2 []
    pub missing_well_known : IsTrue errors.missing_well_known ↔ MayNotify 3 3 []
    pub attribute_flags : IsTrue errors.attribute_flags ↔ MayNotify 3 4 []
    pub attribute_length : IsTrue errors.attribute_length ↔ MayNotify 3 5 []
    pub invalid_origin : IsTrue errors.invalid_origin ↔ MayNotify 3 6 []
    pub as_routing_loop : IsTrue errors.as_routing_loop ↔ MayNotify 3 7 []
    pub invalid_next_hop : IsTrue errors.invalid_next_hop ↔ MayNotify 3 8 []
    pub optional_attribute : IsTrue errors.optional_attribute ↔ MayNotify 3 9 []
    pub invalid_network_field : IsTrue errors.invalid_network_field ↔ MayNotify 3 10 []
    pub malformed_as_path : IsTrue errors.malformed_as_path ↔ MayNotify 3 11 []

  -- Finite State Machine Error
  pub record AreFsmErrors (errors : FsmErrors) : Type 0 where
    pub unspecified : IsTrue errors.unspecified ↔ MayNotify 5 0 []
    pub open_sent : IsTrue errors.open_sent ↔ MayNotify 5 1 []
    pub open_confirm : IsTrue errors.open_confirm ↔ MayNotify 5 2 []
    pub established : IsTrue errors.established ↔ MayNotify 5 3 []

  -- Hold Timer Expired may follow at this second
  abbrev pub MayExpire : ℕ → Type 0
  MayExpire second = MayFollow config records (Sent second (notification_octets 4 0 []))

  -- the second from which it may, of those that have 32 bits
  abbrev pub IsLeastSecond : Option ℕ → Type 0
  IsLeastSecond from =
      MatchOption from ((second : ℕ) → second < 2 ^ 32 → ¬ MayExpire second)
      (λ least. MayExpire least × ((second : ℕ) → MayExpire second → least ≤ second))

  -- the state may be told next, as a change of the one that is told
  abbrev pub AreChanges : States → Type 0
  AreChanges states =
      (fsm : Fsm)
      → HasState states fsm
      ↔ MayFollow config records (Changed 0 (number_of (told records).fsm) (number_of fsm))

  -- what is said of each kind is so of its record
  pub record AreAsked (possible : Possible) : Type 0 where
    pub state : possible.state ≡ (told records).fsm
    pub message : IsTrue possible.message
        ↔ MayFollow config records (Received 0 (message_octets 4 []))
    pub own_open : IsTrue possible.own_open
        ↔ MayFollow config records (Sent 0 (open_octets (own_fields config)))
    pub keepalive : IsTrue possible.keepalive
        ↔ MayFollow config records (Sent 0 (message_octets 4 []))
    pub update : IsTrue possible.update ↔ MayFollow config records (Sent 0 empty_update)
    pub header_errors : AreHeaderErrors possible.header_errors
    pub open_errors : AreOpenErrors possible.open_errors
    pub update_errors : AreUpdateErrors possible.update_errors
    pub hold_timer_expired : IsLeastSecond possible.hold_timer_expired
    pub send_hold_timer_expired : IsTrue possible.send_hold_timer_expired ↔ MayNotify 8 0 []
    pub fsm_errors : AreFsmErrors possible.fsm_errors
    pub cease : IsTrue possible.cease ↔ MayNotify 6 0 []
    pub changes : AreChanges possible.changes

-- ---- the law

-- what is so of one record of each kind tells all that may follow
abbrev pub AskedTellAll : Type 0
AskedTellAll =
    (config : Config) (records : List ShownRecord) (possible : Possible)
    → AreAsked config records possible → ArePossible config records possible

-- where Hold Timer Expired may follow, it may at each later second
abbrev pub ExpiresFromThenOn : Type 0
ExpiresFromThenOn =
    (config : Config) (records : List ShownRecord) (second later : ℕ) → second ≤ later
    → MayExpire config records second → MayExpire config records later
