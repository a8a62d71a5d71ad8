-- What the core says for a want meets it.
use Rattle.std.proofs.Common.{◌≡◌, ◌≤◌, ℕ, Bool, List, [], ◌∷◌, ◌++◌, inl, inr, Option, None, Some, length, map, refl, sym, subst, arith}
use Rattle.byteorder.specs.Endian.{big_bytes}
use Rattle.bgp_prefix.specs.Shown.{Sent}
use Rattle.bgp_wire.proofs.WholeMessages.{keepalive_is_frame}
use Rattle.bgp_wire.proofs.WrittenMessage.{written_message, body_of-message_octets}
use Rattle.bgp_wire.specs.declared.header.Limit.{Limit}
use Rattle.bgp_wire.specs.Framing.{IsFrame}
use Rattle.bgp_wire.specs.Message.{message_octets}
use Rattle.bgp_open.proofs.OwnOpens.{own_open, octets-own_open, is_frame}
use Rattle.bgp_open.proofs.WrittenNotification.{written_notification, notification_frame}
use Rattle.bgp_open.specs.declared.config.Config.{Config}
use Rattle.bgp_open.specs.declared.link.Link.{Link}
use Rattle.bgp_open.specs.declared.subcodes.OpenSubcodes.{OpenSubcodes}
use Rattle.bgp_open.specs.OwnOpen.{own_fields}
use Rattle.bgp_open.specs.Written.{notification_octets, open_octets}
use Rattle.bgp_update.specs.Changes.{RouteChanges}
use Rattle.bgp_machine.specs.declared.fsm.Fsm.{Fsm}
use Rattle.bgp_machine.specs.declared.want.FaultSet.{FaultSet}
use Rattle.bgp_machine.specs.declared.want.FaultSet.TheVariants as sets
use Rattle.bgp_machine.specs.declared.want.Want.{Want}
use Rattle.bgp_machine.specs.declared.want.Want.TheVariants.{OwnOpen, KeepAlive, CleanUpdate, Cease, HoldExpired, SendHoldExpired, MachineError, Faults}
use Rattle.bgp_machine.specs.Shows.{PaysAll}
use Rattle.bgp_machine.specs.Want.{IsLeastFault, Fulfils, Meets, limit_on, subcode_of}
use Rattle.bgp_speaker.specs.declared.speaker.Speaker.{Speaker}
use Rattle.bgp_speaker.specs.Choice.{change_records}
use Rattle.bgp_speaker.specs.Said.{Says, SaysEach}
use Rattle.bgp_speaker.proofs.PlainFrames.{plain_is_frame}

-- ---- the data of a fault are short

of_none : (detail : List ℕ) → detail ≡ [] → length detail ≤ 4075
of_none detail e = subst (λ (d : List ℕ). length d ≤ 4075) (sym e) (omega arith)

of_two : (detail : List ℕ) (n : ℕ) → detail ≡ big_bytes 2 n → length detail ≤ 4075
of_two detail n e = subst (λ (d : List ℕ). length d ≤ 4075) (sym e) (let l : length (big_bytes 2 n) ≡ 2 = refl in omega arith)

of_one : (detail : List ℕ) (n : ℕ) → detail ≡ big_bytes 1 n → length detail ≤ 4075
of_one detail n e = subst (λ (d : List ℕ). length d ≤ 4075) (sym e) (let l : length (big_bytes 1 n) ≡ 1 = refl in omega arith)

header_short : (m : Bool) (l k : Option ℕ) (code subcode : ℕ) (detail : List ℕ)
    → IsLeastFault (sets.Header (record { marker = m; length = l; kind = k })) code subcode detail → length detail ≤ 4075
header_short m None None code subcode detail f = elim f.names.1 [
  | inl one ↦ of_none detail (f.without (f.names.0, inl one))
  | inr others ↦ elim others [ inl two ↦ absurd two.1 | inr three ↦ absurd three.1 ]
]
header_short m (Some n) None code subcode detail f = elim f.names.1 [
  | inl one ↦ of_none detail (f.without (f.names.0, inl one))
  | inr others ↦ elim others [ inl two ↦ of_two detail n two.1 | inr three ↦ absurd three.1 ]
]
header_short m None (Some n) code subcode detail f = elim f.names.1 [
  | inl one ↦ of_none detail (f.without (f.names.0, inl one))
  | inr others ↦ elim others [ inl two ↦ absurd two.1 | inr three ↦ of_one detail n three.1 ]
]
header_short m (Some n) (Some k) code subcode detail f = elim f.names.1 [
  | inl one ↦ of_none detail (f.without (f.names.0, inl one))
  | inr others ↦ elim others [ inl two ↦ of_two detail n two.1 | inr three ↦ of_one detail k three.1 ]
]

open_short : (s : OpenSubcodes) (code subcode : ℕ) (detail : List ℕ) → IsLeastFault (sets.Open s) code subcode detail → length detail ≤ 4075
open_short s code subcode detail f = elim f.names.1 [
  | inl zero ↦ of_none detail (f.without (f.names.0, inl zero))
  | inr others ↦ elim others [
    | inl one ↦ of_two detail 4 one.1
    | inr more ↦ of_none detail (f.without (f.names.0, inr (inr more)))
  ]
]

fault_short : (faults : FaultSet) (code subcode : ℕ) (detail : List ℕ) → IsLeastFault faults code subcode detail → length detail ≤ 4075
fault_short (sets.Header h) code subcode detail f = header_short h.marker h.length h.kind code subcode detail f
fault_short (sets.Open s) code subcode detail f = open_short s code subcode detail f
fault_short (sets.Update s) code subcode detail f = of_none detail (f.without f.names)

-- ---- want by want

notification_meets : (config : Config) (link : Option Link) (want : Want) (code subcode : ℕ) (detail octets : List ℕ) → length detail ≤ 4075
    → octets ≡ notification_octets code subcode detail → Fulfils config link want (notification_octets code subcode detail) → Meets config link want octets
notification_meets config link want code subcode detail octets fits e says =
    subst (λ (b : List ℕ). Meets config link want b) (sym e) (record { whole = notification_frame code subcode detail fits (limit_on link); fulfils = says })

pub said_meets : (speaker : Speaker) (link : Option Link) (kind : ℕ) (changes : RouteChanges) (want : Want) (octets : List ℕ)
    → Says speaker link kind changes want octets → Meets speaker.config link want octets
said_meets speaker link kind changes OwnOpen octets e =
    subst (λ (b : List ℕ). Meets speaker.config link OwnOpen b) (sym e) (record {
      whole = is_frame (open_octets (own_fields speaker.config)) (octets-own_open speaker.config) (own_open speaker.config).form (limit_on link);
      fulfils = own_open speaker.config;
    })
said_meets speaker link kind changes KeepAlive octets e =
    let message = written_message 4 [] (omega arith) in
    subst (λ (b : List ℕ). Meets speaker.config link KeepAlive b) (sym e) (record {
      whole = keepalive_is_frame (limit_on link) (message_octets 4 []) (message, body_of-message_octets 4 []);
      fulfils = message;
    })
said_meets speaker None event changes CleanUpdate octets says = absurd says
said_meets speaker (Some link) event changes CleanUpdate octets says = record { whole = plain_is_frame (limit_on (Some link)) octets says.0; fulfils = says.1 }
said_meets speaker link kind changes Cease octets e =
    notification_meets speaker.config link Cease 6 2 [] octets (omega arith) e (6, 2, [], written_notification 6 2 [] (omega arith), refl)
said_meets speaker link kind changes HoldExpired octets e =
    notification_meets speaker.config link HoldExpired 4 0 [] octets (omega arith) e (4, 0, [], written_notification 4 0 [] (omega arith), (refl, refl))
said_meets speaker link kind changes SendHoldExpired octets e =
    notification_meets speaker.config link SendHoldExpired 8 0 [] octets (omega arith) e (8, 0, [], written_notification 8 0 [] (omega arith), (refl, refl))
said_meets speaker link kind changes (MachineError state) octets e =
    notification_meets speaker.config link (MachineError state) 5 (subcode_of state) (kind ∷ []) octets (omega arith) e
    (5, subcode_of state, kind ∷ [], written_notification 5 (subcode_of state) (kind ∷ []) (omega arith), (refl, inr refl))
said_meets speaker link kind changes (Faults faults) octets says =
    let code = says.0 in
    let subcode = says.1 in
    let detail = says.2 in
    let least = says.3 in
    let fits = fault_short faults code subcode detail least in
    notification_meets speaker.config link (Faults faults) code subcode detail octets fits says.4
    (code, subcode, detail, written_notification code subcode detail fits, least.names)

-- ---- it is a frame, however long a message may be

notification_is_frame : (limit : Limit) (code subcode : ℕ) (detail octets : List ℕ) → length detail ≤ 4075
    → octets ≡ notification_octets code subcode detail → IsFrame limit octets
notification_is_frame limit code subcode detail octets fits e =
    subst (λ (b : List ℕ). IsFrame limit b) (sym e) (notification_frame code subcode detail fits limit)

pub said_frame : (limit : Limit) (speaker : Speaker) (link : Option Link) (kind : ℕ) (changes : RouteChanges) (want : Want) (octets : List ℕ)
    → Says speaker link kind changes want octets → IsFrame limit octets
said_frame limit speaker link kind changes OwnOpen octets e =
    subst (λ (b : List ℕ). IsFrame limit b) (sym e)
    (is_frame (open_octets (own_fields speaker.config)) (octets-own_open speaker.config) (own_open speaker.config).form limit)
said_frame limit speaker link kind changes KeepAlive octets e =
    subst (λ (b : List ℕ). IsFrame limit b) (sym e)
    (keepalive_is_frame limit (message_octets 4 []) (written_message 4 [] (omega arith), body_of-message_octets 4 []))
said_frame limit speaker None kind changes CleanUpdate octets says = absurd says
said_frame limit speaker (Some link) kind changes CleanUpdate octets says = plain_is_frame limit octets says.0
said_frame limit speaker link kind changes Cease octets e = notification_is_frame limit 6 2 [] octets (omega arith) e
said_frame limit speaker link kind changes HoldExpired octets e = notification_is_frame limit 4 0 [] octets (omega arith) e
said_frame limit speaker link kind changes SendHoldExpired octets e = notification_is_frame limit 8 0 [] octets (omega arith) e
said_frame limit speaker link kind changes (MachineError state) octets e =
    notification_is_frame limit 5 (subcode_of state) (kind ∷ []) octets (omega arith) e
said_frame limit speaker link kind changes (Faults faults) octets says =
    notification_is_frame limit says.0 says.1 says.2 octets (fault_short faults says.0 says.1 says.2 says.3) says.4

-- ---- a step's records pay what it owes

pub pays_each : (speaker : Speaker) (link : Option Link) (kind : ℕ) (changes : RouteChanges) (t : ℕ) (change : Option (Fsm × Fsm))
    (wants : List Want) (messages : List (List ℕ)) → SaysEach speaker link kind changes wants messages
    → PaysAll speaker.config link wants change (map (λ (octets : List ℕ). Sent t octets) messages ++ change_records t change)
pays_each speaker link kind changes t None [] messages says =
    subst (λ (ms : List (List ℕ)). PaysAll speaker.config link [] None (map (λ (octets : List ℕ). Sent t octets) ms ++ change_records t None)) (sym says) (refl, refl)
pays_each speaker link kind changes t (Some change) [] messages says =
    subst (λ (ms : List (List ℕ)). PaysAll speaker.config link [] (Some change) (map (λ (octets : List ℕ). Sent t octets) ms ++ change_records t (Some change))) (sym says)
    ([], None, (refl, refl, refl, refl), (refl, refl))
pays_each speaker link kind changes t change (want ∷ wants) [] says = absurd says
pays_each speaker link kind changes t change (want ∷ wants) (octets ∷ messages) says =
    (wants, change, (said_meets speaker link kind changes want octets says.0, refl, refl), pays_each speaker link kind changes t change wants messages says.1)
