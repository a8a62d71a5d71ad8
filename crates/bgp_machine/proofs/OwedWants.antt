-- A message for each want that a step owes.
use Rattle.std.proofs.Common.{◌≡◌, ◌<◌, ◌≤◌, ℕ, Bool, true, false, List, [], ◌∷◌, ◌⊎◌, inl, inr, Option, None, Some, length, get_or, refl, sym, ap, subst, ◌∙◌, arith}
use Rattle.std.proofs.lemmas.Bool.{cases_lt}
use Rattle.std.proofs.lemmas.List.{get_or_past}
use Rattle.byteorder.specs.Endian.{big_bytes}
use Rattle.bgp_wire.proofs.EachFault.{no_field_is_set, empty_is_sound}
use Rattle.bgp_wire.proofs.EachOctet.{Octets, none, one_more, octets-big_bytes, octets-message_octets}
use Rattle.bgp_wire.proofs.WholeMessages.{keepalive_is_frame}
use Rattle.bgp_wire.proofs.WrittenMessage.{written_message, body_of-message_octets}
use Rattle.bgp_wire.specs.declared.header.HeaderFaults.{HeaderFaults}
use Rattle.bgp_wire.specs.declared.header.Limit.{Limit}
use Rattle.bgp_wire.specs.Header.{IsSound, header_of}
use Rattle.bgp_wire.specs.Message.{message_octets}
use Rattle.bgp_wire.specs.Verdict.{AreEachFault, IsEmpty as IsEmptyHeader}
use Rattle.bgp_open.proofs.NamedSubcodes.{free_is_none}
use Rattle.bgp_open.proofs.OwnOpens.{own_open, octets-own_open, is_frame}
use Rattle.bgp_open.proofs.WrittenNotification.{written_notification, notification_frame}
use Rattle.bgp_open.specs.declared.config.Config.{Config}
use Rattle.bgp_open.specs.declared.link.Link.{Link}
use Rattle.bgp_open.specs.declared.subcodes.OpenSubcodes.{OpenSubcodes}
use Rattle.bgp_open.specs.OpenSubcodes.{AreSubcodesOf, IsEmpty, IsValid, IsOfOtherVersion}
use Rattle.bgp_open.specs.OwnOpen.{own_fields}
use Rattle.bgp_open.specs.Written.{notification_octets, open_octets}
use Rattle.bgp_rib.specs.DeclaredSubcodes.{Subcodes}
use Rattle.bgp_rib.specs.Laws.{HasCleanUpdate, empty_update}
use Rattle.bgp_rib.specs.Subcodes.{HasSubcode, marks_of}
use Rattle.bgp_machine.specs.declared.hearing.Heard.{Heard}
use Rattle.bgp_machine.specs.declared.hearing.Heard.TheVariants as heard
use Rattle.bgp_machine.specs.declared.rows.HiddenRow.{HiddenRow}
use Rattle.bgp_machine.specs.declared.rows.HiddenRow.TheVariants.{Starts, Listens, Stops, Ceases, RetryExpires, HoldExpires, SendHoldExpires, KeepaliveExpires, DelayExpires, ConnectionOpens, DelayBegins, ConnectionFails, Announces, Notes}
use Rattle.bgp_machine.specs.declared.rows.ReceivedRow.{ReceivedRow}
use Rattle.bgp_machine.specs.declared.rows.ReceivedRow.TheVariants.{Ignores, Accepts, Overlooks, Collides, Drops, NamesFault, ReportsError, Establishes, Renews, Applies}
use Rattle.bgp_machine.specs.declared.state.Head.{Head}
use Rattle.bgp_machine.specs.declared.state.Head.TheVariants.{Idle, Connect, Active, OpenSent, OpenConfirm, Established}
use Rattle.bgp_machine.specs.declared.want.FaultSet.{FaultSet}
use Rattle.bgp_machine.specs.declared.want.FaultSet.TheVariants as sets
use Rattle.bgp_machine.specs.declared.want.Unexpected.{Unexpected}
use Rattle.bgp_machine.specs.declared.want.Unexpected.TheVariants.{InOpenSent, InOpenConfirm, InEstablished}
use Rattle.bgp_machine.specs.declared.want.Want.{Want}
use Rattle.bgp_machine.specs.declared.want.Want.TheVariants.{OwnOpen, KeepAlive, CleanUpdate, Cease, HoldExpired, SendHoldExpired, MachineError, Faults}
use Rattle.bgp_machine.specs.Heard.{Hears, received_limit, open_faults}
use Rattle.bgp_machine.specs.Lists.{Each}
use Rattle.bgp_machine.specs.Owed.{CanBeMet, EachOwedCanBeMet, EachOwedSetHasFault, HasFault, NoteKeepsState}
use Rattle.bgp_machine.specs.State.{SessionState, Turn, link_at, moved}
use Rattle.bgp_machine.specs.Step.{AreRefusals, Hidden, HiddenIn, Received, ReceivedIn}
use Rattle.bgp_machine.specs.Want.{Fulfils, Meets, NamesFault as NamesOne, limit_on}

-- ---- one message for each want

open_met : (config : Config) (link : Option Link) → CanBeMet config link OwnOpen
open_met config link = (
  open_octets (own_fields config),
  octets-own_open config,
  record {
    whole = is_frame (open_octets (own_fields config)) (octets-own_open config) (own_open config).form (limit_on link);
    fulfils = own_open config;
  },
)

alive_met : (config : Config) (link : Option Link) → CanBeMet config link KeepAlive
alive_met config link =
    let message = written_message 4 [] (omega arith) in (
      message_octets 4 [],
      (octets-message_octets 4 [] (omega arith) none).are,
      record {
        whole = keepalive_is_frame (limit_on link) (message_octets 4 []) (message, body_of-message_octets 4 []);
        fulfils = message;
      },
    )

octets-empty : Octets empty_update
octets-empty =
    octets-message_octets 2 _ (omega arith) (one_more (omega arith) (one_more (omega arith) (one_more (omega arith) (one_more (omega arith) none))))

clean_met : (config : Config) (link : Link) → HasCleanUpdate → CanBeMet config (Some link) CleanUpdate
clean_met config link clean = (empty_update, octets-empty.are, record { whole = clean.frame (limit_on (Some link)); fulfils = clean.clean link })

-- a NOTIFICATION that says so
notification_met : (config : Config) (link : Option Link) (want : Want) (code subcode : ℕ) (detail : List ℕ) → code < 256 → subcode < 256 → Octets detail → length detail ≤ 4075
    → Fulfils config link want (notification_octets code subcode detail) → CanBeMet config link want
notification_met config link want code subcode detail small few octets fits says = (
  notification_octets code subcode detail,
  (octets-message_octets 3 (code ∷ subcode ∷ detail) (omega arith) (one_more small (one_more few octets))).are,
  record { whole = notification_frame code subcode detail fits (limit_on link); fulfils = says },
)

cease_met : (config : Config) (link : Option Link) → CanBeMet config link Cease
cease_met config link =
    notification_met config link Cease 6 0 [] (omega arith) (omega arith) none (omega arith) (6, 0, [], written_notification 6 0 [] (omega arith), refl)

expired_met : (config : Config) (link : Option Link) → CanBeMet config link HoldExpired
expired_met config link =
    notification_met config link HoldExpired 4 0 [] (omega arith) (omega arith) none (omega arith) (4, 0, [], written_notification 4 0 [] (omega arith), (refl, refl))

send_expired_met : (config : Config) (link : Option Link) → CanBeMet config link SendHoldExpired
send_expired_met config link =
    notification_met config link SendHoldExpired 8 0 [] (omega arith) (omega arith) none (omega arith) (8, 0, [], written_notification 8 0 [] (omega arith), (refl, refl))

error_met : (config : Config) (link : Option Link) (state : Unexpected) → CanBeMet config link (MachineError state)
error_met config link state =
    notification_met config link (MachineError state) 5 0 [] (omega arith) (omega arith) none (omega arith) (5, 0, [], written_notification 5 0 [] (omega arith), (refl, inl refl))

-- a fault that a NOTIFICATION can name
record Named (faults : FaultSet) : Type 0 where
  pub code : ℕ
  pub subcode : ℕ
  pub detail : List ℕ
  pub small : code < 256
  pub few : subcode < 256
  pub octets : Octets detail
  pub fits : length detail ≤ 4075
  pub names : NamesOne faults code subcode detail

faults_met : (config : Config) (link : Option Link) (faults : FaultSet) → Named faults → CanBeMet config link (Faults faults)
faults_met config link faults n =
    notification_met config link (Faults faults) n.code n.subcode n.detail n.small n.few n.octets n.fits
    (n.code, n.subcode, n.detail, written_notification n.code n.subcode n.detail n.fits, n.names)

-- ---- sets of faults that are owed have one

one_octet : (number : ℕ) → length (big_bytes 1 number) ≤ 4075
one_octet number = let e : length (big_bytes 1 number) ≡ 1 = refl in omega arith

two_octets : (number : ℕ) → length (big_bytes 2 number) ≤ 4075
two_octets number = let e : length (big_bytes 2 number) ≡ 2 = refl in omega arith

header_fields : (m : Bool) (l k : Option ℕ) → IsEmptyHeader (record { marker = m; length = l; kind = k }) ⊎ Named (sets.Header (record { marker = m; length = l; kind = k }))
header_fields true l k = inr (record { code = 1; subcode = 1; detail = []; small = omega arith; few = omega arith; octets = none; fits = omega arith; names = (refl, inl (refl, refl)) })
header_fields false (Some n) k = inr (record { code = 1; subcode = 2; detail = big_bytes 2 n; small = omega arith; few = omega arith; octets = octets-big_bytes 2 n; fits = two_octets n; names = (refl, inr (inl (refl, refl))) })
header_fields false None (Some n) = inr (record { code = 1; subcode = 3; detail = big_bytes 1 n; small = omega arith; few = omega arith; octets = octets-big_bytes 1 n; fits = one_octet n; names = (refl, inr (inr (refl, refl))) })
header_fields false None None = inl ((no_field_is_set (record { marker = false; length = None; kind = None })).0 (λ t. cc, refl, refl))

header_named : (limit : Limit) (header : List ℕ) (faults : HeaderFaults) → (IsSound limit header → ⊥) → AreEachFault limit header faults → Named (sets.Header faults)
header_named limit header faults not each = elim (header_fields faults.marker faults.length faults.kind) [
  | inl e ↦ absurd (not (empty_is_sound limit header faults each e))
  | inr n ↦ n
]

open_fields : (u v p i a h c r : Bool)
    → IsEmpty (record { unspecific = u; version = v; peer_as = p; identifier = i; parameter = a; hold = h; capability = c; role = r })
    ⊎ Named (sets.Open (record { unspecific = u; version = v; peer_as = p; identifier = i; parameter = a; hold = h; capability = c; role = r }))
open_fields true v p i a h c r = inr (record { code = 2; subcode = 0; detail = []; small = omega arith; few = omega arith; octets = none; fits = omega arith; names = (refl, inl (refl, refl)) })
open_fields false true p i a h c r = inr (record { code = 2; subcode = 1; detail = big_bytes 2 4; small = omega arith; few = omega arith; octets = octets-big_bytes 2 4; fits = two_octets 4; names = (refl, inr (inl (refl, refl, refl))) })
open_fields false false true i a h c r = inr (record { code = 2; subcode = 2; detail = []; small = omega arith; few = omega arith; octets = none; fits = omega arith; names = (refl, inr (inr (inl (refl, refl)))) })
open_fields false false false true a h c r = inr (record { code = 2; subcode = 3; detail = []; small = omega arith; few = omega arith; octets = none; fits = omega arith; names = (refl, inr (inr (inr (inl (refl, refl))))) })
open_fields false false false false true h c r = inr (record { code = 2; subcode = 4; detail = []; small = omega arith; few = omega arith; octets = none; fits = omega arith; names = (refl, inr (inr (inr (inr (inl (refl, refl)))))) })
open_fields false false false false false true c r = inr (record { code = 2; subcode = 6; detail = []; small = omega arith; few = omega arith; octets = none; fits = omega arith; names = (refl, inr (inr (inr (inr (inr (inl (refl, refl))))))) })
open_fields false false false false false false true r = inr (record { code = 2; subcode = 7; detail = []; small = omega arith; few = omega arith; octets = none; fits = omega arith; names = (refl, inr (inr (inr (inr (inr (inr (inl (refl, refl)))))))) })
open_fields false false false false false false false true = inr (record { code = 2; subcode = 11; detail = []; small = omega arith; few = omega arith; octets = none; fits = omega arith; names = (refl, inr (inr (inr (inr (inr (inr (inr (refl, refl)))))))) })
open_fields false false false false false false false false =
    inl ((free_is_none (record { unspecific = false; version = false; peer_as = false; identifier = false; parameter = false; hold = false; capability = false; role = false })).0 refl)

open_named : (s : OpenSubcodes) → (IsEmpty s → ⊥) → Named (sets.Open s)
open_named s not = elim (open_fields s.unspecific s.version s.peer_as s.identifier s.parameter s.hold s.capability s.role) [ inl e ↦ absurd (not e) | inr n ↦ n ]

invalid_named : (config : Config) (octets : List ℕ) (s : OpenSubcodes) → (IsValid config octets → ⊥) → AreSubcodesOf (open_faults config octets) s → Named (sets.Open s)
invalid_named config octets s not are = open_named s (λ empty. not (λ n d fault. empty n d ((are n d).1 (inl fault))))

-- a valid OPEN isn't of another version, so it may be refused for its Hold Time
valid_named : (config : Config) (octets : List ℕ) (s : OpenSubcodes) → IsValid config octets → AreSubcodesOf (open_faults config octets) s → Named (sets.Open s)
valid_named config octets s valid are =
    let here : IsOfOtherVersion octets → ⊥ = λ other. valid 1 (big_bytes 2 4) (inl (refl, refl, other)) in
    open_named s (λ empty. empty 6 [] ((are 6 []).1 (inr (inl refl, here))))

below_or : (n : ℕ) → (n < 12) ⊎ (12 ≤ n)
below_or n = cases_lt n 12

past_all : (s : Subcodes) (n : ℕ) → 12 ≤ n → HasSubcode s n → ⊥
past_all s n k h =
    let all : length (marks_of s) ≡ 12 = refl in
    let past : get_or (marks_of s) n false ≡ false = get_or_past (marks_of s) n false (omega arith) in cc

small_subcode : (s : Subcodes) (n : ℕ) → HasSubcode s n → n < 256
small_subcode s n h = elim (below_or n) [ inl k ↦ omega arith | inr k ↦ absurd (past_all s n k h) ]

update_named : (link : Link) (octets : List ℕ) (s : Subcodes) → AreRefusals link octets s → Named (sets.Update s)
update_named link octets s are =
    let n = are.one.0 in
    let has : HasSubcode s n = (are.each n).1 are.one.1 in
    record { code = 3; subcode = n; detail = []; small = omega arith; few = small_subcode s n has; octets = none; fits = omega arith; names = (refl, has) }

-- ---- the sets that a message's row owes

-- ---- row by row

none_owed : (config : Config) (link : Option Link) (ws : List Want) → ws ≡ [] → Each (CanBeMet config link) ws
none_owed config link ws e = subst (Each (CanBeMet config link)) (sym e) tt

one_owed : (config : Config) (link : Option Link) (want : Want) (ws : List Want) → ws ≡ want ∷ [] → CanBeMet config link want → Each (CanBeMet config link) ws
one_owed config link want ws e met = subst (Each (CanBeMet config link)) (sym e) (met, tt)

hidden_met : HasCleanUpdate → (head : Head) (config : Config) (t : ℕ) (row : HiddenRow) (ws : List Want) (u : Turn)
    → HiddenIn head config t row ws u → Each (CanBeMet config (link_at head)) ws
hidden_met clean Idle config t Starts ws u h = none_owed config None ws h.0
hidden_met clean Idle config t Listens ws u h = none_owed config None ws h.0
hidden_met clean Idle config t Notes ws u h = none_owed config None ws h.0
hidden_met clean (Connect d) config t Stops ws u h = none_owed config None ws h.0
hidden_met clean (Connect d) config t RetryExpires ws u h = none_owed config None ws h.0
hidden_met clean (Connect d) config t DelayExpires ws u h = one_owed config None OwnOpen ws h.1 (open_met config None)
hidden_met clean (Connect d) config t ConnectionOpens ws u h = one_owed config None OwnOpen ws h.0 (open_met config None)
hidden_met clean (Connect d) config t DelayBegins ws u h = none_owed config None ws h.1
hidden_met clean (Connect d) config t ConnectionFails ws u h = none_owed config None ws h.0
hidden_met clean (Connect d) config t Notes ws u h = none_owed config None ws h.0
hidden_met clean (Active d) config t Stops ws u h = none_owed config None ws h.0
hidden_met clean (Active d) config t Ceases ws u h = one_owed config None Cease ws h.1 (cease_met config None)
hidden_met clean (Active d) config t RetryExpires ws u h = none_owed config None ws h.0
hidden_met clean (Active d) config t DelayExpires ws u h = one_owed config None OwnOpen ws h.1 (open_met config None)
hidden_met clean (Active d) config t ConnectionOpens ws u h = one_owed config None OwnOpen ws h.0 (open_met config None)
hidden_met clean (Active d) config t DelayBegins ws u h = none_owed config None ws h.1
hidden_met clean (Active d) config t ConnectionFails ws u h = none_owed config None ws h.0
hidden_met clean (Active d) config t Notes ws u h = none_owed config None ws h.0
hidden_met clean (OpenSent s) config t Ceases ws u h = one_owed config None Cease ws h.0 (cease_met config None)
hidden_met clean (OpenSent s) config t HoldExpires ws u h = one_owed config None HoldExpired ws h.1 (expired_met config None)
hidden_met clean (OpenSent s) config t ConnectionFails ws u h = none_owed config None ws h.0
hidden_met clean (OpenSent s) config t Notes ws u h = none_owed config None ws h.0
hidden_met clean (OpenConfirm k s) config t Ceases ws u h = one_owed config (Some k) Cease ws h.0 (cease_met config (Some k))
hidden_met clean (OpenConfirm k s) config t HoldExpires ws u h = one_owed config (Some k) HoldExpired ws h.1 (expired_met config (Some k))
hidden_met clean (OpenConfirm k s) config t KeepaliveExpires ws u h = one_owed config (Some k) KeepAlive ws h.1 (alive_met config (Some k))
hidden_met clean (OpenConfirm k s) config t ConnectionFails ws u h = none_owed config (Some k) ws h.0
hidden_met clean (OpenConfirm k s) config t Notes ws u h = none_owed config (Some k) ws h.0
hidden_met clean (Established k s) config t Ceases ws u h = one_owed config (Some k) Cease ws h.0 (cease_met config (Some k))
hidden_met clean (Established k s) config t HoldExpires ws u h = one_owed config (Some k) HoldExpired ws h.1 (expired_met config (Some k))
hidden_met clean (Established k s) config t SendHoldExpires ws u h = one_owed config (Some k) SendHoldExpired ws h.1 (send_expired_met config (Some k))
hidden_met clean (Established k s) config t KeepaliveExpires ws u h = one_owed config (Some k) KeepAlive ws h.1 (alive_met config (Some k))
hidden_met clean (Established k s) config t ConnectionFails ws u h = none_owed config (Some k) ws h.0
hidden_met clean (Established k s) config t Announces ws u h = one_owed config (Some k) CleanUpdate ws h.0 (clean_met config k clean)
hidden_met clean (Established k s) config t Notes ws u h = none_owed config (Some k) ws h.0
hidden_met clean head config t row ws u h = absurd h

heard_met : (head : Head) (config : Config) (t : ℕ) (octets : List ℕ) (m : Heard) (row : ReceivedRow) (ws : List Want) (u : Turn)
    → Hears config octets m → ReceivedIn head t octets m row ws u → Each (CanBeMet config (link_at head)) ws
heard_met Idle config t b m Ignores ws u x h = none_owed config None ws h.0
heard_met (Connect d) config t b (heard.ValidOpen l e) Accepts ws u x h = subst (Each (CanBeMet config None)) (sym h.1) (open_met config None, (alive_met config None, tt))
heard_met (Connect d) config t b (heard.ValidOpen l e) Drops ws u x h = none_owed config None ws h.0
heard_met (Connect d) config t b (heard.ValidOpen l e) NamesFault ws u x h = one_owed config None (Faults (sets.Open e)) ws h.0 (faults_met config None (sets.Open e) (valid_named config b e x.1 x.3))
heard_met (Connect d) config t b (heard.FaultyHeader f) Drops ws u x h = none_owed config None ws h.0
heard_met (Connect d) config t b (heard.FaultyHeader f) NamesFault ws u x h = one_owed config None (Faults (sets.Header f)) ws h.0 (faults_met config None (sets.Header f) (header_named (received_limit config) (header_of b) f x.1 x.2))
heard_met (Connect d) config t b (heard.InvalidOpen e) Drops ws u x h = none_owed config None ws h.0
heard_met (Connect d) config t b (heard.InvalidOpen e) NamesFault ws u x h = one_owed config None (Faults (sets.Open e)) ws h.0 (faults_met config None (sets.Open e) (invalid_named config b e x.1 x.2))
heard_met (Connect d) config t b heard.BadVersion Drops ws u x h = none_owed config None ws h.0
heard_met (Connect d) config t b heard.Notification Drops ws u x h = none_owed config None ws h.0
heard_met (Connect d) config t b heard.Keepalive Drops ws u x h = none_owed config None ws h.0
heard_met (Connect d) config t b heard.Update Drops ws u x h = none_owed config None ws h.0
heard_met (Active d) config t b (heard.ValidOpen l e) Accepts ws u x h = subst (Each (CanBeMet config None)) (sym h.1) (open_met config None, (alive_met config None, tt))
heard_met (Active d) config t b (heard.ValidOpen l e) Drops ws u x h = none_owed config None ws h.0
heard_met (Active d) config t b (heard.ValidOpen l e) NamesFault ws u x h = one_owed config None (Faults (sets.Open e)) ws h.0 (faults_met config None (sets.Open e) (valid_named config b e x.1 x.3))
heard_met (Active d) config t b (heard.FaultyHeader f) Drops ws u x h = none_owed config None ws h.0
heard_met (Active d) config t b (heard.FaultyHeader f) NamesFault ws u x h = one_owed config None (Faults (sets.Header f)) ws h.0 (faults_met config None (sets.Header f) (header_named (received_limit config) (header_of b) f x.1 x.2))
heard_met (Active d) config t b (heard.InvalidOpen e) Drops ws u x h = none_owed config None ws h.0
heard_met (Active d) config t b (heard.InvalidOpen e) NamesFault ws u x h = one_owed config None (Faults (sets.Open e)) ws h.0 (faults_met config None (sets.Open e) (invalid_named config b e x.1 x.2))
heard_met (Active d) config t b heard.BadVersion Drops ws u x h = none_owed config None ws h.0
heard_met (Active d) config t b heard.Notification Drops ws u x h = none_owed config None ws h.0
heard_met (Active d) config t b heard.Keepalive Drops ws u x h = none_owed config None ws h.0
heard_met (Active d) config t b heard.Update Drops ws u x h = none_owed config None ws h.0
heard_met (OpenSent s) config t b (heard.ValidOpen l e) Accepts ws u x h = one_owed config None KeepAlive ws h.0 (alive_met config None)
heard_met (OpenSent s) config t b (heard.ValidOpen l e) Collides ws u x h = one_owed config None Cease ws h.0 (cease_met config None)
heard_met (OpenSent s) config t b (heard.ValidOpen l e) NamesFault ws u x h = one_owed config None (Faults (sets.Open e)) ws h.0 (faults_met config None (sets.Open e) (valid_named config b e x.1 x.3))
heard_met (OpenSent s) config t b (heard.FaultyHeader f) NamesFault ws u x h = one_owed config None (Faults (sets.Header f)) ws h.0 (faults_met config None (sets.Header f) (header_named (received_limit config) (header_of b) f x.1 x.2))
heard_met (OpenSent s) config t b (heard.InvalidOpen e) NamesFault ws u x h = one_owed config None (Faults (sets.Open e)) ws h.0 (faults_met config None (sets.Open e) (invalid_named config b e x.1 x.2))
heard_met (OpenSent s) config t b heard.BadVersion Drops ws u x h = none_owed config None ws h.0
heard_met (OpenSent s) config t b heard.Notification Drops ws u x h = none_owed config None ws h.0
heard_met (OpenSent s) config t b heard.Notification ReportsError ws u x h = one_owed config None (MachineError InOpenSent) ws h.0 (error_met config None InOpenSent)
heard_met (OpenSent s) config t b heard.Keepalive ReportsError ws u x h = one_owed config None (MachineError InOpenSent) ws h.0 (error_met config None InOpenSent)
heard_met (OpenSent s) config t b heard.Update ReportsError ws u x h = one_owed config None (MachineError InOpenSent) ws h.0 (error_met config None InOpenSent)
heard_met (OpenConfirm k s) config t b (heard.ValidOpen l e) Overlooks ws u x h = none_owed config (Some k) ws h.0
heard_met (OpenConfirm k s) config t b (heard.ValidOpen l e) Collides ws u x h = one_owed config (Some k) Cease ws h.0 (cease_met config (Some k))
heard_met (OpenConfirm k s) config t b (heard.ValidOpen l e) NamesFault ws u x h = one_owed config (Some k) (Faults (sets.Open e)) ws h.0 (faults_met config (Some k) (sets.Open e) (valid_named config b e x.1 x.3))
heard_met (OpenConfirm k s) config t b (heard.ValidOpen l e) ReportsError ws u x h = one_owed config (Some k) (MachineError InOpenConfirm) ws h.0 (error_met config (Some k) InOpenConfirm)
heard_met (OpenConfirm k s) config t b (heard.FaultyHeader f) NamesFault ws u x h = one_owed config (Some k) (Faults (sets.Header f)) ws h.0 (faults_met config (Some k) (sets.Header f) (header_named (received_limit config) (header_of b) f x.1 x.2))
heard_met (OpenConfirm k s) config t b (heard.InvalidOpen e) NamesFault ws u x h = one_owed config (Some k) (Faults (sets.Open e)) ws h.0 (faults_met config (Some k) (sets.Open e) (invalid_named config b e x.1 x.2))
heard_met (OpenConfirm k s) config t b heard.BadVersion Drops ws u x h = none_owed config (Some k) ws h.0
heard_met (OpenConfirm k s) config t b heard.Notification Drops ws u x h = none_owed config (Some k) ws h.0
heard_met (OpenConfirm k s) config t b heard.Keepalive Establishes ws u x h = none_owed config (Some k) ws h.0
heard_met (OpenConfirm k s) config t b heard.Update ReportsError ws u x h = one_owed config (Some k) (MachineError InOpenConfirm) ws h.0 (error_met config (Some k) InOpenConfirm)
heard_met (Established k s) config t b (heard.ValidOpen l e) Overlooks ws u x h = none_owed config (Some k) ws h.0
heard_met (Established k s) config t b (heard.ValidOpen l e) Collides ws u x h = one_owed config (Some k) Cease ws h.0 (cease_met config (Some k))
heard_met (Established k s) config t b (heard.ValidOpen l e) NamesFault ws u x h = one_owed config (Some k) (Faults (sets.Open e)) ws h.0 (faults_met config (Some k) (sets.Open e) (valid_named config b e x.1 x.3))
heard_met (Established k s) config t b (heard.ValidOpen l e) ReportsError ws u x h = one_owed config (Some k) (MachineError InEstablished) ws h.0 (error_met config (Some k) InEstablished)
heard_met (Established k s) config t b (heard.FaultyHeader f) NamesFault ws u x h = one_owed config (Some k) (Faults (sets.Header f)) ws h.0 (faults_met config (Some k) (sets.Header f) (header_named (received_limit config) (header_of b) f x.1 x.2))
heard_met (Established k s) config t b (heard.FaultyHeader f) ReportsError ws u x h = one_owed config (Some k) (MachineError InEstablished) ws h.0 (error_met config (Some k) InEstablished)
heard_met (Established k s) config t b (heard.InvalidOpen e) NamesFault ws u x h = one_owed config (Some k) (Faults (sets.Open e)) ws h.0 (faults_met config (Some k) (sets.Open e) (invalid_named config b e x.1 x.2))
heard_met (Established k s) config t b (heard.InvalidOpen e) ReportsError ws u x h = one_owed config (Some k) (MachineError InEstablished) ws h.0 (error_met config (Some k) InEstablished)
heard_met (Established k s) config t b heard.BadVersion Drops ws u x h = none_owed config (Some k) ws h.0
heard_met (Established k s) config t b heard.Notification Drops ws u x h = none_owed config (Some k) ws h.0
heard_met (Established k s) config t b heard.Keepalive Renews ws u x h = none_owed config (Some k) ws h.0
heard_met (Established k s) config t b heard.Update NamesFault ws u x h = one_owed config (Some k) (Faults (sets.Update h.0)) ws h.2 (faults_met config (Some k) (sets.Update h.0) (update_named k b h.0 h.1))
heard_met (Established k s) config t b heard.Update (Applies g) ws u x h = none_owed config (Some k) ws h.2
heard_met head config t b m row ws u x h = absurd h

pub each_met : HasCleanUpdate → EachOwedCanBeMet
each_met clean head config t (Hidden row) ws u h = hidden_met clean head config t row ws u h
each_met clean head config t (Received octets) ws u h = heard_met head config t octets h.0 h.1 ws u h.2 h.3

-- what can be met names a fault
some_fault : (config : Config) (link : Option Link) (want : Want) → CanBeMet config link want → (faults : FaultSet) → want ≡ Faults faults → HasFault faults
some_fault config link want met faults e =
    let m : Meets config link (Faults faults) met.0 = subst (λ (w : Want). Meets config link w met.0) e met.2 in
    let f = m.fulfils in (f.0, f.1, f.2, f.4)

some_faults : (config : Config) (link : Option Link) (ws : List Want) → Each (CanBeMet config link) ws
    → Each (λ want. (faults : FaultSet) → want ≡ Faults faults → HasFault faults) ws
some_faults config link [] e = tt
some_faults config link (w ∷ ws) e = (some_fault config link w e.0, some_faults config link ws e.1)

pub each_set_has_fault : HasCleanUpdate → EachOwedSetHasFault
each_set_has_fault clean head config t event ws u h = some_faults config (link_at head) ws (each_met clean head config t event ws u h)

-- ---- notes

stays : (config : Config) (s : SessionState) (head : Head) (t : ℕ) (ws : List Want) (turn : Turn) → head ≡ s.head → HiddenIn head config t Notes ws turn
    → (ws ≡ []) × (moved s turn ≡ s)
stays config s1 Idle t ws turn e h = (h.0, ap (λ (v : Turn). moved s1 v) h.1 ∙ (λ i. record { head = e i; routes = s1.routes }))
stays config s1 (Connect d) t ws turn e h = (h.0, ap (λ (v : Turn). moved s1 v) h.1 ∙ (λ i. record { head = e i; routes = s1.routes }))
stays config s1 (Active d) t ws turn e h = (h.0, ap (λ (v : Turn). moved s1 v) h.1 ∙ (λ i. record { head = e i; routes = s1.routes }))
stays config s1 (OpenSent s) t ws turn e h = (h.0, ap (λ (v : Turn). moved s1 v) h.1 ∙ (λ i. record { head = e i; routes = s1.routes }))
stays config s1 (OpenConfirm k s) t ws turn e h = (h.0, ap (λ (v : Turn). moved s1 v) h.1 ∙ (λ i. record { head = e i; routes = s1.routes }))
stays config s1 (Established k s) t ws turn e h = (h.0, ap (λ (v : Turn). moved s1 v) h.1 ∙ (λ i. record { head = e i; routes = s1.routes }))

pub note_keeps : NoteKeepsState
note_keeps config s s2 t ws step =
    let kept = stays config s s.head t ws step.0 refl step.1 in (kept.0, step.2 ∙ kept.1)
