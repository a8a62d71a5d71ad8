-- What may follow records is told in one way.
use Rattle.std.proofs.Common.{◌≡◌, ◌∙◌, ◌↔◌, ◌⊎◌, ◌≤◌, ◌<◌, ◌^◌, ℕ, Bool, true, false, IsTrue, IfSome, IsSomeAnd, MatchOption, is_some, List, Option, None, Some, length, refl, sym, ap, inl, inr, arith}
use Rattle.byteorder.specs.Endian.{big_bytes}
use Rattle.bgp_prefix.specs.Shown.{ShownRecord, Sent}
use Rattle.bgp_wire.specs.Header.{header_of, length_of, type_of}
use Rattle.bgp_wire.specs.Message.{IsMessage}
use Rattle.bgp_wire.proofs.OneFaultSet.{same_bool}
use Rattle.bgp_open.specs.declared.config.Config.{Config}
use Rattle.bgp_open.specs.declared.link.Link.{Link}
use Rattle.bgp_open.specs.Notification.{IsNotification}
use Rattle.bgp_open.specs.OwnOpen.{IsOwnOpen}
use Rattle.bgp_open.specs.Written.{notification_octets}
use Rattle.bgp_open.proofs.WrittenNotification.{written_notification}
use Rattle.bgp_machine.specs.declared.fsm.Fsm.TheVariants as fsms
use Rattle.bgp_machine.specs.Want.{Tells}
use Rattle.bgp_reason.specs.declared.kinds.Possible.{Possible}
use Rattle.bgp_reason.specs.Asked.{AreAsked, IsLeastSecond, MayNotify}
use Rattle.bgp_reason.specs.Possible.{ArePossible, IsCleanOn, IsNotified}
use Rattle.bgp_reason.specs.Sending.{sending_link}
use Rattle.bgp_reason.specs.Told.{last_message}
use Rattle.bgp_reason.proofs.OneForAll.{one_message, says}

-- booleans that say the same are one
pub same : (P : Type 0) (b c : Bool) → (IsTrue b ↔ P) → (IsTrue c ↔ P) → b ≡ c
same P b c h k = same_bool b c (λ t. k.1 (h.0 t)) (λ t. h.1 (k.0 t))

there : (o : Option ℕ) (D : ℕ → Type 0) → IsSomeAnd o D → IsTrue (is_some o)
there None D h = absurd h
there (Some n) D h = refl

-- a field that is there wherever something is so of a number, which is so of one
one_field : (o p : Option ℕ) (A : Type 0) (B : ℕ → Type 0) → MatchOption o A B → MatchOption p A B → ((n m : ℕ) → B n → B m → n ≡ m)
    → ((n : ℕ) → B n → IsTrue (is_some o)) → ((n : ℕ) → B n → IsTrue (is_some p)) → o ≡ p
one_field None None A B h k only in_one in_other = refl
one_field None (Some m) A B h k only in_one in_other = absurd (let e : false ≡ true = in_one m k in cc)
one_field (Some n) None A B h k only in_one in_other = absurd (let e : false ≡ true = in_other n h in cc)
one_field (Some n) (Some m) A B h k only in_one in_other = let e : n ≡ m = only n m h k in ap Some e

clean_message : (link : Option Link) (o : List ℕ) → IsCleanOn link o → IsMessage 2 o
clean_message None o h = absurd h
clean_message (Some link) o h = h.2.message

short_two : (n : ℕ) → length (big_bytes 2 n) ≤ 4075
short_two n = let e : length (big_bytes 2 n) ≡ 2 = refl in omega arith

short_one : (n : ℕ) → length (big_bytes 1 n) ≤ 4075
short_one n = let e : length (big_bytes 1 n) ≡ 1 = refl in omega arith

length_of_notified : (p : Possible) (d : List ℕ) → IsNotified p 0 1 2 d → IsSomeAnd p.header_errors.length (λ count. d ≡ big_bytes 2 count)
length_of_notified p d (inl (e, inl x)) = absurd (let k : 2 ≡ 1 = x.0 in cc)
length_of_notified p d (inl (e, inr (inl x))) = x.1
length_of_notified p d (inl (e, inr (inr x))) = absurd (let k : 2 ≡ 3 = x.0 in cc)
length_of_notified p d (inr (inl x)) = absurd (let k : 1 ≡ 2 = x.0 in cc)
length_of_notified p d (inr (inr (inl x))) = absurd (let k : 1 ≡ 3 = x.0 in cc)
length_of_notified p d (inr (inr (inr (inl x)))) = absurd (let k : 1 ≡ 4 = x.0 in cc)
length_of_notified p d (inr (inr (inr (inr (inl x))))) = absurd (let k : 1 ≡ 5 = x.0 in cc)
length_of_notified p d (inr (inr (inr (inr (inr (inl x)))))) = absurd (let k : 1 ≡ 6 = x.0 in cc)
length_of_notified p d (inr (inr (inr (inr (inr (inr x)))))) = absurd (let k : 1 ≡ 8 = x.0 in cc)

kind_of_notified : (p : Possible) (d : List ℕ) → IsNotified p 0 1 3 d → IsSomeAnd p.header_errors.kind (λ kind. d ≡ big_bytes 1 kind)
kind_of_notified p d (inl (e, inl x)) = absurd (let k : 3 ≡ 1 = x.0 in cc)
kind_of_notified p d (inl (e, inr (inl x))) = absurd (let k : 3 ≡ 2 = x.0 in cc)
kind_of_notified p d (inl (e, inr (inr x))) = x.1
kind_of_notified p d (inr (inl x)) = absurd (let k : 1 ≡ 2 = x.0 in cc)
kind_of_notified p d (inr (inr (inl x))) = absurd (let k : 1 ≡ 3 = x.0 in cc)
kind_of_notified p d (inr (inr (inr (inl x)))) = absurd (let k : 1 ≡ 4 = x.0 in cc)
kind_of_notified p d (inr (inr (inr (inr (inl x))))) = absurd (let k : 1 ≡ 5 = x.0 in cc)
kind_of_notified p d (inr (inr (inr (inr (inr (inl x)))))) = absurd (let k : 1 ≡ 6 = x.0 in cc)
kind_of_notified p d (inr (inr (inr (inr (inr (inr x)))))) = absurd (let k : 1 ≡ 8 = x.0 in cc)

module _ (config : Config) (records : List ShownRecord) where
  -- a NOTIFICATION that is among those that are possible is possible by what it says
  notified_by : (p : Possible) (code subcode : ℕ) (detail o : List ℕ) → IsNotification o code subcode detail
      → (IsTrue p.own_open × IsOwnOpen config o) ⊎ (IsTrue p.keepalive × IsMessage 4 o) ⊎ (IsTrue p.update × IsCleanOn (sending_link config records) o) ⊎ Tells o (IsNotified p 0)
      → IsNotified p 0 code subcode detail
  notified_by p code subcode detail o is (inl own) = absurd (let e : 1 ≡ 3 = one_message 1 3 o own.1.form.readable.whole.message is.message in cc)
  notified_by p code subcode detail o is (inr (inl alive)) = absurd (let e : 4 ≡ 3 = one_message 4 3 o alive.1 is.message in cc)
  notified_by p code subcode detail o is (inr (inr (inl clean))) =
      absurd (let e : 2 ≡ 3 = one_message 2 3 o (clean_message (sending_link config records) o clean.1) is.message in cc)
  notified_by p code subcode detail o is (inr (inr (inr tells))) = says o code subcode detail (IsNotified p 0) is tells

  notified : (p : Possible) → ArePossible config records p → (code subcode : ℕ) (detail : List ℕ) → length detail ≤ 4075
      → MayNotify config records code subcode detail → IsNotified p 0 code subcode detail
  notified p are code subcode detail short may =
      let o = notification_octets code subcode detail in
      let can : 0 < 2 ^ 32 = omega arith in
      notified_by p code subcode detail o (written_notification code subcode detail short) ((are (Sent 0 o) can).0 may).1

  one_least : (o p : Option ℕ) → IsLeastSecond config records o → IsLeastSecond config records p → IfSome o (λ from. from < 2 ^ 32) → IfSome p (λ from. from < 2 ^ 32) → o ≡ p
  one_least None None h k few fewer = refl
  one_least None (Some m) h k few fewer = absurd (h m fewer k.0)
  one_least (Some n) None h k few fewer = absurd (k n few h.0)
  one_least (Some n) (Some m) h k few fewer =
      let x : n ≤ m = h.1 m k.0 in
      let y : m ≤ n = k.1 n h.0 in
      let e : n ≡ m = omega (arith, x, y) in ap Some e

  module _ (p q : Possible) (h : AreAsked config records p) (k : AreAsked config records q) (are : ArePossible config records p) (is : ArePossible config records q) where
    one_header : p.header_errors ≡ q.header_errors
    one_header =
        let last = last_message records in
        let marker = same _ p.header_errors.marker q.header_errors.marker h.header_errors.marker k.header_errors.marker in
        let count = one_field p.header_errors.length q.header_errors.length
        (19 ≤ length last → ¬ MayNotify config records 1 2 (big_bytes 2 (length_of (header_of last))))
        (λ n. (n ≡ length_of (header_of last)) × MayNotify config records 1 2 (big_bytes 2 n))
        h.header_errors.bad_length k.header_errors.bad_length (λ n m x y. x.0 ∙ sym y.0)
        (λ n x. there p.header_errors.length (λ v. big_bytes 2 n ≡ big_bytes 2 v) (length_of_notified p (big_bytes 2 n) (notified p are 1 2 (big_bytes 2 n) (short_two n) x.1)))
        (λ n x. there q.header_errors.length (λ v. big_bytes 2 n ≡ big_bytes 2 v) (length_of_notified q (big_bytes 2 n) (notified q is 1 2 (big_bytes 2 n) (short_two n) x.1)))
        in
        let kind = one_field p.header_errors.kind q.header_errors.kind
        (19 ≤ length last → ¬ MayNotify config records 1 3 (big_bytes 1 (type_of (header_of last))))
        (λ n. (n ≡ type_of (header_of last)) × MayNotify config records 1 3 (big_bytes 1 n))
        h.header_errors.bad_type k.header_errors.bad_type (λ n m x y. x.0 ∙ sym y.0)
        (λ n x. there p.header_errors.kind (λ v. big_bytes 1 n ≡ big_bytes 1 v) (kind_of_notified p (big_bytes 1 n) (notified p are 1 3 (big_bytes 1 n) (short_one n) x.1)))
        (λ n x. there q.header_errors.kind (λ v. big_bytes 1 n ≡ big_bytes 1 v) (kind_of_notified q (big_bytes 1 n) (notified q is 1 3 (big_bytes 1 n) (short_one n) x.1)))
        in λ i. record { marker = marker i; length = count i; kind = kind i }

    one_open : p.open_errors ≡ q.open_errors
    one_open =
        let unspecific = same _ p.open_errors.unspecific q.open_errors.unspecific h.open_errors.unspecific k.open_errors.unspecific in
        let version = same _ p.open_errors.version q.open_errors.version h.open_errors.version k.open_errors.version in
        let peer_as = same _ p.open_errors.peer_as q.open_errors.peer_as h.open_errors.peer_as k.open_errors.peer_as in
        let identifier = same _ p.open_errors.identifier q.open_errors.identifier h.open_errors.identifier k.open_errors.identifier in
        let parameter = same _ p.open_errors.parameter q.open_errors.parameter h.open_errors.parameter k.open_errors.parameter in
        let hold = same _ p.open_errors.hold q.open_errors.hold h.open_errors.hold k.open_errors.hold in
        let capability = same _ p.open_errors.capability q.open_errors.capability h.open_errors.capability k.open_errors.capability in
        let role = same _ p.open_errors.role q.open_errors.role h.open_errors.role k.open_errors.role in
        λ i. record {
          unspecific = unspecific i;
          version = version i;
          peer_as = peer_as i;
          identifier = identifier i;
          parameter = parameter i;
          hold = hold i;
          capability = capability i;
          role = role i;
        }

    one_update : p.update_errors ≡ q.update_errors
    one_update =
        let a = same _ p.update_errors.malformed_attribute_list q.update_errors.malformed_attribute_list h.update_errors.malformed_attribute_list k.update_errors.malformed_attribute_list in
        let b = same _ p.update_errors.unrecognized_well_known q.update_errors.unrecognized_well_known h.update_errors.unrecognized_well_known k.update_errors.unrecognized_well_known in
        let c = same _ p.update_errors.missing_well_known q.update_errors.missing_well_known h.update_errors.missing_well_known k.update_errors.missing_well_known in
        let d = same _ p.update_errors.attribute_flags q.update_errors.attribute_flags h.update_errors.attribute_flags k.update_errors.attribute_flags in
        let e = same _ p.update_errors.attribute_length q.update_errors.attribute_length h.update_errors.attribute_length k.update_errors.attribute_length in
        let f = same _ p.update_errors.invalid_origin q.update_errors.invalid_origin h.update_errors.invalid_origin k.update_errors.invalid_origin in
        let g = same _ p.update_errors.as_routing_loop q.update_errors.as_routing_loop h.update_errors.as_routing_loop k.update_errors.as_routing_loop in
        let l = same _ p.update_errors.invalid_next_hop q.update_errors.invalid_next_hop h.update_errors.invalid_next_hop k.update_errors.invalid_next_hop in
        let m = same _ p.update_errors.optional_attribute q.update_errors.optional_attribute h.update_errors.optional_attribute k.update_errors.optional_attribute in
        let n = same _ p.update_errors.invalid_network_field q.update_errors.invalid_network_field h.update_errors.invalid_network_field k.update_errors.invalid_network_field in
        let o = same _ p.update_errors.malformed_as_path q.update_errors.malformed_as_path h.update_errors.malformed_as_path k.update_errors.malformed_as_path in
        λ i. record {
          malformed_attribute_list = a i;
          unrecognized_well_known = b i;
          missing_well_known = c i;
          attribute_flags = d i;
          attribute_length = e i;
          invalid_origin = f i;
          as_routing_loop = g i;
          invalid_next_hop = l i;
          optional_attribute = m i;
          invalid_network_field = n i;
          malformed_as_path = o i;
        }

    one_fsm : p.fsm_errors ≡ q.fsm_errors
    one_fsm =
        let unspecified = same _ p.fsm_errors.unspecified q.fsm_errors.unspecified h.fsm_errors.unspecified k.fsm_errors.unspecified in
        let open_sent = same _ p.fsm_errors.open_sent q.fsm_errors.open_sent h.fsm_errors.open_sent k.fsm_errors.open_sent in
        let open_confirm = same _ p.fsm_errors.open_confirm q.fsm_errors.open_confirm h.fsm_errors.open_confirm k.fsm_errors.open_confirm in
        let established = same _ p.fsm_errors.established q.fsm_errors.established h.fsm_errors.established k.fsm_errors.established in
        λ i. record { unspecified = unspecified i; open_sent = open_sent i; open_confirm = open_confirm i; established = established i }

    one_changes : p.changes ≡ q.changes
    one_changes =
        let idle = same _ p.changes.idle q.changes.idle (h.changes fsms.Idle) (k.changes fsms.Idle) in
        let connect = same _ p.changes.connect q.changes.connect (h.changes fsms.Connect) (k.changes fsms.Connect) in
        let active = same _ p.changes.active q.changes.active (h.changes fsms.Active) (k.changes fsms.Active) in
        let open_sent = same _ p.changes.open_sent q.changes.open_sent (h.changes fsms.OpenSent) (k.changes fsms.OpenSent) in
        let open_confirm = same _ p.changes.open_confirm q.changes.open_confirm (h.changes fsms.OpenConfirm) (k.changes fsms.OpenConfirm) in
        let established = same _ p.changes.established q.changes.established (h.changes fsms.Established) (k.changes fsms.Established) in
        λ i. record { idle = idle i; connect = connect i; active = active i; open_sent = open_sent i; open_confirm = open_confirm i; established = established i }

    pub same_possible : IfSome p.hold_timer_expired (λ from. from < 2 ^ 32) → IfSome q.hold_timer_expired (λ from. from < 2 ^ 32) → p ≡ q
    same_possible few fewer =
        let state = h.state ∙ sym k.state in
        let message = same _ p.message q.message h.message k.message in
        let own_open = same _ p.own_open q.own_open h.own_open k.own_open in
        let keepalive = same _ p.keepalive q.keepalive h.keepalive k.keepalive in
        let update = same _ p.update q.update h.update k.update in
        let expired = one_least p.hold_timer_expired q.hold_timer_expired h.hold_timer_expired k.hold_timer_expired few fewer in
        let send = same _ p.send_hold_timer_expired q.send_hold_timer_expired h.send_hold_timer_expired k.send_hold_timer_expired in
        let cease = same _ p.cease q.cease h.cease k.cease in
        λ i. record {
          state = state i;
          message = message i;
          own_open = own_open i;
          keepalive = keepalive i;
          update = update i;
          header_errors = one_header i;
          open_errors = one_open i;
          update_errors = one_update i;
          hold_timer_expired = expired i;
          send_hold_timer_expired = send i;
          fsm_errors = one_fsm i;
          cease = cease i;
          changes = one_changes i;
        }
