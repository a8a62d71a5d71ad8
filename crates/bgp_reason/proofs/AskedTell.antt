-- What is so of one record of each kind tells all that may follow.
use Rattle.std.proofs.Common.{◌≡◌, ◌≤◌, ◌<◌, ◌^◌, ◌⊎◌, ◌+◌, inl, inr, ℕ, zero, suc, Bool, true, false, IsTrue, IfSome, IsSomeAnd, MatchOption, List, [], ◌∷◌, Option, None, Some, length, get_or, refl, sym, ap, subst, ◌∙◌, arith}
use Rattle.std.proofs.Math.Nat.{le_refl}
use Rattle.byteorder.specs.Endian.{big_bytes}
use Rattle.bgp_prefix.specs.Shown.{ShownRecord, Received, Sent, Changed}
use Rattle.bgp_wire.specs.declared.header.HeaderFaults.{HeaderFaults}
use Rattle.bgp_wire.specs.declared.header.Limit.{Limit}
use Rattle.bgp_wire.specs.declared.header.Limit.TheVariants.{Plain, Extended}
use Rattle.bgp_wire.specs.Framing.{IsFrame}
use Rattle.bgp_wire.specs.Header.{IsBadLength, greatest_length, header_of, length_of, type_of}
use Rattle.bgp_wire.specs.Message.{IsMessage, message_octets}
use Rattle.bgp_wire.specs.Verdict.{Names as NamesHeader}
use Rattle.bgp_wire.proofs.WrittenMessage.{written_message}
use Rattle.bgp_open.specs.declared.config.Config.{Config}
use Rattle.bgp_open.specs.declared.link.Link.{Link}
use Rattle.bgp_open.specs.declared.subcodes.OpenSubcodes.{OpenSubcodes}
use Rattle.bgp_open.specs.Notification.{IsNotification}
use Rattle.bgp_open.specs.OpenSubcodes.{Names as NamesOpen}
use Rattle.bgp_open.specs.OwnOpen.{IsOwnOpen, own_fields}
use Rattle.bgp_open.specs.Written.{notification_octets, open_octets}
use Rattle.bgp_open.proofs.OwnOpens.{is_frame, octets-own_open, own_open}
use Rattle.bgp_open.proofs.WrittenNotification.{notification_frame, written_notification}
use Rattle.bgp_machine.specs.DeclaredSubcodes.{Subcodes}
use Rattle.bgp_machine.specs.Laws.{HasCleanUpdate, empty_update}
use Rattle.bgp_machine.specs.Subcodes.{HasSubcode, marks_of}
use Rattle.bgp_machine.specs.declared.fsm.Fsm.{Fsm}
use Rattle.bgp_machine.specs.declared.want.FaultSet.TheVariants as sets
use Rattle.bgp_machine.specs.declared.want.Unexpected.{Unexpected}
use Rattle.bgp_machine.specs.declared.want.Unexpected.TheVariants.{InOpenSent, InOpenConfirm, InEstablished}
use Rattle.bgp_machine.specs.declared.want.Want.{Want}
use Rattle.bgp_machine.specs.declared.want.Want.TheVariants.{OwnOpen, KeepAlive, CleanUpdate, Cease, HoldExpired, SendHoldExpired, MachineError, Faults}
use Rattle.bgp_machine.specs.Owed.{EachOwedCanBeMet}
use Rattle.bgp_machine.specs.State.{number_of}
use Rattle.bgp_machine.specs.Want.{Fulfils, Meets, Tells, limit_on, subcode_of}
use Rattle.bgp_judge.specs.Told.{told}
use Rattle.bgp_reason.specs.declared.kinds.FsmErrors.{FsmErrors}
use Rattle.bgp_reason.specs.declared.kinds.Possible.{Possible}
use Rattle.bgp_reason.specs.Asked.{AreAsked, AreFsmErrors, AreUpdateErrors, AskedTellAll, ExpiresFromThenOn, IsLeastSecond, MayExpire, MayNotify}
use Rattle.bgp_reason.specs.Following.{MayFollow}
use Rattle.bgp_reason.specs.Possible.{HasFsmError, IsAmong, IsCleanOn, IsNotified}
use Rattle.bgp_reason.specs.Sending.{sending_link}
use Rattle.bgp_reason.specs.Told.{last_message}
use Rattle.bgp_reason.proofs.OneForAll.{IsLike, alive_frame, on_link, one_message, alive_heard, alive_is_message, changes_at, is_alive, is_open, is_update, messages_alike, notified, sending, type_for, typed}
use Rattle.bgp_reason.proofs.OwedRows.{IsGoing, IsHeaderOf}

-- ---- NOTIFICATIONs that are like each other

like_same : (c s : ℕ) (d : List ℕ) → IsLike c s d s d
like_same c s d = record { subcode = inl refl; header = λ f e n. n; opening = λ f e n. n }

like_free : (c s : ℕ) (d d2 : List ℕ) → (c ≡ 1 → ⊥) → (c ≡ 2 → ⊥) → IsLike c s d s d2
like_free c s d d2 no1 no2 = record { subcode = inl refl; header = λ f e n. absurd (no1 e); opening = λ f e n. absurd (no2 e) }

like_cease : (s s2 : ℕ) (d d2 : List ℕ) → IsLike 6 s d s2 d2
like_cease s s2 d d2 = record { subcode = inr refl; header = λ f e n. absurd (let k : 6 ≡ 1 = e in cc); opening = λ f e n. absurd (let k : 6 ≡ 2 = e in cc) }

marker_free : (f : HeaderFaults) (d d2 : List ℕ) → NamesHeader f 1 d → NamesHeader f 1 d2
marker_free f d d2 (inl x) = inl x
marker_free f d d2 (inr (inl x)) = absurd (let k : 1 ≡ 2 = x.0 in cc)
marker_free f d d2 (inr (inr x)) = absurd (let k : 1 ≡ 3 = x.0 in cc)

like_marker : (d d2 : List ℕ) → IsLike 1 1 d 1 d2
like_marker d d2 = record { subcode = inl refl; header = λ f e n. marker_free f d d2 n; opening = λ f e n. absurd (let k : 1 ≡ 2 = e in cc) }

open_free : (f : OpenSubcodes) (s : ℕ) (d d2 : List ℕ) → (s ≡ 1 → ⊥) → NamesOpen f s d → NamesOpen f s d2
open_free f s d d2 unless (inl x) = inl x
open_free f s d d2 unless (inr (inl x)) = absurd (unless x.0)
open_free f s d d2 unless (inr (inr (inl x))) = inr (inr (inl x))
open_free f s d d2 unless (inr (inr (inr (inl x)))) = inr (inr (inr (inl x)))
open_free f s d d2 unless (inr (inr (inr (inr (inl x))))) = inr (inr (inr (inr (inl x))))
open_free f s d d2 unless (inr (inr (inr (inr (inr (inl x)))))) = inr (inr (inr (inr (inr (inl x)))))
open_free f s d d2 unless (inr (inr (inr (inr (inr (inr (inl x))))))) = inr (inr (inr (inr (inr (inr (inl x))))))
open_free f s d d2 unless (inr (inr (inr (inr (inr (inr (inr x))))))) = inr (inr (inr (inr (inr (inr (inr x))))))

like_open : (s : ℕ) (d d2 : List ℕ) → (s ≡ 1 → ⊥) → IsLike 2 s d s d2
like_open s d d2 unless = record { subcode = inl refl; header = λ f e n. absurd (let k : 2 ≡ 1 = e in cc); opening = λ f e n. open_free f s d d2 unless n }

abbrev no_data : List ℕ
no_data = []

short_none : length no_data ≤ 4075
short_none = omega arith

short_two : (n : ℕ) → length (big_bytes 2 n) ≤ 4075
short_two n = let e : length (big_bytes 2 n) ≡ 2 = refl in omega arith

short_one : (n : ℕ) → length (big_bytes 1 n) ≤ 4075
short_one n = let e : length (big_bytes 1 n) ≡ 1 = refl in omega arith

from_zero : (t : ℕ) → 0 ≤ t
from_zero t = omega arith

-- the one that is asked about, and another
module _ (law : EachOwedCanBeMet) (config : Config) (records : List ShownRecord) (t : ℕ) (o : List ℕ) where
  to_asked : (c s : ℕ) (d : List ℕ) (s2 : ℕ) (d2 : List ℕ) → IsNotification o c s d → IsLike c s d s2 d2 → length d2 ≤ 4075 → (c ≡ 4 → ⊥)
      → MayFollow config records (Sent t o) → MayNotify config records c s2 d2
  to_asked c s d s2 d2 p l short unless may =
      notified law config records t 0 o (notification_octets c s2 d2) c s d s2 d2 p (written_notification c s2 d2 short) l
      (notification_frame c s2 d2 short (limit_on (sending_link config records))) (inr unless) may

  from_asked : (c s : ℕ) (d : List ℕ) (s2 : ℕ) (d2 : List ℕ) → IsNotification o c s d → IsLike c s2 d2 s d → length d2 ≤ 4075
      → IsFrame (limit_on (sending_link config records)) o → MayNotify config records c s2 d2 → MayFollow config records (Sent t o)
  from_asked c s d s2 d2 p l short frame may =
      notified law config records 0 t (notification_octets c s2 d2) o c s2 d2 s d (written_notification c s2 d2 short) p l frame (inl (from_zero t)) may

pub expires_on : EachOwedCanBeMet → ExpiresFromThenOn
expires_on law config records second later le may =
    notified law config records second later (notification_octets 4 0 []) (notification_octets 4 0 []) 4 0 [] 0 [] (written_notification 4 0 [] short_none) (written_notification 4 0 [] short_none)
    (like_same 4 0 []) (notification_frame 4 0 [] short_none (limit_on (sending_link config records))) (inl le) may

-- ---- sets of subcodes, mark by mark

abbrev AreMarked : (P : ℕ → Type 0) → ℕ → List Bool → List Bool → Type 0
AreMarked P n [] [] = Unit {0}
AreMarked P n (x ∷ xs) [] = ⊥
AreMarked P n [] (y ∷ ys) = ⊥
AreMarked P n (x ∷ xs) (y ∷ ys) = (IsTrue x → P n → IsTrue y) × AreMarked P (n + 1) xs ys

marked : (P : ℕ → Type 0) (base : ℕ) (xs ys : List Bool) → AreMarked P base xs ys → (n : ℕ) → IsTrue (get_or xs n false) → P (base + n) → IsTrue (get_or ys n false)
marked P base [] [] m n h p = h
marked P base [] (y ∷ ys) m n h p = absurd m
marked P base (x ∷ xs) [] m n h p = absurd m
marked P base (x ∷ xs) (y ∷ ys) m zero h p = m.0 h (let e : base + 0 ≡ base = omega arith in subst P e p)
marked P base (x ∷ xs) (y ∷ ys) m (suc n) h p = marked P (base + 1) xs ys m.1 n h (let e : base + suc n ≡ (base + 1) + n = omega arith in subst P e p)

abbrev AreFollowed : (P : ℕ → Type 0) → ℕ → List Bool → Type 0
AreFollowed P n [] = Unit {0}
AreFollowed P n (y ∷ ys) = (IsTrue y → P n) × AreFollowed P (n + 1) ys

followed : (P : ℕ → Type 0) (base : ℕ) (ys : List Bool) → AreFollowed P base ys → (n : ℕ) → IsTrue (get_or ys n false) → P (base + n)
followed P base [] m n h = absurd (let k : false ≡ true = h in cc)
followed P base (y ∷ ys) m zero h = let e : base ≡ base + 0 = omega arith in subst P e (m.0 h)
followed P base (y ∷ ys) m (suc n) h = let e : (base + 1) + n ≡ base + suc n = omega arith in subst P e (followed P (base + 1) ys m.1 n h)

zero_more : (P : ℕ → Type 0) (n : ℕ) → P n → P (0 + n)
zero_more P n p = let e : n ≡ 0 + n = omega arith in subst P e p

zero_less : (P : ℕ → Type 0) (n : ℕ) → P (0 + n) → P n
zero_less P n p = let e : 0 + n ≡ n = omega arith in subst P e p

-- ---- frames of messages that are never long

frame_to : (limit other : Limit) (o : List ℕ) (kind : ℕ) → greatest_length limit kind ≡ greatest_length other kind → IsMessage kind o → IsFrame limit o → IsFrame other o
frame_to limit other o kind e m frame = record {
  header = frame.header;
  sound = λ subcode detail fault. frame.sound subcode detail (elim fault [
    | inl a ↦ inl a
    | inr b ↦ inr (elim b [
      | inl c ↦ inl (c.0, bad c.1, c.2)
      | inr d ↦ inr d
    ])
  ]);
  whole = frame.whole;
} where
  same : greatest_length other (type_of (header_of o)) ≡ greatest_length limit (type_of (header_of o))
  same = subst (λ (k : ℕ). greatest_length other k ≡ greatest_length limit k) (sym m.type_field) (sym e)

  bad : IsBadLength other (type_of (header_of o)) (length_of (header_of o)) → IsBadLength limit (type_of (header_of o)) (length_of (header_of o))
  bad (inl few) = inl few
  bad (inr (inl many)) = inr (inl (subst (λ (g : ℕ). g < length_of (header_of o)) same many))
  bad (inr (inr other)) = inr (inr other)

one_greatest : (limit other : Limit) → greatest_length limit 1 ≡ greatest_length other 1
one_greatest Plain Plain = refl
one_greatest Plain Extended = refl
one_greatest Extended Plain = refl
one_greatest Extended Extended = refl

four_greatest : (limit other : Limit) → greatest_length limit 4 ≡ greatest_length other 4
four_greatest Plain Plain = refl
four_greatest Plain Extended = refl
four_greatest Extended Plain = refl
four_greatest Extended Extended = refl

-- ---- a message for each want

open_meets : (config : Config) (link : Option Link) → Meets config link OwnOpen (open_octets (own_fields config))
open_meets config link = record {
  whole = is_frame (open_octets (own_fields config)) (octets-own_open config) (own_open config).form (limit_on link);
  fulfils = own_open config;
}

alive_meets : (config : Config) (link : Option Link) → Meets config link KeepAlive (message_octets 4 [])
alive_meets config link = record { whole = alive_frame (limit_on link); fulfils = alive_is_message }

empty_meets : HasCleanUpdate → (config : Config) (link : Option Link) (o : List ℕ) → Fulfils config link CleanUpdate o → Meets config link CleanUpdate empty_update
empty_meets clean config None o f = absurd f
empty_meets clean config (Some link) o f = record { whole = clean.frame (limit_on (Some link)); fulfils = clean.clean link }

clean_on : (config : Config) (link : Option Link) (o : List ℕ) → Fulfils config link CleanUpdate o → IsCleanOn link o
clean_on config None o f = f
clean_on config (Some link) o f = f

fulfils_clean : (config : Config) (link : Option Link) (o : List ℕ) → IsCleanOn link o → Fulfils config link CleanUpdate o
fulfils_clean config None o f = f
fulfils_clean config (Some link) o f = f

not_hold_open : OwnOpen ≡ HoldExpired → ⊥
not_hold_open e = cc

not_hold_alive : KeepAlive ≡ HoldExpired → ⊥
not_hold_alive e = cc

not_hold_update : CleanUpdate ≡ HoldExpired → ⊥
not_hold_update e = cc

expired_so : (config : Config) (records : List ShownRecord) (from : Option ℕ) (t : ℕ) → IsLeastSecond config records from → t < 2 ^ 32 → MayExpire config records t
    → IsSomeAnd from (λ least. least ≤ t)
expired_so config records None t l small may = absurd (l t small may)
expired_so config records (Some least) t l small may = l.1 t may

expires_at : (config : Config) (records : List ShownRecord) (from : Option ℕ) (t : ℕ) → IsLeastSecond config records from → IsSomeAnd from (λ least. least ≤ t)
    → (least : ℕ) × MayExpire config records least × (least ≤ t)
expires_at config records None t l late = absurd late
expires_at config records (Some least) t l late = (least, l.0, late)

length_so : (config : Config) (records : List ShownRecord) (count : Option ℕ) (d : List ℕ) → 19 ≤ length (last_message records)
    → MatchOption count (19 ≤ length (last_message records) → ¬ MayNotify config records 1 2 (big_bytes 2 (length_of (header_of (last_message records)))))
    (λ n. (n ≡ length_of (header_of (last_message records))) × MayNotify config records 1 2 (big_bytes 2 n))
    → d ≡ big_bytes 2 (length_of (header_of (last_message records))) → MayNotify config records 1 2 (big_bytes 2 (length_of (header_of (last_message records))))
    → IsSomeAnd count (λ n. d ≡ big_bytes 2 n)
length_so config records None d whole a e may = absurd (a whole may)
length_so config records (Some n) d whole a e may = e ∙ ap (λ (v : ℕ). big_bytes 2 v) (sym a.0)

kind_so : (config : Config) (records : List ShownRecord) (kind : Option ℕ) (d : List ℕ) → 19 ≤ length (last_message records)
    → MatchOption kind (19 ≤ length (last_message records) → ¬ MayNotify config records 1 3 (big_bytes 1 (type_of (header_of (last_message records)))))
    (λ n. (n ≡ type_of (header_of (last_message records))) × MayNotify config records 1 3 (big_bytes 1 n))
    → d ≡ big_bytes 1 (type_of (header_of (last_message records))) → MayNotify config records 1 3 (big_bytes 1 (type_of (header_of (last_message records))))
    → IsSomeAnd kind (λ n. d ≡ big_bytes 1 n)
kind_so config records None d whole a e may = absurd (a whole may)
kind_so config records (Some n) d whole a e may = e ∙ ap (λ (v : ℕ). big_bytes 1 v) (sym a.0)

if_some : (count : Option ℕ) (n : ℕ) (d : List ℕ) (F : ℕ → List ℕ) → IfSome count (λ x. x ≡ n) → IsSomeAnd count (λ x. d ≡ F x) → d ≡ F n
if_some None n d F all s = absurd s
if_some (Some x) n d F all s = s ∙ ap F all

length_asked : (config : Config) (records : List ShownRecord) (count : Option ℕ) (d : List ℕ)
    → MatchOption count (19 ≤ length (last_message records) → ¬ MayNotify config records 1 2 (big_bytes 2 (length_of (header_of (last_message records)))))
    (λ n. (n ≡ length_of (header_of (last_message records))) × MayNotify config records 1 2 (big_bytes 2 n))
    → IsSomeAnd count (λ n. d ≡ big_bytes 2 n) → (n : ℕ) × (d ≡ big_bytes 2 n) × MayNotify config records 1 2 (big_bytes 2 n)
length_asked config records None d a s = absurd s
length_asked config records (Some n) d a s = (n, s, a.1)

kind_asked : (config : Config) (records : List ShownRecord) (kind : Option ℕ) (d : List ℕ)
    → MatchOption kind (19 ≤ length (last_message records) → ¬ MayNotify config records 1 3 (big_bytes 1 (type_of (header_of (last_message records)))))
    (λ n. (n ≡ type_of (header_of (last_message records))) × MayNotify config records 1 3 (big_bytes 1 n))
    → IsSomeAnd kind (λ n. d ≡ big_bytes 1 n) → (n : ℕ) × (d ≡ big_bytes 1 n) × MayNotify config records 1 3 (big_bytes 1 n)
kind_asked config records None d a s = absurd s
kind_asked config records (Some n) d a s = (n, s, a.1)

empty_is_message : IsMessage 2 empty_update
empty_is_message = written_message 2 _ (omega arith)

-- ---- what may follow is possible

to_free : (law : EachOwedCanBeMet) (clean : HasCleanUpdate) (config : Config) (records : List ShownRecord) (p : Possible) (a : AreAsked config records p) (t : ℕ) (o : List ℕ) (c s : ℕ) (d : List ℕ) → (c ≡ 1 → ⊥) → (c ≡ 2 → ⊥) → (c ≡ 4 → ⊥) → IsNotification o c s d → MayFollow config records (Sent t o) → MayNotify config records c s []
to_free law clean config records p a t o c s d no1 no2 no4 n may = to_asked law config records t o c s d s [] n (like_free c s d [] no1 no2) short_none no4 may

at_subcode : (config : Config) (records : List ShownRecord) (c s other : ℕ) → s ≡ other → MayNotify config records c s [] → MayNotify config records c other []
at_subcode config records c s other e may = subst (λ (v : ℕ). MayNotify config records c v []) e may

fsm_named : (config : Config) (records : List ShownRecord) (errors : FsmErrors) (s : ℕ) (state : Unexpected) → AreFsmErrors config records errors → ((s ≡ 0) ⊎ (s ≡ subcode_of state))
    → MayNotify config records 5 s [] → HasFsmError errors s
fsm_named config records errors s state f (inl e) may = inl (e, f.unspecified.1 (at_subcode config records 5 s 0 e may))
fsm_named config records errors s InOpenSent f (inr e) may = inr (inl (e, f.open_sent.1 (at_subcode config records 5 s 1 e may)))
fsm_named config records errors s InOpenConfirm f (inr e) may = inr (inr (inl (e, f.open_confirm.1 (at_subcode config records 5 s 2 e may))))
fsm_named config records errors s InEstablished f (inr e) may = inr (inr (inr (e, f.established.1 (at_subcode config records 5 s 3 e may))))

update_named : (config : Config) (records : List ShownRecord) (errors k : Subcodes) (s : ℕ) → AreUpdateErrors config records errors → HasSubcode k s → MayNotify config records 3 s [] → HasSubcode errors s
update_named config records errors k s u has may =
    marked (λ n. MayNotify config records 3 n []) 0 (marks_of k) (marks_of errors) (
      λ h q. h,
      (
        λ h q. u.malformed_attribute_list.1 q,
        (
          λ h q. u.unrecognized_well_known.1 q,
          (
            λ h q. u.missing_well_known.1 q,
            (
              λ h q. u.attribute_flags.1 q,
              (
                λ h q. u.attribute_length.1 q,
                (λ h q. u.invalid_origin.1 q, (λ h q. u.as_routing_loop.1 q, (λ h q. u.invalid_next_hop.1 q, (λ h q. u.optional_attribute.1 q, (λ h q. u.invalid_network_field.1 q, (λ h q. u.malformed_as_path.1 q, tt)))))),
              ),
            ),
          ),
        ),
      ),
    )
    s has (zero_more (λ n. MayNotify config records 3 n []) s may)

header_named : (law : EachOwedCanBeMet) (clean : HasCleanUpdate) (config : Config) (records : List ShownRecord) (p : Possible) (a : AreAsked config records p) (t : ℕ) (o : List ℕ) (k : HeaderFaults) (s : ℕ) (d : List ℕ) → IsNotification o 1 s d → MayFollow config records (Sent t o) → IsHeaderOf config (last_message records) k → NamesHeader k s d
    → NamesHeader p.header_errors s d
header_named law clean config records p a t o k s d n may of (inl x) =
    inl (x.0, a.header_errors.marker.1 (to_asked law config records t o 1 1 d 1 [] (subst (λ (v : ℕ). IsNotification o 1 v d) x.0 n) (like_marker d []) short_none (λ e. cc) may))
header_named law clean config records p a t o k s d n may of (inr (inl x)) =
    let e : d ≡ big_bytes 2 (length_of (header_of (last_message records))) = if_some k.length (length_of (header_of (last_message records))) d (big_bytes 2) of.1.length_field x.1 in
    inr (inl (
      x.0,
      length_so config records p.header_errors.length d of.0 a.header_errors.bad_length e
          (to_asked law config records t o 1 2 d 2 (big_bytes 2 (length_of (header_of (last_message records)))) (subst (λ (v : ℕ). IsNotification o 1 v d) x.0 n)
          (subst (λ (v : List ℕ). IsLike 1 2 d 2 v) e (like_same 1 2 d)) (short_two (length_of (header_of (last_message records)))) (λ e. cc) may),
    ))
header_named law clean config records p a t o k s d n may of (inr (inr x)) =
    let e : d ≡ big_bytes 1 (type_of (header_of (last_message records))) = if_some k.kind (type_of (header_of (last_message records))) d (big_bytes 1) of.1.type_field x.1 in
    inr (inr (
      x.0,
      kind_so config records p.header_errors.kind d of.0 a.header_errors.bad_type e
          (to_asked law config records t o 1 3 d 3 (big_bytes 1 (type_of (header_of (last_message records)))) (subst (λ (v : ℕ). IsNotification o 1 v d) x.0 n)
          (subst (λ (v : List ℕ). IsLike 1 3 d 3 v) e (like_same 1 3 d)) (short_one (type_of (header_of (last_message records)))) (λ e. cc) may),
    ))

to_open : (law : EachOwedCanBeMet) (clean : HasCleanUpdate) (config : Config) (records : List ShownRecord) (p : Possible) (a : AreAsked config records p) (t : ℕ) (o : List ℕ) (s other : ℕ) (d : List ℕ) → s ≡ other → (other ≡ 1 → ⊥) → IsNotification o 2 s d → MayFollow config records (Sent t o) → MayNotify config records 2 other []
to_open law clean config records p a t o s other d e unless n may =
    to_asked law config records t o 2 other d other [] (subst (λ (v : ℕ). IsNotification o 2 v d) e n) (like_open other d [] unless) short_none (λ k. cc) may

open_named : (law : EachOwedCanBeMet) (clean : HasCleanUpdate) (config : Config) (records : List ShownRecord) (p : Possible) (a : AreAsked config records p) (t : ℕ) (o : List ℕ) (k : OpenSubcodes) (s : ℕ) (d : List ℕ) → IsNotification o 2 s d → MayFollow config records (Sent t o) → NamesOpen k s d → NamesOpen p.open_errors s d
open_named law clean config records p a t o k s d n may (inl x) =
    inl (x.0, a.open_errors.unspecific.1 (to_open law clean config records p a t o s 0 d x.0 (λ e. cc) n may))
open_named law clean config records p a t o k s d n may (inr (inl x)) =
    inr (inl (x.0, x.1, a.open_errors.version.1 (to_asked law config records t o 2 1 d 1 (big_bytes 2 4) (subst (λ (v : ℕ). IsNotification o 2 v d) x.0 n) (subst (λ (v : List ℕ). IsLike 2 1 d 1 v) x.1 (like_same 2 1 d)) (short_two 4) (λ e. cc) may)))
open_named law clean config records p a t o k s d n may (inr (inr (inl x))) =
    inr (inr (inl (x.0, a.open_errors.peer_as.1 (to_open law clean config records p a t o s 2 d x.0 (λ e. cc) n may))))
open_named law clean config records p a t o k s d n may (inr (inr (inr (inl x)))) =
    inr (inr (inr (inl (x.0, a.open_errors.identifier.1 (to_open law clean config records p a t o s 3 d x.0 (λ e. cc) n may)))))
open_named law clean config records p a t o k s d n may (inr (inr (inr (inr (inl x))))) =
    inr (inr (inr (inr (inl (x.0, a.open_errors.parameter.1 (to_open law clean config records p a t o s 4 d x.0 (λ e. cc) n may))))))
open_named law clean config records p a t o k s d n may (inr (inr (inr (inr (inr (inl x)))))) =
    inr (inr (inr (inr (inr (inl (x.0, a.open_errors.hold.1 (to_open law clean config records p a t o s 6 d x.0 (λ e. cc) n may)))))))
open_named law clean config records p a t o k s d n may (inr (inr (inr (inr (inr (inr (inl x))))))) =
    inr (inr (inr (inr (inr (inr (inl (x.0, a.open_errors.capability.1 (to_open law clean config records p a t o s 7 d x.0 (λ e. cc) n may))))))))
open_named law clean config records p a t o k s d n may (inr (inr (inr (inr (inr (inr (inr x))))))) =
    inr (inr (inr (inr (inr (inr (inr (x.0, a.open_errors.role.1 (to_open law clean config records p a t o s 11 d x.0 (λ e. cc) n may))))))))

-- a NOTIFICATION with this code and what is said of it
tells : (law : EachOwedCanBeMet) (clean : HasCleanUpdate) (config : Config) (records : List ShownRecord) (p : Possible) (a : AreAsked config records p) (t : ℕ) (o : List ℕ) (c s : ℕ) (d : List ℕ) → IsNotification o c s d → IsNotified p t c s d → Tells o (IsNotified p t)
tells law clean config records p a t o c s d n is = (c, s, d, n, is)

with_code : (o : List ℕ) (c other s : ℕ) (d : List ℕ) → c ≡ other → IsNotification o c s d → IsNotification o other s d
with_code o c other s d e n = subst (λ (v : ℕ). IsNotification o v s d) e n

hold_named : (law : EachOwedCanBeMet) (clean : HasCleanUpdate) (config : Config) (records : List ShownRecord) (p : Possible) (a : AreAsked config records p) (t : ℕ) (o : List ℕ) (s : ℕ) (d : List ℕ) → IsNotification o 4 s d → s ≡ 0 → t < 2 ^ 32 → MayFollow config records (Sent t o) → IsNotified p t 4 s d
hold_named law clean config records p a t o s d n e small may =
    inr (inr (inr (inl (
      refl,
      e,
      expired_so config records p.hold_timer_expired t a.hold_timer_expired small
          (notified law config records t t o (notification_octets 4 0 []) 4 0 d 0 [] (subst (λ (v : ℕ). IsNotification o 4 v d) e n) (written_notification 4 0 [] short_none)
          (like_free 4 0 d [] (λ k. cc) (λ k. cc)) (notification_frame 4 0 [] short_none (limit_on (sending_link config records))) (inl (le_refl t)) may),
    ))))

send_hold_named : (law : EachOwedCanBeMet) (clean : HasCleanUpdate) (config : Config) (records : List ShownRecord) (p : Possible) (a : AreAsked config records p) (t : ℕ) (o : List ℕ) (s : ℕ) (d : List ℕ) → IsNotification o 8 s d → s ≡ 0 → MayFollow config records (Sent t o) → IsNotified p t 8 s d
send_hold_named law clean config records p a t o s d n e may =
    inr (inr (inr (inr (inr (inr (
      refl,
      e,
      a.send_hold_timer_expired.1 (at_subcode config records 8 s 0 e (to_free law clean config records p a t o 8 s d (λ e. cc) (λ e. cc) (λ e. cc) n may)),
    ))))))

told_by : (law : EachOwedCanBeMet) (clean : HasCleanUpdate) (config : Config) (records : List ShownRecord) (p : Possible) (a : AreAsked config records p) (t : ℕ) (o : List ℕ) (want : Want) (link : Option Link) → Meets config link want o
    → ((u : ℕ) (other : List ℕ) → Meets config link want other → ((t ≤ u) ⊎ (want ≡ HoldExpired → ⊥)) → MayFollow config records (Sent u other))
    → (IsGoing want ⊎ ((link ≡ sending_link config records) × ((f : HeaderFaults) → want ≡ Faults (sets.Header f) → IsHeaderOf config (last_message records) f)))
    → t < 2 ^ 32 → MayFollow config records (Sent t o) → IsAmong config (sending_link config records) p (Sent t o)
told_by law clean config records p a t o OwnOpen link m again going small may = (
  frame_to (limit_on link) (limit_on (sending_link config records)) o 1 (one_greatest (limit_on link) (limit_on (sending_link config records))) (typed config link OwnOpen o m.fulfils) m.whole,
  inl (a.own_open.1 (again 0 (open_octets (own_fields config)) (open_meets config link) (inr not_hold_open)), m.fulfils),
)
told_by law clean config records p a t o KeepAlive link m again going small may = (
  frame_to (limit_on link) (limit_on (sending_link config records)) o 4 (four_greatest (limit_on link) (limit_on (sending_link config records))) m.fulfils m.whole,
  inr (inl (a.keepalive.1 (again 0 (message_octets 4 []) (alive_meets config link) (inr not_hold_alive)), m.fulfils)),
)
told_by law clean config records p a t o CleanUpdate link m again (inl going) small may = absurd going
told_by law clean config records p a t o CleanUpdate link m again (inr on) small may = (
  subst (λ (v : Option Link). IsFrame (limit_on v) o) on.0 m.whole,
  inr (inr (inl (
    a.update.1 (again 0 empty_update (empty_meets clean config link o m.fulfils) (inr not_hold_update)),
    subst (λ (v : Option Link). IsCleanOn v o) on.0 (clean_on config link o m.fulfils),
  ))),
)
told_by law clean config records p a t o Cease link m again (inl going) small may = absurd going
told_by law clean config records p a t o Cease link m again (inr on) small may =
    let f = m.fulfils in (
      subst (λ (v : Option Link). IsFrame (limit_on v) o) on.0 m.whole,
      inr (inr (inr (f.0, f.1, f.2, f.3, subst (λ (v : ℕ). IsNotified p t v f.1 f.2) (sym f.4) (inr (inr (inr (inr (inr (inl (refl, a.cease.1 (to_asked law config records t o 6 f.1 f.2 0 [] (with_code o f.0 6 f.1 f.2 f.4 f.3) (like_cease f.1 0 f.2 []) short_none (λ e. cc) may))))))))))),
    )
told_by law clean config records p a t o HoldExpired link m again (inl going) small may = absurd going
told_by law clean config records p a t o HoldExpired link m again (inr on) small may =
    let f = m.fulfils in (
      subst (λ (v : Option Link). IsFrame (limit_on v) o) on.0 m.whole,
      inr (inr (inr (f.0, f.1, f.2, f.3, subst (λ (v : ℕ). IsNotified p t v f.1 f.2) (sym f.4.0) (hold_named law clean config records p a t o f.1 f.2 (with_code o f.0 4 f.1 f.2 f.4.0 f.3) f.4.1 small may)))),
    )
told_by law clean config records p a t o SendHoldExpired link m again (inl going) small may = absurd going
told_by law clean config records p a t o SendHoldExpired link m again (inr on) small may =
    let f = m.fulfils in (
      subst (λ (v : Option Link). IsFrame (limit_on v) o) on.0 m.whole,
      inr (inr (inr (f.0, f.1, f.2, f.3, subst (λ (v : ℕ). IsNotified p t v f.1 f.2) (sym f.4.0) (send_hold_named law clean config records p a t o f.1 f.2 (with_code o f.0 8 f.1 f.2 f.4.0 f.3) f.4.1 may)))),
    )
told_by law clean config records p a t o (MachineError state) link m again (inl going) small may = absurd going
told_by law clean config records p a t o (MachineError state) link m again (inr on) small may =
    let f = m.fulfils in (
      subst (λ (v : Option Link). IsFrame (limit_on v) o) on.0 m.whole,
      inr (inr (inr (f.0, f.1, f.2, f.3, subst (λ (v : ℕ). IsNotified p t v f.1 f.2) (sym f.4.0) (inr (inr (inr (inr (inl (refl, fsm_named config records p.fsm_errors f.1 state a.fsm_errors f.4.1 (to_free law clean config records p a t o 5 f.1 f.2 (λ e. cc) (λ e. cc) (λ e. cc) (with_code o f.0 5 f.1 f.2 f.4.0 f.3) may)))))))))),
    )
told_by law clean config records p a t o (Faults (sets.Header k)) link m again (inl going) small may = absurd going
told_by law clean config records p a t o (Faults (sets.Header k)) link m again (inr on) small may =
    let f = m.fulfils in (
      subst (λ (v : Option Link). IsFrame (limit_on v) o) on.0 m.whole,
      inr (inr (inr (f.0, f.1, f.2, f.3, subst (λ (v : ℕ). IsNotified p t v f.1 f.2) (sym f.4.0) (inl (refl, header_named law clean config records p a t o k f.1 f.2 (with_code o f.0 1 f.1 f.2 f.4.0 f.3) may (on.1 k refl) f.4.1))))),
    )
told_by law clean config records p a t o (Faults (sets.Open k)) link m again (inl going) small may = absurd going
told_by law clean config records p a t o (Faults (sets.Open k)) link m again (inr on) small may =
    let f = m.fulfils in (
      subst (λ (v : Option Link). IsFrame (limit_on v) o) on.0 m.whole,
      inr (inr (inr (f.0, f.1, f.2, f.3, subst (λ (v : ℕ). IsNotified p t v f.1 f.2) (sym f.4.0) (inr (inl (refl, open_named law clean config records p a t o k f.1 f.2 (with_code o f.0 2 f.1 f.2 f.4.0 f.3) may f.4.1)))))),
    )
told_by law clean config records p a t o (Faults (sets.Update k)) link m again (inl going) small may = absurd going
told_by law clean config records p a t o (Faults (sets.Update k)) link m again (inr on) small may =
    let f = m.fulfils in (
      subst (λ (v : Option Link). IsFrame (limit_on v) o) on.0 m.whole,
      inr (inr (inr (f.0, f.1, f.2, f.3, subst (λ (v : ℕ). IsNotified p t v f.1 f.2) (sym f.4.0) (inr (inr (inl (refl, update_named config records p.update_errors k f.1 a.update_errors f.4.1 (to_free law clean config records p a t o 3 f.1 f.2 (λ e. cc) (λ e. cc) (λ e. cc) (with_code o f.0 3 f.1 f.2 f.4.0 f.3) may)))))))),
    )

-- ---- what is possible may follow

open_follows : (law : EachOwedCanBeMet) (clean : HasCleanUpdate) (config : Config) (records : List ShownRecord) (p : Possible) (a : AreAsked config records p) (t : ℕ) (o : List ℕ) → IsFrame (limit_on (sending_link config records)) o → IsOwnOpen config o → MayFollow config records (Sent 0 (open_octets (own_fields config))) → MayFollow config records (Sent t o)
open_follows law clean config records p a t o frame own asked =
    let x = sending law config records 0 (open_octets (own_fields config)) asked in
    let e : x.want ≡ OwnOpen = is_open x.want (one_message (type_for x.want) 1 (open_octets (own_fields config)) (typed config x.link x.want (open_octets (own_fields config)) x.met.fulfils) (own_open config).form.readable.whole.message) in
    x.again t o (subst (λ (v : Want). Meets config x.link v o) (sym e) (record {
      whole = frame_to (limit_on (sending_link config records)) (limit_on x.link) o 1 (one_greatest (limit_on (sending_link config records)) (limit_on x.link)) own.form.readable.whole.message frame;
      fulfils = own;
    })) (inl (from_zero t))

alive_follows : (law : EachOwedCanBeMet) (clean : HasCleanUpdate) (config : Config) (records : List ShownRecord) (p : Possible) (a : AreAsked config records p) (t : ℕ) (o : List ℕ) → IsFrame (limit_on (sending_link config records)) o → IsMessage 4 o → MayFollow config records (Sent 0 (message_octets 4 [])) → MayFollow config records (Sent t o)
alive_follows law clean config records p a t o frame own asked =
    let x = sending law config records 0 (message_octets 4 []) asked in
    let e : x.want ≡ KeepAlive = is_alive x.want (one_message (type_for x.want) 4 (message_octets 4 []) (typed config x.link x.want (message_octets 4 []) x.met.fulfils) alive_is_message) in
    x.again t o (subst (λ (v : Want). Meets config x.link v o) (sym e) (record {
      whole = frame_to (limit_on (sending_link config records)) (limit_on x.link) o 4 (four_greatest (limit_on (sending_link config records)) (limit_on x.link)) own frame;
      fulfils = own;
    })) (inl (from_zero t))

update_message : HasCleanUpdate → (config : Config) (link : Option Link) (want : Want) → Fulfils config link want empty_update → type_for want ≡ 2
update_message clean config link want f =
    one_message (type_for want) 2 empty_update (typed config link want empty_update f) empty_is_message

update_follows : (law : EachOwedCanBeMet) (clean : HasCleanUpdate) (config : Config) (records : List ShownRecord) (p : Possible) (a : AreAsked config records p) (t : ℕ) (o : List ℕ) → IsFrame (limit_on (sending_link config records)) o → IsCleanOn (sending_link config records) o → MayFollow config records (Sent 0 empty_update) → MayFollow config records (Sent t o)
update_follows law clean config records p a t o frame own asked =
    let x = sending law config records 0 empty_update asked in
    let e : x.want ≡ CleanUpdate = is_update x.want (update_message clean config x.link x.want x.met.fulfils) in
    let on = on_link config records 0 empty_update CleanUpdate x e (λ k. k) in
    x.again t o (subst (λ (v : Want). Meets config x.link v o) (sym e) (subst (λ (v : Option Link). Meets config v CleanUpdate o) (sym on) (record {
      whole = frame;
      fulfils = fulfils_clean config (sending_link config records) o own;
    }))) (inl (from_zero t))

header_follows : (law : EachOwedCanBeMet) (clean : HasCleanUpdate) (config : Config) (records : List ShownRecord) (p : Possible) (a : AreAsked config records p) (t : ℕ) (o : List ℕ) (s : ℕ) (d : List ℕ) → IsFrame (limit_on (sending_link config records)) o → IsNotification o 1 s d → NamesHeader p.header_errors s d → MayFollow config records (Sent t o)
header_follows law clean config records p a t o s d frame n (inl x) =
    from_asked law config records t o 1 1 d 1 [] (subst (λ (v : ℕ). IsNotification o 1 v d) x.0 n) (like_marker [] d) short_none frame (a.header_errors.marker.0 x.1)
header_follows law clean config records p a t o s d frame n (inr (inl x)) =
    let k = length_asked config records p.header_errors.length d a.header_errors.bad_length x.1 in
    from_asked law config records t o 1 2 d 2 (big_bytes 2 k.0) (subst (λ (v : ℕ). IsNotification o 1 v d) x.0 n)
    (subst (λ (v : List ℕ). IsLike 1 2 v 2 d) k.1 (like_same 1 2 d)) (short_two k.0) frame k.2
header_follows law clean config records p a t o s d frame n (inr (inr x)) =
    let k = kind_asked config records p.header_errors.kind d a.header_errors.bad_type x.1 in
    from_asked law config records t o 1 3 d 3 (big_bytes 1 k.0) (subst (λ (v : ℕ). IsNotification o 1 v d) x.0 n)
    (subst (λ (v : List ℕ). IsLike 1 3 v 3 d) k.1 (like_same 1 3 d)) (short_one k.0) frame k.2

from_open : (law : EachOwedCanBeMet) (clean : HasCleanUpdate) (config : Config) (records : List ShownRecord) (p : Possible) (a : AreAsked config records p) (t : ℕ) (o : List ℕ) (s other : ℕ) (d : List ℕ) → s ≡ other → (other ≡ 1 → ⊥) → IsFrame (limit_on (sending_link config records)) o → IsNotification o 2 s d → MayNotify config records 2 other [] → MayFollow config records (Sent t o)
from_open law clean config records p a t o s other d e unless frame n may =
    from_asked law config records t o 2 other d other [] (subst (λ (v : ℕ). IsNotification o 2 v d) e n) (like_open other [] d unless) short_none frame may

open_error_follows : (law : EachOwedCanBeMet) (clean : HasCleanUpdate) (config : Config) (records : List ShownRecord) (p : Possible) (a : AreAsked config records p) (t : ℕ) (o : List ℕ) (s : ℕ) (d : List ℕ) → IsFrame (limit_on (sending_link config records)) o → IsNotification o 2 s d → NamesOpen p.open_errors s d → MayFollow config records (Sent t o)
open_error_follows law clean config records p a t o s d frame n (inl x) = from_open law clean config records p a t o s 0 d x.0 (λ e. cc) frame n (a.open_errors.unspecific.0 x.1)
open_error_follows law clean config records p a t o s d frame n (inr (inl x)) = from_asked law config records t o 2 1 d 1 (big_bytes 2 4) (subst (λ (v : ℕ). IsNotification o 2 v d) x.0 n) (subst (λ (v : List ℕ). IsLike 2 1 v 1 d) x.1 (like_same 2 1 d)) (short_two 4) frame (a.open_errors.version.0 x.2)
open_error_follows law clean config records p a t o s d frame n (inr (inr (inl x))) = from_open law clean config records p a t o s 2 d x.0 (λ e. cc) frame n (a.open_errors.peer_as.0 x.1)
open_error_follows law clean config records p a t o s d frame n (inr (inr (inr (inl x)))) = from_open law clean config records p a t o s 3 d x.0 (λ e. cc) frame n (a.open_errors.identifier.0 x.1)
open_error_follows law clean config records p a t o s d frame n (inr (inr (inr (inr (inl x))))) = from_open law clean config records p a t o s 4 d x.0 (λ e. cc) frame n (a.open_errors.parameter.0 x.1)
open_error_follows law clean config records p a t o s d frame n (inr (inr (inr (inr (inr (inl x)))))) = from_open law clean config records p a t o s 6 d x.0 (λ e. cc) frame n (a.open_errors.hold.0 x.1)
open_error_follows law clean config records p a t o s d frame n (inr (inr (inr (inr (inr (inr (inl x))))))) = from_open law clean config records p a t o s 7 d x.0 (λ e. cc) frame n (a.open_errors.capability.0 x.1)
open_error_follows law clean config records p a t o s d frame n (inr (inr (inr (inr (inr (inr (inr x))))))) = from_open law clean config records p a t o s 11 d x.0 (λ e. cc) frame n (a.open_errors.role.0 x.1)

from_free : (law : EachOwedCanBeMet) (clean : HasCleanUpdate) (config : Config) (records : List ShownRecord) (p : Possible) (a : AreAsked config records p) (t : ℕ) (o : List ℕ) (c s other : ℕ) (d : List ℕ) → s ≡ other → (c ≡ 1 → ⊥) → (c ≡ 2 → ⊥) → IsFrame (limit_on (sending_link config records)) o → IsNotification o c s d
    → MayNotify config records c other [] → MayFollow config records (Sent t o)
from_free law clean config records p a t o c s other d e no1 no2 frame n may =
    from_asked law config records t o c other d other [] (subst (λ (v : ℕ). IsNotification o c v d) e n) (like_free c other [] d no1 no2) short_none frame may

fsm_follows : (law : EachOwedCanBeMet) (clean : HasCleanUpdate) (config : Config) (records : List ShownRecord) (p : Possible) (a : AreAsked config records p) (t : ℕ) (o : List ℕ) (s : ℕ) (d : List ℕ) → IsFrame (limit_on (sending_link config records)) o → IsNotification o 5 s d → HasFsmError p.fsm_errors s → MayFollow config records (Sent t o)
fsm_follows law clean config records p a t o s d frame n (inl x) = from_free law clean config records p a t o 5 s 0 d x.0 (λ e. cc) (λ e. cc) frame n (a.fsm_errors.unspecified.0 x.1)
fsm_follows law clean config records p a t o s d frame n (inr (inl x)) = from_free law clean config records p a t o 5 s 1 d x.0 (λ e. cc) (λ e. cc) frame n (a.fsm_errors.open_sent.0 x.1)
fsm_follows law clean config records p a t o s d frame n (inr (inr (inl x))) = from_free law clean config records p a t o 5 s 2 d x.0 (λ e. cc) (λ e. cc) frame n (a.fsm_errors.open_confirm.0 x.1)
fsm_follows law clean config records p a t o s d frame n (inr (inr (inr x))) = from_free law clean config records p a t o 5 s 3 d x.0 (λ e. cc) (λ e. cc) frame n (a.fsm_errors.established.0 x.1)

update_asked : (config : Config) (records : List ShownRecord) (errors : Subcodes) (s : ℕ) → AreUpdateErrors config records errors → HasSubcode errors s → MayNotify config records 3 s []
update_asked config records errors s u has =
    zero_less (λ n. MayNotify config records 3 n []) s (followed (λ n. MayNotify config records 3 n []) 0 (marks_of errors) (
      λ h. absurd (let k : false ≡ true = h in cc),
      (
        u.malformed_attribute_list.0,
        (
          u.unrecognized_well_known.0,
          (
            u.missing_well_known.0,
            (
              u.attribute_flags.0,
              (
                u.attribute_length.0,
                (u.invalid_origin.0, (u.as_routing_loop.0, (u.invalid_next_hop.0, (u.optional_attribute.0, (u.invalid_network_field.0, (u.malformed_as_path.0, tt)))))),
              ),
            ),
          ),
        ),
      ),
    )
    s has)

notified_follows : (law : EachOwedCanBeMet) (clean : HasCleanUpdate) (config : Config) (records : List ShownRecord) (p : Possible) (a : AreAsked config records p) (t : ℕ) (o : List ℕ) (c s : ℕ) (d : List ℕ) → IsFrame (limit_on (sending_link config records)) o → IsNotification o c s d → IsNotified p t c s d → MayFollow config records (Sent t o)
notified_follows law clean config records p a t o c s d frame n (inl x) = header_follows law clean config records p a t o s d frame (with_code o c 1 s d x.0 n) x.1
notified_follows law clean config records p a t o c s d frame n (inr (inl x)) = open_error_follows law clean config records p a t o s d frame (with_code o c 2 s d x.0 n) x.1
notified_follows law clean config records p a t o c s d frame n (inr (inr (inl x))) =
    from_free law clean config records p a t o 3 s s d refl (λ e. cc) (λ e. cc) frame (with_code o c 3 s d x.0 n) (update_asked config records p.update_errors s a.update_errors x.1)
notified_follows law clean config records p a t o c s d frame n (inr (inr (inr (inl x)))) =
    let k = expires_at config records p.hold_timer_expired t a.hold_timer_expired x.2 in
    notified law config records k.0 t (notification_octets 4 0 []) o 4 0 [] 0 d (written_notification 4 0 [] short_none) (subst (λ (v : ℕ). IsNotification o 4 v d) x.1 (with_code o c 4 s d x.0 n))
    (like_free 4 0 [] d (λ e. cc) (λ e. cc)) frame (inl k.2) k.1
notified_follows law clean config records p a t o c s d frame n (inr (inr (inr (inr (inl x))))) = fsm_follows law clean config records p a t o s d frame (with_code o c 5 s d x.0 n) x.1
notified_follows law clean config records p a t o c s d frame n (inr (inr (inr (inr (inr (inl x)))))) =
    from_asked law config records t o 6 s d 0 [] (with_code o c 6 s d x.0 n) (like_cease 0 s [] d) short_none frame (a.cease.0 x.1)
notified_follows law clean config records p a t o c s d frame n (inr (inr (inr (inr (inr (inr x)))))) =
    from_free law clean config records p a t o 8 s 0 d x.1 (λ e. cc) (λ e. cc) frame (with_code o c 8 s d x.0 n) (a.send_hold_timer_expired.0 x.2)

sent_follows : (law : EachOwedCanBeMet) (clean : HasCleanUpdate) (config : Config) (records : List ShownRecord) (p : Possible) (a : AreAsked config records p) (t : ℕ) (o : List ℕ) → IsAmong config (sending_link config records) p (Sent t o) → MayFollow config records (Sent t o)
sent_follows law clean config records p a t o (frame, inl x) = open_follows law clean config records p a t o frame x.1 (a.own_open.0 x.0)
sent_follows law clean config records p a t o (frame, inr (inl x)) = alive_follows law clean config records p a t o frame x.1 (a.keepalive.0 x.0)
sent_follows law clean config records p a t o (frame, inr (inr (inl x))) = update_follows law clean config records p a t o frame x.1 (a.update.0 x.0)
sent_follows law clean config records p a t o (frame, inr (inr (inr x))) = notified_follows law clean config records p a t o x.0 x.1 x.2 frame x.3 x.4

-- ---- all of it

of_state : (config : Config) (records : List ShownRecord) (p : Possible) (fsm : Fsm) → p.state ≡ fsm → (x : ℕ) → x ≡ number_of fsm → x ≡ number_of p.state
of_state config records p fsm e x k = k ∙ ap number_of (sym e)

pub asked_tell : EachOwedCanBeMet → HasCleanUpdate → AskedTellAll
asked_tell law clean config records p a (Received t o) can = (
  λ may. a.message.1 (messages_alike law config records t 0 o (message_octets 4 []) may (alive_heard config (sending_link config records))),
  λ is. messages_alike law config records 0 t (message_octets 4 []) o (a.message.0 is) can.1,
)
asked_tell law clean config records p a (Sent t o) can = (
  λ may. let x = sending law config records t o may in told_by law clean config records p a t o x.want x.link x.met x.again x.going can may,
  λ is. sent_follows law clean config records p a t o is,
)
asked_tell law clean config records p a (Changed t x y) can = (
  λ may.
      let k = changes_at law config records t 0 x y may in (
        k.1.1 ∙ ap number_of (sym a.state),
        (k.1.0, k.1.2, (a.changes k.1.0).1 (subst (λ (v : ℕ). MayFollow config records (Changed 0 v (number_of k.1.0))) k.1.1 (subst (λ (v : ℕ). MayFollow config records (Changed 0 x v)) k.1.2 k.0))),
      ),
  λ is.
      let asked = (a.changes is.1.0).0 is.1.2 in
      (changes_at law config records 0 t x y
      (subst (λ (v : ℕ). MayFollow config records (Changed 0 v y)) (sym (is.0 ∙ ap number_of a.state)) (subst (λ (v : ℕ). MayFollow config records (Changed 0 (number_of (told records).fsm) v)) (sym is.1.1) asked))).0,
)
