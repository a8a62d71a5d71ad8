-- What is said of a message, of an UPDATE and of the impossible record is said in one way.
use Rattle.std.proofs.Common.{◌≡◌, ◌∙◌, ◌⊎◌, ◌≤◌, ◌++◌, ◌&&◌, ◌∷◌, if◌then◌else◌, ℕ, Bool, true, false, IsTrue, IsNone, IsSomeAnd, MatchOption, is_some, List, [], Option, None, Some, codes, length, refl, sym, ap, subst, inl, inr, arith}
use Rattle.std.specs.Fmt.{decimal}
use Rattle.bgp_prefix.specs.Shown.{ShownRecord, Received, Sent, Changed}
use Rattle.bgp_prefix.specs.declared.family.Family.TheVariants.{V4, V6}
use Rattle.bgp_wire.specs.declared.header.HeaderFaults.{HeaderFaults}
use Rattle.bgp_wire.specs.declared.header.Limit.{Limit}
use Rattle.bgp_wire.specs.AsNumber.{two_octet_as}
use Rattle.bgp_wire.specs.Header.{header_of}
use Rattle.bgp_wire.proofs.EachFault.{one_set as one_fault_set}
use Rattle.bgp_open.specs.declared.config.Config.{Config}
use Rattle.bgp_open.specs.declared.families.Families.{Families}
use Rattle.bgp_open.specs.declared.fault.OpenFault.TheVariants.{Version, Malformed}
use Rattle.bgp_open.specs.declared.link.Link.{Link}
use Rattle.bgp_open.specs.declared.route_form.RouteForm.{RouteForm}
use Rattle.bgp_open.specs.declared.route_offer.RouteOffer.{RouteOffer}
use Rattle.bgp_open.specs.RouteOffer.{route_offer_in}
use Rattle.bgp_open.specs.Families.{contains}
use Rattle.bgp_open.specs.Offer.{as_number_of, families_of, offers_extended}
use Rattle.bgp_open.specs.Open.{open_of}
use Rattle.bgp_open.specs.OpenSubcodes.{peer_as_of}
use Rattle.bgp_open.proofs.LeastFault.{none_if_well_formed, one_fault}
use Rattle.bgp_update.specs.Disabled.{IsDisabled}
use Rattle.bgp_update.specs.Subcodes.{SubcodesAreSets}
use Rattle.bgp_update.proofs.OneSplit.{one_split}
use Rattle.bgp_machine.specs.declared.hearing.Heard.{Heard}
use Rattle.bgp_machine.specs.declared.hearing.Heard.TheVariants as heard
use Rattle.bgp_machine.specs.Heard.{Hears, received_limit}
use Rattle.bgp_machine.specs.Want.{limit_on}
use Rattle.bgp_machine.proofs.OneHearing.{one_heard}
use Rattle.bgp_reason.specs.declared.kinds.Possible.{Possible}
use Rattle.bgp_reason.specs.declared.told.Told.{Told}
use Rattle.bgp_reason.proofs.OneForAll.{one_code, one_detail, one_subcode}
use Rattle.bgp_parts.specs.declared.notification.NotificationPart.{NotificationPart}
use Rattle.bgp_parts.specs.declared.notification.NotificationPart.TheVariants as words
use Rattle.bgp_parts.specs.declared.notification.NotificationParts as declared
use Rattle.bgp_parts.specs.declared.own_open.Differing.{Differing}
use Rattle.bgp_parts.specs.declared.own_open.OwnOpenParts as opens
use Rattle.bgp_parts.specs.declared.own_open.OwnOpenParts.TheVariants as own
use Rattle.bgp_parts.specs.NotificationParts.{AreNotificationParts, IsPart, IsSecondPart}
use Rattle.bgp_parts.specs.OwnOpenParts.{AreOwnOpenParts}
use Rattle.bgp_parts.specs.OwnOpenParts as fields
use Rattle.bgp_parts.specs.UpdateParts.{AreUpdateParts, Part, section_parts}
use Rattle.bgp_text.specs.Text.{hex_text}
use Rattle.bgp_text.specs.Message as said
use Rattle.bgp_text.proofs.OneMessage.{one_message}
use Rattle.bgp_why_parts.specs.Codes.{code_text}
use Rattle.bgp_why_parts.specs.Notifications.{early_piece, notification_parts_text, word_piece}
use Rattle.bgp_why_parts.specs.Parts.{shown, shown_notification, shown_update}
use Rattle.bgp_why_parts.specs.Pieces.{listed, separated}
use Rattle.bgp_why_parts.specs.declared.own_faults.OwnFaults.{OwnFaults}
use Rattle.bgp_why.specs.declared.applying.Applying.{Applying}
use Rattle.bgp_why.specs.declared.asked.Received.{Received as Message}
use Rattle.bgp_why.specs.declared.asked.Received.TheVariants as messages
use Rattle.bgp_why.specs.declared.message.MessageName.{MessageName}
use Rattle.bgp_why.specs.declared.message.MessageName.TheVariants as names
use Rattle.bgp_why.specs.declared.place.Place.{Place}
use Rattle.bgp_why.specs.declared.refusal.FieldReasons.{FieldReasons}
use Rattle.bgp_why.specs.declared.refusal.OpenReasons.{OpenReasons}
use Rattle.bgp_why.specs.declared.refusal.OpenReasons.TheVariants as reasons
use Rattle.bgp_why.specs.declared.style.Style.{Style}
use Rattle.bgp_why.specs.declared.whole.NotWhole.{NotWhole}
use Rattle.bgp_why.specs.declared.whole.NotWhole.TheVariants.{Faulty, BelowHeader, OtherCount}
use Rattle.bgp_why.specs.Applying.{IsApplying, MayBeApplied, applied_piece, applied_text, disabled_text, may_disable, may_disable_these, or_else, outcomes_text, refused_piece, these, update_asks}
use Rattle.bgp_why.specs.Asked as asked
use Rattle.bgp_why.specs.Asked.{Asks}
use Rattle.bgp_why.specs.Deed.{due_first, message_due}
use Rattle.bgp_why.specs.Lacks.{IsWholeOf, is_code_possible, is_notification}
use Rattle.bgp_why.specs.Message.{IsNamed, name_of}
use Rattle.bgp_why.specs.Notes.{IsNotificationOf}
use Rattle.bgp_why.specs.NotWhole.{IsWhyNot, IsWhyNotSent}
use Rattle.bgp_why.specs.Possible.{shown_lines}
use Rattle.bgp_why.specs.Refusal.{AreFieldReasons, AreReasons, IsToldOf}
use Rattle.bgp_explain.specs.declared.why.Received.{Received as LastReceived}
use Rattle.bgp_explain.specs.Details.{AreLacksOf, IsAskedBy}
use Rattle.bgp_explain.specs.Lacked.{Lacked, Nothing, Open, Update, Notification, RecordLacks, SentLacks, but_text, following_lines, lacked_cause}
use Rattle.bgp_explain.specs.Updates.{Asking, update_line}
use Rattle.bgp_explain.specs.Updates as updates
use Rattle.bgp_explain.specs.Why.{IsCaptured, IsReceivedBy, IsUnwholeOf, received_form, received_line}
use Rattle.bgp_explain.proofs.Captured.{long_enough}
use Rattle.bgp_explain.proofs.OnePossible.{same}

never : false ≡ true → ⊥
never e = cc

-- ---- how a message is called

pub one_name : (form : RouteForm) (limit : Limit) (octets : List ℕ) (a b : MessageName) → IsNamed form limit octets a → IsNamed form limit octets b → a ≡ b
one_name form limit octets a b (inl h) (inl k) = h.1.2 ∙ ap name_of (one_message form octets h.1.0 k.1.0 h.1.1 k.1.1) ∙ sym k.1.2
one_name form limit octets a b (inl h) (inr k) = absurd (k.0.1 h.0.sound)
one_name form limit octets a b (inr h) (inl k) = absurd (h.0.1 k.0.sound)
one_name form limit octets a b (inr h) (inr k) = h.1.2 ∙ ap names.FaultyHeader (one_fault_set limit (header_of octets) h.1.0 k.1.0 h.1.1 k.1.1) ∙ sym k.1.2

-- ---- why an OPEN has to be refused

module _ (config : Config) (octets : List ℕ) where
  one_told : (subcode : ℕ) (told other : Option ℕ) (said : ℕ) → IsToldOf config octets subcode told said → IsToldOf config octets subcode other said → told ≡ other
  one_told subcode None None said h k = refl
  one_told subcode None (Some m) said h k = absurd (h k.0)
  one_told subcode (Some n) None said h k = absurd (k h.0)
  one_told subcode (Some n) (Some m) said h k = ap Some (h.1 ∙ sym k.1)

  one_fields : (a b : FieldReasons) → AreFieldReasons config octets a → AreFieldReasons config octets b → a ≡ b
  one_fields a b h k =
      let other = same _ a.other_parameter b.other_parameter h.other_parameter k.other_parameter in
      let peer = one_told 2 a.peer_as b.peer_as (peer_as_of config (open_of octets)) h.peer_as k.peer_as in
      let id = one_told 3 a.identifier b.identifier (open_of octets).id h.identifier k.identifier in
      let hold = one_told 6 a.hold b.hold (open_of octets).hold h.hold k.hold in
      let configured = h.configured_as ∙ sym k.configured_as in
      λ i. record { other_parameter = other i; peer_as = peer i; configured_as = configured i; identifier = id i; hold = hold i }

  one_reason : (r s : OpenReasons) → AreReasons config octets r → AreReasons config octets s → r ≡ s
  one_reason (reasons.Version n) (reasons.Version m) h k = ap reasons.Version (h.1 ∙ sym k.1)
  one_reason (reasons.Version n) reasons.Malformed h k = absurd (let e : Version ≡ Malformed = one_fault octets Version Malformed h.0 k in cc)
  one_reason (reasons.Version n) (reasons.Fields b) h k = absurd (k.0 h.0)
  one_reason reasons.Malformed (reasons.Version m) h k = absurd (let e : Version ≡ Malformed = one_fault octets Version Malformed k.0 h in cc)
  one_reason reasons.Malformed reasons.Malformed h k = refl
  one_reason reasons.Malformed (reasons.Fields b) h k = absurd (k.1 h)
  one_reason (reasons.Fields a) (reasons.Version m) h k = absurd (h.0 k.0)
  one_reason (reasons.Fields a) reasons.Malformed h k = absurd (h.1 k)
  one_reason (reasons.Fields a) (reasons.Fields b) h k = ap reasons.Fields (one_fields a b h.2 k.2)

  -- ---- the message that was received last

  abbrev kind_of : Message → ℕ
  kind_of messages.FaultyHeader = 0
  kind_of (messages.ValidOpen link) = 1
  kind_of (messages.InvalidOpen why) = 2
  kind_of messages.Update = 3
  kind_of messages.Keepalive = 4
  kind_of messages.Notification = 5

  abbrev kind_heard : Heard → ℕ
  kind_heard heard.TooShort = 6
  kind_heard (heard.ValidOpen link subcodes) = 1
  kind_heard (heard.FaultyHeader faults) = 0
  kind_heard (heard.InvalidOpen subcodes) = 2
  kind_heard heard.BadVersion = 5
  kind_heard heard.Notification = 5
  kind_heard heard.Keepalive = 4
  kind_heard heard.Update = 3

  heard_as : (m : Message) → Asks config octets m → (h : Heard) × Hears config octets h × (kind_heard h ≡ kind_of m)
  heard_as messages.FaultyHeader h = (heard.FaultyHeader h.0, h.1, refl)
  heard_as (messages.ValidOpen link) h = (heard.ValidOpen link h.0, h.1, refl)
  heard_as (messages.InvalidOpen why) h = (heard.InvalidOpen h.0, h.1, refl)
  heard_as messages.Update h = (heard.Update, h, refl)
  heard_as messages.Keepalive h = (heard.Keepalive, h, refl)
  heard_as messages.Notification (inl h) = (heard.BadVersion, h, refl)
  heard_as messages.Notification (inr h) = (heard.Notification, h, refl)

  alike : (m n : Message) → Asks config octets m → Asks config octets n → kind_of m ≡ kind_of n → m ≡ n
  alike messages.FaultyHeader messages.FaultyHeader h k e = refl
  alike (messages.ValidOpen a) (messages.ValidOpen b) h k e =
      let s : heard.ValidOpen a h.0 ≡ heard.ValidOpen b k.0 = one_heard config octets (heard.ValidOpen a h.0) (heard.ValidOpen b k.0) h.1 k.1 in cc
  alike (messages.InvalidOpen r) (messages.InvalidOpen t) h k e = ap messages.InvalidOpen (one_reason r t h.2 k.2)
  alike messages.Update messages.Update h k e = refl
  alike messages.Keepalive messages.Keepalive h k e = refl
  alike messages.Notification messages.Notification h k e = refl
  alike m n h k e = absurd (omega (arith, e))

  one_asked : (m n : Message) → Asks config octets m → Asks config octets n → m ≡ n
  one_asked m n h k =
      let x = heard_as m h in
      let y = heard_as n k in
      alike m n h k (sym x.2 ∙ ap kind_heard (one_heard config octets x.0 y.0 x.1 y.1) ∙ y.2)

  pub one_received : (link : Option Link) (told : Told) (o : Option Place) (a b : Option LastReceived) → IsReceivedBy config link told octets o a
      → IsReceivedBy config link told octets o b → (IsTrue (is_some o) → IsCaptured config octets) → a ≡ b
  one_received link told None None None h k whole = refl
  one_received link told None None (Some b) h k whole = absurd k
  one_received link told None (Some a) b h k whole = absurd h
  one_received link told (Some n) None b h k whole = absurd h
  one_received link told (Some n) (Some a) None h k whole = absurd k
  one_received link told (Some n) (Some a) (Some b) h k whole =
      let place = h.0 ∙ sym k.0 in
      let state = h.1.state ∙ sym k.1.state in
      let is = whole refl in
      let long = long_enough (received_limit config) octets is in
      let name = one_name (received_form link) (received_limit config) octets a.asked.name b.asked.name (h.1.name is) (k.1.name is) in
      let message = one_asked a.asked.message b.asked.message (h.1.message long) (k.1.message long) in
      λ i. Some (record { place = place i; asked = record { state = state i; name = name i; message = message i } })

-- ---- what an UPDATE asks for

pub one_parts : (link : Link) (form : RouteForm) (octets : List ℕ) (p q : List Part) → AreUpdateParts link form octets p → AreUpdateParts link form octets q → p ≡ q
one_parts link form octets p q (inl a) (inl b) = a.1 ∙ sym b.1
one_parts link form octets p q (inl a) (inr b) = absurd (a.0 b.0 b.1)
one_parts link form octets p q (inr a) (inl b) = absurd (b.0 a.0 a.1)
one_parts link form octets p q (inr a) (inr b) = a.2 ∙ ap (section_parts link form) (one_split octets a.0 b.0 a.1 b.1) ∙ sym b.2

both : (a b : Bool) → IsTrue (a && b) → IsTrue a × IsTrue b
both true true h = (refl, refl)
both true false h = absurd (never h)
both false b h = absurd (never h)

of_both : (a b : Bool) → IsTrue a → IsTrue b → IsTrue (a && b)
of_both true true h k = refl
of_both true false h k = absurd (never k)
of_both false b h k = absurd (never h)

disables : (c o d : Bool) → IsTrue (may_disable c o d) → (IsTrue c → IsTrue d) × (IsTrue d → IsTrue c ⊎ IsTrue o)
disables true o true h = (λ x. refl, λ x. inl refl)
disables true o false h = absurd (never h)
disables false true true h = (λ x. refl, λ x. inr refl)
disables false true false h = (λ x. absurd (never x), λ x. absurd (never x))
disables false false true h = absurd (never h)
disables false false false h = (λ x. absurd (never x), λ x. absurd (never x))

may_of : (c o d : Bool) → (IsTrue c → IsTrue d) × (IsTrue d → IsTrue c ⊎ IsTrue o) → IsTrue (may_disable c o d)
may_of true o true h = refl
may_of true o false h = absurd (never (h.0 refl))
may_of false true true h = refl
may_of false true false h = refl
may_of false false true h = absurd (elim (h.1 refl) [ inl x ↦ never x | inr x ↦ never x ])
may_of false false false h = refl

-- the families are such as may be disabled
abbrev AreThese : Applying → Families → Type 0
AreThese x f = IsDisabled (λ g. IsTrue (contains x.certain g)) (λ g. IsTrue (contains x.optional g)) f

are_these : (x : Applying) (f : Families) → IsTrue (may_disable_these x f) → AreThese x f
are_these x f h V4 = disables x.certain.v4 x.optional.v4 f.v4 (both (may_disable x.certain.v4 x.optional.v4 f.v4) (may_disable x.certain.v6 x.optional.v6 f.v6) h).0
are_these x f h V6 = disables x.certain.v6 x.optional.v6 f.v6 (both (may_disable x.certain.v4 x.optional.v4 f.v4) (may_disable x.certain.v6 x.optional.v6 f.v6) h).1

if_these : (x : Applying) (f : Families) → AreThese x f → IsTrue (may_disable_these x f)
if_these x f h =
    of_both (may_disable x.certain.v4 x.optional.v4 f.v4) (may_disable x.certain.v6 x.optional.v6 f.v6) (may_of x.certain.v4 x.optional.v4 f.v4 (h V4))
    (may_of x.certain.v6 x.optional.v6 f.v6 (h V6))

certain_alone : (x : Applying) → AreThese x x.certain
certain_alone x V4 = (λ t. t, λ t. inl t)
certain_alone x V6 = (λ t. t, λ t. inl t)

module _ (link : Link) (octets : List ℕ) where
  abbrev IsAppliedBy : Option Applying → Type 0
  IsAppliedBy applied = MatchOption applied ((disabled : Families) → ¬ MayBeApplied link octets disabled) (IsApplying link octets)

  one_piece : (a b : Option Applying) → IsAppliedBy a → IsAppliedBy b → (f : Families) → applied_piece a f ≡ applied_piece b f
  one_piece None None h k f = refl
  one_piece None (Some y) h k f = absurd (h y.certain ((k.disabled y.certain).1 (certain_alone y)))
  one_piece (Some x) None h k f = absurd (k x.certain ((h.disabled x.certain).1 (certain_alone x)))
  one_piece (Some x) (Some y) h k f =
      let may : may_disable_these x f ≡ may_disable_these y f =
      same (MayBeApplied link octets f) (may_disable_these x f) (may_disable_these y f)
      (λ t. (h.disabled f).1 (are_these x f t), λ m. if_these x f ((h.disabled f).0 m))
      (λ t. (k.disabled f).1 (are_these y f t), λ m. if_these y f ((k.disabled f).0 m))
      in
      let withdrawn : x.as_withdrawal ≡ y.as_withdrawal = same _ x.as_withdrawal y.as_withdrawal h.withdrawal k.withdrawal in
      λ i. if may i then Some (applied_text (withdrawn i) ++ disabled_text f) else None

  module _ (sets : SubcodesAreSets) (a b : Asking) (h : updates.Asks link octets a) (k : updates.Asks link octets b) where
    one_outcomes : outcomes_text a.applied a.refused ≡ outcomes_text b.applied b.refused
    one_outcomes =
        let refused = sets a.refused b.refused (λ m. (λ t. (k.refused m).1 ((h.refused m).0 t), λ t. (h.refused m).1 ((k.refused m).0 t))) in
        let none = one_piece a.applied b.applied h.applied k.applied (these false false) in
        let v4 = one_piece a.applied b.applied h.applied k.applied (these true false) in
        let v6 = one_piece a.applied b.applied h.applied k.applied (these false true) in
        let all = one_piece a.applied b.applied h.applied k.applied (these true true) in
        λ i. separated or_else (codes ": ") (none i ∷ v4 i ∷ v6 i ∷ all i ∷ refused_piece (refused i) ∷ [])

    by_parts : (parts : List Part) → update_asks a.applied a.refused parts ≡ update_asks b.applied b.refused parts
    by_parts [] = refl
    by_parts (part ∷ parts) = λ i. one_outcomes i ++ (codes " [RFC 7606]" ++ shown_update (codes "; faulty: ") false (part ∷ parts))

    one_asks : update_asks a.applied a.refused a.parts ≡ update_asks b.applied b.refused b.parts
    one_asks = by_parts a.parts ∙ ap (update_asks b.applied b.refused) (one_parts link link.received octets a.parts b.parts h.parts k.parts)

    one_line : (style : Style) (place : Place) (name : MessageName) → update_line style place name a ≡ update_line style place name b
    unfolding update_line
    one_line style place name = ap (λ (asks : List ℕ). codes "  " ++ (asked.received_text style.first place name ++ (asks ++ codes "\n"))) one_asks

pub one_asking : SubcodesAreSets → (style : Style) (config : Config) (told : Told) (link : Option Link) (octets : List ℕ) (r : Option LastReceived) (a b : Option Asking)
    → IsAskedBy config told link octets a → IsAskedBy config told link octets b → received_line style r a ≡ received_line style r b
one_asking sets style config told link octets None a b h k = refl
one_asking sets style config told link octets (Some r) None None h k = refl
one_asking sets style config told link octets (Some r) None (Some b) h k = absurd (h k.0 k.1)
one_asking sets style config told link octets (Some r) (Some a) None h k = absurd (k h.0 h.1)
one_asking sets style config told link octets (Some r) (Some a) (Some b) h k =
    let some : Some h.0 ≡ Some k.0 = sym h.1.is_link ∙ k.1.is_link in
    let on : h.0 ≡ k.0 = cc in
    one_line h.0 octets sets a b h.2 (subst (λ (l : Link). updates.Asks l octets b) (sym on) k.2) style r.place r.asked.name

-- ---- whether it is whole

one_why_not : (limit : Limit) (octets : List ℕ) (a b : Option NotWhole) → IsWhyNot limit octets a → IsWhyNot limit octets b → a ≡ b
one_why_not limit octets None None h k = refl
one_why_not limit octets None (Some (Faulty e)) h k = absurd (k.0.1 h.sound)
one_why_not limit octets None (Some BelowHeader) h few = absurd (let many = h.header in omega (arith, few, many))
one_why_not limit octets None (Some OtherCount) h k = absurd (k.2 h.whole)
one_why_not limit octets (Some (Faulty e)) None h k = absurd (h.0.1 k.sound)
one_why_not limit octets (Some (Faulty e)) (Some (Faulty f)) h k = ap (λ (v : HeaderFaults). Some (Faulty v)) (one_fault_set limit (header_of octets) e f h.1 k.1)
one_why_not limit octets (Some (Faulty e)) (Some BelowHeader) h few = absurd (let many = h.0.0 in omega (arith, few, many))
one_why_not limit octets (Some (Faulty e)) (Some OtherCount) h k = absurd (h.0.1 k.1)
one_why_not limit octets (Some BelowHeader) None few k = absurd (let many = k.header in omega (arith, few, many))
one_why_not limit octets (Some BelowHeader) (Some (Faulty f)) few k = absurd (let many = k.0.0 in omega (arith, few, many))
one_why_not limit octets (Some BelowHeader) (Some BelowHeader) h k = refl
one_why_not limit octets (Some BelowHeader) (Some OtherCount) few k = absurd (let many = k.0 in omega (arith, few, many))
one_why_not limit octets (Some OtherCount) None h k = absurd (h.2 k.whole)
one_why_not limit octets (Some OtherCount) (Some (Faulty f)) h k = absurd (k.0.1 h.1)
one_why_not limit octets (Some OtherCount) (Some BelowHeader) h few = absurd (let many = h.0 in omega (arith, few, many))
one_why_not limit octets (Some OtherCount) (Some OtherCount) h k = refl

one_sent : (link : Option Link) (shown : ShownRecord) (a b : Option NotWhole) → IsWhyNotSent link shown a → IsWhyNotSent link shown b → a ≡ b
one_sent link (Received t octets) a b h k = h ∙ sym k
one_sent link (Sent t octets) a b h k = one_why_not (limit_on link) octets a b h k
one_sent link (Changed t x y) a b h k = h ∙ sym k

pub one_unwhole : (link : Option Link) (next : Option (ℕ × ShownRecord)) (a b : Option NotWhole) → IsUnwholeOf link next a → IsUnwholeOf link next b → a ≡ b
one_unwhole link None a b h k = h ∙ sym k
one_unwhole link (Some next) a b h k = one_sent link next.1 a b h k

-- ---- what it lacks

one_difference : {X : Type 0} (sent configured : X) (a b : Option (Differing X)) → fields.IsPart sent configured a → fields.IsPart sent configured b → a ≡ b
one_difference sent configured None None h k = refl
one_difference sent configured None (Some b) h k = absurd (k.0 h)
one_difference sent configured (Some a) None h k = absurd (h.0 k)
one_difference sent configured (Some a) (Some b) h k =
    let one = h.1 ∙ sym k.1 in
    let other = h.2 ∙ sym k.2 in
    λ i. Some (record { sent = one i; configured = other i })

one_offers_part : (sent configured : RouteOffer) (a b : Option (Differing RouteOffer)) → fields.IsOffersPart sent configured a → fields.IsOffersPart sent configured b → a ≡ b
one_offers_part sent configured None None h k = refl
one_offers_part sent configured None (Some b) (inl none) k = absurd (k.0 none)
one_offers_part sent configured None (Some b) (inr same) k = absurd (k.1.0 same)
one_offers_part sent configured (Some a) None h (inl none) = absurd (h.0 none)
one_offers_part sent configured (Some a) None h (inr same) = absurd (h.1.0 same)
one_offers_part sent configured (Some a) (Some b) h k = one_difference sent configured (Some a) (Some b) h.1 k.1

one_own_parts : (config : Config) (octets : List ℕ) (a b : opens.OwnOpenParts) → AreOwnOpenParts config octets a → AreOwnOpenParts config octets b → a ≡ b
one_own_parts config octets (own.Malformed f) (own.Malformed g) h k = ap own.Malformed (one_fault octets f g h k)
one_own_parts config octets (own.Malformed f) (own.Differing b) h k = absurd (none_if_well_formed octets f k.0 h)
one_own_parts config octets (own.Differing a) (own.Malformed g) h k = absurd (none_if_well_formed octets g h.0 k)
one_own_parts config octets (own.Differing a) (own.Differing b) h k =
    let my_as = one_difference (open_of octets).my_as (two_octet_as config.parts.local_as) a.my_as b.my_as h.1.my_as k.1.my_as in
    let hold = one_difference (open_of octets).hold config.parts.hold a.hold b.hold h.1.hold k.1.hold in
    let id = one_difference (open_of octets).id config.parts.local_id a.id b.id h.1.id k.1.id in
    let families = one_difference (families_of (open_of octets).capabilities) config.parts.families a.families b.families h.1.families k.1.families in
    let number = one_difference (as_number_of (open_of octets).capabilities) (if config.parts.as4 then Some config.parts.local_as else None) a.as_number b.as_number h.1.as_number k.1.as_number in
    let extended = one_difference (offers_extended (open_of octets).capabilities) config.parts.session.extended a.extended b.extended h.1.extended k.1.extended in
    let offers = one_offers_part (route_offer_in (open_of octets)) config.parts.offers a.offers b.offers h.1.offers k.1.offers in
    λ i. own.Differing (record { my_as = my_as i; hold = hold i; id = id i; families = families i; as_number = number i; extended = extended i; offers = offers i })

module _ (possible : Possible) (code subcode : ℕ) (detail : List ℕ) where
  one_word : (a b : Option NotificationPart) → IsPart possible code subcode detail a → IsPart possible code subcode detail b → word_piece code a ≡ word_piece code b
  one_word None None h k = refl
  one_word None (Some (words.Subcode m)) h k = absurd (k.1 (detail, h))
  one_word None (Some (words.Data e)) h k = absurd (k.2 h)
  one_word (Some (words.Subcode n)) None h k = absurd (h.1 (detail, k))
  one_word (Some (words.Subcode n)) (Some (words.Subcode m)) h k = ap (λ (v : ℕ). Some (code_text code v)) (h.0 ∙ sym k.0)
  one_word (Some (words.Subcode n)) (Some (words.Data e)) h k = absurd (h.1 k.1)
  one_word (Some (words.Data d)) None h k = absurd (h.2 k)
  one_word (Some (words.Data d)) (Some (words.Subcode m)) h k = absurd (k.1 h.1)
  one_word (Some (words.Data d)) (Some (words.Data e)) h k = ap (λ (v : List ℕ). Some (codes "data " ++ hex_text v)) (h.0 ∙ sym k.0)

  one_second : (second : ℕ) (a b : Option ℕ) → IsSecondPart possible second code a → IsSecondPart possible second code b → a ≡ b
  one_second second None None h k = refl
  one_second second None (Some m) h k = absurd (h k.1)
  one_second second (Some n) None h k = absurd (k h.1)
  one_second second (Some n) (Some m) h k = ap Some (h.0 ∙ sym k.0)

one_notification_text : (possible : Possible) (second c : ℕ) (octets before : List ℕ) (a b : declared.NotificationParts) → IsNotificationOf c octets → AreNotificationParts possible second octets a
    → AreNotificationParts possible second octets b → shown_notification before c a ≡ shown_notification before c b
one_notification_text possible second c octets before a b n h k =
    let e = sym h.is.body ∙ k.is.body in
    let code = one_code h.code h.subcode k.code k.subcode h.detail k.detail e in
    let subcode = one_subcode h.code h.subcode k.code k.subcode h.detail k.detail e in
    let detail = one_detail h.code h.subcode k.code k.subcode h.detail k.detail e in
    let part : IsPart possible h.code h.subcode h.detail b.part =
    subst (λ (c : ℕ). IsPart possible c h.subcode h.detail b.part) (sym code)
    (subst (λ (s : ℕ). IsPart possible k.code s h.detail b.part) (sym subcode) (subst (λ (d : List ℕ). IsPart possible k.code k.subcode d b.part) (sym detail) k.part))
    in
    let its : h.code ≡ c = one_code h.code h.subcode c n.0 h.detail n.1 (sym h.is.body ∙ n.2.body) in
    let early : IsSecondPart possible second h.code b.early = subst (λ (c : ℕ). IsSecondPart possible second c b.early) (sym code) k.second_part in
    let word : word_piece c a.part ≡ word_piece c b.part =
    subst (λ (v : ℕ). word_piece v a.part ≡ word_piece v b.part) its (one_word possible h.code h.subcode h.detail a.part b.part h.part part) in
    let at = one_second possible h.code h.subcode h.detail second a.early b.early h.second_part early in
    λ i. shown before (listed (word i ∷ early_piece (at i) ∷ []))

one_number : (octets : List ℕ) (a b : ℕ) → IsNotificationOf a octets → IsNotificationOf b octets → a ≡ b
one_number octets a b h k = one_code a h.0 b k.0 h.1 k.1 (sym h.2.body ∙ k.2.body)

of_one_type : (limit : Limit) (octets : List ℕ) → IsWholeOf limit 1 octets → IsWholeOf limit 2 octets → ⊥
of_one_type limit octets h k = let e = sym h.1 ∙ k.1 in omega (arith, e)

-- what is lacking is the same, or has the same text
abbrev pub IsAlike : Lacked → Lacked → Type 0
IsAlike Nothing Nothing = Unit {0}
IsAlike (Open a) (Open b) = a ≡ b
IsAlike (Update a) (Update b) = a ≡ b
IsAlike (Notification c a) (Notification d b) = (c ≡ d) × ((before : List ℕ) → shown_notification before c a ≡ shown_notification before d b)
IsAlike a b = ⊥

both_nothing : (a b : Lacked) → a ≡ Nothing → b ≡ Nothing → IsAlike a b
both_nothing a b h k = subst (λ (v : Lacked). IsAlike v b) (sym h) (subst (λ (v : Lacked). IsAlike Nothing v) (sym k) tt)

module _ (p : Possible) where
  pub alike_lines : (style : Style) (a b : Lacked) → IsAlike a b → following_lines style p a ≡ following_lines style p b
  alike_lines style Nothing Nothing is = refl
  alike_lines style Nothing (Open b) is = absurd is
  alike_lines style Nothing (Update b) is = absurd is
  alike_lines style Nothing (Notification d b) is = absurd is
  alike_lines style (Open a) Nothing is = absurd is
  alike_lines style (Open a) (Open b) is = ap (λ (v : opens.OwnOpenParts). following_lines style p (Open v)) is
  alike_lines style (Open a) (Update b) is = absurd is
  alike_lines style (Open a) (Notification d b) is = absurd is
  alike_lines style (Update a) Nothing is = absurd is
  alike_lines style (Update a) (Open b) is = absurd is
  alike_lines style (Update a) (Update b) is = ap (λ (v : List Part). following_lines style p (Update v)) is
  alike_lines style (Update a) (Notification d b) is = absurd is
  alike_lines style (Notification c a) Nothing is = absurd is
  alike_lines style (Notification c a) (Open b) is = absurd is
  alike_lines style (Notification c a) (Update b) is = absurd is
  alike_lines style (Notification c a) (Notification d b) is =
      let number = is.0 in
      let text = is.1 (codes "; this one: ") in
      λ i. shown_lines style false (λ item. if is_notification (number i) item then text i else []) p

  pub alike_cause : (faults : Option OwnFaults) (a b : Lacked) → IsAlike a b → lacked_cause faults p a ≡ lacked_cause faults p b
  alike_cause faults Nothing Nothing is = refl
  alike_cause faults Nothing (Open b) is = absurd is
  alike_cause faults Nothing (Update b) is = absurd is
  alike_cause faults Nothing (Notification d b) is = absurd is
  alike_cause faults (Open a) Nothing is = absurd is
  alike_cause faults (Open a) (Open b) is = ap (λ (v : opens.OwnOpenParts). lacked_cause faults p (Open v)) is
  alike_cause faults (Open a) (Update b) is = absurd is
  alike_cause faults (Open a) (Notification d b) is = absurd is
  alike_cause faults (Update a) Nothing is = absurd is
  alike_cause faults (Update a) (Open b) is = absurd is
  alike_cause faults (Update a) (Update b) is = ap (λ (v : List Part). lacked_cause faults p (Update v)) is
  alike_cause faults (Update a) (Notification d b) is = absurd is
  alike_cause faults (Notification c a) Nothing is = absurd is
  alike_cause faults (Notification c a) (Open b) is = absurd is
  alike_cause faults (Notification c a) (Update b) is = absurd is
  alike_cause faults (Notification c a) (Notification d b) is =
      let number = is.0 in
      let text = is.1 (codes ": ") in
      λ i. if p.message then codes ", not allowed here" ++ (if is_code_possible p (number i) then text i else []) else due_first (message_due p)

module _ (config : Config) (link : Option Link) (p : Possible) (second : ℕ) (octets : List ℕ) where
  unlike : (parts : List Part) → IsNone link ⊎ (¬ IsWholeOf (limit_on link) 2 octets)
      → IsWholeOf (limit_on link) 2 octets × IsSomeAnd link (λ l. AreUpdateParts l l.sent octets parts) → ⊥
  unlike parts (inl none) k = some_none link parts none k.1 where
    some_none : (l : Option Link) (parts : List Part) → IsNone l → IsSomeAnd l (λ v. AreUpdateParts v v.sent octets parts) → ⊥
    some_none None parts none some = some
    some_none (Some l) parts none some = never (sym none)
  unlike parts (inr other) k = other k.0

  one_lists : (l : Option Link) (a b : List Part) → IsSomeAnd l (λ v. AreUpdateParts v v.sent octets a) → IsSomeAnd l (λ v. AreUpdateParts v v.sent octets b) → a ≡ b
  one_lists None a b h k = absurd h
  one_lists (Some l) a b h k = one_parts l l.sent octets a b h k

  one_sent_lacks : (a b : Lacked) → SentLacks config link p second octets a → SentLacks config link p second octets b → IsAlike a b
  one_sent_lacks Nothing Nothing h k = tt
  one_sent_lacks Nothing (Open b) h k = absurd (h.0 k.0)
  one_sent_lacks Nothing (Update b) h k = absurd (unlike b h.1 k)
  one_sent_lacks Nothing (Notification c b) h k = absurd (k.2.1.like (h.2 k.2.1.code k.2.1.subcode k.2.1.detail k.2.1.is))
  one_sent_lacks (Open a) Nothing h k = absurd (k.0 h.0)
  one_sent_lacks (Open a) (Open b) h k = one_own_parts config octets a b h.1 k.1
  one_sent_lacks (Open a) (Update b) h k = absurd (of_one_type (limit_on link) octets h.0 k.0)
  one_sent_lacks (Open a) (Notification c b) h k = absurd (k.0 h.0)
  one_sent_lacks (Update a) Nothing h k = absurd (unlike a k.1 h)
  one_sent_lacks (Update a) (Open b) h k = absurd (of_one_type (limit_on link) octets k.0 h.0)
  one_sent_lacks (Update a) (Update b) h k = one_lists link a b h.1 k.1
  one_sent_lacks (Update a) (Notification c b) h k = absurd (unlike a k.1 h)
  one_sent_lacks (Notification c a) Nothing h k = absurd (h.2.1.like (k.2 h.2.1.code h.2.1.subcode h.2.1.detail h.2.1.is))
  one_sent_lacks (Notification c a) (Open b) h k = absurd (h.0 k.0)
  one_sent_lacks (Notification c a) (Update b) h k = absurd (unlike b h.1 k)
  one_sent_lacks (Notification c a) (Notification d b) h k =
      let number = one_number octets c d h.2.0 k.2.0 in
      (number, λ before. one_notification_text p second c octets before a b h.2.0 h.2.1 k.2.1 ∙ ap (λ (v : ℕ). shown_notification before v b) number)

pub one_record_lacks : (config : Config) (link : Option Link) (p : Possible) (shown : ShownRecord) (a b : Lacked) → RecordLacks config link p shown a
    → RecordLacks config link p shown b → IsAlike a b
one_record_lacks config link p (Received t octets) a b h k = both_nothing a b h k
one_record_lacks config link p (Sent t octets) a b h k = one_sent_lacks config link p t octets a b h k
one_record_lacks config link p (Changed t x y) a b h k = both_nothing a b h k

pub one_lack : (config : Config) (link : Option Link) (p : Possible) (next : Option (ℕ × ShownRecord)) (a b : Lacked) → AreLacksOf config link p next a
    → AreLacksOf config link p next b → IsAlike a b
one_lack config link p None a b h k = both_nothing a b h k
one_lack config link p (Some next) a b h k = one_record_lacks config link p next.1 a b h k
