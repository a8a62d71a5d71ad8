-- The core's choice is one.
use Rattle.std.proofs.Common.{◌≡◌, ℕ, ◌⊎◌, inl, inr, Bool, true, false, List, [], ◌∷◌, ◌++◌, Option, None, Some, IsTrue, IsFalse, map, max, sym, ap, subst, ◌∙◌, arith}
use Rattle.bgp_prefix.specs.Prefix.{PrefixBits}
use Rattle.bgp_prefix.specs.PrefixOrder.{prefix_eq}
use Rattle.std.specs.Set.{is_member}
use Rattle.bgp_prefix.specs.Shown.{ShownRecord, Sent}
use Rattle.bgp_open.specs.declared.link.Link.{Link}
use Rattle.bgp_open.specs.Families.{contains}
use Rattle.bgp_wire.specs.declared.header.Limit.{Limit}
use Rattle.bgp_machine.specs.Heard.{received_limit}
use Rattle.bgp_wire.specs.Framing.{IsShort, IsFaulty}
use Rattle.bgp_wire.proofs.OneFraming.{one_framing}
use Rattle.bgp_update.specs.Changes.{RouteChanges}
use Rattle.bgp_update.specs.Laws.{HasOneChange}
use Rattle.bgp_update.specs.Subcodes.{SubcodesAreSets}
use Rattle.bgp_machine.specs.declared.fsm.Fsm.{Fsm}
use Rattle.bgp_machine.specs.declared.hearing.Heard.{Heard}
use Rattle.bgp_machine.specs.declared.rows.HiddenRow.{HiddenRow}
use Rattle.bgp_machine.specs.declared.rows.HiddenRow.TheVariants.{Announces}
use Rattle.bgp_machine.specs.declared.rows.ReceivedRow.{ReceivedRow}
use Rattle.bgp_machine.specs.declared.state.Head.{Head}
use Rattle.bgp_machine.specs.declared.state.Head.TheVariants.{Idle, Connect, Active, OpenSent, OpenConfirm, Established}
use Rattle.bgp_machine.specs.declared.want.Want.{Want}
use Rattle.bgp_machine.specs.State.{Turn, fsm_of, link_at, moved}
use Rattle.bgp_machine.specs.Listed.{no_changes}
use Rattle.bgp_machine.specs.Step.{Event, HiddenIn, Received, ReceivedIn, change_of}
use Rattle.bgp_machine.proofs.OneHearing.{one_heard}
use Rattle.bgp_speaker.specs.declared.speaker.Speaker.{Speaker}
use Rattle.bgp_speaker.specs.Choice.{AnnouncesEach, Greets, GreetsAt, HearsEach, Takes, TakesOn, TakesOwn, change_records, heard_records, sent_after, shown_by, type_in, used}
use Rattle.bgp_speaker.specs.Choosing.{AreHeard, AreLast, HearsBytes, Moves, SendsAt, TakesPicked, TakesRow, held_after, kept_after}
use Rattle.bgp_speaker.specs.Core.{CoreState, InputValue, Moment, Bytes, Announce, Withdraw}
use Rattle.bgp_speaker.specs.OneChoice.{AreAlike, EachChoiceIsOne}
use Rattle.bgp_speaker.specs.Picks.{PicksOn}
use Rattle.bgp_speaker.specs.Said.{SaysEach, announced, withdrawn}
use Rattle.bgp_speaker.proofs.OneRow.{IsOnce, on_once, own_once, picks_once, row_once}
use Rattle.bgp_speaker.proofs.OneSaying.{alike_joined, all_alike, each_said_once, last_sent_once}

-- what is shown is alike, and one thing is left
abbrev IsSame : {T : Type 0} → List ShownRecord → List ShownRecord → T → T → Type 0
IsSame xs ys e f = AreAlike xs ys × (e ≡ f)

nothing : {T : Type 0} (m e f : T) (xs ys : List ShownRecord) → (xs ≡ []) × (e ≡ m) → (ys ≡ []) × (f ≡ m) → IsSame xs ys e f
nothing m e f xs ys x y =
    (subst (λ (v : List ShownRecord). AreAlike v ys) (sym x.0) (subst (λ (v : List ShownRecord). AreAlike [] v) (sym y.0) tt), x.1 ∙ sym y.1)

-- records that are told by other ones
alike_by : (xs xs' ys ys' : List ShownRecord) → xs ≡ xs' → ys ≡ ys' → AreAlike xs' ys' → AreAlike xs ys
alike_by xs xs' ys ys' e f a =
    subst (λ (v : List ShownRecord). AreAlike v ys) (sym e) (subst (λ (v : List ShownRecord). AreAlike xs' v) (sym f) a)

-- ---- one step

shown_alike : (event : Event) (t : ℕ) (messages others : List (List ℕ)) (change : Option (Fsm × Fsm))
    → AreAlike (map (λ (o : List ℕ). Sent t o) messages) (map (λ (o : List ℕ). Sent t o) others)
    → AreAlike (shown_by event t messages change) (shown_by event t others change)
shown_alike event t messages others change alike =
    alike_joined (heard_records event t) (heard_records event t) _ _ (all_alike (heard_records event t))
    (alike_joined (map (λ (o : List ℕ). Sent t o) messages) (map (λ (o : List ℕ). Sent t o) others) _ _ alike (all_alike (change_records t change)))

takes_once : (speaker : Speaker) (changes : RouteChanges) (t : ℕ) (event : Event) (Is : List Want → Turn → Type 0) (m e f : Moment) (xs ys : List ShownRecord)
    → IsOnce Is → Takes speaker changes t event Is m xs e → Takes speaker changes t event Is m ys f → IsSame xs ys e f
takes_once speaker changes t event Is m e f xs ys once x y =
    let same = once x.wants y.wants x.turn y.turn x.is y.is in
    let link = link_at m.session.head in
    let kind = type_in event in
    let says : SaysEach speaker link kind changes x.wants y.messages =
    subst (λ (ws : List Want). SaysEach speaker link kind changes ws y.messages) (sym same.0) y.acts.says
    in
    let change : Turn → Option (Fsm × Fsm) = λ u. change_of event (fsm_of m.session.head) (fsm_of u.head) in
    let sent = last_sent_once speaker link t kind m.sent_at changes x.wants x.messages y.messages x.acts.says says in
    let ends : e ≡ record { session = moved m.session y.turn; sent_at = sent_after t y.messages m.sent_at } =
    x.acts.leaves ∙ (λ i. record { session = moved m.session (same.1 i); sent_at = sent i })
    in
    let shows : ys ≡ shown_by event t y.messages (change x.turn) = y.shows ∙ ap (λ (u : Turn). shown_by event t y.messages (change u)) (sym same.1) in (
      alike_by xs (shown_by event t x.messages (change x.turn)) ys (shown_by event t y.messages (change x.turn)) x.shows shows
          (shown_alike event t x.messages y.messages (change x.turn) (each_said_once speaker link t kind changes x.wants x.messages y.messages x.acts.says says)),
      ends ∙ sym y.acts.leaves,
    )

pub own_same : (speaker : Speaker) (changes : RouteChanges) (t : ℕ) (row : HiddenRow) (m e f : Moment) (xs ys : List ShownRecord)
    → TakesOwn speaker changes t row m xs e → TakesOwn speaker changes t row m ys f → IsSame xs ys e f
own_same speaker changes t row m e f xs ys x y =
    takes_once speaker changes t _ (HiddenIn m.session.head speaker.config t row) m e f xs ys (own_once m.session.head speaker.config t row) x y

-- what the definitions of other crates say holds once
pub record AreOnce : Type 0 where
  pub change : HasOneChange
  pub sets : SubcodesAreSets

pub on_same : (once : AreOnce) (speaker : Speaker) (t : ℕ) (octets : List ℕ) (m e f : Moment) (xs ys : List ShownRecord)
    → TakesOn speaker t octets m xs e → TakesOn speaker t octets m ys f → IsSame xs ys e f
on_same once speaker t octets m e f xs ys x y =
    let head = m.session.head in
    let heard = one_heard speaker.config octets y.0 x.0 y.2 x.2 in
    let picks : PicksOn head octets x.0 y.1 = subst (λ (h : Heard). PicksOn head octets h y.1) heard y.3 in
    let row = row_once head octets x.0 y.1 x.1 picks x.3 in
    let takes : Takes speaker no_changes t (Received octets) (ReceivedIn head t octets x.0 x.1) m ys f =
    subst (λ (r : ReceivedRow). Takes speaker no_changes t (Received octets) (ReceivedIn head t octets x.0 r) m ys f) row
    (subst (λ (h : Heard). Takes speaker no_changes t (Received octets) (ReceivedIn head t octets h y.1) m ys f) heard y.4)
    in
    takes_once speaker no_changes t (Received octets) (ReceivedIn head t octets x.0 x.1) m e f xs ys
    (on_once head t octets x.0 x.1 once.change once.sets x.3) x.4 takes

-- ---- announcements

announced_same : (speaker : Speaker) (t : ℕ) (link : Link) (m e f : Moment) (prefixes : List PrefixBits) (xs ys : List ShownRecord)
    → AnnouncesEach speaker t link m prefixes xs e → AnnouncesEach speaker t link m prefixes ys f → IsSame xs ys e f
announced_same speaker t link m e f [] xs ys x y = nothing m e f xs ys x y
announced_same speaker t link m e f (prefix ∷ prefixes) xs ys x y =
    let first = own_same speaker (announced speaker link prefix) t Announces m x.1 y.1 x.0 y.0 x.3 y.3 in
    let others = announced_same speaker t link x.1 e f prefixes x.2 y.2 x.4
    (subst (λ (v : Moment). AnnouncesEach speaker t link v prefixes y.2 f) (sym first.1) y.4)
    in
    (alike_by xs (x.0 ++ x.2) ys (y.0 ++ y.2) x.5 y.5 (alike_joined x.0 y.0 x.2 y.2 first.0 others.0), others.1)

greeted_same : (speaker : Speaker) (kept : List PrefixBits) (t : ℕ) (old new : Head) (m e f : Moment) (xs ys : List ShownRecord)
    → GreetsAt speaker kept t old new m xs e → GreetsAt speaker kept t old new m ys f → IsSame xs ys e f
greeted_same speaker kept t (OpenConfirm own timer) (Established link other) m e f xs ys x y = announced_same speaker t link m e f (used link kept) xs ys x y
greeted_same speaker kept t old new m e f xs ys x y = nothing m e f xs ys x y

-- ---- messages

heard_same : (once : AreOnce) (speaker : Speaker) (kept : List PrefixBits) (t : ℕ) (m e f : Moment) (messages : List (List ℕ)) (xs ys : List ShownRecord)
    → HearsEach speaker kept t m messages xs e → HearsEach speaker kept t m messages ys f → IsSame xs ys e f
heard_same once speaker kept t m e f [] xs ys x y = nothing m e f xs ys x y
heard_same once speaker kept t m e f (octets ∷ messages) xs ys (inl x) (inl y) = nothing m e f xs ys (x.1, x.2) (y.1, y.2)
heard_same once speaker kept t m e f (octets ∷ messages) xs ys (inl x) (inr y) = absurd (x.0 y.0)
heard_same once speaker kept t m e f (octets ∷ messages) xs ys (inr x) (inl y) = absurd (y.0 x.0)
heard_same once speaker kept t m e f (octets ∷ messages) xs ys (inr x) (inr y) =
    let first = on_same once speaker t octets m x.2 y.2 x.1 y.1 x.6 y.6 in
    let greeting = greeted_same speaker kept t m.session.head x.2.session.head x.2 x.4 y.4 x.3 y.3 x.7
    (subst (λ (v : Moment). Greets speaker kept t m.session.head v y.3 y.4) (sym first.1) y.7)
    in
    let others = heard_same once speaker kept t x.4 e f messages x.5 y.5 x.8
    (subst (λ (v : Moment). HearsEach speaker kept t v messages y.5 f) (sym greeting.1) y.8)
    in (
      alike_by xs (x.1 ++ (x.3 ++ x.5)) ys (y.1 ++ (y.3 ++ y.5)) x.9 y.9
          (alike_joined x.1 y.1 (x.3 ++ x.5) (y.3 ++ y.5) first.0 (alike_joined x.3 y.3 x.5 y.5 greeting.0 others.0)),
      others.1,
    )

short_or_faulty : (limit : Limit) (rest : List ℕ) → IsShort limit rest → IsFaulty limit rest → ⊥
short_or_faulty limit rest (inl few) faulty = absurd (let many = faulty.0 in omega (arith, few, many))
short_or_faulty limit rest (inr sound) faulty = faulty.1 sound.1

last_same : (limit : Limit) (rest : List ℕ) (last others : List (List ℕ)) → AreLast limit rest last → AreLast limit rest others → last ≡ others
last_same limit rest last others (inl x) (inl y) = x.1 ∙ sym y.1
last_same limit rest last others (inl x) (inr y) = absurd (short_or_faulty limit rest x.0 y.0)
last_same limit rest last others (inr x) (inl y) = absurd (short_or_faulty limit rest y.0 x.0)
last_same limit rest last others (inr x) (inr y) = x.1 ∙ sym y.1

messages_same : (limit : Limit) (octets rest other : List ℕ) (messages others : List (List ℕ)) → AreHeard limit octets messages rest → AreHeard limit octets others other → (messages ≡ others) × (rest ≡ other)
messages_same limit octets rest other messages others x y =
    let one = one_framing limit octets x.frames y.frames rest other x.framing y.framing in
    let last = last_same limit rest x.last y.last x.ends (subst (λ (r : List ℕ). AreLast limit r y.last) (sym one.1) y.ends) in
    (x.are ∙ ((λ i. one.0 i ++ last i) ∙ sym y.are), one.1)

bytes_same : (once : AreOnce) (speaker : Speaker) (kept : List PrefixBits) (t : ℕ) (m e f : Moment) (octets rest other : List ℕ) (xs ys : List ShownRecord)
    → HearsBytes speaker kept t m octets xs e rest → HearsBytes speaker kept t m octets ys f other → IsSame xs ys e f × (rest ≡ other)
bytes_same once speaker kept t m e f octets rest other xs ys x y =
    let one = messages_same (received_limit speaker.config) octets rest other x.messages y.messages x.heard y.heard in (
      heard_same once speaker kept t m e f x.messages xs ys x.each (subst (λ (ms : List (List ℕ)). HearsEach speaker kept t m ms ys f) (sym one.0) y.each),
      one.1,
    )

-- ---- inputs

row_same : (speaker : Speaker) (t : ℕ) (m e f : Moment) (picked : Option HiddenRow) (xs ys : List ShownRecord)
    → TakesRow speaker t m picked xs e → TakesRow speaker t m picked ys f → IsSame xs ys e f
row_same speaker t m e f None xs ys x y = nothing m e f xs ys x y
row_same speaker t m e f (Some row) xs ys x y = own_same speaker no_changes t row m e f xs ys x y

picked_same : (speaker : Speaker) (input : InputValue) (t : ℕ) (m e f : Moment) (xs ys : List ShownRecord)
    → TakesPicked speaker input t m xs e → TakesPicked speaker input t m ys f → IsSame xs ys e f
picked_same speaker input t m e f xs ys x y =
    let one = picks_once m.session.head input m.sent_at t y.0 x.0 y.1 x.1 in
    row_same speaker t m e f x.0 xs ys x.2 (subst (λ (p : Option HiddenRow). TakesRow speaker t m p ys f) one y.2)

differ : (b : Bool) → IsTrue b → IsFalse b → ⊥
differ true here there = absurd (cc)
differ false here there = absurd (cc)

sent_same : (speaker : Speaker) (head : Head) (changes : Link → RouteChanges) (prefix : PrefixBits) (t : ℕ) (m e f : Moment) (xs ys : List ShownRecord)
    → SendsAt speaker head changes prefix t m xs e → SendsAt speaker head changes prefix t m ys f → IsSame xs ys e f
sent_same speaker (Established link timer) changes prefix t m e f xs ys (inl x) (inl y) = own_same speaker (changes link) t Announces m e f xs ys x.1 y.1
sent_same speaker (Established link timer) changes prefix t m e f xs ys (inl x) (inr y) = absurd (differ (contains link.families prefix.family) x.0 y.0)
sent_same speaker (Established link timer) changes prefix t m e f xs ys (inr x) (inl y) = absurd (differ (contains link.families prefix.family) y.0 x.0)
sent_same speaker (Established link timer) changes prefix t m e f xs ys (inr x) (inr y) = nothing m e f xs ys (x.1, x.2) (y.1, y.2)
sent_same speaker Idle changes prefix t m e f xs ys x y = nothing m e f xs ys x y
sent_same speaker (Connect delay) changes prefix t m e f xs ys x y = nothing m e f xs ys x y
sent_same speaker (Active delay) changes prefix t m e f xs ys x y = nothing m e f xs ys x y
sent_same speaker (OpenSent timer) changes prefix t m e f xs ys x y = nothing m e f xs ys x y
sent_same speaker (OpenConfirm own timer) changes prefix t m e f xs ys x y = nothing m e f xs ys x y

withdrawn_same : (s : CoreState) (prefix : PrefixBits) (t : ℕ) (e f : Moment) (xs ys : List ShownRecord)
    → (IsTrue (is_member prefix_eq s.kept prefix) × SendsAt s.speaker s.moment.session.head (λ link. withdrawn prefix) prefix t s.moment xs e)
    ⊎ (IsFalse (is_member prefix_eq s.kept prefix) × (xs ≡ []) × (e ≡ s.moment))
    → (IsTrue (is_member prefix_eq s.kept prefix) × SendsAt s.speaker s.moment.session.head (λ link. withdrawn prefix) prefix t s.moment ys f)
    ⊎ (IsFalse (is_member prefix_eq s.kept prefix) × (ys ≡ []) × (f ≡ s.moment))
    → IsSame xs ys e f
withdrawn_same s prefix t e f xs ys (inl x) (inl y) = sent_same s.speaker s.moment.session.head (λ link. withdrawn prefix) prefix t s.moment e f xs ys x.1 y.1
withdrawn_same s prefix t e f xs ys (inl x) (inr y) = absurd (differ (is_member prefix_eq s.kept prefix) x.0 y.0)
withdrawn_same s prefix t e f xs ys (inr x) (inl y) = absurd (differ (is_member prefix_eq s.kept prefix) y.0 x.0)
withdrawn_same s prefix t e f xs ys (inr x) (inr y) = nothing s.moment e f xs ys (x.1, x.2) (y.1, y.2)

moves_same : (once : AreOnce) (s : CoreState) (input : InputValue) (t : ℕ) (e f : Moment) (rest other : List ℕ) (xs ys : List ShownRecord)
    → Moves s input t xs e rest → Moves s input t ys f other → IsSame xs ys e f × (rest ≡ other)
moves_same once s (Bytes octets) t e f rest other xs ys (inl x) (inl y) = (nothing s.moment e f xs ys (x.1, x.2) (y.1, y.2), x.3 ∙ sym y.3)
moves_same once s (Bytes octets) t e f rest other xs ys (inl x) (inr y) = absurd (x.0 y.0)
moves_same once s (Bytes octets) t e f rest other xs ys (inr x) (inl y) = absurd (y.0 x.0)
moves_same once s (Bytes octets) t e f rest other xs ys (inr x) (inr y) =
    bytes_same once s.speaker s.kept t s.moment e f (s.held ++ octets) rest other xs ys x.1 y.1
moves_same once s (Announce prefix) t e f rest other xs ys x y =
    (sent_same s.speaker s.moment.session.head (λ link. announced s.speaker link prefix) prefix t s.moment e f xs ys x.0 y.0, x.1 ∙ sym y.1)
moves_same once s (Withdraw prefix) t e f rest other xs ys x y = (withdrawn_same s prefix t e f xs ys x.0 y.0, x.1 ∙ sym y.1)
moves_same once s input t e f rest other xs ys x y = (picked_same s.speaker input t s.moment e f xs ys x.0 y.0, x.1 ∙ sym y.1)

pub choice_is_one : AreOnce → EachChoiceIsOne
choice_is_one once s first second input at records others x y =
    let t = max s.second at in
    let one = moves_same once s input t x.0 y.0 x.1 y.1 records others x.2 y.2 in
    let moment = one.0.1 in
    let rest = one.1 in (
      one.0.0,
      x.3 ∙ ((λ i. record {
        speaker = s.speaker;
        moment = moment i;
        kept = kept_after input s.kept;
        second = t;
        held = held_after (moment i).session.head (rest i);
      }) ∙ sym y.3),
    )
