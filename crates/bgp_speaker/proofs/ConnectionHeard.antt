-- Each connection is heard: what was received on it is what stands in its octets.
use Rattle.std.proofs.Common.{◌≡◌, ℕ, List, [], ◌∷◌, ◌++◌, ◌⊎◌, inl, inr, Option, None, Some, map, max, refl, sym, ap, subst, ◌∙◌, append_assoc, append-nil, arith}
use Rattle.std.proofs.lemmas.List.Elements.{All-nil}
use Rattle.bgp_prefix.specs.Prefix.{PrefixBits}
use Rattle.bgp_prefix.specs.Shown.{ShownRecord, Received, Sent, Changed}
use Rattle.bgp_wire.specs.declared.header.Limit.{Limit}
use Rattle.bgp_machine.specs.Heard.{received_limit}
use Rattle.bgp_wire.specs.Framing.{IsFrame, IsShort}
use Rattle.bgp_machine.specs.declared.fsm.Fsm.{Fsm}
use Rattle.bgp_machine.specs.declared.state.Head.{Head}
use Rattle.bgp_machine.specs.declared.state.Head.TheVariants.{Idle, Connect, Active, OpenSent, OpenConfirm, Established}
use Rattle.bgp_speaker.specs.declared.speaker.Speaker.{Speaker}
use Rattle.bgp_speaker.specs.Choice.{HearsEach, TakesOn, change_records}
use Rattle.bgp_speaker.specs.Choosing.{AreHeard, Chooses, Drives, HearsBytes, held_after}
use Rattle.bgp_speaker.specs.Connection.{Connection, DrivesHearing, EachConnectionIsHeard, IsHeardOn, connection_after, new_connection, octets_in, received_in}
use Rattle.bgp_speaker.specs.Core.{CoreState, InputValue, IsConnected, Moment, Start, Passive, Stop, Connected, Failed, Bytes, Tick, Announce, Withdraw, fresh_core}
use Rattle.bgp_speaker.proofs.Answering.{held_off}
use Rattle.bgp_speaker.proofs.EachStep.{BringsNothing, IsKept, greets_kept, quiet_kept}
use Rattle.bgp_speaker.proofs.FaultEnds.{fault_ends_all, held_on}
use Rattle.bgp_speaker.proofs.HowCut.{heard_joined}

-- ---- what a step receives

received_joined : (xs ys : List ShownRecord) → received_in (xs ++ ys) ≡ received_in xs ++ received_in ys
received_joined [] ys = refl
received_joined (Received t octets ∷ xs) ys = ap (λ (v : List (List ℕ)). octets ∷ v) (received_joined xs ys)
received_joined (Sent t octets ∷ xs) ys = received_joined xs ys
received_joined (Changed t old new ∷ xs) ys = received_joined xs ys

sent_alone : (t : ℕ) (messages : List (List ℕ)) (change : Option (Fsm × Fsm))
    → received_in (map (λ (octets : List ℕ). Sent t octets) messages ++ change_records t change) ≡ []
sent_alone t [] None = refl
sent_alone t [] (Some change) = refl
sent_alone t (octets ∷ messages) change = sent_alone t messages change

-- nothing is received
abbrev ReceivesNothing : ℕ → Moment → List ShownRecord → Moment → Type 0
ReceivesNothing t m records e = received_in records ≡ []

by_itself : (speaker : Speaker) → IsKept speaker ReceivesNothing
by_itself speaker = record {
  none = λ t m. refl;
  joined = λ t m n e xs ys p q. received_joined xs ys ∙ (ap (λ (v : List (List ℕ)). v ++ received_in ys) p ∙ q);
  own = λ changes t row m e records taken x. ap (λ (v : List ShownRecord). received_in v) x.shows ∙ sent_alone t x.messages _;
}

one_received : (speaker : Speaker) (t : ℕ) (octets : List ℕ) (m e : Moment) (records : List ShownRecord)
    → TakesOn speaker t octets m records e → received_in records ≡ octets ∷ []
one_received speaker t octets m e records x =
    ap (λ (v : List ShownRecord). received_in v) x.4.shows ∙ ap (λ (v : List (List ℕ)). octets ∷ v) (sent_alone t x.4.messages _)

-- ---- messages one after another: the first of them are received, and all where the connection stands

record AreReceived (messages : List (List ℕ)) (records : List ShownRecord) (e : Moment) : Type 0 where
  later : List (List ℕ)
  are : messages ≡ received_in records ++ later
  all : IsConnected e.session.head → later ≡ []

are_received : (speaker : Speaker) (kept : List PrefixBits) (t : ℕ) (m e : Moment) (messages : List (List ℕ)) (records : List ShownRecord)
    → HearsEach speaker kept t m messages records e → AreReceived messages records e
are_received speaker kept t m e [] records x = record {
  later = [];
  are = ap (λ (v : List ShownRecord). received_in v ++ []) (sym x.0);
  all = λ on. refl;
}
are_received speaker kept t m e (octets ∷ messages) records x = elim x [
  | inl idle ↦ record {
    later = octets ∷ messages;
    are = ap (λ (v : List ShownRecord). received_in v ++ (octets ∷ messages)) (sym idle.1);
    all = λ on. absurd (idle.0 (subst (λ (v : Moment). IsConnected v.session.head) idle.2 on));
  }
  | inr there ↦
      let first = there.1 in
      let greeting = there.3 in
      let others = there.5 in
      let behind = are_received speaker kept t there.4 e messages others there.8 in
      let one : received_in first ≡ octets ∷ [] = one_received speaker t octets m there.2 first there.6 in
      let none : received_in greeting ≡ [] = greets_kept speaker ReceivesNothing (by_itself speaker) kept t m.session.head there.2.session.head there.2 there.4 greeting there.7 in
      let all : received_in records ≡ octets ∷ received_in others =
      ap (λ (v : List ShownRecord). received_in v) there.9 ∙ (received_joined first (greeting ++ others)
      ∙ (ap (λ (v : List (List ℕ)). v ++ received_in (greeting ++ others)) one ∙ ap (λ (v : List (List ℕ)). octets ∷ v) (received_joined greeting others
      ∙ ap (λ (v : List (List ℕ)). v ++ received_in others) none))) in
      record {
        later = behind.later;
        are = ap (λ (v : List (List ℕ)). octets ∷ v) behind.are ∙ ap (λ (v : List (List ℕ)). v ++ behind.later) (sym all);
        all = behind.all;
      }
]

-- ---- a connection after an input

connection_on : (head : Head) (input : InputValue) (messages : List (List ℕ)) (c : Connection) → IsConnected head
    → connection_after head input messages c ≡ record { octets = c.octets ++ octets_in input; messages = c.messages ++ messages }
connection_on Idle input messages c on = absurd on
connection_on (Connect d) input messages c on = absurd on
connection_on (Active d) input messages c on = absurd on
connection_on (OpenSent o) input messages c on = refl
connection_on (OpenConfirm l o) input messages c on = refl
connection_on (Established l o) input messages c on = refl

connection_off : (head : Head) (input : InputValue) (messages : List (List ℕ)) (c : Connection) → (IsConnected head → ⊥)
    → connection_after head input messages c ≡ record { octets = []; messages = messages }
connection_off Idle input messages c off = refl
connection_off (Connect d) input messages c off = refl
connection_off (Active d) input messages c off = refl
connection_off (OpenSent o) input messages c off = absurd (off tt)
connection_off (OpenConfirm l o) input messages c off = absurd (off tt)
connection_off (Established l o) input messages c off = absurd (off tt)

on_or_off : (head : Head) → IsConnected head ⊎ (IsConnected head → ⊥)
on_or_off Idle = inr (λ on. on)
on_or_off (Connect d) = inr (λ on. on)
on_or_off (Active d) = inr (λ on. on)
on_or_off (OpenSent o) = inl tt
on_or_off (OpenConfirm l o) = inl tt
on_or_off (Established l o) = inl tt

-- what is held between two inputs: nothing without a connection, and with one what is left of its octets, where all the rest was
-- received
record IsUpTo (limit : Limit) (s : CoreState) (c : Connection) : Type 0 where
  off : (IsConnected s.moment.session.head → ⊥) → s.held ≡ []
  on : IsConnected s.moment.session.head → AreHeard limit c.octets c.messages s.held
  short : IsConnected s.moment.session.head → IsShort limit s.held

-- after an input both hold
record IsHeardAfter (limit : Limit) (s : CoreState) (c : Connection) : Type 0 where
  heard : IsHeardOn limit s.moment.session.head c
  up : IsUpTo limit s c

heard_nothing : (limit : Limit) → AreHeard limit [] [] []
heard_nothing limit = record {
  frames = [];
  last = [];
  framing = record { whole = refl; each = All-nil (IsFrame limit); last = inl (inl (omega arith)) };
  ends = inl (inl (omega arith), refl);
  are = refl;
}

-- where all was received, and just that is held, if the connection stands
all_heard : (limit : Limit) (s : CoreState) (c : Connection) (rest : List ℕ) → AreHeard limit c.octets c.messages rest → IsShort limit rest
    → s.held ≡ held_after s.moment.session.head rest → IsHeardAfter limit s c
all_heard limit s c rest heard short held = record {
  heard = record {
    later = [];
    rest = rest;
    heard = subst (λ (v : List (List ℕ)). AreHeard limit c.octets v rest) (sym (append-nil c.messages)) heard;
    all = λ on. refl;
  };
  up = record {
    off = λ off. held ∙ held_off s.moment.session.head rest off;
    on = λ on. subst (λ (v : List ℕ). AreHeard limit c.octets c.messages v) (sym (held ∙ held_on s.moment.session.head rest on)) heard;
    short = λ on. subst (λ (v : List ℕ). IsShort limit v) (sym (held ∙ held_on s.moment.session.head rest on)) short;
  };
}

-- without a connection nothing is received, and nothing is held after
after_off : (limit : Limit) (s s2 : CoreState) (c : Connection) (input : InputValue) (records : List ShownRecord) (rest : List ℕ)
    → (IsConnected s.moment.session.head → ⊥) → s.held ≡ [] → received_in records ≡ [] → rest ≡ s.held
    → s2.held ≡ held_after s2.moment.session.head rest
    → IsHeardAfter limit s2 (connection_after s.moment.session.head input (received_in records) c)
after_off limit s s2 c input records rest off empty none left held =
    let is : connection_after s.moment.session.head input (received_in records) c ≡ new_connection =
    connection_off s.moment.session.head input (received_in records) c off ∙ (λ i. record { octets = []; messages = none i }) in
    subst (λ (v : Connection). IsHeardAfter limit s2 v) (sym is)
    (all_heard limit s2 new_connection [] (heard_nothing limit) (inl (omega arith))
    (held ∙ ap (λ (v : List ℕ). held_after s2.moment.session.head v) (left ∙ empty)))

quiet_brings : (input : InputValue) → BringsNothing input → octets_in input ≡ []
quiet_brings Start quiet = refl
quiet_brings Passive quiet = refl
quiet_brings Stop quiet = refl
quiet_brings Connected quiet = refl
quiet_brings Failed quiet = refl
quiet_brings (Bytes octets) quiet = absurd quiet
quiet_brings Tick quiet = refl
quiet_brings (Announce prefix) quiet = refl
quiet_brings (Withdraw prefix) quiet = refl

-- an input that brings no octets
after_quiet : (limit : Limit) (s s2 : CoreState) (c : Connection) (input : InputValue) (records : List ShownRecord) (rest : List ℕ)
    → BringsNothing input → IsUpTo limit s c → received_in records ≡ [] → rest ≡ s.held → s2.held ≡ held_after s2.moment.session.head rest
    → IsHeardAfter limit s2 (connection_after s.moment.session.head input (received_in records) c)
after_quiet limit s s2 c input records rest quiet up none left held = elim (on_or_off s.moment.session.head) [
  | inr off ↦ after_off limit s s2 c input records rest off (up.off off) none left held
  | inl on ↦
      let is : connection_after s.moment.session.head input (received_in records) c ≡ c =
      connection_on s.moment.session.head input (received_in records) c on ∙ (λ i. record {
        octets = (ap (λ (v : List ℕ). c.octets ++ v) (quiet_brings input quiet) ∙ append-nil c.octets) i;
        messages = (ap (λ (v : List (List ℕ)). c.messages ++ v) none ∙ append-nil c.messages) i;
      }) in
      subst (λ (v : Connection). IsHeardAfter limit s2 v) (sym is)
      (all_heard limit s2 c rest (subst (λ (v : List ℕ). AreHeard limit c.octets c.messages v) (sym left) (up.on on))
      (subst (λ (v : List ℕ). IsShort limit v) (sym left) (up.short on)) held)
]

-- octets
after_bytes : (s s2 : CoreState) (c : Connection) (octets : List ℕ) (t : ℕ) (records : List ShownRecord) (rest : List ℕ)
    → IsConnected s.moment.session.head → IsUpTo (received_limit s.speaker.config) s c
    → HearsBytes s.speaker s.kept t s.moment (s.held ++ octets) records s2.moment rest → s2.held ≡ held_after s2.moment.session.head rest
    → IsHeardAfter (received_limit s.speaker.config) s2 (connection_after s.moment.session.head (Bytes octets) (received_in records) c)
after_bytes s s2 c octets t records rest on up x held =
    let limit = received_limit s.speaker.config in
    let is = connection_on s.moment.session.head (Bytes octets) (received_in records) c on in
    let got = are_received s.speaker s.kept t s.moment s2.moment x.messages records x.each in
    let all : AreHeard limit (c.octets ++ octets) (c.messages ++ x.messages) rest =
    heard_joined limit c.octets octets c.messages x.messages s.held rest (up.on on) (up.short on) x.heard in
    let split : AreHeard limit (c.octets ++ octets) ((c.messages ++ received_in records) ++ got.later) rest =
    subst (λ (v : List (List ℕ)). AreHeard limit (c.octets ++ octets) v rest)
    (ap (λ (v : List (List ℕ)). c.messages ++ v) got.are ∙ sym (append_assoc c.messages (received_in records) got.later)) all in
    subst (λ (v : Connection). IsHeardAfter limit s2 v) (sym is) (record {
      heard = record { later = got.later; rest = rest; heard = split; all = got.all };
      up = record {
        off = λ off. held ∙ held_off s2.moment.session.head rest off;
        on = λ still. subst (λ (v : List ℕ). AreHeard limit (c.octets ++ octets) (c.messages ++ received_in records) v) (sym (held ∙ held_on s2.moment.session.head rest still))
            (subst (λ (v : List (List ℕ)). AreHeard limit (c.octets ++ octets) v rest)
            (ap (λ (v : List (List ℕ)). (c.messages ++ received_in records) ++ v) (got.all still) ∙ append-nil (c.messages ++ received_in records)) split);
        short = λ still. subst (λ (v : List ℕ). IsShort limit v) (sym (held ∙ held_on s2.moment.session.head rest still))
            (fault_ends_all s.speaker s.kept t s.moment s2.moment (s.held ++ octets) records rest x still);
      };
    })

quiet_after : (limit : Limit) (s s2 : CoreState) (c : Connection) (input : InputValue) (second : ℕ) (records : List ShownRecord) → BringsNothing input → IsUpTo limit s c
    → Chooses s input second records s2 → IsHeardAfter limit s2 (connection_after s.moment.session.head input (received_in records) c)
quiet_after limit s s2 c input second records quiet up x =
    let kept = quiet_kept s ReceivesNothing (by_itself s.speaker) input (max s.second second) records x.0 x.1 quiet x.2 in
    after_quiet limit s s2 c input records x.1 quiet up kept.0 kept.1
    (subst (λ (v : CoreState). v.held ≡ held_after v.moment.session.head x.1) (sym x.3) refl)

chooses_heard : (s s2 : CoreState) (c : Connection) (input : InputValue) (second : ℕ) (records : List ShownRecord) → IsUpTo (received_limit s.speaker.config) s c
    → Chooses s input second records s2 → IsHeardAfter (received_limit s.speaker.config) s2 (connection_after s.moment.session.head input (received_in records) c)
chooses_heard s s2 c (Bytes octets) second records up x =
    let held : s2.held ≡ held_after s2.moment.session.head x.1 = subst (λ (v : CoreState). v.held ≡ held_after v.moment.session.head x.1) (sym x.3) refl in
    elim x.2 [
      | inl idle ↦ after_off (received_limit s.speaker.config) s s2 c (Bytes octets) records x.1 idle.0 (up.off idle.0) (ap (λ (v : List ShownRecord). received_in v) idle.1) idle.3 held
      | inr there ↦ after_bytes s s2 c octets (max s.second second) records x.1 there.0 up
          (subst (λ (v : Moment). HearsBytes s.speaker s.kept (max s.second second) s.moment (s.held ++ octets) records v x.1)
          (sym (ap (λ (v : CoreState). v.moment) x.3)) there.1) held
    ]
chooses_heard s s2 c Start second records up x = quiet_after (received_limit s.speaker.config) s s2 c Start second records tt up x
chooses_heard s s2 c Passive second records up x = quiet_after (received_limit s.speaker.config) s s2 c Passive second records tt up x
chooses_heard s s2 c Stop second records up x = quiet_after (received_limit s.speaker.config) s s2 c Stop second records tt up x
chooses_heard s s2 c Connected second records up x = quiet_after (received_limit s.speaker.config) s s2 c Connected second records tt up x
chooses_heard s s2 c Failed second records up x = quiet_after (received_limit s.speaker.config) s s2 c Failed second records tt up x
chooses_heard s s2 c Tick second records up x = quiet_after (received_limit s.speaker.config) s s2 c Tick second records tt up x
chooses_heard s s2 c (Announce prefix) second records up x = quiet_after (received_limit s.speaker.config) s s2 c (Announce prefix) second records tt up x
chooses_heard s s2 c (Withdraw prefix) second records up x = quiet_after (received_limit s.speaker.config) s s2 c (Withdraw prefix) second records tt up x

drives_heard : (s e : CoreState) (c : Connection) (inputs : List (ℕ × InputValue)) (records : List ShownRecord) → IsUpTo (received_limit s.speaker.config) s c
    → Drives s inputs records e → DrivesHearing s c inputs records e
drives_heard s e c [] records up x = x
drives_heard s e c (input ∷ inputs) records up x =
    let after = chooses_heard s x.1 c input.1 input.0 x.0 up x.3 in
    let next = connection_after s.moment.session.head input.1 (received_in x.0) c in
    let same : received_limit s.speaker.config ≡ received_limit x.1.speaker.config = ap (λ (v : CoreState). received_limit v.speaker.config) (sym x.3.3) in (
      x.0,
      x.1,
      x.2,
      x.3,
      after.heard,
      drives_heard x.1 e (connection_after s.moment.session.head input.1 (received_in x.0) c) inputs x.2 (subst (λ (l : Limit). IsUpTo l x.1 next) same after.up) x.4,
      x.5,
    )

pub each_heard_on : EachConnectionIsHeard
each_heard_on speaker e inputs records x =
    drives_heard (fresh_core speaker) e new_connection inputs records (record { off = λ off. refl; on = λ on. absurd on; short = λ on. absurd on }) x
