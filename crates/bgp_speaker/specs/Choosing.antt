-- What the core does on an input: the records of its steps, and the state that they leave.
use Rattle.std.specs.Prelude.{◌≡◌, ◌⊎◌, ◌++◌, ℕ, List, [], ◌∷◌, Option, None, Some}
use Rattle.std.specs.Prelude.{max, IsTrue, IsFalse}
use Rattle.std.specs.BTreeMap.{is_at}
use Rattle.std.specs.Set.{is_member, remove_key}
use Rattle.std.specs.BTreeSet.{insert_key}
use Rattle.bgp_prefix.specs.Prefix.{PrefixBits}
use Rattle.bgp_prefix.specs.PrefixOrder.{prefix_cmp, prefix_eq}
use Rattle.bgp_prefix.specs.Shown.{ShownRecord}
use Rattle.bgp_prefix.specs.Shown.{Received as In, Sent as Out, Changed as Change}
use Rattle.bgp_open.specs.declared.link.Link.{Link}
use Rattle.bgp_wire.specs.declared.header.Limit.{Limit}
use Rattle.bgp_wire.specs.Framing.{IsFraming, IsShort, IsFaulty}
use Rattle.bgp_wire.specs.Header.{header_of}
use Rattle.bgp_open.specs.Families.{contains}
use Rattle.bgp_machine.specs.Heard.{received_limit}
use Rattle.bgp_machine.specs.declared.rows.HiddenRow.{HiddenRow}
use Rattle.bgp_machine.specs.declared.rows.HiddenRow.TheVariants.{Announces}
use Rattle.bgp_machine.specs.declared.state.Head.{Head}
use Rattle.bgp_machine.specs.declared.state.Head.TheVariants.{OpenSent}
use Rattle.bgp_machine.specs.declared.state.Head.TheVariants.{OpenConfirm, Established}
use Rattle.bgp_machine.specs.Listed.{no_changes}
use Rattle.bgp_update.specs.Changes.{RouteChanges}
use Rattle.bgp_speaker.specs.declared.speaker.Speaker.{Speaker}
use Rattle.bgp_speaker.specs.Choice.{TakesOwn, HearsEach}
use Rattle.bgp_speaker.specs.Core.{CoreState, Moment, InputValue, IsConnected}
use Rattle.bgp_speaker.specs.Core.{Bytes}
use Rattle.bgp_speaker.specs.Core.{Announce, Withdraw}
use Rattle.bgp_speaker.specs.Picks.{Picks}
use Rattle.bgp_speaker.specs.Said.{announced, withdrawn}

-- ---- the messages of a stretch of octets, where they may be so long

-- a header with a fault stands as a message of its own, and is the last one
abbrev pub AreLast : Limit → List ℕ → List (List ℕ) → Type 0
AreLast limit rest last =
    (IsShort limit rest × (last ≡ [])) ⊎ (IsFaulty limit rest × (last ≡ header_of rest ∷ []))

-- the frames of the octets, then the header with a fault that ends them, if one does; and the rest
pub record AreHeard (limit : Limit) (octets : List ℕ) (messages : List (List ℕ))
    (rest : List ℕ) : Type 0 where
  pub frames : List (List ℕ)
  pub last : List (List ℕ)
  pub framing : IsFraming limit octets frames rest
  pub ends : AreLast limit rest last
  pub are : messages ≡ frames ++ last

-- ---- inputs

-- the prefixes that are kept after an input
abbrev pub kept_after : InputValue → List PrefixBits → List PrefixBits
kept_after (Announce prefix) kept = insert_key prefix_cmp kept prefix
kept_after (Withdraw prefix) kept = remove_key (is_at (prefix_cmp prefix)) kept
kept_after input kept = kept

-- the row, where one is picked, and nothing else
abbrev pub TakesRow : Speaker → ℕ → Moment → Option HiddenRow → List ShownRecord → Moment → Type 0
TakesRow speaker t m None records e = (records ≡ []) × (e ≡ m)
TakesRow speaker t m (Some row) records e = TakesOwn speaker no_changes t row m records e

abbrev pub TakesPicked : Speaker → InputValue → ℕ → Moment → List ShownRecord → Moment → Type 0
TakesPicked speaker input t m records e =
    (picked : Option HiddenRow) × Picks m.session.head input m.sent_at t picked
    × TakesRow speaker t m picked records e

-- an UPDATE is sent in Established, where the family is in use
abbrev pub SendsAt : Speaker → Head → (Link → RouteChanges) → PrefixBits → ℕ → Moment
    → List ShownRecord → Moment → Type 0
SendsAt speaker (Established link timer) changes prefix t m records e =
    (IsTrue (contains link.families prefix.family)
    × TakesOwn speaker (changes link) t Announces m records e)
    ⊎ (IsFalse (contains link.families prefix.family) × (records ≡ []) × (e ≡ m))
SendsAt speaker head changes prefix t m records e = (records ≡ []) × (e ≡ m)

-- the messages that stand in the octets
pub record HearsBytes (speaker : Speaker) (kept : List PrefixBits) (t : ℕ) (m : Moment)
    (octets : List ℕ) (records : List ShownRecord) (e : Moment) (rest : List ℕ) : Type 0 where
  pub messages : List (List ℕ)
  pub heard : AreHeard (received_limit speaker.config) octets messages rest
  pub each : HearsEach speaker kept t m messages records e

-- the steps, and the octets that are held after them where a connection is
abbrev pub Moves : CoreState → InputValue → ℕ → List ShownRecord → Moment → List ℕ → Type 0
Moves s (Bytes octets) t records e rest =
    ((¬ IsConnected s.moment.session.head) × (records ≡ []) × (e ≡ s.moment) × (rest ≡ s.held))
    ⊎ (IsConnected s.moment.session.head
    × HearsBytes s.speaker s.kept t s.moment (s.held ++ octets) records e rest)
Moves s (Announce prefix) t records e rest =
    SendsAt s.speaker s.moment.session.head (λ link. announced s.speaker link prefix) prefix t
    s.moment records e × (rest ≡ s.held)
Moves s (Withdraw prefix) t records e rest =
    ((IsTrue (is_member prefix_eq s.kept prefix)
    × SendsAt s.speaker s.moment.session.head (λ link. withdrawn prefix) prefix t
    s.moment records e)
    ⊎ (IsFalse (is_member prefix_eq s.kept prefix) × (records ≡ []) × (e ≡ s.moment)))
    × (rest ≡ s.held)
Moves s input t records e rest =
    TakesPicked s.speaker input t s.moment records e × (rest ≡ s.held)

-- with the connection its octets go
abbrev pub held_after : Head → List ℕ → List ℕ
held_after (OpenSent timer) rest = rest
held_after (OpenConfirm link timer) rest = rest
held_after (Established link timer) rest = rest
held_after head rest = []

-- the core's choice on an input at a second; one below the last is taken as the last
abbrev pub Chooses : CoreState → InputValue → ℕ → List ShownRecord → CoreState → Type 0
Chooses s input second records s2 =
    let t = max s.second second in
    (e : Moment) × (rest : List ℕ) × Moves s input t records e rest
    × (s2 ≡ record {
      speaker = s.speaker;
      moment = e;
      kept = kept_after input s.kept;
      second = t;
      held = held_after e.session.head rest;
    })

-- ---- what is sent

-- the octets of the sent messages, joined
abbrev pub sent_in : List ShownRecord → List ℕ
sent_in [] = []
sent_in (In t octets ∷ records) = sent_in records
sent_in (Out t octets ∷ records) = octets ++ sent_in records
sent_in (Change t old new ∷ records) = sent_in records

-- ---- many inputs, one after another: the records of their steps, joined
abbrev pub Drives : CoreState → List (ℕ × InputValue) → List ShownRecord → CoreState → Type 0
Drives s [] records e = (records ≡ []) × (e ≡ s)
Drives s (x ∷ xs) records e =
    (first : List ShownRecord) × (between : CoreState) × (others : List ShownRecord)
    × Chooses s x.1 x.0 first between × Drives between xs others e
    × (records ≡ first ++ others)
