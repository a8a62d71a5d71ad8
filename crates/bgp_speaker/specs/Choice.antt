-- The core's choice: for a state, an input and a second, the steps of the session machine that it
-- takes, told by their records, and the state that they leave.
use Rattle.std.specs.Prelude.{◌≡◌, ◌⊎◌, ◌++◌, ℕ, List, [], ◌∷◌, Option, None, Some}
use Rattle.std.specs.Prelude.{map, filter}
use Rattle.bgp_prefix.specs.Prefix.{PrefixBits}
use Rattle.bgp_prefix.specs.Shown.{ShownRecord}
use Rattle.bgp_prefix.specs.Shown.{Received as In, Sent as Out, Changed as Change}
use Rattle.bgp_open.specs.declared.link.Link.{Link}
use Rattle.bgp_open.specs.Families.{contains}
use Rattle.bgp_wire.specs.Header.{header_of, type_of}
use Rattle.bgp_machine.specs.declared.fsm.Fsm.{Fsm}
use Rattle.bgp_machine.specs.declared.hearing.Heard.{Heard}
use Rattle.bgp_machine.specs.declared.rows.HiddenRow.{HiddenRow}
use Rattle.bgp_machine.specs.declared.rows.HiddenRow.TheVariants.{Announces}
use Rattle.bgp_machine.specs.declared.rows.ReceivedRow.{ReceivedRow}
use Rattle.bgp_machine.specs.declared.state.Head.{Head}
use Rattle.bgp_machine.specs.declared.state.Head.TheVariants.{OpenConfirm, Established}
use Rattle.bgp_machine.specs.declared.want.Want.{Want}
use Rattle.bgp_machine.specs.Heard.{Hears}
use Rattle.bgp_machine.specs.Listed.{no_changes}
use Rattle.bgp_machine.specs.State.{Turn, fsm_of, link_at, moved, number_of}
use Rattle.bgp_machine.specs.Step.{Event, Hidden, Received, HiddenIn, ReceivedIn, change_of}
use Rattle.bgp_update.specs.Changes.{RouteChanges}
use Rattle.bgp_speaker.specs.declared.speaker.Speaker.{Speaker}
use Rattle.bgp_speaker.specs.Core.{Moment, IsConnected}
use Rattle.bgp_speaker.specs.Picks.{PicksOn}
use Rattle.bgp_speaker.specs.Said.{SaysEach, announced}

-- ---- one step

-- the record of the message that moves the session
abbrev pub heard_records : Event → ℕ → List ShownRecord
heard_records (Hidden row) t = []
heard_records (Received octets) t = In t octets ∷ []

abbrev pub change_records : ℕ → Option (Fsm × Fsm) → List ShownRecord
change_records t None = []
change_records t (Some change) = Change t (number_of change.0) (number_of change.1) ∷ []

-- a step's records in the core's order: the received message, the sent ones, the change of state
abbrev pub shown_by : Event → ℕ → List (List ℕ) → Option (Fsm × Fsm) → List ShownRecord
shown_by event t messages change =
    heard_records event t ++ (map (λ octets. Out t octets) messages ++ change_records t change)

-- the second of the last sent message
abbrev pub sent_after : ℕ → List (List ℕ) → ℕ → ℕ
sent_after t [] sent_at = sent_at
sent_after t (octets ∷ messages) sent_at = t

-- the Type of the message that moves the session
abbrev pub type_in : Event → ℕ
type_in (Hidden row) = 0
type_in (Received octets) = type_of (header_of octets)

-- the core sends what is wanted, and leaves this
pub record Acts (speaker : Speaker) (changes : RouteChanges) (t : ℕ) (kind : ℕ)
    (wants : List Want) (turn : Turn) (messages : List (List ℕ)) (m : Moment) (after : Moment)
    : Type 0 where
  pub says : SaysEach speaker (link_at m.session.head) kind changes wants messages
  pub leaves : after ≡ record {
    session = moved m.session turn;
    sent_at = sent_after t messages m.sent_at;
  }

-- the core takes a step that is so
pub record Takes (speaker : Speaker) (changes : RouteChanges) (t : ℕ) (event : Event)
    (Is : List Want → Turn → Type 0) (m : Moment) (records : List ShownRecord) (after : Moment)
    : Type 0 where
  pub wants : List Want
  pub turn : Turn
  pub messages : List (List ℕ)
  pub is : Is wants turn
  pub acts : Acts speaker changes t (type_in event) wants turn messages m after
  pub shows : records ≡ shown_by event t messages
      (change_of event (fsm_of m.session.head) (fsm_of turn.head))

-- by itself, where an UPDATE that is sent says these changes
abbrev pub TakesOwn : Speaker → RouteChanges → ℕ → HiddenRow → Moment → List ShownRecord → Moment
    → Type 0
TakesOwn speaker changes t row m records after =
    Takes speaker changes t (Hidden row) (HiddenIn m.session.head speaker.config t row)
    m records after

-- about a message
abbrev pub TakesOn : Speaker → ℕ → List ℕ → Moment → List ShownRecord → Moment → Type 0
TakesOn speaker t octets m records after =
    (heard : Heard) × (row : ReceivedRow) × Hears speaker.config octets heard
    × PicksOn m.session.head octets heard row
    × Takes speaker no_changes t (Received octets) (ReceivedIn m.session.head t octets heard row)
    m records after

-- ---- announcements

-- those of a family in use
abbrev pub used : Link → List PrefixBits → List PrefixBits
used link kept = filter (λ prefix. contains link.families prefix.family) kept

-- one UPDATE for each prefix, in order
abbrev pub AnnouncesEach : Speaker → ℕ → Link → Moment → List PrefixBits → List ShownRecord
    → Moment → Type 0
AnnouncesEach speaker t link m [] records e = (records ≡ []) × (e ≡ m)
AnnouncesEach speaker t link m (prefix ∷ prefixes) records e =
    (first : List ShownRecord) × (between : Moment) × (others : List ShownRecord)
    × TakesOwn speaker (announced speaker link prefix) t Announces m first between
    × AnnouncesEach speaker t link between prefixes others e
    × (records ≡ first ++ others)

-- on entering Established each kept prefix is announced whose family is in use
abbrev pub GreetsAt : Speaker → List PrefixBits → ℕ → Head → Head → Moment → List ShownRecord
    → Moment → Type 0
GreetsAt speaker kept t (OpenConfirm own timer) (Established link other) m records e =
    AnnouncesEach speaker t link m (used link kept) records e
GreetsAt speaker kept t old new m records e = (records ≡ []) × (e ≡ m)

abbrev pub Greets : Speaker → List PrefixBits → ℕ → Head → Moment → List ShownRecord → Moment
    → Type 0
Greets speaker kept t old m records e = GreetsAt speaker kept t old m.session.head m records e

-- ---- messages, one after another, while there is a connection
abbrev pub HearsEach : Speaker → List PrefixBits → ℕ → Moment → List (List ℕ) → List ShownRecord
    → Moment → Type 0
HearsEach speaker kept t m [] records e = (records ≡ []) × (e ≡ m)
HearsEach speaker kept t m (octets ∷ messages) records e =
    ((¬ IsConnected m.session.head) × (records ≡ []) × (e ≡ m))
    ⊎ (IsConnected m.session.head
    × (first : List ShownRecord) × (between : Moment) × (greeting : List ShownRecord)
    × (greeted : Moment) × (others : List ShownRecord)
    × TakesOn speaker t octets m first between
    × Greets speaker kept t m.session.head between greeting greeted
    × HearsEach speaker kept t greeted messages others e
    × (records ≡ first ++ (greeting ++ others)))
