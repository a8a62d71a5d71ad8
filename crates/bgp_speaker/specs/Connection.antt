-- What is heard on a connection: the octets that came on it since it was up, against the messages
-- that the records show as received.
use Rattle.std.specs.Prelude.{◌≡◌, ◌++◌, ℕ, List, [], ◌∷◌}
use Rattle.bgp_prefix.specs.Shown.{ShownRecord}
use Rattle.bgp_prefix.specs.Shown.{Received as In, Sent as Out, Changed as Change}
use Rattle.bgp_machine.specs.declared.state.Head.{Head}
use Rattle.bgp_machine.specs.declared.state.Head.TheVariants.{OpenSent, OpenConfirm, Established}
use Rattle.bgp_speaker.specs.declared.speaker.Speaker.{Speaker}
use Rattle.bgp_wire.specs.declared.header.Limit.{Limit}
use Rattle.bgp_machine.specs.Heard.{received_limit}
use Rattle.bgp_speaker.specs.Choosing.{AreHeard, Chooses, Drives}
use Rattle.bgp_speaker.specs.Core.{CoreState, InputValue, IsConnected, Bytes, fresh_core}

-- the messages that the records show as received, in order
abbrev pub received_in : List ShownRecord → List (List ℕ)
received_in [] = []
received_in (In t octets ∷ records) = octets ∷ received_in records
received_in (Out t octets ∷ records) = received_in records
received_in (Change t old new ∷ records) = received_in records

-- the octets that an input brings
abbrev pub octets_in : InputValue → List ℕ
octets_in (Bytes octets) = octets
octets_in input = []

-- a connection so far: the octets that came on it, and the messages that were received on it
pub record Connection : Type 0 where
  pub octets : List ℕ
  pub messages : List (List ℕ)

-- nothing came on it yet
abbrev pub new_connection : Connection
new_connection = record { octets = []; messages = [] }

-- After an input in this state, on which these messages were received. Where there was no
-- connection, nothing came on one, and the next one begins: octets that came all the same are none
-- of its own.
abbrev pub connection_after : Head → InputValue → List (List ℕ) → Connection → Connection
connection_after (OpenSent timer) input messages c =
    record { octets = c.octets ++ octets_in input; messages = c.messages ++ messages }
connection_after (OpenConfirm link timer) input messages c =
    record { octets = c.octets ++ octets_in input; messages = c.messages ++ messages }
connection_after (Established link timer) input messages c =
    record { octets = c.octets ++ octets_in input; messages = c.messages ++ messages }
connection_after head input messages c = record { octets = []; messages = messages }

-- The messages received are the first of those that stand in the octets: of the frames, which may
-- be so long, and of the header with a fault that ends them, if one does. While the connection
-- stands they are all of them.
pub record IsHeardOn (limit : Limit) (head : Head) (c : Connection) : Type 0 where
  pub later : List (List ℕ)
  pub rest : List ℕ
  pub heard : AreHeard limit c.octets (c.messages ++ later) rest
  pub all : IsConnected head → later ≡ []

-- many inputs, as `Drives` says, where after each of them the connection was heard
abbrev pub DrivesHearing : CoreState → Connection → List (ℕ × InputValue) → List ShownRecord
    → CoreState → Type 0
DrivesHearing s c [] records e = (records ≡ []) × (e ≡ s)
DrivesHearing s c (x ∷ xs) records e =
    (first : List ShownRecord) × (between : CoreState) × (others : List ShownRecord)
    × Chooses s x.1 x.0 first between
    × IsHeardOn (received_limit s.speaker.config) between.moment.session.head
    (connection_after s.moment.session.head x.1 (received_in first) c)
    × DrivesHearing between (connection_after s.moment.session.head x.1 (received_in first) c)
    xs others e
    × (records ≡ first ++ others)

-- in each drive from the fresh core each connection is heard
abbrev pub EachConnectionIsHeard : Type 0
EachConnectionIsHeard =
    (speaker : Speaker) (e : CoreState) (inputs : List (ℕ × InputValue))
    (records : List ShownRecord)
    → Drives (fresh_core speaker) inputs records e
    → DrivesHearing (fresh_core speaker) new_connection inputs records e
