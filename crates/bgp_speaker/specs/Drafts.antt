-- What the core has done on an input so far.
use Rattle.std.specs.Prelude.{◌≡◌, ◌++◌, ℕ, false, List, [], ◌∷◌, Option, None, Some, IsTrue}
use Rattle.std.specs.Prelude.{map}
use Rattle.bgp_prefix.specs.Prefix.{PrefixBits}
use Rattle.bgp_prefix.specs.Shown.{ShownRecord, Sent}
use Rattle.bgp_machine.specs.declared.fsm.Fsm.{Fsm}
use Rattle.bgp_open.specs.declared.config.Config.{Config}
use Rattle.bgp_machine.specs.declared.hearing.Heard.{Heard}
use Rattle.bgp_machine.specs.declared.rows.ReceivedRow.{ReceivedRow}
use Rattle.bgp_machine.specs.declared.state.Head.{Head}
use Rattle.bgp_machine.specs.declared.step.Step.{Step}
use Rattle.bgp_machine.specs.Heard.{Hears, received_limit}
use Rattle.bgp_machine.specs.Rows.{HeardShown}
use Rattle.bgp_rib.specs.Routes.{Routes}
use Rattle.bgp_speaker.specs.Pending.{routes_pending}
use Rattle.bgp_speaker.specs.Picks.{PicksOn}
use Rattle.bgp_machine.specs.declared.want.Want.{Want}
use Rattle.bgp_machine.specs.declared.want.Want.TheVariants.{CleanUpdate, Faults}
use Rattle.bgp_machine.specs.Owed.{HasFault}
use Rattle.bgp_open.specs.Families.{contains}
use Rattle.bgp_machine.specs.State.{Turn, link_at}
use Rattle.bgp_update.specs.Changes.{RouteChanges}
use Rattle.bgp_speaker.specs.declared.draft.Draft.{Draft}
use Rattle.bgp_speaker.specs.Shown.{shown_value}
use Rattle.bgp_speaker.specs.declared.saying.News.{News}
use Rattle.bgp_speaker.specs.declared.saying.News.TheVariants as news
use Rattle.bgp_open.specs.declared.link.Link.{Link}
use Rattle.bgp_machine.specs.Listed.{no_changes, IsStep}
use Rattle.bgp_speaker.specs.Said.{Says, SaysEach, announced, withdrawn}
use Rattle.bgp_speaker.specs.declared.input.Cue.{Cue}
use Rattle.bgp_speaker.specs.declared.input.Cue.TheVariants as cues
use Rattle.bgp_speaker.specs.declared.speaker.Speaker.{Speaker}
use Rattle.bgp_machine.specs.declared.rows.HiddenRow.{HiddenRow}
use Rattle.bgp_speaker.specs.Choice.{Acts, Greets, TakesOwn, TakesOn, change_records, sent_after}
use Rattle.bgp_speaker.specs.Choosing.{HearsBytes, SendsAt, TakesPicked, sent_in}
use Rattle.bgp_wire.specs.Held.{Held}
use Rattle.bgp_speaker.specs.Core.{IsConnected, IsPlain}
use Rattle.bgp_speaker.specs.Core.{Moment, InputValue, Start, Passive, Stop, Connected, Failed}
use Rattle.bgp_speaker.specs.Core.{Tick}

abbrev pub cue_value : Cue → InputValue
cue_value cues.Start = Start
cue_value cues.Passive = Passive
cue_value cues.Stop = Stop
cue_value cues.Connected = Connected
cue_value cues.Failed = Failed
cue_value cues.Tick = Tick

-- where the session is now, if these were the routes before the input
abbrev pub moment_of : {X : Type 0} → Routes → Draft X → Moment
moment_of routes d = record {
  session = record { head = d.head; routes = routes_pending d.pending routes };
  sent_at = d.sent_at;
}

-- the records so far
abbrev pub shown_in : {X : Type 0} → Draft X → List ShownRecord
shown_in d = map shown_value d.records.items

-- the draft shows these records more, and sends their messages
pub record Shows {X : Type 0} (old new : Draft X) (records : List ShownRecord) : Type 0 where
  pub records_are : shown_in new ≡ shown_in old ++ records
  pub octets_are : new.octets.items ≡ old.octets.items ++ sent_in records

-- the session moves, and what is wanted is sent
pub record Performs {X : Type 0} (routes : Routes) (speaker : Speaker) (changes : RouteChanges)
    (t kind : ℕ) (wants : List Want) (change : Option (Fsm × Fsm)) (turn : Turn)
    (old new : Draft X) : Type 0 where
  pub messages : List (List ℕ)
  pub acts : Acts speaker changes t kind wants turn messages (moment_of routes old)
      (moment_of routes new)
  pub shows : Shows old new
      (map (λ octets. Sent t octets) messages ++ change_records t change)

-- what a sent UPDATE says on the link
abbrev pub news_changes : Speaker → Option Link → Option News → RouteChanges
news_changes speaker link None = no_changes
news_changes speaker None (Some told) = no_changes
news_changes speaker (Some link) (Some (news.Announced prefix)) = announced speaker link prefix
news_changes speaker (Some link) (Some (news.Withdrawn prefix)) = withdrawn prefix

-- the prefix that it tells of
abbrev pub prefix_told : News → PrefixBits
prefix_told (news.Announced prefix) = prefix
prefix_told (news.Withdrawn prefix) = prefix

-- there is something to tell, its family is in use on the link, and that is plain
abbrev pub CanBeTold : Option Link → Option News → Type 0
CanBeTold (Some link) (Some told) =
    IsTrue (contains link.families (prefix_told told).family) × IsPlain (Some link)
CanBeTold link told = ⊥

-- a message can be made for the want
abbrev pub CanBeSaid : Option Link → Option News → Want → Type 0
CanBeSaid link told CleanUpdate = CanBeTold link told
CanBeSaid link told (Faults faults) = HasFault faults
CanBeSaid link told want = Unit {0}

-- the draft takes a row by itself
pub record DoesOwn {X : Type 0} (routes : Routes) (speaker : Speaker) (changes : RouteChanges)
    (t : ℕ) (row : HiddenRow) (old new : Draft X) : Type 0 where
  pub records : List ShownRecord
  pub takes : TakesOwn speaker changes t row (moment_of routes old) records (moment_of routes new)
  pub shows : Shows old new records

-- what is wanted is sent, and the state stays
pub record IsSaying {X : Type 0} (speaker : Speaker) (changes : RouteChanges) (t kind : ℕ)
    (wants : List Want) (old new : Draft X) : Type 0 where
  pub messages : List (List ℕ)
  pub says : SaysEach speaker (link_at old.head) kind changes wants messages
  pub sent_at : new.sent_at ≡ sent_after t messages old.sent_at
  pub shows : Shows old new (map (λ octets. Sent t octets) messages)

-- the same of one message
pub record IsSayingOne {X : Type 0} (speaker : Speaker) (changes : RouteChanges) (t kind : ℕ)
    (want : Want) (old new : Draft X) : Type 0 where
  pub message : List ℕ
  pub says : Says speaker (link_at old.head) kind changes want message
  pub sent_at : new.sent_at ≡ t
  pub shows : Shows old new (Sent t message ∷ [])

-- the step that is chosen about a message
pub record IsChosen (config : Config) (head : Head) (t : ℕ) (octets : List ℕ) (step : Step)
    (changes : RouteChanges) : Type 0 where
  pub heard : Heard
  pub row : ReceivedRow
  pub wants : List Want
  pub change : Option (Fsm × Fsm)
  pub turn : Turn
  pub hears : Hears config octets heard
  pub picks : PicksOn head octets heard row
  pub shown : HeardShown head t octets heard row wants change turn
  pub is_step : IsStep changes step wants change turn

-- the draft takes the step about a message
pub record DoesOn {X : Type 0} (routes : Routes) (speaker : Speaker) (t : ℕ) (octets : List ℕ)
    (old new : Draft X) : Type 0 where
  pub records : List ShownRecord
  pub takes : TakesOn speaker t octets (moment_of routes old) records (moment_of routes new)
  pub shows : Shows old new records

-- the draft takes the row that is picked on an input, if one is
pub record DoesPicked {X : Type 0} (routes : Routes) (speaker : Speaker) (t : ℕ)
    (input : InputValue) (old new : Draft X) : Type 0 where
  pub records : List ShownRecord
  pub takes : TakesPicked speaker input t (moment_of routes old) records (moment_of routes new)
  pub shows : Shows old new records

-- the draft tells the peer of a prefix in Established, where its family is in use; the routes stay
pub record DoesTell {X : Type 0} (routes : Routes) (speaker : Speaker) (t : ℕ) (told : News)
    (old new : Draft X) : Type 0 where
  pub records : List ShownRecord
  pub sends : SendsAt speaker old.head (λ link. news_changes speaker (Some link) (Some told))
      (prefix_told told) t (moment_of routes old) records (moment_of routes new)
  pub shows : Shows old new records
  pub head : new.head ≡ old.head
  pub stay : routes_pending new.pending routes ≡ routes_pending old.pending routes

-- the draft announces what is kept, where Established is entered
pub record DoesGreet {X : Type 0} (routes : Routes) (speaker : Speaker) (kept : List PrefixBits)
    (t : ℕ) (before : Head) (old new : Draft X) : Type 0 where
  pub records : List ShownRecord
  pub greets : Greets speaker kept t before (moment_of routes old) records (moment_of routes new)
  pub shows : Shows old new records

-- the draft hears a message
pub record DoesHear {X : Type 0} (routes : Routes) (speaker : Speaker) (kept : List PrefixBits)
    (t : ℕ) (octets : List ℕ) (old new : Draft X) : Type 0 where
  pub first : List ShownRecord
  pub between : Moment
  pub greeting : List ShownRecord
  pub takes : TakesOn speaker t octets (moment_of routes old) first between
  pub greets : Greets speaker kept t old.head between greeting (moment_of routes new)
  pub shows : Shows old new (first ++ greeting)

-- the draft hears what stands in the octets, of which this is left
pub record DoesHearAll {X : Type 0} (routes : Routes) (speaker : Speaker)
    (kept : List PrefixBits) (t : ℕ) (octets rest : List ℕ) (old new : Draft X) : Type 0 where
  pub records : List ShownRecord
  pub hears : HearsBytes speaker kept t (moment_of routes old) octets records
      (moment_of routes new) rest
  pub shows : Shows old new records

-- and where the connection stands, just that is still held
pub record HearsWell {X : Type 0} (routes : Routes) (speaker : Speaker) (kept : List PrefixBits)
    (t : ℕ) (octets : List ℕ) (held : Held) (old new : Draft X) : Type 0 where
  pub rest : List ℕ
  pub does : DoesHearAll routes speaker kept t octets rest old new
  pub left : IsConnected new.head
      → held ≡ record {
        limit = received_limit speaker.config;
        octets = rest;
        is_closed = false;
      }

-- whatever is heard from here on is heard from there on
pub record GoesOnHearing {X : Type 0} (routes : Routes) (speaker : Speaker)
    (kept : List PrefixBits) (t : ℕ) (octets later : List ℕ) (old new : Draft X) : Type 0 where
  pub records : List ShownRecord
  pub shows : Shows old new records
  pub hears : (others : List ShownRecord) (e : Moment) (rest : List ℕ)
      → HearsBytes speaker kept t (moment_of routes new) later others e rest
      → HearsBytes speaker kept t (moment_of routes old) octets (records ++ others) e rest
