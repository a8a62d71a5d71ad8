-- What the steps that a record opens make of members that have nothing left to show.
use Rattle.std.specs.Prelude.{◌≡◌, ◌≢◌, ◌⊎◌, ℕ, false, IsSome, IsTrue, List, [], ◌∷◌, Option}
use Rattle.std.specs.Prelude.{None, Some}
use Rattle.bgp_prefix.specs.Shown.{ShownRecord, Sent}
use Rattle.bgp_open.specs.declared.config.Config.{Config}
use Rattle.bgp_open.specs.declared.families.Families.{Families}
use Rattle.bgp_open.specs.declared.link.Link.{Link}
use Rattle.bgp_update.specs.declared.outcomes.Changes.{Changes}
use Rattle.bgp_update.specs.Changes.{RouteChanges}
use Rattle.bgp_machine.specs.declared.fsm.Fsm.{Fsm}
use Rattle.bgp_machine.specs.declared.fsm.Fsm.TheVariants as fsms
use Rattle.bgp_machine.specs.declared.state.Head.{Head}
use Rattle.bgp_machine.specs.declared.state.Head.TheVariants.{Established, Idle}
use Rattle.bgp_machine.specs.declared.state.HoldTimer.{HoldTimer}
use Rattle.bgp_machine.specs.declared.step.Routes.TheVariants as routes
use Rattle.bgp_machine.specs.declared.step.Step.{Step}
use Rattle.bgp_machine.specs.declared.want.FaultSet.{FaultSet}
use Rattle.bgp_machine.specs.declared.want.Want.{Want}
use Rattle.bgp_machine.specs.declared.want.Want.TheVariants.{CleanUpdate, Faults}
use Rattle.bgp_machine.specs.Going.{told, shown_after, undelayed}
use Rattle.bgp_machine.specs.Listed.{changes_of, turn_of}
use Rattle.bgp_machine.specs.Rows.{silent_heads}
use Rattle.bgp_machine.specs.Run.{is_delayed}
use Rattle.bgp_machine.specs.State.{Turn, Given, fsm_of, link_at, moved}
use Rattle.bgp_machine.specs.Want.{Meets, wants_of}
use Rattle.bgp_rib.specs.Routes.{Routes, no_routes, routes_after, routes_without}
use Rattle.bgp_judge.specs.Member.{Member, link_for}
use Rattle.bgp_judge.specs.Next.{Opens}
use Rattle.bgp_judge.specs.Plain.{opened_member}
use Rattle.bgp_compact.specs.declared.base.Base.{Base}
use Rattle.bgp_compact.specs.declared.falls.Fall.{Fall}
use Rattle.bgp_compact.specs.declared.falls.Fall.TheVariants.{Erred, Faulted}
use Rattle.bgp_compact.specs.declared.words.Words.{Words}
use Rattle.bgp_compact.specs.Disabled.{holds}
use Rattle.bgp_compact.specs.Members.{GoesOn, HasFall, IsMember, error_of, left_of}
use Rattle.bgp_compact.specs.Parts.{HasNoBase, IsBase}

-- The record opens a step that goes on: from this head, with its OPEN delayed or not, to another
-- than Idle, with its OPEN not delayed.
pub record LeadsOn (config : Config) (origin : Head) (shown : ShownRecord) (after : Head)
    (left : List Want) : Type 0 where
  pub before : Head
  pub same : undelayed before ≡ origin
  pub still : Option (Fsm × Fsm)
  pub turn : Turn
  pub opens : Opens config before shown left still turn
  pub ends : turn.head ≡ after
  pub is_up : fsm_of after ≢ fsms.Idle
  pub at_once : is_delayed after ≡ false

-- it opens one that has then faults of this set to send
pub record LeadsToFaults (config : Config) (origin : Head) (shown : ShownRecord)
    (faults : FaultSet) : Type 0 where
  pub before : Head
  pub same : undelayed before ≡ origin
  pub still : Option (Fsm × Fsm)
  pub turn : Turn
  pub opens : Opens config before shown (Faults faults ∷ []) still turn

-- The words are those behind the record, with what some of the steps make that it opens from this
-- head. Members that go on are where such a step leads; faults are those that any such step sends.
pub record AreBehind (config : Config) (origin : Head) (record_shown : ShownRecord) (words : Words)
    : Type 0 where
  pub shown_is : words.shown ≡ shown_after (fsm_of origin) (told record_shown)
  pub left_is : fsm_of origin ≢ fsms.Idle → words.left ≡ fsm_of origin
  pub link_is : (link : Link) → link_at origin ≡ Some link → link_at words.head ≡ Some link
  pub lead_on : (d : Families) → GoesOn words d
      → LeadsOn config origin record_shown words.head (wants_of words.wants)
  pub faults_agree : (faults others : FaultSet) → HasFall words.falls (Faulted faults)
      → LeadsToFaults config origin record_shown others → faults ≡ others
  pub errors : HasFall words.falls Erred → error_of (left_of words) ≢ []
  pub fallen : (fall : Fall) → HasFall words.falls fall
      → (words.shown ≡ fsm_of origin) ⊎ (words.shown ≡ fsms.Idle)

-- the new words have the members of the old ones, and those besides, and no other
pub record Gains (old new : Words) (table : Routes) (Also : Member → Type 0) : Type 0 where
  pub only : (m : Member) → IsMember new table m → IsMember old table m ⊎ Also m
  pub keeps : (m : Member) → IsMember old table m → IsMember new table m
  pub adds : (m : Member) → Also m → IsMember new table m

-- the member is what the step makes of one of the base, its OPEN not delayed
pub record FromStep (base : Base) (changes : RouteChanges) (table : Routes) (step : Step)
    (m : Member) : Type 0 where
  pub families : Families
  pub held : IsTrue (holds base.sets families)
  pub at_once : is_delayed step.after.head ≡ false
  pub member : m ≡ opened_member
      (record { head = base.head; routes = routes_without families table }) base.head changes step

-- it is what a step that the record opens makes of one
pub record FromHead (config : Config) (base : Base) (shown : ShownRecord) (table : Routes)
    (m : Member) : Type 0 where
  pub families : Families
  pub held : IsTrue (holds base.sets families)
  pub turn : Turn
  pub at_once : is_delayed turn.head ≡ false
  pub opens : Opens config base.head shown m.wants m.change turn
  pub state : m.state ≡ moved
      (record { head = base.head; routes = routes_without families table }) turn
  pub link : m.link ≡ link_for m.wants (link_at base.head)

-- it is that of one whose OPEN was delayed unseen
abbrev pub FromLate : Config → Base → ShownRecord → Routes → Member → Type 0
FromLate config base shown table m =
    (late : Head) × (silent_heads config base.head ≡ base.head ∷ late ∷ [])
    × FromHead config (record base { head = late }) shown table m

-- in Idle members have no routes
abbrev pub AreFresh : Base → Routes → Type 0
AreFresh base table =
    (d : Families) → IsTrue (holds base.sets d) → base.head ≡ Idle
    → routes_without d table ≡ no_routes

-- where a step goes on that keeps the routes, no changes are made
abbrev pub Fits : RouteChanges → Routes → Step → Type 0
Fits changes table step =
    step.after.routes ≡ routes.Kept → fsm_of step.after.head ≢ fsms.Idle
    → routes_after changes table ≡ table

-- the record opens the step from this head
abbrev pub IsOpen : Config → Head → ShownRecord → RouteChanges → Step → Type 0
IsOpen config head shown changes step =
    Opens config head shown (wants_of step.wants) step.change (turn_of changes step.after)

-- The record is an UPDATE that is sent in Established and may be (RFC 4271, 9.2), and no member falls.
-- The members of the base stay as they are, then.
pub record IsAnnounced (config : Config) (words : Words) (base : Base) (shown : ShownRecord)
    : Type 0 where
  pub link : Link
  pub timer : HoldTimer
  pub head_is : base.head ≡ Established link timer
  pub second : ℕ
  pub octets : List ℕ
  pub sent : shown ≡ Sent second octets
  pub meets : Meets config (Some link) CleanUpdate octets
  pub none_falls : (fall : Fall) → ¬ HasFall words.falls fall

-- some member is there
abbrev pub HasSome : Base → Type 0
HasSome base = (d : Families) × IsTrue (holds base.sets d)

-- what becomes of the table: once Idle is shown it is empty
abbrev pub table_behind : Fsm → RouteChanges → Routes → Routes
table_behind fsms.Idle changes table = no_routes
table_behind shown changes table = routes_after changes table

-- The changes are those of the record's steps from this head: some step makes them, where there are
-- any, and each that makes changes makes these.
pub record AreMadeAt {X : Type 0} (config : Config) (head : Head) (shown : ShownRecord)
    (changes : Option (Changes X)) : Type 0 where
  pub some : IsSome changes → (left : List Want) × (still : Option (Fsm × Fsm)) × (turn : Turn)
      × (families : Families) × Opens config head shown left still turn
      × (turn.routes ≡ Given (changes_of changes) families)
  pub all : (left : List Want) (still : Option (Fsm × Fsm)) (turn : Turn) (others : RouteChanges)
      (families : Families) → Opens config head shown left still turn
      → turn.routes ≡ Given others families → others ≡ changes_of changes

-- they are those from the head of the base, or there is no base, and none are made
abbrev pub AreMade : {X : Type 0} → Config → Words → ShownRecord → Option (Changes X) → Type 0
AreMade config words shown changes =
    (HasNoBase words × (changes ≡ None))
    ⊎ ((base : Base) × IsBase words base × AreMadeAt config base.head shown changes)
