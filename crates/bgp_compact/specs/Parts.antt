-- What single functions of the compact tracker say, from which what it stands for follows.
use Rattle.std.specs.Prelude.{◌≡◌, ◌≢◌, ◌⊎◌, Bool, true, false, IsTrue}
use Rattle.std.specs.Prelude.{List, [], ◌∷◌, Option, None, Some}
use Rattle.bgp_prefix.specs.Shown.{ShownRecord}
use Rattle.bgp_open.specs.declared.config.Config.{Config}
use Rattle.bgp_open.specs.declared.link.Link.{Link}
use Rattle.bgp_machine.specs.declared.fsm.Fsm.{Fsm}
use Rattle.bgp_machine.specs.declared.fsm.Fsm.TheVariants as fsms
use Rattle.bgp_machine.specs.declared.state.Head.{Head}
use Rattle.bgp_machine.specs.declared.state.Head.TheVariants.{Idle}
use Rattle.bgp_machine.specs.declared.step.Routes.{Routes as RoutesOfStep}
use Rattle.bgp_machine.specs.declared.step.Routes.TheVariants as routes
use Rattle.bgp_machine.specs.declared.want.FaultSet.{FaultSet}
use Rattle.bgp_machine.specs.declared.want.Want.{Want}
use Rattle.bgp_machine.specs.declared.want.Want.TheVariants.{Cease, HoldExpired, SendHoldExpired}
use Rattle.bgp_machine.specs.declared.want.Want.TheVariants.{MachineError, Faults}
use Rattle.bgp_machine.specs.declared.want.Wants.{Wants}
use Rattle.bgp_machine.specs.declared.want.Wants.TheVariants.{One}
use Rattle.bgp_machine.specs.Going.{told, shown_after}
use Rattle.bgp_machine.specs.Shows.{Pays}
use Rattle.bgp_machine.specs.Run.{End, is_delayed}
use Rattle.bgp_machine.specs.State.{fsm_of}
use Rattle.bgp_machine.specs.Step.{changed}
use Rattle.bgp_machine.specs.Want.{wants_of}
use Rattle.bgp_rib.specs.Routes.{Routes, no_routes, routes_without}
use Rattle.bgp_judge.specs.Member.{Member, IsFree}
use Rattle.bgp_judge.specs.Next.{Continues}
use Rattle.bgp_compact.specs.declared.base.Base.{Base}
use Rattle.bgp_compact.specs.declared.falls.Fall.{Fall}
use Rattle.bgp_compact.specs.declared.falls.Fall.TheVariants.{Silent, Ceased, Expired, SendExpired}
use Rattle.bgp_compact.specs.declared.falls.Fall.TheVariants.{Erred, Faulted}
use Rattle.bgp_compact.specs.declared.falls.Falls.{Falls}
use Rattle.bgp_compact.specs.declared.words.Words.{Words}
use Rattle.bgp_open.specs.declared.families.Families.{Families}
use Rattle.bgp_compact.specs.Members.{GoesOn, HasFall, IsMember, fallen_member, left_of}
use Rattle.bgp_compact.specs.Members.{error_of, link_before, sends_of}
use Rattle.bgp_compact.specs.Disabled.{holds}
use Rattle.bgp_compact.specs.Standing.{IsTableOf}

-- what sends that
abbrev pub fall_for : Wants → Fall
fall_for (One Cease) = Ceased
fall_for (One HoldExpired) = Expired
fall_for (One SendHoldExpired) = SendExpired
fall_for (One (MachineError state)) = Erred
fall_for (One (Faults faults)) = Faulted faults
fall_for wants = Silent

-- those, and one more
abbrev pub with_fall : Falls → Fall → Falls
with_fall falls Silent = record falls { silent = true }
with_fall falls Ceased = record falls { ceased = true }
with_fall falls Expired = record falls { expired = true }
with_fall falls SendExpired = record falls { send_expired = true }
with_fall falls Erred = record falls { erred = true }
with_fall falls (Faulted faults) = record falls { faulted = Some faults }

-- two members that send faults send those of one set
abbrev pub AgreeOnFaults : Falls → Fall → Type 0
AgreeOnFaults falls fall =
    (faults others : FaultSet) → fall ≡ Faulted faults → HasFall falls (Faulted others)
    → others ≡ faults

-- the words behind a record, before what it leaves and makes of members is put in
abbrev pub shown_by : Words → ShownRecord → Words
shown_by words shown = record words {
  shown = shown_after words.shown (told shown);
  left = left_of words;
}

-- ---- members whose last step shows the record next

-- the record pays nothing of these messages and this change
abbrev pub PaysNone : Config → Option Link → ShownRecord → List Want → Option (Fsm × Fsm) → Type 0
PaysNone config link shown sends change =
    (left : List Want) (still : Option (Fsm × Fsm))
    → ¬ Pays config link shown sends change left still

-- it pays a part of them, and these messages are left
pub record LeavesSends (config : Config) (link : Option Link) (shown : ShownRecord)
    (sends : List Want) (change : Option (Fsm × Fsm)) (left : List Want) : Type 0 where
  pub still : Option (Fsm × Fsm)
  pub pays : Pays config link shown sends change left still
  pub only : (others : List Want) (other : Option (Fsm × Fsm))
      → Pays config link shown sends change others other → (left ≡ others) × (still ≡ other)

-- the record isn't what a member shows next that falls so
abbrev pub NoFallPaid : Config → Words → ShownRecord → Fall → Type 0
NoFallPaid config words shown fall =
    PaysNone config (link_before words) shown (sends_of (left_of words) fall)
    (changed words.shown fsms.Idle)

-- it is, and leaves what is sent by one that falls so: nothing, or as much as before
abbrev pub LeavesFall : Config → Words → ShownRecord → Fall → Fall → Type 0
LeavesFall config words shown fall left =
    LeavesSends config (link_before words) shown (sends_of (left_of words) fall)
    (changed words.shown fsms.Idle) (sends_of (left_of words) left)
    × ((left ≡ Silent) ⊎ (left ≡ fall))

-- a member is one of those that fall
abbrev pub FallsTo : Words → Falls → Member → Type 0
FallsTo words falls m = (fall : Fall) × HasFall falls fall × (m ≡ fallen_member words fall)

-- it is what the record leaves of one that falls so
abbrev pub IsPaid : Config → Words → ShownRecord → Option Fall → Member → Type 0
IsPaid config words shown fall m =
    (f : Fall) × (fall ≡ Some f) × Continues config shown (fallen_member words f) m

abbrev pub faulted_by : Option FaultSet → Option Fall
faulted_by None = None
faulted_by (Some faults) = Some (Faulted faults)

-- it is what the record leaves of one of those
abbrev pub FallPaid : Config → Words → ShownRecord → Member → Type 0
FallPaid config words shown m =
    (fall : Fall) × HasFall words.falls fall × Continues config shown (fallen_member words fall) m

-- those that don't fall silently fall as some of the first do
abbrev pub AreFallsOf : Falls → Falls → Type 0
AreFallsOf falls others = (fall : Fall) → HasFall others fall → (fall ≡ Silent) ⊎ HasFall falls fall

-- ---- members that go on

-- Those that go on aren't in Idle, and their OPEN isn't delayed; once Established is shown they are
-- in it; and an error that is sent names a state.
pub record AreFine (words : Words) : Type 0 where
  pub are_up : (d : Families) → GoesOn words d → fsm_of words.head ≢ fsms.Idle
  pub undelayed : (d : Families) → GoesOn words d → is_delayed words.head ≡ false
  pub errors : HasFall words.falls Erred → error_of (left_of words) ≢ []
  pub stay_up : (d : Families) → GoesOn words d → words.shown ≡ fsms.Established
      → fsm_of words.head ≡ fsms.Established

-- the record isn't what they show next
abbrev pub NoFrontPaid : Config → Words → ShownRecord → Type 0
NoFrontPaid config words shown =
    (words.shown ≡ fsms.Idle)
    ⊎ PaysNone config None shown (wants_of words.wants)
    (changed words.shown (fsm_of words.head))

-- it is, and leaves these messages
abbrev pub FrontLeaves : Config → Words → ShownRecord → List Want → Type 0
FrontLeaves config words shown left =
    (words.shown ≢ fsms.Idle)
    × LeavesSends config None shown (wants_of words.wants) (changed words.shown (fsm_of words.head))
    left

-- The words stand for what the record leaves of members: just those whose last step shows it next.
-- So of members that go on and have nothing left to show none is left.
pub record PaidTo (config : Config) (words : Words) (shown : ShownRecord) (next : Words)
    : Type 0 where
  pub shown_is : next.shown ≡ shown_after words.shown (told shown)
  pub left_is : next.left ≡ left_of words
  pub head_is : next.head ≡ words.head
  pub sound : (table : Routes) (m2 : Member) → IsMember next table m2
      → (m : Member) × IsMember words table m × Continues config shown m m2
  pub whole : (table : Routes) (m m2 : Member) → IsMember words table m
      → Continues config shown m m2 → IsMember next table m2
  pub went_on : (d : Families) → GoesOn next d → GoesOn words d
  pub owed : (d : Families) → GoesOn next d
      → ¬ ((wants_of words.wants ≡ []) × (changed words.shown (fsm_of words.head) ≡ None))
  pub falls : AreFallsOf words.falls next.falls
  pub show : (d : Families) → GoesOn next d
      → (next.shown ≡ words.shown) ⊎ (next.shown ≡ fsm_of words.head)
  pub stays : (fall : Fall) → HasFall next.falls fall
      → (next.shown ≡ words.shown) ⊎ (next.shown ≡ fsms.Idle)

-- ---- members that have nothing left to show

abbrev pub free_member : Head → Routes → Families → Member
free_member head table d = record {
  state = record { head = head; routes = routes_without d table };
  link = None;
  wants = [];
  change = None;
}

-- none has nothing left to show
abbrev pub HasNoBase : Words → Type 0
HasNoBase words = (table : Routes) (m : Member) → IsMember words table m → ¬ IsFree m

-- They are the members that have nothing left to show: just those, and all of them.
pub record IsBase (words : Words) (base : Base) : Type 0 where
  pub name : fsm_of base.head ≡ words.shown
  pub undelayed : is_delayed base.head ≡ false
  pub some : (d : Families) × IsTrue (holds base.sets d)
  pub alone : (words.shown ≡ fsms.Idle)
      ⊎ ((wants_of words.wants ≡ []) × (changed words.shown (fsm_of words.head) ≡ None))
  pub head_is : (words.shown ≡ fsms.Idle) ⊎ (base.head ≡ words.head)
  pub fresh : (table : Routes) → IsTableOf words table → (d : Families) → IsTrue (holds base.sets d)
      → base.head ≡ Idle → routes_without d table ≡ no_routes
  pub to : (table : Routes) → IsTableOf words table → (d : Families) → IsTrue (holds base.sets d)
      → IsMember words table (free_member base.head table d)
  pub from : (table : Routes) → IsTableOf words table → (m : Member) → IsMember words table m
      → IsFree m → (d : Families) × IsTrue (holds base.sets d) × (m ≡ free_member base.head table d)

-- the families that a step disables
abbrev pub disabled_of : RoutesOfStep → Families
disabled_of (routes.Given families) = families
disabled_of turn = record { v4 = false; v6 = false }

-- ---- the ends of the members of the base

-- the end, if it is there, before the others
abbrev pub kept : Bool → End → List End → List End
kept true end ends = end ∷ ends
kept false end ends = ends

-- that of the members with these families disabled
abbrev pub end_at : Base → Routes → Families → End
end_at base table d = record { fsm = fsm_of base.head; routes = routes_without d table }

-- one for each set of disabled families, in their order
abbrev pub ends_in : Base → Routes → List End
ends_in base table =
    kept base.sets.none (end_at base table (record { v4 = false; v6 = false }))
    (kept base.sets.v4 (end_at base table (record { v4 = true; v6 = false }))
    (kept base.sets.v6 (end_at base table (record { v4 = false; v6 = true }))
    (kept base.sets.both (end_at base table (record { v4 = true; v6 = true })) [])))
