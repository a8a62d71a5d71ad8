-- Which members the words of a compact tracker and its one table stand for.
use Rattle.std.specs.Prelude.{◌≡◌, false, IsTrue, List, [], ◌∷◌, Option, None, Some}
use Rattle.bgp_open.specs.declared.families.Families.{Families}
use Rattle.bgp_open.specs.declared.link.Link.{Link}
use Rattle.bgp_machine.specs.declared.fsm.Fsm.{Fsm}
use Rattle.bgp_machine.specs.declared.fsm.Fsm.TheVariants as fsms
use Rattle.bgp_machine.specs.declared.want.Unexpected.TheVariants.{InOpenSent, InOpenConfirm}
use Rattle.bgp_machine.specs.declared.want.Unexpected.TheVariants.{InEstablished}
use Rattle.bgp_machine.specs.declared.want.Want.{Want}
use Rattle.bgp_machine.specs.declared.want.Want.TheVariants as wants
use Rattle.bgp_machine.specs.State.{fresh_state, fsm_of, link_at}
use Rattle.bgp_machine.specs.Step.{changed}
use Rattle.bgp_machine.specs.Want.{wants_of}
use Rattle.bgp_rib.specs.Routes.{Routes, routes_without}
use Rattle.bgp_judge.specs.Member.{Member, link_for}
use Rattle.bgp_compact.specs.declared.disabled.DisabledSets.{DisabledSets}
use Rattle.bgp_compact.specs.declared.falls.Fall.{Fall}
use Rattle.bgp_compact.specs.declared.falls.Fall.TheVariants.{Silent, Ceased, Expired, SendExpired}
use Rattle.bgp_compact.specs.declared.falls.Fall.TheVariants.{Erred, Faulted}
use Rattle.bgp_compact.specs.declared.falls.Falls.{Falls}
use Rattle.bgp_compact.specs.declared.words.Words.{Words}
use Rattle.bgp_compact.specs.Disabled.{holds, no_sets}

-- ---- members that fall to Idle

-- some member falls so
abbrev pub HasFall : Falls → Fall → Type 0
HasFall falls Silent = IsTrue falls.silent
HasFall falls Ceased = IsTrue falls.ceased
HasFall falls Expired = IsTrue falls.expired
HasFall falls SendExpired = IsTrue falls.send_expired
HasFall falls Erred = IsTrue falls.erred
HasFall falls (Faulted faults) = falls.faulted ≡ Some faults

abbrev pub no_falls : Falls
no_falls = record {
  silent = false;
  ceased = false;
  expired = false;
  send_expired = false;
  erred = false;
  faulted = None;
}

-- what is sent behind a message that the state doesn't expect
abbrev pub error_of : Fsm → List Want
error_of fsms.OpenSent = wants.MachineError InOpenSent ∷ []
error_of fsms.OpenConfirm = wants.MachineError InOpenConfirm ∷ []
error_of fsms.Established = wants.MachineError InEstablished ∷ []
error_of left = []

-- what a member that left this state has still to send
abbrev pub sends_of : Fsm → Fall → List Want
sends_of left Silent = []
sends_of left Ceased = wants.Cease ∷ []
sends_of left Expired = wants.HoldExpired ∷ []
sends_of left SendExpired = wants.SendHoldExpired ∷ []
sends_of left Erred = error_of left
sends_of left (Faulted faults) = wants.Faults faults ∷ []

-- the state that was left: the one that is shown, until Idle is
abbrev pub left_where : Fsm → Fsm → Fsm
left_where fsms.Idle left = left
left_where shown left = shown

abbrev pub left_of : Words → Fsm
left_of words = left_where words.shown words.left

-- the link that stood in it
abbrev pub link_in : Fsm → Option Link → Option Link
link_in fsms.OpenConfirm link = link
link_in fsms.Established link = link
link_in left link = None

abbrev pub link_before : Words → Option Link
link_before words = link_in (left_of words) (link_at words.head)

-- The member that falls so: its state is the fresh one, and it shows the change to Idle, unless
-- that was shown.
abbrev pub fallen_member : Words → Fall → Member
fallen_member words fall = record {
  state = fresh_state;
  link = link_for (sends_of (left_of words) fall) (link_before words);
  wants = sends_of (left_of words) fall;
  change = changed words.shown fsms.Idle;
}

-- ---- members that go on

-- once Idle is shown none goes on
abbrev pub sets_where : Fsm → DisabledSets → DisabledSets
sets_where fsms.Idle sets = no_sets
sets_where shown sets = sets

-- some member goes on that has these families disabled
abbrev pub GoesOn : Words → Families → Type 0
GoesOn words families = IsTrue (holds (sets_where words.shown words.sets) families)

-- The member that goes on with these families disabled: its routes are the table's without them.
-- It has something to send only before there is a link.
abbrev pub front_member : Words → Routes → Families → Member
front_member words table families = record {
  state = record { head = words.head; routes = routes_without families table };
  link = None;
  wants = wants_of words.wants;
  change = changed words.shown (fsm_of words.head);
}

-- ---- all of them

pub data IsMember (words : Words) (table : Routes) (m : Member) : Type 0 where
  Front : (families : Families) → GoesOn words families → m ≡ front_member words table families
      → IsMember words table m
  Fallen : (fall : Fall) → HasFall words.falls fall → m ≡ fallen_member words fall
      → IsMember words table m
