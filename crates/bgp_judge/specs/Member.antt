-- A member: one explanation of a session's records so far. Steps of the session machine (RFC 4271,
-- 8.2.2) led to its state, and the last of them has shown a part of its records.
use Rattle.std.specs.Prelude.{◌≡◌, List, [], ◌∷◌, Option, None}
use Rattle.bgp_open.specs.declared.link.Link.{Link}
use Rattle.bgp_machine.specs.declared.fsm.Fsm.{Fsm}
use Rattle.bgp_machine.specs.declared.want.Want.{Want}
use Rattle.bgp_machine.specs.State.{SessionState, fresh_state}

-- The state that its steps lead to, and what the last of them has still to show: these messages, in
-- order, on the link that stood before it, and this change of state.
pub record Member : Type 0 where
  pub state : SessionState
  pub link : Option Link
  pub wants : List Want
  pub change : Option (Fsm × Fsm)

-- nothing is left to show
abbrev pub IsFree : Member → Type 0
IsFree m = (m.wants ≡ []) × (m.change ≡ None)

-- the link on which messages are still to be sent: none, where there are none
abbrev pub link_for : List Want → Option Link → Option Link
link_for [] link = None
link_for (want ∷ wants) link = link

-- the member of which no record is shown yet
abbrev pub fresh_member : Member
fresh_member = record { state = fresh_state; link = None; wants = []; change = None }
