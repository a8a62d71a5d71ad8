-- What one more record makes of a member.
use Rattle.std.specs.Prelude.{◌≡◌, ◌⊎◌, List, Option}
use Rattle.bgp_prefix.specs.Shown.{ShownRecord, Received, second_of}
use Rattle.bgp_open.specs.declared.config.Config.{Config}
use Rattle.bgp_machine.specs.declared.fsm.Fsm.{Fsm}
use Rattle.bgp_machine.specs.declared.rows.HiddenRow.{HiddenRow}
use Rattle.bgp_machine.specs.declared.state.Head.{Head}
use Rattle.bgp_machine.specs.declared.want.Want.{Want}
use Rattle.bgp_machine.specs.Listed.{IsShown}
use Rattle.bgp_machine.specs.Run.{Silent}
use Rattle.bgp_machine.specs.Shows.{Pays}
use Rattle.bgp_machine.specs.State.{SessionState, Turn, link_at, moved}
use Rattle.bgp_machine.specs.Step.{Hidden, Received as OnMessage}
use Rattle.bgp_judge.specs.Member.{Member, IsFree, link_for}

-- The record is the first that a step from this head shows; the step ends so, and has then these
-- messages and this change left to show. A message's own record pays nothing of what its step owes.
abbrev pub Opens : Config → Head → ShownRecord → List Want → Option (Fsm × Fsm) → Turn → Type 0
Opens config head (Received t octets) left still turn =
    IsShown head config t (OnMessage octets) left still turn
Opens config head shown left still turn =
    (row : HiddenRow) × (wants : List Want) × (change : Option (Fsm × Fsm))
    × IsShown head config (second_of shown) (Hidden row) wants change turn
    × Pays config (link_at head) shown wants change left still

-- the member's last step shows the record next
pub record Continues (config : Config) (shown : ShownRecord) (m m2 : Member) : Type 0 where
  pub pays : Pays config m.link shown m.wants m.change m2.wants m2.change
  pub state : m2.state ≡ m.state
  pub link : m2.link ≡ link_for m2.wants m.link

-- The member's last step has shown all. Steps that show nothing lead on from its state, and then
-- one that shows the record first.
pub record Starts (config : Config) (shown : ShownRecord) (m m2 : Member) : Type 0 where
  pub free : IsFree m
  pub before : SessionState
  pub silent : Silent config m.state before
  pub turn : Turn
  pub opens : Opens config before.head shown m2.wants m2.change turn
  pub state : m2.state ≡ moved before turn
  pub link : m2.link ≡ link_for m2.wants (link_at before.head)

-- by the record the first member becomes the second
abbrev pub Next : Config → ShownRecord → Member → Member → Type 0
Next config shown m m2 = Continues config shown m m2 ⊎ Starts config shown m m2
