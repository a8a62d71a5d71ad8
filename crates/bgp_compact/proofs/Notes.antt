-- A step that ends with the OPEN delayed is a note.
use Rattle.std.proofs.Common.{◌≡◌, inl, inr, IsTrue, ℕ, List, [], Option, None, Some, refl, sym, ap, subst, ◌∙◌}
use Rattle.bgp_prefix.specs.Shown.{ShownRecord, Received, Sent, Changed}
use Rattle.bgp_open.specs.declared.config.Config.{Config}
use Rattle.bgp_open.specs.declared.link.Link.{Link}
use Rattle.bgp_machine.specs.declared.fsm.Fsm.{Fsm}
use Rattle.bgp_machine.specs.declared.fsm.Fsm.TheVariants as fsms
use Rattle.bgp_machine.specs.declared.state.Head.{Head}
use Rattle.bgp_machine.specs.declared.state.Head.TheVariants.{Idle, Connect, Active, OpenSent, OpenConfirm, Established}
use Rattle.bgp_machine.specs.declared.rows.HiddenRow.{HiddenRow}
use Rattle.bgp_machine.specs.declared.rows.HiddenRow.TheVariants.{DelayBegins, Notes}
use Rattle.bgp_machine.specs.declared.want.Want.{Want}
use Rattle.bgp_machine.specs.Run.{is_delayed}
use Rattle.bgp_machine.specs.Shows.{Pays}
use Rattle.bgp_machine.specs.State.{Turn, enters, fsm_of, link_at, number_of}
use Rattle.bgp_machine.specs.Step.{HiddenIn, changed, hidden_change}
use Rattle.bgp_judge.specs.Next.{Opens}
use Rattle.bgp_compact.proofs.Rows.{hidden_delays, received_undelayed}

-- it shows the state's name, and leaves the state; the same note is there whatever the delay
pub record IsNote (config : Config) (head : Head) (r : ShownRecord) (left : List Want) (still : Option (Fsm × Fsm)) (turn : Turn) : Type 0 where
  pub left_is : left ≡ []
  pub still_is : still ≡ None
  pub turn_is : turn ≡ enters head
  pub again : (other : Head) → fsm_of other ≡ fsm_of head → Opens config other r [] None (enters other)

notes_row : (head : Head) (config : Config) (t : ℕ) → HiddenIn head config t Notes [] (enters head)
notes_row Idle config t = (refl, refl)
notes_row (Connect d) config t = (refl, refl)
notes_row (Active d) config t = (refl, refl)
notes_row (OpenSent timer) config t = (refl, refl)
notes_row (OpenConfirm own timer) config t = (refl, refl)
notes_row (Established own timer) config t = (refl, refl)

begins_unseen : (head : Head) (config : Config) (t : ℕ) (ws : List Want) (turn : Turn) → HiddenIn head config t DelayBegins ws turn
    → hidden_change DelayBegins (fsm_of head) (fsm_of turn.head) ≡ None
begins_unseen Idle config t ws turn h = absurd h
begins_unseen (Connect d) config t ws turn h = ap (λ (v : Turn). changed fsms.Connect (fsm_of v.head)) h.2
begins_unseen (Active d) config t ws turn h = ap (λ (v : Turn). changed fsms.Active (fsm_of v.head)) h.2
begins_unseen (OpenSent timer) config t ws turn h = absurd h
begins_unseen (OpenConfirm own timer) config t ws turn h = absurd h
begins_unseen (Established own timer) config t ws turn h = absurd h

sends_none : (config : Config) (link : Option Link) (t : ℕ) (octets : List ℕ) (ws : List Want) (c : Option (Fsm × Fsm)) (left : List Want) (still : Option (Fsm × Fsm)) → ws ≡ []
    → Pays config link (Sent t octets) ws c left still → ⊥
sends_none config link t octets ws c left still e p = subst (λ (v : List Want). Pays config link (Sent t octets) v c left still) e p

changes_none : (config : Config) (link : Option Link) (t x y : ℕ) (ws : List Want) (c : Option (Fsm × Fsm)) (left : List Want) (still : Option (Fsm × Fsm)) → c ≡ None
    → Pays config link (Changed t x y) ws c left still → ⊥
changes_none config link t x y ws c left still e p = subst (λ (v : Option (Fsm × Fsm)). Pays config link (Changed t x y) ws v left still) e p

noted : (config : Config) (head : Head) (t x y : ℕ) (ws left : List Want) (still : Option (Fsm × Fsm)) (turn : Turn) → ws ≡ [] → turn ≡ enters head
    → Pays config (link_at head) (Changed t x y) ws (Some (fsm_of head, fsm_of head)) left still → IsNote config head (Changed t x y) left still turn
noted config head t x y ws left still turn none e p = record {
  left_is = p.2 ∙ none;
  still_is = p.3;
  turn_is = e;
  again = λ other same. (
    Notes,
    [],
    Some (fsm_of other, fsm_of other),
    (notes_row other config t, refl),
    (p.0 ∙ ap number_of (sym same), p.1 ∙ ap number_of (sym same), refl, refl),
  );
}

pub ends_delayed : (config : Config) (head : Head) (r : ShownRecord) (left : List Want) (still : Option (Fsm × Fsm)) (turn : Turn) → Opens config head r left still turn
    → IsTrue (is_delayed turn.head) → IsNote config head r left still turn
ends_delayed config head (Received t octets) left still turn o on = absurd (received_undelayed head t octets o.0.0 o.0.1 left turn o.0.3 on)
ends_delayed config head (Sent t octets) left still turn o on =
    absurd (sends_none config (link_at head) t octets o.1 o.2 left still (hidden_delays head config t o.0 o.1 turn o.3.0 on).0 o.4)
ends_delayed config head (Changed t x y) left still turn o on =
    let d = hidden_delays head config t o.0 o.1 turn o.3.0 on in
    elim d.1 [
      | inl b ↦
          let row : HiddenIn head config t DelayBegins o.1 turn = subst (λ (v : HiddenRow). HiddenIn head config t v o.1 turn) b.0 o.3.0 in
          let none : o.2 ≡ None = o.3.1 ∙ ap (λ (v : HiddenRow). hidden_change v (fsm_of head) (fsm_of turn.head)) b.0 ∙ begins_unseen head config t o.1 turn row in
          absurd (changes_none config (link_at head) t x y o.1 o.2 left still none o.4)
      | inr n ↦
          let some : o.2 ≡ Some (fsm_of head, fsm_of head) = o.3.1 ∙ ap (λ (v : HiddenRow). hidden_change v (fsm_of head) (fsm_of turn.head)) n.0
          ∙ ap (λ (v : Turn). Some (fsm_of head, fsm_of v.head)) n.1 in
          noted config head t x y o.1 left still turn d.0 n.1
          (subst (λ (v : Option (Fsm × Fsm)). Pays config (link_at head) (Changed t x y) o.1 v left still) some o.4)
    ]
