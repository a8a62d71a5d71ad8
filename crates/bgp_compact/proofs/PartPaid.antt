-- What a record leaves of what a step has still to show, where its change is that from the state that was shown last.
use Rattle.std.proofs.Common.{◌≡◌, ◌⊎◌, inl, inr, ℕ, List, [], ◌∷◌, Option, None, Some, refl, sym, ap, ◌∙◌}
use Rattle.bgp_prefix.specs.Shown.{ShownRecord, Received, Sent, Changed}
use Rattle.bgp_open.specs.declared.config.Config.{Config}
use Rattle.bgp_open.specs.declared.link.Link.{Link}
use Rattle.bgp_machine.specs.declared.fsm.Fsm.{Fsm}
use Rattle.bgp_machine.specs.declared.fsm.Fsm.TheVariants as fsms
use Rattle.bgp_machine.specs.declared.want.Want.{Want}
use Rattle.bgp_machine.specs.Going.{told, fsm_at, shown_after}
use Rattle.bgp_machine.specs.Shows.{Pays}
use Rattle.bgp_machine.specs.State.{number_of}
use Rattle.bgp_machine.specs.Step.{changed}
use Rattle.bgp_judge.specs.Member.{link_for}

pub same_state : (f : Fsm) → changed f f ≡ None
same_state fsms.Idle = refl
same_state fsms.Connect = refl
same_state fsms.Active = refl
same_state fsms.OpenSent = refl
same_state fsms.OpenConfirm = refl
same_state fsms.Established = refl

pub at_number : (f : Fsm) → fsm_at (number_of f) ≡ Some f
at_number fsms.Idle = refl
at_number fsms.Connect = refl
at_number fsms.Active = refl
at_number fsms.OpenSent = refl
at_number fsms.OpenConfirm = refl
at_number fsms.Established = refl

abbrev new_of : Option (Fsm × Fsm) → Fsm
new_of None = fsms.Idle
new_of (Some change) = change.1

changed_to : (a b : Fsm) (p : Fsm × Fsm) → changed a b ≡ Some p → p.1 ≡ b
changed_to fsms.Idle fsms.Idle p e = absurd (let k : ⊥ = cc in k)
changed_to fsms.Idle fsms.Connect p e = sym (ap new_of e)
changed_to fsms.Idle fsms.Active p e = sym (ap new_of e)
changed_to fsms.Idle fsms.OpenSent p e = sym (ap new_of e)
changed_to fsms.Idle fsms.OpenConfirm p e = sym (ap new_of e)
changed_to fsms.Idle fsms.Established p e = sym (ap new_of e)
changed_to fsms.Connect fsms.Idle p e = sym (ap new_of e)
changed_to fsms.Connect fsms.Connect p e = absurd (let k : ⊥ = cc in k)
changed_to fsms.Connect fsms.Active p e = sym (ap new_of e)
changed_to fsms.Connect fsms.OpenSent p e = sym (ap new_of e)
changed_to fsms.Connect fsms.OpenConfirm p e = sym (ap new_of e)
changed_to fsms.Connect fsms.Established p e = sym (ap new_of e)
changed_to fsms.Active fsms.Idle p e = sym (ap new_of e)
changed_to fsms.Active fsms.Connect p e = sym (ap new_of e)
changed_to fsms.Active fsms.Active p e = absurd (let k : ⊥ = cc in k)
changed_to fsms.Active fsms.OpenSent p e = sym (ap new_of e)
changed_to fsms.Active fsms.OpenConfirm p e = sym (ap new_of e)
changed_to fsms.Active fsms.Established p e = sym (ap new_of e)
changed_to fsms.OpenSent fsms.Idle p e = sym (ap new_of e)
changed_to fsms.OpenSent fsms.Connect p e = sym (ap new_of e)
changed_to fsms.OpenSent fsms.Active p e = sym (ap new_of e)
changed_to fsms.OpenSent fsms.OpenSent p e = absurd (let k : ⊥ = cc in k)
changed_to fsms.OpenSent fsms.OpenConfirm p e = sym (ap new_of e)
changed_to fsms.OpenSent fsms.Established p e = sym (ap new_of e)
changed_to fsms.OpenConfirm fsms.Idle p e = sym (ap new_of e)
changed_to fsms.OpenConfirm fsms.Connect p e = sym (ap new_of e)
changed_to fsms.OpenConfirm fsms.Active p e = sym (ap new_of e)
changed_to fsms.OpenConfirm fsms.OpenSent p e = sym (ap new_of e)
changed_to fsms.OpenConfirm fsms.OpenConfirm p e = absurd (let k : ⊥ = cc in k)
changed_to fsms.OpenConfirm fsms.Established p e = sym (ap new_of e)
changed_to fsms.Established fsms.Idle p e = sym (ap new_of e)
changed_to fsms.Established fsms.Connect p e = sym (ap new_of e)
changed_to fsms.Established fsms.Active p e = sym (ap new_of e)
changed_to fsms.Established fsms.OpenSent p e = sym (ap new_of e)
changed_to fsms.Established fsms.OpenConfirm p e = sym (ap new_of e)
changed_to fsms.Established fsms.Established p e = absurd (let k : ⊥ = cc in k)

-- which state is shown then, and what is left
pub record Part (config : Config) (link : Option Link) (r : ShownRecord) (ws : List Want) (shown f : Fsm) (left : List Want) (still : Option (Fsm × Fsm)) : Type 0 where
  pub is_owed : still ≡ changed (shown_after shown (told r)) f
  pub way : ((told r ≡ None) × (w : Want) × (ws ≡ w ∷ left)) ⊎ ((told r ≡ Some f) × (left ≡ ws))

pays_change : (config : Config) (link : Option Link) (u x y : ℕ) (ws : List Want) (c : Option (Fsm × Fsm)) (left : List Want) (still : Option (Fsm × Fsm))
    → Pays config link (Changed u x y) ws c left still → (p : Fsm × Fsm) × (c ≡ Some p) × (y ≡ number_of p.1) × (left ≡ ws) × (still ≡ None)
pays_change config link u x y ws None left still h = absurd h
pays_change config link u x y ws (Some p) left still h = (p, refl, h.1, h.2, h.3)

pub part : (config : Config) (link : Option Link) (r : ShownRecord) (ws : List Want) (shown f : Fsm) (left : List Want) (still : Option (Fsm × Fsm))
    → Pays config link r ws (changed shown f) left still → Part config link r ws shown f left still
part config link (Received u m) ws shown f left still h = absurd h
part config link (Sent u m) [] shown f left still h = absurd h
part config link (Sent u m) (w ∷ ws) shown f left still h =
    record { is_owed = h.2; way = inl (refl, w, ap (λ (v : List Want). w ∷ v) (sym h.1)) }
part config link (Changed u x y) ws shown f left still h =
    let k = pays_change config link u x y ws (changed shown f) left still h in
    let to : k.0.1 ≡ f = changed_to shown f k.0 k.1 in
    let at : told (Changed u x y) ≡ Some f = ap fsm_at (k.2 ∙ ap number_of to) ∙ at_number f in
    record {
      is_owed = k.4 ∙ sym (same_state f) ∙ ap (λ (v : Option Fsm). changed (shown_after shown v) f) (sym at);
      way = inr (at, k.3);
    }

pub link_none : (ws : List Want) → link_for ws None ≡ None
link_none [] = refl
link_none (w ∷ ws) = refl

pub link_kept : (ws left : List Want) (link : Option Link) → ((left ≡ []) ⊎ (left ≡ ws)) → link_for left (link_for ws link) ≡ link_for left link
link_kept ws [] link e = refl
link_kept [] (w ∷ left) link e = elim e [ inl q ↦ absurd (let k : ⊥ = cc in k) | inr q ↦ absurd (let k : ⊥ = cc in k) ]
link_kept (v ∷ ws) (w ∷ left) link e = refl
