-- A header with a fault ends the connection.
use Rattle.std.proofs.Common.{◌≡◌, ℕ, List, [], ◌∷◌, ◌++◌, inl, inr, length, ◌≤◌, refl, ap, subst, ◌∙◌, arith}
use Rattle.bgp_prefix.specs.Prefix.{PrefixBits}
use Rattle.bgp_prefix.specs.Shown.{ShownRecord}
use Rattle.bgp_machine.specs.declared.state.Head.{Head}
use Rattle.bgp_machine.specs.declared.state.Head.TheVariants.{Idle, Connect, Active, OpenSent, OpenConfirm, Established}
use Rattle.bgp_machine.specs.Heard.{received_limit}
use Rattle.bgp_wire.specs.Framing.{IsShort}
use Rattle.bgp_wire.specs.Header.{header_of}
use Rattle.bgp_speaker.specs.declared.speaker.Speaker.{Speaker}
use Rattle.bgp_speaker.specs.Choice.{GreetsAt, HearsEach, TakesOn}
use Rattle.bgp_speaker.specs.Choosing.{HearsBytes, held_after}
use Rattle.bgp_speaker.specs.Core.{IsConnected, Moment}
use Rattle.bgp_speaker.proofs.EachStep.{IsFaultyHeader, faulty_header}
use Rattle.bgp_speaker.proofs.HearingAll.{nothing_greets, refused}

faulty_ends : (speaker : Speaker) (t : ℕ) (octets : List ℕ) (m e : Moment) (records : List ShownRecord) → IsFaultyHeader (received_limit speaker.config) octets
    → TakesOn speaker t octets m records e → e.session.head ≡ Idle
faulty_ends speaker t octets m e records faulty x =
    let long : 19 ≤ length octets = (let n = faulty.0 in omega arith) in
    ap (λ (v : Moment). v.session.head) x.4.acts.leaves
    ∙ refused speaker.config m.session.head t octets x.0 x.1 x.4.wants x.4.turn long faulty.1 x.2 x.3 x.4.is

idle_off : (head : Head) → head ≡ Idle → IsConnected head → ⊥
idle_off head e on = subst IsConnected e on

-- where it is the last message, there is no connection after it
pub ends_all : (speaker : Speaker) (kept : List PrefixBits) (t : ℕ) (m e : Moment) (frames : List (List ℕ)) (header : List ℕ) (records : List ShownRecord)
    → IsFaultyHeader (received_limit speaker.config) header → HearsEach speaker kept t m (frames ++ header ∷ []) records e → IsConnected e.session.head → ⊥
ends_all speaker kept t m e [] header records faulty x still = elim x [
  | inl idle ↦ idle.0 (subst (λ (v : Moment). IsConnected v.session.head) idle.2 still)
  | inr there ↦
      let between : there.2.session.head ≡ Idle = faulty_ends speaker t header m there.2 there.1 faulty there.6 in
      let greeted : there.4 ≡ there.2 = nothing_greets speaker kept t m.session.head there.2 there.4 there.3
      (subst (λ (h : Head). GreetsAt speaker kept t m.session.head h there.2 there.3 there.4) between there.7) in
      idle_off e.session.head (ap (λ (v : Moment). v.session.head) (there.8.1 ∙ greeted) ∙ between) still
]
ends_all speaker kept t m e (frame ∷ frames) header records faulty x still = elim x [
  | inl idle ↦ idle.0 (subst (λ (v : Moment). IsConnected v.session.head) idle.2 still)
  | inr there ↦ ends_all speaker kept t there.4 e frames header there.5 faulty there.8 still
]

-- so while the connection stands, what is left is less than a message
pub fault_ends_all : (speaker : Speaker) (kept : List PrefixBits) (t : ℕ) (m e : Moment) (octets : List ℕ) (records : List ShownRecord) (rest : List ℕ)
    → HearsBytes speaker kept t m octets records e rest → IsConnected e.session.head → IsShort (received_limit speaker.config) rest
fault_ends_all speaker kept t m e octets records rest x still = elim x.heard.ends [
  | inl short ↦ short.0
  | inr faulty ↦ absurd (ends_all speaker kept t m e x.heard.frames (header_of rest) records (faulty_header (received_limit speaker.config) rest faulty.0)
      (subst (λ (v : List (List ℕ)). HearsEach speaker kept t m v records e)
      (x.heard.are ∙ ap (λ (v : List (List ℕ)). x.heard.frames ++ v) faulty.1) x.each) still)
]

-- and it is held
pub held_on : (head : Head) (rest : List ℕ) → IsConnected head → held_after head rest ≡ rest
held_on Idle rest on = absurd on
held_on (Connect d) rest on = absurd on
held_on (Active d) rest on = absurd on
held_on (OpenSent o) rest on = refl
held_on (OpenConfirm l o) rest on = refl
held_on (Established l o) rest on = refl
