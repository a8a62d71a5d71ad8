-- The first well-formed OPEN that a run shows as sent is the local system's own.
use Rattle.std.proofs.Common.{◌≡◌, ℕ, List, [], ◌∷◌, Option, None, Some, inl, inr, sym, subst, ◌∙◌, arith}
use Rattle.bgp_prefix.specs.Shown.{ShownRecord, Received, Sent, Changed}
use Rattle.bgp_wire.specs.Message.{IsMessage}
use Rattle.bgp_open.specs.OpenFault.{IsWellFormed}
use Rattle.bgp_open.specs.OwnOpen.{IsOwnOpen}
use Rattle.bgp_open.specs.declared.config.Config.{Config}
use Rattle.bgp_open.specs.declared.link.Link.{Link}
use Rattle.bgp_machine.specs.declared.fsm.Fsm.{Fsm}
use Rattle.bgp_machine.specs.declared.want.Want.{Want}
use Rattle.bgp_machine.specs.declared.want.Want.TheVariants.{OwnOpen, KeepAlive, CleanUpdate, Cease, HoldExpired, SendHoldExpired, MachineError, Faults}
use Rattle.bgp_machine.specs.Shows.{Pays}
use Rattle.bgp_machine.specs.State.{link_at}
use Rattle.bgp_machine.specs.Want.{Fulfils}
use Rattle.bgp_judge.specs.Member.{Member, fresh_member}
use Rattle.bgp_judge.specs.Next.{Next}
use Rattle.bgp_parts.specs.Opens.{HasOwnOpen}
use Rattle.bgp_check.specs.OwnFaults.{SentOpenIsOwn}
use Rattle.bgp_check.proofs.Explaining.{Leads, explained}

-- a message has one type
one_type : (kind : ℕ) (octets : List ℕ) → IsWellFormed octets → IsMessage kind octets → 1 ≡ kind
one_type kind octets form x = sym form.readable.whole.message.type_field ∙ x.type_field

-- what is wanted of a well-formed OPEN is that it is the own one
fulfils_open : (config : Config) (link : Option Link) (want : Want) (octets : List ℕ) → IsWellFormed octets → Fulfils config link want octets
    → IsOwnOpen config octets
fulfils_open config link OwnOpen octets form f = f
fulfils_open config link KeepAlive octets form f = absurd (let e = one_type 4 octets form f in omega arith)
fulfils_open config None CleanUpdate octets form f = absurd f
fulfils_open config (Some link) CleanUpdate octets form f = absurd (let e = one_type 2 octets form f.2.message in omega arith)
fulfils_open config link Cease octets form f = absurd (let e = one_type 3 octets form f.3.message in omega arith)
fulfils_open config link HoldExpired octets form f = absurd (let e = one_type 3 octets form f.3.message in omega arith)
fulfils_open config link SendHoldExpired octets form f = absurd (let e = one_type 3 octets form f.3.message in omega arith)
fulfils_open config link (MachineError state) octets form f = absurd (let e = one_type 3 octets form f.3.message in omega arith)
fulfils_open config link (Faults faults) octets form f = absurd (let e = one_type 3 octets form f.3.message in omega arith)

pays_open : (config : Config) (link : Option Link) (t : ℕ) (octets : List ℕ) → IsWellFormed octets → (wants : List Want)
    (change : Option (Fsm × Fsm)) (left : List Want) (still : Option (Fsm × Fsm)) → Pays config link (Sent t octets) wants change left still
    → IsOwnOpen config octets
pays_open config link t octets form [] change left still p = absurd p
pays_open config link t octets form (want ∷ wants) change left still p = fulfils_open config link want octets form p.0.fulfils

next_open : (config : Config) (t : ℕ) (octets : List ℕ) → IsWellFormed octets → (m n : Member) → Next config (Sent t octets) m n → IsOwnOpen config octets
next_open config t octets form m n next = elim next [
  | inl c ↦ pays_open config m.link t octets form m.wants m.change n.wants n.change c.pays
  | inr s ↦ (let o = s.opens in pays_open config (link_at s.before.head) t octets form o.1 o.2 n.wants n.change o.4)
]

some_same : (a b : List ℕ) → Some a ≡ Some b → b ≡ a
some_same a b e = cc

leads_open : (config : Config) (m last : Member) (records : List ShownRecord) (own : List ℕ) → HasOwnOpen records (Some own)
    → Leads config m records last → IsOwnOpen config own
leads_open config m last [] own has leads = absurd (let k : ⊥ = cc in k)
leads_open config m last (Sent t octets ∷ records) own has leads = elim has [
  | inl this ↦ subst (λ (v : List ℕ). IsOwnOpen config v) (some_same own octets this.1) (next_open config t octets this.0 m leads.0 leads.1)
  | inr later ↦ leads_open config leads.0 last records own later.1 leads.2
]
leads_open config m last (Received t octets ∷ records) own has leads = leads_open config leads.0 last records own has leads.2
leads_open config m last (Changed t old new ∷ records) own has leads = leads_open config leads.0 last records own has leads.2

pub own : SentOpenIsOwn
own config records octets begins has = let m = explained config records begins in leads_open config fresh_member m.0 records octets has m.1
