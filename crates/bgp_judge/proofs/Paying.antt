-- What is left to show, and on which link.
use Rattle.std.proofs.Common.{◌≡◌, List, [], ◌∷◌, Option, None, Some, MatchOption, refl, sym, subst}
use Rattle.bgp_prefix.specs.Shown.{ShownRecord, Received, Sent, Changed}
use Rattle.bgp_open.specs.declared.config.Config.{Config}
use Rattle.bgp_open.specs.declared.link.Link.{Link}
use Rattle.bgp_machine.specs.declared.fsm.Fsm.{Fsm}
use Rattle.bgp_machine.specs.declared.want.Want.{Want}
use Rattle.bgp_machine.specs.Lists.{Each}
use Rattle.bgp_machine.specs.Owed.{CanBeMet}
use Rattle.bgp_machine.specs.Shows.{Pays, PaysAll}
use Rattle.bgp_machine.specs.State.{number_of}
use Rattle.bgp_judge.specs.Member.{link_for}
use Rattle.bgp_judge.specs.declared.unshown.Unshown.{Unshown}
use Rattle.bgp_judge.specs.Unshown.{PaysNothing, Leaves}

-- where nothing is to be sent any link will do
any_link : (config : Config) (a b : Option Link) (change : Option (Fsm × Fsm)) (rs : List ShownRecord)
    → PaysAll config a [] change rs → PaysAll config b [] change rs
any_link config a b change [] p = p
any_link config a b change (Received t octets ∷ rs) p = absurd p.2
any_link config a b change (Sent t octets ∷ rs) p = absurd p.2
any_link config a b None (Changed t old new ∷ rs) p = absurd p.2
any_link config a b (Some c) (Changed t old new ∷ rs) p = (
  p.0,
  p.1,
  p.2,
  subst (λ (ws : List Want). PaysAll config b ws p.1 rs) (sym p.2.2)
      (any_link config a b p.1 rs (subst (λ (ws : List Want). PaysAll config a ws p.1 rs) p.2.2 p.3)),
)

-- the link is needed only where something is to be sent
pub pays_on : (config : Config) (link : Option Link) (wants : List Want) (change : Option (Fsm × Fsm)) (rs : List ShownRecord)
    → PaysAll config (link_for wants link) wants change rs → PaysAll config link wants change rs
pays_on config link [] change rs p = any_link config None link change rs p
pays_on config link (want ∷ wants) change rs p = p

pub pays_for : (config : Config) (link : Option Link) (wants : List Want) (change : Option (Fsm × Fsm)) (rs : List ShownRecord)
    → PaysAll config link wants change rs → PaysAll config (link_for wants link) wants change rs
pays_for config link [] change rs p = any_link config link None change rs p
pays_for config link (want ∷ wants) change rs p = p

-- a record pays nothing where nothing is left to show
pub pays_nothing : (config : Config) (link : Option Link) (r : ShownRecord) (left : List Want) (still : Option (Fsm × Fsm))
    → Pays config link r [] None left still → ⊥
pays_nothing config link (Received t octets) left still p = p
pays_nothing config link (Sent t octets) left still p = p
pays_nothing config link (Changed t old new) left still p = p

-- what is left to send was to be sent before
pub each_left : (P : Want → Type 0) (config : Config) (link : Option Link) (r : ShownRecord) (wants : List Want) (change : Option (Fsm × Fsm))
    (left : List Want) (still : Option (Fsm × Fsm)) → Pays config link r wants change left still → Each P wants → Each P left
each_left P config link (Received t octets) wants change left still p each = absurd p
each_left P config link (Sent t octets) [] change left still p each = absurd p
each_left P config link (Sent t octets) (want ∷ wants) change left still p each = subst (λ (ws : List Want). Each P ws) (sym p.1) each.1
each_left P config link (Changed t old new) wants None left still p each = absurd p
each_left P config link (Changed t old new) wants (Some c) left still p each = subst (λ (ws : List Want). Each P ws) (sym p.2) each

pub each_for : (config : Config) (link : Option Link) (wants : List Want) → Each (CanBeMet config link) wants
    → Each (CanBeMet config (link_for wants link)) wants
each_for config link [] each = tt
each_for config link (want ∷ wants) each = each

-- what can be met can be paid
pub can_pay : (config : Config) (link : Option Link) (wants : List Want) (change : Option (Fsm × Fsm)) → Each (CanBeMet config link) wants
    → (paid : List ShownRecord) × PaysAll config link wants change paid
can_pay config link [] None each = ([], (refl, refl))
can_pay config link [] (Some c) each =
    (Changed 0 (number_of c.0) (number_of c.1) ∷ [], ([], None, (refl, refl, refl, refl), (refl, refl)))
can_pay config link (want ∷ wants) change each =
    let k = can_pay config link wants change each.1 in
    (Sent 0 each.0.0 ∷ k.0, (wants, change, (each.0.2, refl, refl), k.1))

-- an option's two cases, each by what it says
pub option_weaker : {X : Type 0} (o : Option X) (N N2 : Type 0) (S S2 : X → Type 0) → (N → N2) → ((x : X) → S x → S2 x) → MatchOption o N S
    → MatchOption o N2 S2
option_weaker None N N2 S S2 f g h = f h
option_weaker (Some x) N N2 S S2 f g h = g x h

pub leaves_at : (config : Config) (link : Option Link) (r r2 : ShownRecord) (x : Unshown) (o : Option Unshown) → r ≡ r2
    → MatchOption o (PaysNothing config link r2 x) (Leaves config link r2 x) → MatchOption o (PaysNothing config link r x) (Leaves config link r x)
leaves_at config link r r2 x o e h =
    subst (λ (v : ShownRecord). MatchOption o (PaysNothing config link v x) (Leaves config link v x)) (sym e) h
