-- What the fresh words stand for, and where there is a member.
use Rattle.std.proofs.Common.{◌≡◌, ◌⊎◌, inl, inr, IsTrue, [], refl, ap, ◌∙◌}
use Rattle.bgp_open.specs.declared.config.Config.{Config}
use Rattle.bgp_open.specs.declared.families.Families.{Families}
use Rattle.bgp_machine.specs.declared.fsm.Fsm.TheVariants as fsms
use Rattle.bgp_rib.specs.Routes.{Routes, AreRoutes, no_routes}
use Rattle.bgp_judge.specs.Member.{Member, fresh_member}
use Rattle.bgp_judge.proofs.Standing.{fresh_stands}
use Rattle.bgp_compact.specs.declared.falls.Fall.{Fall}
use Rattle.bgp_compact.specs.declared.falls.Fall.TheVariants.{Silent, Ceased, Expired, SendExpired, Erred, Faulted}
use Rattle.bgp_compact.specs.declared.words.Words.{Words}
use Rattle.bgp_compact.specs.Disabled.{holds}
use Rattle.bgp_compact.specs.Members.{HasFall, IsMember, front_member, fallen_member}
use Rattle.bgp_compact.specs.Members.IsMember.{Front, Fallen}
use Rattle.bgp_compact.specs.Parts.{AreFine}
use Rattle.bgp_compact.specs.Standing.{Stands, fresh_words}
use Rattle.bgp_compact.proofs.AllPaid.{shows_up, goes_where}
use Rattle.bgp_compact.proofs.SetsOfSets.{holds_none}

fresh_fall : (f : Fall) → HasFall fresh_words.falls f → f ≡ Silent
fresh_fall Silent h = refl
fresh_fall Ceased h = absurd (let k : ⊥ = cc in k)
fresh_fall Expired h = absurd (let k : ⊥ = cc in k)
fresh_fall SendExpired h = absurd (let k : ⊥ = cc in k)
fresh_fall Erred h = absurd (let k : ⊥ = cc in k)
fresh_fall (Faulted s) h = absurd (let k : ⊥ = cc in k)

fresh_only : (m : Member) → IsMember fresh_words no_routes m → m ≡ fresh_member
fresh_only m h = elim h [
  | Front d on e ↦ absurd (holds_none d on)
  | Fallen f has e ↦ e ∙ ap (λ (v : Fall). fallen_member fresh_words v) (fresh_fall f has)
]

pub starts_so : (config : Config) → AreRoutes no_routes → Stands config fresh_words no_routes []
starts_so config are = record {
  stand = fresh_stands config (IsMember fresh_words no_routes) (Fallen Silent refl refl) fresh_only;
  is_table = record { are = are; enabled = refl; empty = λ e. refl };
  shown_is = refl;
  made = refl;
}

pub starts_fine : AreFine fresh_words
starts_fine = record {
  are_up = λ d on. absurd (holds_none d on);
  undelayed = λ d on. absurd (holds_none d on);
  errors = λ h. absurd (let k : ⊥ = cc in k);
  stay_up = λ d on. absurd (holds_none d on);
}

-- ---- where there is a member

pub fallen_there : (n : Words) (table : Routes) → (f : Fall) × HasFall n.falls f → (m : Member) × IsMember n table m
fallen_there n table k = (fallen_member n k.0, Fallen k.0 k.1 refl)

pub front_there : (n : Words) (table : Routes) → (n.shown ≡ fsms.Idle → ⊥) → (d : Families) × IsTrue (holds n.sets d) → (m : Member) × IsMember n table m
front_there n table up k = (front_member n table k.0, Front k.0 (goes_where n.shown n.sets k.0 up k.1) refl)

pub none_there : (n : Words) (table : Routes) (m : Member) → ((f : Fall) → HasFall n.falls f → ⊥) → ((n.shown ≡ fsms.Idle) ⊎ ((d : Families) → IsTrue (holds n.sets d) → ⊥))
    → IsMember n table m → ⊥
none_there n table m falls sets h = elim h [
  | Front d on e ↦ let k = shows_up n.shown n.sets d on in elim sets [ inl idle ↦ k.0 idle | inr none ↦ none d k.1 ]
  | Fallen f has e ↦ falls f has
]
