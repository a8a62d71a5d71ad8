-- The rules' words over what was surveyed.
use Rattle.std.proofs.Common.{◌≡◌, ◌≢◌, ◌↔◌, ◌⊎◌, Bool, true, false, not, List, [], ◌∷◌, IsTrue, refl, ap, sym, ◌∙◌, inl, inr}
use Rattle.bgp_update.specs.declared.destination.Destination.{Destination}
use Rattle.bgp_update.specs.Listed.{listed}
use Rattle.bgp_update.specs.Field.{field_destinations}
use Rattle.bgp_open.specs.Family.{Family}
use Rattle.bgp_update.specs.declared.mp.MpContents.{MpContents}
use Rattle.bgp_update.specs.declared.mp.MpState.{MpState}
use Rattle.bgp_update.specs.declared.mp.MpState.TheVariants as states
use Rattle.bgp_update.specs.Mp.{Absent, Sound}
use Rattle.bgp_update.specs.MpFaults.{IsSound}
use Rattle.bgp_update.specs.MpShown.{state_of, contents_of}
use Rattle.bgp_update.specs.MpValue.{Contents}

pub sound : (state : MpState) (family : Family) (contents : MpContents) → state ≡ states.Sound family contents
    → (IsTrue true → IsSound (state_of state)) × (IsSound (state_of state) → IsTrue true)
sound state family contents e = (λ _. (family, contents_of contents, ap state_of e), λ _. refl)

pub doubtful : (state : MpState) (bits is_same : Bool) (own family : Family) (contents : MpContents) → state ≡ states.Sound own contents → bits ≡ true → IsTrue is_same ↔ (own ≡ family)
    → (IsTrue is_same → IsTrue bits × ((x : Contents) × (state_of state ≡ Sound family x))) × (IsTrue bits × ((x : Contents) × (state_of state ≡ Sound family x)) → IsTrue is_same)
doubtful state bits is_same own family contents e b h = (
  λ is. (b, (contents_of contents, ap state_of e ∙ ap (λ (f : Family). Sound f (contents_of contents)) (h.0 is))),
  λ d. h.1 (let same = sym (ap state_of e) ∙ d.1.1 in cc),
)

-- the contents that a sound state has
same_contents : (state : MpState) (family also : Family) (contents : MpContents) (x : Contents) → state ≡ states.Sound family contents → state_of state ≡ Sound also x → contents_of contents ≡ x
same_contents state family also contents x e s = let same = sym (ap state_of e) ∙ s in cc

pub reachable : (state : MpState) (some : Bool) (family : Family) (contents : MpContents) → state ≡ states.Sound family contents
    → IsTrue some ↔ (listed (field_destinations contents.destinations) ≢ [])
    → (IsTrue some → (f : Family) × (x : Contents) × (state_of state ≡ Sound f x) × (x.destinations ≢ []))
    × ((f : Family) × (x : Contents) × (state_of state ≡ Sound f x) × (x.destinations ≢ []) → IsTrue some)
reachable state some family contents e h = (
  λ is. (family, contents_of contents, ap state_of e, h.0 is),
  λ r. h.1 (λ none. r.3 (ap (λ (x : Contents). x.destinations) (sym (same_contents state family r.0 contents r.1 e r.2)) ∙ none)),
)

none_listed : (some : Bool) (ps : List Destination) → IsTrue some ↔ (ps ≢ []) → IsTrue (not some) → ps ≡ []
none_listed some [] h never = refl
none_listed true (p ∷ ps) h never = absurd cc
none_listed false (p ∷ ps) h never = absurd (unequal (h.1 (λ e. absurd cc)))
  where
    unequal : false ≡ true → ⊥
    unequal e = absurd cc

not_some : (some : Bool) (ps : List Destination) → IsTrue some ↔ (ps ≢ []) → ps ≡ [] → IsTrue (not some)
not_some true ps h none = absurd (h.0 refl none)
not_some false ps h none = refl

pub reaches_nothing : (state : MpState) (some : Bool) (family : Family) (contents : MpContents) → state ≡ states.Sound family contents
    → IsTrue some ↔ (listed (field_destinations contents.destinations) ≢ [])
    → (IsTrue (not some) → (state_of state ≡ Absent) ⊎ ((f : Family) × (x : Contents) × (state_of state ≡ Sound f x) × (x.destinations ≡ [])))
    × ((state_of state ≡ Absent) ⊎ ((f : Family) × (x : Contents) × (state_of state ≡ Sound f x) × (x.destinations ≡ [])) → IsTrue (not some))
reaches_nothing state some family contents e h = (
  λ never. inr (family, contents_of contents, ap state_of e, none_listed some _ h never),
  λ r. elim r [
    | inl absent ↦ let apart = sym (ap state_of e) ∙ absent in absurd cc
    | inr r ↦ not_some some _ h (ap (λ (x : Contents). x.destinations) (same_contents state family r.0 contents r.1 e r.2) ∙ r.3)
  ],
)
