-- What is answered of an end: when it is judged, and what a no says.
use Rattle.std.proofs.Common.{◌≡◌, ◌||◌, ◌⊎◌, Bool, true, false, IsTrue, ℕ, List, [], ◌∷◌, Option, None, Some, IfNone, option_map, if◌then◌else◌, inl, inr, refl, sym, subst, take, ◌+◌, ◌∙◌}
use Rattle.std.specs.Option.{option_or}
use Rattle.bgp_prefix.specs.Shown.{ShownRecord, Received, Sent, Changed}
use Rattle.bgp_prefix.specs.declared.session.Session.{Session}
use Rattle.bgp_open.specs.Offer.{families_of}
use Rattle.bgp_open.specs.Open.{OpenFields, open_of}
use Rattle.bgp_open.specs.OpenFault.{IsWellFormed}
use Rattle.bgp_open.specs.declared.config.Config.{Config}
use Rattle.bgp_machine.specs.Run.{Begins}
use Rattle.bgp_judge.specs.Verdict.{No, VerdictValue}
use Rattle.bgp_check.specs.declared.not_judged.NotJudged.{NotJudged}
use Rattle.bgp_check.specs.declared.not_judged.NotJudged.TheVariants.{NoFamily}
use Rattle.bgp_check.specs.Answered.{FaultIsANo, HasFault, IsAmong, IsNoByOpen, NoConfigurationExplains}
use Rattle.bgp_check.specs.Checked.{IsTold}
use Rattle.bgp_check.specs.Configurations.{IsOf}
use Rattle.bgp_check.specs.NotJudged.{why_by_paths, why_not}
use Rattle.bgp_parts.specs.Opens.{HasOwnOpen}
use Rattle.bgp_parts.proofs.OneOwnOpen.{one_own}
use Rattle.bgp_check.specs.Over.{HasVerdictOver}
use Rattle.bgp_check.specs.declared.own_fault.OwnFault.{OwnFault}
use Rattle.bgp_check.specs.declared.widest.Widest.{Widest}
use Rattle.bgp_check.specs.WidestMade.{IsFaultless}
use Rattle.bgp_check.specs.WidestOf.{OffersNone}
use Rattle.bgp_check.proofs.Over.{front_begins}
use Rattle.bgp_check.proofs.OwnSettings.{none_if_own}

-- ---- an end that is judged offers a family

by_families : (v4 v6 : Bool) (other : Option NotJudged) → None ≡ (if v4 || v6 then other else Some NoFamily) → ¬ ((¬ IsTrue v4) × (¬ IsTrue v6))
by_families true v6 other is none = none.0 refl
by_families false true other is none = none.1 refl
by_families false false other is none = let k : ⊥ = cc in k

none_before : (first later : Option NotJudged) → None ≡ option_or first later → None ≡ first
none_before None later is = refl
none_before (Some why) later is = is

no_reason : (sends extended : Bool) (own : Option (List ℕ)) (told : Option OpenFields) (confederated : Bool)
    → None ≡ why_not sends extended (option_map open_of own) told confederated → ¬ OffersNone own
no_reason false extended own told confederated is none = let k : ⊥ = cc in k
no_reason true true own told confederated is none = let k : ⊥ = cc in k
no_reason true false None told confederated is none = none
no_reason true false (Some own) told confederated is none =
    let families = families_of (open_of own).capabilities in
    by_families families.v4 families.v6 _ (none_before _ (why_by_paths confederated) is) none

pub family_if : (result : Option NotJudged) (sends extended : Bool) (own : Option (List ℕ)) (told : Option OpenFields) (confederated : Bool)
    → result ≡ why_not sends extended (option_map open_of own) told confederated → IfNone result (¬ OffersNone own)
family_if None sends extended own told confederated is = no_reason sends extended own told confederated is
family_if (Some why) sends extended own told confederated is = tt

-- ---- what a no says

faultless : (session : Session) (own : Option (List ℕ)) (config : Config) → IsOf session own config → IsFaultless own
faultless session None config of = tt
faultless session (Some own) config of = (of.1.form, none_if_own config own of.1)

pub none_explains : NoConfigurationExplains
none_explains session records number peer under count own config stretch answer has of =
    let same = one_own records own answer.own has answer.has_own in
    let mine = subst (λ (o : Option (List ℕ)). IsOf session o config) same of in
    let none = (answer.over stretch (faultless session answer.own config mine)).2 config mine in
    (none, λ b. none (front_begins config records (count + 1) b))

-- ---- a verdict where the OPEN has an own fault

pub with_fault : FaultIsANo → (own : Option (List ℕ)) (fault : OwnFault) (widest : Widest) (records : List ShownRecord) (wants : Bool) (verdict : VerdictValue)
    → HasFault own fault → HasOwnOpen records own → IsTold widest records wants verdict
    → HasVerdictOver (IsAmong widest) records verdict × IsNoByOpen own records verdict
with_fault law None fault widest records wants verdict is has told = absurd is
with_fault law (Some own) fault widest records wants verdict is has told = law own fault widest records wants verdict is has told
