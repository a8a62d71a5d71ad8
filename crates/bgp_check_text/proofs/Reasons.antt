-- What a reason is told of.
use Rattle.std.proofs.Common.{IfSome, IfNone, MatchOption, ◌≡◌, ◌∙◌, ap, ◌<◌, ◌+◌, Bool, true, false, ℕ, zero, suc, List, [], ◌∷◌, Option, None, Some, inl, inr, take, length}
use Rattle.bgp_prefix.specs.Shown.{ShownRecord, Received, Sent, Changed}
use Rattle.bgp_open.specs.declared.config.Config.{Config}
use Rattle.bgp_judge.specs.Verdict.{No, VerdictValue}
use Rattle.bgp_check.specs.Checked.{IsToldBy}
use Rattle.bgp_parts.specs.Opens.{FirstSent, HasOwnOpen}
use Rattle.bgp_check.specs.Answered.{IsJudged, number_of}
use Rattle.bgp_check.specs.Configurations.{as_of}
use Rattle.bgp_parts.proofs.OneOwnOpen.{one_own}
use Rattle.bgp_open.specs.Open.{open_of}
use Rattle.bgp_open.specs.OpenFault.{IsWellFormed}
use Rattle.bgp_prefix.specs.declared.session.Session.{Session}
use Rattle.bgp_check.specs.declared.peer_as.PeerAs.{PeerAs}

-- a no is about one of the records
pub no_within : (wanting : Option Config) (another : Config) (records : List ShownRecord) (wants : Bool) (count : ℕ)
    → IsToldBy wanting another records wants (No count) → count < length records
no_within None another records true count told = absurd told
no_within None another records false count told = told.0
no_within (Some wanting) another records true count told = told.0.0
no_within (Some wanting) another records false count told = told.0.0

-- the first OPEN of the first records is the first of all
pub first_of_all : (Is : List ℕ → Type 0) (n : ℕ) (records : List ShownRecord) (own : List ℕ) → FirstSent Is (take n records) (Some own)
    → FirstSent Is records (Some own)
first_of_all Is zero [] own has = has
first_of_all Is zero (shown ∷ records) own has = let k : ⊥ = cc in absurd k
first_of_all Is (suc n) [] own has = has
first_of_all Is (suc n) (Sent t octets ∷ records) own has = elim has [
  | inl here ↦ inl here
  | inr later ↦ inr (later.0, first_of_all Is n records own later.1)
]
first_of_all Is (suc n) (Received t octets ∷ records) own has = first_of_all Is n records own has
first_of_all Is (suc n) (Changed t old new ∷ records) own has = first_of_all Is n records own has

-- so the AS number that is told is the one that it says
pub says_number : (records : List ShownRecord) (number : Option ℕ) (count : ℕ) (own : List ℕ)
    → ((all : Option (List ℕ)) → HasOwnOpen records all → number ≡ number_of all)
    → HasOwnOpen (take (count + 1) records) (Some own) → number ≡ Some (as_of (open_of own))
says_number records number count own tells has = tells (Some own) (first_of_all IsWellFormed (count + 1) records own has)

-- of what is judged
pub tells_number : (session : Session) (records : List ShownRecord) (number : Option ℕ) (peer : PeerAs) (under : Config) (verdict : VerdictValue)
    → IsJudged session records number peer under verdict → (own : Option (List ℕ)) → HasOwnOpen records own → number ≡ number_of own
tells_number session records number peer under verdict judged own has = judged.is_number ∙ ap number_of (one_own records judged.own own judged.has_own has)

-- what holds of an option by its cases
pub by_cases : {X : Type 0} (r : Option X) (None_holds : Type 0) (Holds : X → Type 0) → IfSome r Holds → IfNone r None_holds → MatchOption r None_holds Holds
by_cases None None_holds Holds some none = none
by_cases (Some x) None_holds Holds some none = some

pub not_both : (o : Option ℕ) (x : ℕ) → o ≡ Some x → o ≡ None → ⊥
not_both None x is none = let k : ⊥ = cc in k
not_both (Some y) x is none = let k : ⊥ = cc in k

pub same_number : (o : Option ℕ) (x y : ℕ) → o ≡ Some x → o ≡ Some y → x ≡ y
same_number o x y is also = cc
