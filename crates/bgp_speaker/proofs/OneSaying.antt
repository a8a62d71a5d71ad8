-- A want is said in one way, but for an UPDATE, of which the changes are one.
use Rattle.std.proofs.Common.{◌≡◌, ℕ, ◌⊎◌, inl, inr, List, [], ◌∷◌, ◌++◌, Option, None, Some, IsSomeAnd, map, refl, sym, ap, subst, ◌∙◌, arith}
use Rattle.byteorder.specs.Endian.{big_bytes}
use Rattle.bgp_prefix.specs.Shown.{ShownRecord}
use Rattle.bgp_prefix.specs.Shown.{Received, Sent, Changed}
use Rattle.bgp_open.specs.declared.link.Link.{Link}
use Rattle.bgp_open.specs.declared.subcodes.OpenSubcodes.{OpenSubcodes}
use Rattle.bgp_open.specs.OpenSubcodes.{Names as NamesOpenError}
use Rattle.bgp_open.specs.Written.{notification_octets}
use Rattle.bgp_wire.specs.declared.header.HeaderFaults.{HeaderFaults}
use Rattle.bgp_wire.specs.Verdict.{Names as NamesHeaderFault}
use Rattle.bgp_update.specs.Changes.{RouteChanges}
use Rattle.bgp_machine.specs.declared.want.FaultSet.{FaultSet}
use Rattle.bgp_machine.specs.declared.want.FaultSet.TheVariants.{Header, Open, Update}
use Rattle.bgp_machine.specs.declared.want.Want.{Want}
use Rattle.bgp_machine.specs.declared.want.Want.TheVariants.{OwnOpen, KeepAlive, CleanUpdate, Cease, HoldExpired, SendHoldExpired, MachineError, Faults}
use Rattle.bgp_machine.specs.Want.{IsLeastFault, NamesFault}
use Rattle.bgp_speaker.specs.declared.speaker.Speaker.{Speaker}
use Rattle.bgp_speaker.specs.Choice.{sent_after}
use Rattle.bgp_speaker.specs.OneChoice.{AreAlike, IsAlike, SayTheSame}
use Rattle.bgp_speaker.specs.Said.{Says, SaysChanges, SaysEach, SaysFault}

-- ---- records that are alike

pub alike_itself : (x : ShownRecord) → IsAlike x x
alike_itself (Received t octets) = refl
alike_itself (Sent t octets) = (refl, inl refl)
alike_itself (Changed t old new) = refl

pub all_alike : (records : List ShownRecord) → AreAlike records records
all_alike [] = tt
all_alike (x ∷ xs) = (alike_itself x, all_alike xs)

pub alike_joined : (xs ys zs ws : List ShownRecord) → AreAlike xs ys → AreAlike zs ws → AreAlike (xs ++ zs) (ys ++ ws)
alike_joined [] [] zs ws a b = b
alike_joined [] (y ∷ ys) zs ws a b = absurd a
alike_joined (x ∷ xs) [] zs ws a b = absurd a
alike_joined (x ∷ xs) (y ∷ ys) zs ws a b = (a.0, alike_joined xs ys zs ws a.1 b)

-- ---- the least fault of a set

-- its data are free, and then they may be none, or they are fixed
abbrev pub IsFreeOrFixed : FaultSet → ℕ → ℕ → List ℕ → Type 0
IsFreeOrFixed faults code subcode detail =
    NamesFault faults code subcode [] ⊎ ((others : List ℕ) → NamesFault faults code subcode others → others ≡ detail)

same_field : (n : ℕ) (field : Option ℕ) (detail others : List ℕ)
    → IsSomeAnd field (λ v. detail ≡ big_bytes n v) → IsSomeAnd field (λ v. others ≡ big_bytes n v) → others ≡ detail
same_field n None detail others x y = absurd x
same_field n (Some v) detail others x y = y ∙ sym x

header_fault : (faults : HeaderFaults) (code subcode : ℕ) (detail : List ℕ) → code ≡ 1 → NamesHeaderFault faults subcode detail → IsFreeOrFixed (Header faults) code subcode detail
header_fault faults code subcode detail e (inl marker) = inl (e, inl marker)
header_fault faults code subcode detail e (inr (inl count)) = inr (λ others x. elim x.1 [
  | inl y ↦ absurd (let a = y.0 in let b = count.0 in omega arith)
  | inr z ↦ elim z [ inl y ↦ same_field 2 faults.length detail others count.1 y.1 | inr y ↦ absurd (let a = y.0 in let b = count.0 in omega arith) ]
])
header_fault faults code subcode detail e (inr (inr kind)) = inr (λ others x. elim x.1 [
  | inl y ↦ absurd (let a = y.0 in let b = kind.0 in omega arith)
  | inr z ↦ elim z [ inl y ↦ absurd (let a = y.0 in let b = kind.0 in omega arith) | inr y ↦ same_field 1 faults.kind detail others kind.1 y.1 ]
])

version_alone : (subcodes : OpenSubcodes) (subcode : ℕ) (others : List ℕ) → subcode ≡ 1 → NamesOpenError subcodes subcode others → others ≡ big_bytes 2 4
version_alone subcodes subcode others e (inl x) = absurd (let a = x.0 in omega arith)
version_alone subcodes subcode others e (inr (inl x)) = x.1
version_alone subcodes subcode others e (inr (inr (inl x))) = absurd (let a = x.0 in omega arith)
version_alone subcodes subcode others e (inr (inr (inr (inl x)))) = absurd (let a = x.0 in omega arith)
version_alone subcodes subcode others e (inr (inr (inr (inr (inl x))))) = absurd (let a = x.0 in omega arith)
version_alone subcodes subcode others e (inr (inr (inr (inr (inr (inl x)))))) = absurd (let a = x.0 in omega arith)
version_alone subcodes subcode others e (inr (inr (inr (inr (inr (inr (inl x))))))) = absurd (let a = x.0 in omega arith)
version_alone subcodes subcode others e (inr (inr (inr (inr (inr (inr (inr x))))))) = absurd (let a = x.0 in omega arith)

open_error : (subcodes : OpenSubcodes) (code subcode : ℕ) (detail : List ℕ) → code ≡ 2 → NamesOpenError subcodes subcode detail → IsFreeOrFixed (Open subcodes) code subcode detail
open_error subcodes code subcode detail e (inl x) = inl (e, inl x)
open_error subcodes code subcode detail e (inr (inl x)) = inr (λ others y. version_alone subcodes subcode others x.0 y.1 ∙ sym x.1)
open_error subcodes code subcode detail e (inr (inr rest)) = inl (e, inr (inr rest))

free_or_fixed : (faults : FaultSet) (code subcode : ℕ) (detail : List ℕ) → NamesFault faults code subcode detail → IsFreeOrFixed faults code subcode detail
free_or_fixed (Header faults) code subcode detail x = header_fault faults code subcode detail x.0 x.1
free_or_fixed (Open subcodes) code subcode detail x = open_error subcodes code subcode detail x.0 x.1
free_or_fixed (Update subcodes) code subcode detail x = inl x

same_code : (faults : FaultSet) (code other subcode n : ℕ) (detail others : List ℕ) → NamesFault faults code subcode detail → NamesFault faults other n others → code ≡ other
same_code (Header faults) code other subcode n detail others x y = x.0 ∙ sym y.0
same_code (Open subcodes) code other subcode n detail others x y = x.0 ∙ sym y.0
same_code (Update subcodes) code other subcode n detail others x y = x.0 ∙ sym y.0

least_once : (faults : FaultSet) (code other subcode n : ℕ) (detail others : List ℕ) → IsLeastFault faults code subcode detail → IsLeastFault faults other n others
    → (code ≡ other) × (subcode ≡ n) × (detail ≡ others)
least_once faults code other subcode n detail others x y =
    let codes = same_code faults code other subcode n detail others x.names y.names in
    let there = x.least other n others y.names in
    let here = y.least code subcode detail x.names in
    let subcodes : subcode ≡ n = omega (arith, there, here) in
    let back : (d : List ℕ) → NamesFault faults other n d → NamesFault faults code subcode d =
    λ d z. subst (λ (c : ℕ). NamesFault faults c subcode d) (sym codes) (subst (λ (m : ℕ). NamesFault faults other m d) (sym subcodes) z)
    in
    let onward : (d : List ℕ) → NamesFault faults code subcode d → NamesFault faults other n d =
    λ d z. subst (λ (m : ℕ). NamesFault faults other m d) subcodes (subst (λ (c : ℕ). NamesFault faults c subcode d) codes z)
    in
    let details : detail ≡ others = elim (free_or_fixed faults code subcode detail x.names) [
      | inl free ↦ x.without free ∙ sym (y.without (onward [] free))
      | inr fixed ↦ sym (fixed others (back others y.names))
    ] in
    (codes, subcodes, details)

fault_once : (faults : FaultSet) (octets others : List ℕ) → SaysFault faults octets → SaysFault faults others → octets ≡ others
fault_once faults octets others x y =
    let same = least_once faults x.0 y.0 x.1 y.1 x.2 y.2 x.3 y.3 in
    x.4 ∙ ((λ i. notification_octets (same.0 i) (same.1 i) (same.2 i)) ∙ sym y.4)

-- ---- a message, and all of them

changes_alike : (link : Option Link) (changes : RouteChanges) (octets others : List ℕ) → SaysChanges link changes octets → SaysChanges link changes others → SayTheSame octets others
changes_alike None changes octets others x y = absurd x
changes_alike (Some link) changes octets others x y = (link, changes, x, y)

said_once : (speaker : Speaker) (link : Option Link) (kind : ℕ) (changes : RouteChanges) (want : Want) (octets others : List ℕ)
    → Says speaker link kind changes want octets → Says speaker link kind changes want others → (octets ≡ others) ⊎ SayTheSame octets others
said_once speaker link kind changes OwnOpen octets others x y = inl (x ∙ sym y)
said_once speaker link kind changes KeepAlive octets others x y = inl (x ∙ sym y)
said_once speaker link kind changes CleanUpdate octets others x y = inr (changes_alike link changes octets others x y)
said_once speaker link kind changes Cease octets others x y = inl (x ∙ sym y)
said_once speaker link kind changes HoldExpired octets others x y = inl (x ∙ sym y)
said_once speaker link kind changes SendHoldExpired octets others x y = inl (x ∙ sym y)
said_once speaker link kind changes (MachineError state) octets others x y = inl (x ∙ sym y)
said_once speaker link kind changes (Faults faults) octets others x y = inl (fault_once faults octets others x y)

pub each_said_once : (speaker : Speaker) (link : Option Link) (t kind : ℕ) (changes : RouteChanges) (wants : List Want) (messages others : List (List ℕ))
    → SaysEach speaker link kind changes wants messages → SaysEach speaker link kind changes wants others
    → AreAlike (map (λ (octets : List ℕ). Sent t octets) messages) (map (λ (octets : List ℕ). Sent t octets) others)
each_said_once speaker link t kind changes [] messages others x y =
    subst (λ (ms : List (List ℕ)). AreAlike (map (λ (octets : List ℕ). Sent t octets) ms) (map (λ (octets : List ℕ). Sent t octets) others)) (sym x)
    (subst (λ (ms : List (List ℕ)). AreAlike [] (map (λ (octets : List ℕ). Sent t octets) ms)) (sym y) tt)
each_said_once speaker link t kind changes (want ∷ wants) [] others x y = absurd x
each_said_once speaker link t kind changes (want ∷ wants) (m ∷ ms) [] x y = absurd y
each_said_once speaker link t kind changes (want ∷ wants) (m ∷ ms) (o ∷ os) x y =
    ((refl, said_once speaker link kind changes want m o x.0 y.0), each_said_once speaker link t kind changes wants ms os x.1 y.1)

pub last_sent_once : (speaker : Speaker) (link : Option Link) (t kind sent_at : ℕ) (changes : RouteChanges) (wants : List Want) (messages others : List (List ℕ))
    → SaysEach speaker link kind changes wants messages → SaysEach speaker link kind changes wants others
    → sent_after t messages sent_at ≡ sent_after t others sent_at
last_sent_once speaker link t kind sent_at changes [] messages others x y = ap (λ (ms : List (List ℕ)). sent_after t ms sent_at) (x ∙ sym y)
last_sent_once speaker link t kind sent_at changes (want ∷ wants) [] others x y = absurd x
last_sent_once speaker link t kind sent_at changes (want ∷ wants) (m ∷ ms) [] x y = absurd y
last_sent_once speaker link t kind sent_at changes (want ∷ wants) (m ∷ ms) (o ∷ os) x y = refl
