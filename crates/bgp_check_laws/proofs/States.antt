-- States by their names, with disabled families and numbers of routes.
use Rattle.std.proofs.Common.{◌≡◌, ◌∙◌, ◌++◌, ◌==◌, ◌<◌, ◌^◌, ℕ, Bool, true, false, List, [], ◌∷◌, Option, Some, codes, length, map, nat_lt, refl, sym, ap, ap₂, subst, if◌then◌else◌, inl, inr}
use Rattle.std.specs.Fmt.{decimal}
use Rattle.std.specs.List.{flat_map}
use Rattle.std.proofs.lemmas.Bool.{cases_Bool, eqb-true}
use Rattle.json.specs.Json.{Json, string}
use Rattle.bgp_open.specs.declared.families.Families.{Families}
use Rattle.bgp_machine.specs.Run.{End}
use Rattle.bgp_machine.specs.State.{number_of as state_number}
use Rattle.bgp_machine.specs.declared.fsm.Fsm.{Fsm}
use Rattle.bgp_machine.specs.declared.fsm.Fsm.TheVariants as fsms
use Rattle.bgp_names.specs.States.{state_name}
use Rattle.bgp_json_values.specs.Objects.{array_of, in_array, number_of}
use Rattle.bgp_json_verdicts.specs.Objects.{family_texts}
use Rattle.bgp_check_text.specs.Reached.{ReachedValue}
use Rattle.bgp_check_text.specs.States.{after_text, counts_text, disabled_text, established_text, left_text, never_text, or_count, state_text}
use Rattle.bgp_json_laws.proofs.Lookups.{listed}
use Rattle.bgp_verdict_laws.proofs.Reading.{list_in}
use Rattle.bgp_verdict_laws.proofs.Times.{number_back, said}
use Rattle.bgp_check_laws.proofs.Members.{before_json}
use Rattle.bgp_check_laws.proofs.Reading.{counts_in, disabled_in, families_in, lower_in, or_count_in, rank}

-- ---- the number of a state

state_back : (fsm : Fsm) → rank (state_name (state_number fsm)) ≡ state_number fsm
state_back fsms.Idle = refl
state_back fsms.Connect = refl
state_back fsms.Active = refl
state_back fsms.OpenSent = refl
state_back fsms.OpenConfirm = refl
state_back fsms.Established = refl

-- of one of these, or of another
abbrev IsBack : ℕ → Type 0
IsBack n = rank (state_name n) ≡ n

or_else : (n k : ℕ) → IsBack k → ((n == k) ≡ false → IsBack n) → IsBack n
or_else n k is other = elim (cases_Bool (n == k)) [
  | inl same ↦ subst (λ (m : ℕ). IsBack m) (sym (eqb-true n k same)) is
  | inr differ ↦ other differ
]

no_name : (n : ℕ) → n < 2 ^ 64 → (n == 1) ≡ false → (n == 2) ≡ false → (n == 3) ≡ false → (n == 4) ≡ false → (n == 5) ≡ false → (n == 6) ≡ false → IsBack n
no_name n small a b c d e f = rw (a, b, c, d, e, f) (number_back n small)

pub rank_back : (n : ℕ) → n < 2 ^ 64 → rank (state_name n) ≡ n
rank_back n small =
    or_else n 1 refl (λ a. or_else n 2 refl (λ b. or_else n 3 refl (λ c. or_else n 4 refl (λ d. or_else n 5 refl (λ e. or_else n 6 refl (λ f. no_name n small a b c d e f))))))

-- ---- families

families_by : (v4 v6 : Bool) → families_in (list_in (Some (array_of string ((if v4 then codes "v4" ∷ [] else []) ++ (if v6 then codes "v6" ∷ [] else [])))))
    ≡ record { v4 = v4; v6 = v6 }
families_by true true = refl
families_by true false = refl
families_by false true = refl
families_by false false = refl

pub disabled_back : (families : Families) → disabled_in (Some (array_of string (family_texts families))) ≡ disabled_text families
disabled_back families = ap disabled_text (families_by families.v4 families.v6)

-- ---- how many routes stood before

others_back : (counts : List ℕ) → flat_map or_count_in (listed (in_array (map number_of counts))) ≡ flat_map or_count counts
others_back [] = refl
others_back (count ∷ counts) = ap (λ (t : List ℕ). or_count count ++ t) (others_back counts)

counts_back : (counts : List ℕ) → counts_in (list_in (before_json counts)) ≡ counts_text counts
counts_back [] = refl
counts_back (count ∷ counts) = ap (λ (t : List ℕ). codes ", routes from its peer before that: " ++ (decimal count ++ t)) (others_back counts)

-- ---- the state of an end

-- by the ranks of its state and of the highest one
lower_by : (n high : ℕ) (counts : List ℕ) → rank (state_name n) ≡ n → rank (state_name high) ≡ high
    → lower_in (state_name n) (state_name high) (before_json counts)
    ≡ (if high == 6 then left_text n counts else never_text n high)
unfolding left_text never_text
lower_by n high counts is also =
    ap₂ (λ (m h : ℕ). if h == 6 then state_name n ++ (codes " after Established" ++ counts_in (list_in (before_json counts)))
    else state_name n ++ ((if nat_lt m h then codes " after " ++ state_name high else []) ++ codes ", never Established")) is also
    ∙ ap (λ (t : List ℕ). if high == 6 then state_name n ++ (codes " after Established" ++ t)
    else state_name n ++ (after_text n high ++ codes ", never Established")) (counts_back counts)

-- what is found of it: its name, its families and the number of its routes; of the verdict the highest
-- state, and how many routes stood before
abbrev pub state_said : List ℕ → Option Json → Option Json → List ℕ → Option Json → List ℕ
state_said state disabled count highest before =
    if rank state == 6 then codes "Established" ++ (disabled_in disabled ++ (codes ", routes from its peer: " ++ said count))
    else lower_in state highest before

pub end_state_back : (reached : ReachedValue) (e : End) → reached.highest < 2 ^ 64
    → state_said (state_name (state_number e.fsm)) (Some (array_of string (family_texts e.routes.disabled))) (Some (number_of (length e.routes.entries)))
    (state_name reached.highest) (before_json reached.counts)
    ≡ state_text reached e
unfolding established_text
end_state_back reached e small =
    let n = state_number e.fsm in
    ap (λ (m : ℕ). if m == 6 then codes "Established" ++ (disabled_in (Some (array_of string (family_texts e.routes.disabled))) ++ (codes ", routes from its peer: "
    ++ decimal (length e.routes.entries)))
    else lower_in (state_name n) (state_name reached.highest) (before_json reached.counts)) (state_back e.fsm)
    ∙ ap₂ (λ (d l : List ℕ). if n == 6 then codes "Established" ++ (d ++ (codes ", routes from its peer: " ++ decimal (length e.routes.entries))) else l)
    (disabled_back e.routes.disabled) (lower_by n reached.highest reached.counts (state_back e.fsm) (rank_back reached.highest small))
