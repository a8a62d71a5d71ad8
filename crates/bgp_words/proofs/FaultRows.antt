-- Each row of words that spell no command.
use Rattle.std.proofs.Common.{rules, ◌≡◌, List, [], ◌∷◌, Result, Ok, Err, All, refl, sym, subst, inl, inr}
use Rattle.std.specs.Prelude.{◌⊎◌, IsErrAnd}
use Rattle.std.proofs.lemmas.List.Elements.{All-cons, All-nil, All-weaker}
use Rattle.clap.specs.Words.{Kinds, Text, HasKind, fault_of, kind_of}
use Rattle.clap.specs.declared.error.Error.{Error}
use Rattle.clap.specs.declared.error.kind.ErrorKind.{ErrorKind}
use Rattle.clap.specs.declared.error.kind.ErrorKind.TheVariants.{OutOfMemory}
use Rattle.clap.proofs.OnLiterals.{clap_on_literals}
use Rattle.bgp_words.specs.declared.words.Command.{Command}
use Rattle.bgp_words.specs.Words.{program_words}
use Rattle.bgp_words.specs.Spelled.{fault_rows, IsFault}

abbrev IsRow : Text → List Text × ErrorKind → Type 0
IsRow name row = fault_of program_words (name ∷ row.0) ≡ row.1 ∷ []

-- one row after another
abbrev AreRows : Text → List (List Text × ErrorKind) → Type 0
AreRows name [] = Unit {0}
AreRows name (row ∷ rows) = IsRow name row × AreRows name rows

all_rows : (name : Text) (rows : List (List Text × ErrorKind)) → AreRows name rows → All (IsRow name) rows
all_rows name [] are = All-nil (IsRow name)
all_rows name (row ∷ rows) are = All-cons (IsRow name) row rows are.0 (all_rows name rows are.1)

are_rows : (name : Text) → AreRows name fault_rows
unfolding clap_on_literals
are_rows name = (refl, (refl, (refl, (refl, (refl, (refl, (refl, (refl, (refl, (refl, (refl, (refl, (refl, (refl, (refl, (refl, (refl, (refl, (refl, (refl, (refl, (refl, (refl, (refl, (refl, (refl, (refl, (refl, (refl, (refl, (refl, (refl, (refl, (refl, (refl, (refl, tt))))))))))))))))))))))))))))))))))))

pub each_row : (words : List Text) (r : Result Command Error) (name : Text)
    → ((kind : ErrorKind) → fault_of program_words words ≡ kind ∷ [] → IsFault kind r)
    → All (λ row. words ≡ name ∷ row.0 → IsFault row.1 r) fault_rows
each_row words r name by =
    All-weaker (IsRow name) (λ row. words ≡ name ∷ row.0 → IsFault row.1 r) (λ row fault is. by row.1 (subst (λ (ws : List Text). fault_of program_words ws ≡ row.1 ∷ []) (sym is) fault))
    fault_rows (all_rows name fault_rows (are_rows name))

-- an error that is handed on has the kind of the row
one_kind : (e : Error) (kinds : Kinds) (kind : ErrorKind) → HasKind kinds e → kinds ≡ kind ∷ []
    → (kind_of e ≡ kind) ⊎ (kind_of e ≡ OutOfMemory)
one_kind e kinds kind has one = elim (subst (λ (ks : Kinds). HasKind ks e) one has) [
  | inl memory ↦ inr memory
  | inr among ↦ elim among [
    | inl is ↦ inl is
    | inr none ↦ absurd none
  ]
]

pub fault_handed_on : (r : Result Command Error) (e : Error) (kinds : Kinds) (kind : ErrorKind)
    → IsErrAnd r (λ y. y ≡ e) → HasKind kinds e → kinds ≡ kind ∷ [] → IsFault kind r
fault_handed_on (Ok x) e kinds kind is has one = absurd is
fault_handed_on (Err y) e kinds kind is has one =
    one_kind y kinds kind (subst (λ (z : Error). HasKind kinds z) (sym is) has) one

pub memory_is_fault : (r : Result Command Error) (kind : ErrorKind) → IsErrAnd r (λ y. kind_of y ≡ OutOfMemory) → IsFault kind r
memory_is_fault (Ok x) kind is = absurd is
memory_is_fault (Err y) kind is = inr is

-- where nothing is at fault, no row is met
pub no_row : (kinds : Kinds) (kind : ErrorKind) (r : Result Command Error) → kinds ≡ [] → kinds ≡ kind ∷ [] → IsFault kind r
no_row [] kind r none one = absurd (search rules)
no_row (k ∷ ks) kind r none one = absurd (search rules)
