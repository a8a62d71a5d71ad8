-- Errors that are handed on, and their kinds.
use Rattle.std.proofs.Common.{◌≡◌, ◌≢◌, List, [], ◌∷◌, Result, Ok, Err, sym, subst, inl, inr}
use Rattle.std.specs.Prelude.{IfErr, IsErrAnd}
use Rattle.clap.specs.Words.{Kinds, Text, HasKind, IsAmong, fault_of, kind_of}
use Rattle.clap.specs.Kinds.{or_else}
use Rattle.clap.specs.declared.error.Error.{Error}
use Rattle.clap.specs.declared.error.kind.ErrorKind.{ErrorKind}
use Rattle.clap.specs.declared.error.kind.ErrorKind.TheVariants.{OutOfMemory}
use Rattle.bgp_words.specs.Words.{program_words}
use Rattle.bgp_words.specs.Spelled.{IsDecodeOrMemory, IsJudgeOrMemory, Spells}
use Rattle.bgp_words.specs.declared.words.Command.{Command}

-- an error that is handed on
pub handed_on : {T E : Type 0} (r : Result T E) (e : E) (P : E → Type 0) → IsErrAnd r (λ y. y ≡ e) → P e → IfErr r P
handed_on (Ok x) e P is p = tt
handed_on (Err y) e P is p = subst P (sym is) p

pub memory_handed_on : (r : Result Command Error) (e : Error) (file : Text) → IsErrAnd r (λ y. y ≡ e)
    → kind_of e ≡ OutOfMemory → IsDecodeOrMemory file r
memory_handed_on (Ok x) e file is p = absurd is
memory_handed_on (Err y) e file is p = subst (λ (z : Error). kind_of z ≡ OutOfMemory) (sym is) p

-- a kind of the first list
pub among_first : (k : ErrorKind) (kinds next : Kinds) → IsAmong k kinds → IsAmong k (or_else kinds next)
among_first k [] next among = absurd among
among_first k (x ∷ xs) next among = among

pub known_kind : (kinds next : Kinds) (e : Error) → HasKind kinds e → kind_of e ≢ OutOfMemory
    → IsAmong (kind_of e) (or_else kinds next)
known_kind kinds next e has other = elim has [
  | inl memory ↦ absurd (other memory)
  | inr among ↦ among_first (kind_of e) kinds next among
]

pub only_memory : (kinds : Kinds) (e : Error) → HasKind kinds e → kinds ≡ [] → kind_of e ≡ OutOfMemory
only_memory kinds e has none = elim (subst (λ (ks : Kinds). HasKind ks e) none has) [
  | inl memory ↦ memory
  | inr among ↦ absurd among
]

-- no words are said to spell nothing where they do
abbrev pub SpellNone : List Text → Error → Type 0
SpellNone words error = kind_of error ≢ OutOfMemory → (command : Command) → Spells words command → ⊥

pub unspelled_handed_on : (r : Result Command Error) (e : Error) (words : List Text) → IsErrAnd r (λ y. y ≡ e)
    → (fault_of program_words words ≡ [] → kind_of e ≡ OutOfMemory) → IfErr r (SpellNone words)
unspelled_handed_on (Ok x) e words is memory = tt
unspelled_handed_on (Err y) e words is memory =
    λ other command spells. other (subst (λ (z : Error). kind_of z ≡ OutOfMemory) (sym is) (memory spells.0))

pub memory_is_unspelled : (r : Result Command Error) (words : List Text) → IsErrAnd r (λ y. kind_of y ≡ OutOfMemory)
    → IfErr r (SpellNone words)
memory_is_unspelled (Ok x) words is = tt
memory_is_unspelled (Err y) words is = λ other command spells. other is

pub judge_memory_handed_on : (r : Result Command Error) (e : Error) (words : List Text) → IsErrAnd r (λ y. y ≡ e)
    → kind_of e ≡ OutOfMemory → IsJudgeOrMemory words r
judge_memory_handed_on (Ok x) e words is p = absurd is
judge_memory_handed_on (Err y) e words is p = subst (λ (z : Error). kind_of z ≡ OutOfMemory) (sym is) p
