-- Words that are no flags: what a walk makes of one, where an option waits for its value.
use Rattle.std.proofs.Common.{rules, ◌≡◌, ◌≢◌, ◌∙◌, ℕ, List, [], ◌∷◌, Some, None, refl, ap, false, Bool, codes}
use Rattle.std.specs.Prelude.{if◌then◌else◌, ◌==◌, slice_get, fold}
use Rattle.std.specs.Str.{bytes_eq}
use Rattle.std.specs.Option.{option_map_or}
use Rattle.clap.specs.Words.{Rule, Text}
use Rattle.clap.specs.Kinds.{or_else}
use Rattle.clap.specs.Lexer.{long_of, short_of}
use Rattle.clap.specs.Faults.{bundle_fault, flag_word_fault, turn_fault, walk_fault}
use Rattle.clap.specs.Walk.{Held, Waiting, Walk, long_or_other, plain_word, short_or_plain, trailing, walked}
use Rattle.clap.specs.Simple.{Shape}

pub record IsPlainWord (w : Text) : Type 0 where
  pub dashes : bytes_eq w (codes "--") ≡ false
  pub long : long_of w ≡ None
  pub short : short_of w ≡ None

is_other : (x : ℕ) (xs : Text) → x ≢ 45 → (x == 45) ≡ false
is_other x xs other = search rules

plain_by : (x : ℕ) (xs : Text) → (x == 45) ≡ false → IsPlainWord (x ∷ xs)
plain_by x xs other = record { dashes = rw other refl; long = rw other refl; short = rw other refl }

pub plain : (w : Text) → slice_get w 0 ≢ Some 45 → IsPlainWord w
plain [] other = record { dashes = refl; long = refl; short = refl }
plain (x ∷ xs) other = plain_by x xs (is_other x xs (λ e. other (ap Some e)))

module _ (c : List Rule) (waiting : Waiting) (w : Text) (is : IsPlainWord w) (h : Held) where
  pub met_plain : (position : ℕ) → (if bytes_eq w (45 ∷ 45 ∷ []) then (h, trailing position) else long_or_other c waiting w (long_of w) h)
      ≡ plain_word c waiting w h
  met_plain position = ap (λ (b : Bool). if b then (h, trailing position) else long_or_other c waiting w (long_of w) h) is.dashes
      ∙ ap (λ o. long_or_other c waiting w o h) is.long ∙ ap (λ o. short_or_plain c waiting w o h) is.short

  pub none_wrong : (again : Bool) → (if bytes_eq w (45 ∷ 45 ∷ []) then [] else flag_word_fault c again (long_of w) w h) ≡ []
  none_wrong again = ap (λ (b : Bool). if b then [] else flag_word_fault c again (long_of w) w h) is.dashes
      ∙ ap (λ o. flag_word_fault c again o w h) is.long
      ∙ ap (λ o. option_map_or (λ flags. bundle_fault c again flags h) o []) is.short

-- the words pass, and lead from one place of a walk to another
pub record Passes (s : Shape) (from : Walk) (words : List Text) (to : Walk) : Type 0 where
  pub faultless : walk_fault s [] from words ≡ []
  pub leads : fold (walked s.rules []) from words ≡ to

pub pass_none : (s : Shape) (w : Walk) → Passes s w [] w
unfolding walk_fault
pass_none s w = record { faultless = refl; leads = refl }

pub pass : (s : Shape) (from next to : Walk) (word : Text) (words : List Text) → turn_fault s [] from word ≡ []
    → walked s.rules [] from word ≡ next → Passes s next words to → Passes s from (word ∷ words) to
unfolding walk_fault
pass s from next to word words none is rest = record {
  faultless = ap (λ kinds. or_else kinds (walk_fault s [] (walked s.rules [] from word) words)) none
      ∙ ap (λ (w : Walk). walk_fault s [] w words) is ∙ rest.faultless;
  leads = ap (λ (w : Walk). fold (walked s.rules []) w words) is ∙ rest.leads;
}
