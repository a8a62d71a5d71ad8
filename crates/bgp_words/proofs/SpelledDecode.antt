-- The words of `decode FILE` spell that command.
use Rattle.std.proofs.Common.{rules, ◌≡◌, ◌≢◌, ◌∙◌, ℕ, List, [], ◌∷◌, Some, None, refl, sym, ap, ap₂, subst, inl, inr, true, false, Bool, codes}
use Rattle.std.specs.Prelude.{slice_get, unwrap_or, if◌then◌else◌, ◌==◌}
use Rattle.std.specs.Str.{bytes_eq}
use Rattle.std.specs.Option.{option_map_or}
use Rattle.clap.specs.Words.{Kinds, Text, fault_of, subcommand_of}
use Rattle.clap.specs.Kinds.{or_else}
use Rattle.clap.specs.Lexer.{long_of, short_of}
use Rattle.clap.specs.Faults.{bundle_fault, check_fault, defaults_fault, flag_word_fault, level_fault, settle_fault, step_fault, word_fault}
use Rattle.clap.specs.Walk.{Held, Step, Walk, after_step, finished, idle, long_or_other, nothing_held, settled, short_or_plain, trailing, value, walk_from, word_met}
use Rattle.clap.specs.Simple.{Shape, built, names_of, new_shape}
use Rattle.clap.proofs.OnLiterals.{clap_on_literals}
use Rattle.bgp_json.specs.declared.output_form.OutputForm.TheVariants.{Text as AsText}
use Rattle.bgp_lines.specs.declared.form.LineForm.TheVariants.{Plain}
use Rattle.bgp_words.specs.Words.{program_words}
use Rattle.bgp_words.specs.Decode.{IsStream, IsFileWord, IsDecode}
use Rattle.bgp_words.specs.Spelled.{NamesDecode}

-- a word that names a file is no flag
pub no_dash : (x : ℕ) (xs : Text) → x ≢ 45 → (x == 45) ≡ false
no_dash x xs other = search rules

abbrev pub IsSpelled : List Text → Text → Type 0
IsSpelled words file =
    (fault_of program_words words ≡ []) × NamesDecode (AsText Plain) false file (subcommand_of program_words words)

pub behind_dashes : (name file : Text) → IsSpelled (name ∷ codes "decode" ∷ codes "--" ∷ file ∷ []) file
unfolding clap_on_literals
behind_dashes name file = (refl, (refl, (refl, refl, refl, refl, refl, refl, (refl, refl, refl))))

pub a_dash : (name : Text) → IsSpelled (name ∷ codes "decode" ∷ codes "-" ∷ []) (codes "-")
unfolding clap_on_literals
a_dash name = (refl, (refl, (refl, refl, refl, refl, refl, refl, (refl, refl, refl))))

pub no_word : (name : Text) → IsSpelled (name ∷ codes "decode" ∷ [] ∷ []) []
unfolding clap_on_literals
no_word name = (refl, (refl, (refl, refl, refl, refl, refl, refl, (refl, refl, refl))))

-- what `decode` reads, once the program is built
abbrev decode_shape : Shape
decode_shape = unwrap_or (slice_get (built program_words).subs 0) (new_shape [])

abbrev at_first : Walk
at_first = walk_from nothing_held

-- a word that is no flag, at `decode`: by what it is met as, and by what is wrong with it
module _ (w : Text) where
  abbrev word_is : Held × Step
  word_is = word_met decode_shape.rules [] false idle 1 w nothing_held

  abbrev word_wrong : Kinds
  word_wrong = word_fault decode_shape [] false idle w nothing_held

  abbrev held_after : Held × Step → Held
  held_after m = (after_step decode_shape.rules w at_first m.0 m.1).held

  abbrev level_by : Held × Step → Kinds → Kinds
  level_by m wrong =
      or_else (or_else (or_else wrong (step_fault decode_shape 1 m.0 m.1)) [])
      (or_else [] (or_else (settle_fault decode_shape.rules decode_shape.args_override_self (held_after m))
      (or_else (defaults_fault (settled decode_shape.rules (held_after m)).rows decode_shape.rules)
      (check_fault decode_shape (finished decode_shape.rules (held_after m)) false))))

  abbrev stream_by : Held × Step → Type 0
  stream_by m = IsStream (AsText Plain) false w (finished decode_shape.rules (held_after m))

  -- the fault of the whole, by that of `decode`
  abbrev whole_by : Kinds → Kinds
  whole_by below = level_fault (built program_words).top (names_of (built program_words)) nothing_held
      (codes "decode" ∷ w ∷ []) true below

  by_level : level_fault decode_shape [] nothing_held (w ∷ []) false [] ≡ level_by word_is word_wrong
  unfolding clap_on_literals
  by_level = refl

  module _ (dashes : bytes_eq w (codes "--") ≡ false) (long : long_of w ≡ None) (short : short_of w ≡ None) where
    met_as : word_is ≡ (nothing_held, value)
    met_as = ap (λ (b : Bool). if b then (nothing_held, trailing 1)
        else long_or_other decode_shape.rules idle w (long_of w) nothing_held) dashes
        ∙ ap (λ o. long_or_other decode_shape.rules idle w o nothing_held) long
        ∙ ap (λ o. short_or_plain decode_shape.rules idle w o nothing_held) short

    none_wrong : word_wrong ≡ []
    none_wrong = ap (λ (b : Bool). if b then [] else flag_word_fault decode_shape.rules decode_shape.args_override_self
        (long_of w) w nothing_held) dashes
        ∙ ap (λ o. flag_word_fault decode_shape.rules decode_shape.args_override_self o w nothing_held) long
        ∙ ap (λ o. option_map_or (λ flags. bundle_fault decode_shape.rules decode_shape.args_override_self flags
        nothing_held) o []) short

    level_passes : level_by (nothing_held, value) [] ≡ []
    unfolding clap_on_literals
    level_passes = refl

    stream_is : stream_by (nothing_held, value)
    unfolding clap_on_literals
    stream_is = (refl, refl, refl, refl, refl, refl, (refl, refl, refl))

    whole_passes : (name : Text) → fault_of program_words (name ∷ codes "decode" ∷ w ∷ [])
        ≡ whole_by (level_fault decode_shape [] nothing_held (w ∷ []) false [])
    unfolding clap_on_literals
    whole_passes name = refl

    none_above : whole_by [] ≡ []
    unfolding clap_on_literals
    none_above = refl

    named_so : (name : Text) → stream_by word_is
        → NamesDecode (AsText Plain) false w (subcommand_of program_words (name ∷ codes "decode" ∷ w ∷ []))
    unfolding clap_on_literals
    named_so name is = (refl, is)

    pub plain_word_spells : (name : Text) → IsSpelled (name ∷ codes "decode" ∷ w ∷ []) w
    plain_word_spells name = (
      whole_passes name ∙ ap whole_by (by_level ∙ ap₂ level_by met_as none_wrong ∙ level_passes) ∙ none_above,
      named_so name (subst (λ (m : Held × Step). stream_by m) (sym met_as) stream_is),
    )

pub a_word : (name : Text) (x : ℕ) (xs : Text) → (x == 45) ≡ false
    → IsSpelled (name ∷ codes "decode" ∷ (x ∷ xs) ∷ []) (x ∷ xs)
a_word name x xs other = plain_word_spells (x ∷ xs) (rw other refl) (rw other refl) (rw other refl) name

pub spelled_file : (name file : Text) → IsFileWord file → IsSpelled (name ∷ codes "decode" ∷ file ∷ []) file
spelled_file name [] is = no_word name
spelled_file name (x ∷ xs) is = elim is [
  | inl dash ↦ subst (λ (word : Text). IsSpelled (name ∷ codes "decode" ∷ word ∷ []) word) (sym dash) (a_dash name)
  | inr other ↦ a_word name x xs (no_dash x xs (λ e. other (ap Some e)))
]

pub spelled_decode : (words : List Text) (file : Text) → IsDecode words file → IsSpelled words file
spelled_decode words file is = elim is.1 [
  | inl plain ↦ subst (λ (ws : List Text). IsSpelled ws file) (sym plain.0) (spelled_file is.0 file plain.1)
  | inr dashes ↦ subst (λ (ws : List Text). IsSpelled ws file) (sym dashes) (behind_dashes is.0 file)
]
