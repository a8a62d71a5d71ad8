-- The values of a command, by what was asked of them.
use Rattle.std.proofs.Common.{◌≡◌, ◌∙◌, List, Option, Some, None, Result, sym, ap, subst, option_map}
use Rattle.std.specs.Prelude.{IsOkAnd, IsSomeAnd, MatchOption, is_some, ◌↔◌}
use Rattle.std.specs.Option.{ok_or}
use Rattle.std.specs.Borrow.{Bor}
use Rattle.std.proofs.lemmas.Option.{none-some, same_Some}
use Rattle.clap.specs.declared.parser.matches.Found.{Found}
use Rattle.clap.specs.Words.{Row, Text, first_of, first_value, rows_of}
use Rattle.clap.proofs.WalkLemmas.{first_value-rows}
use Rattle.bgp_words.specs.Values.{IsOptional, IsValue}

module _ (f : Found) (name : Text) (o : Option (Bor Text)) (read : option_map (λ (s : Bor Text). s.now) o ≡ first_value f name) where
  pub met : first_of name (rows_of f) ≡ option_map (λ (s : Bor Text). s.now) o
  met = sym (first_value-rows f name) ∙ sym read

  pub met_none : o ≡ None → first_of name (rows_of f) ≡ None
  met_none none = met ∙ ap (option_map (λ (s : Bor Text). s.now)) none

  pub met_some : (s : Bor Text) → o ≡ Some s → first_of name (rows_of f) ≡ Some s.now
  met_some s some = met ∙ ap (option_map (λ (s : Bor Text). s.now)) some

-- whether a word is there
pub is_there : (f : Found) (name : Text) (o : Option (Bor Text)) → option_map (λ (s : Bor Text). s.now) o ≡ first_value f name
    → is_some o ≡ is_some (first_of name (rows_of f))
is_there f name None read = ap is_some (sym (met f name None read))
is_there f name (Some s) read = ap is_some (sym (met f name (Some s) read))

-- what is read of a word is the option's value
read_is : {T E : Type 0} (o : Option T) (e : E) (v : T) → IsOkAnd (ok_or o e) (λ it. it ≡ v) ↔ (o ≡ Some v)
read_is None e v = (λ is. absurd is, λ same. none-some v same)
read_is (Some x) e v = (λ is. ap Some is, λ same. same_Some _ _ same)

module _ {T E : Type 0} (spells : Text → T → Type 0) (name : Text) (rows : List Row) where
  pub value_read : (word : Text) → first_of name rows ≡ Some word → (o : Option T) → ((v : T) → (o ≡ Some v) ↔ spells word v)
      → (e : E) (r : Result T E) → r ≡ ok_or o e → (v : T) → IsOkAnd r (λ it. it ≡ v) ↔ IsValue spells name rows v
  value_read word there o reads e r same v = (
    λ is. subst (λ (w : Option Text). IsSomeAnd w (λ text. spells text v)) (sym there)
        ((reads v).0 ((read_is o e v).0 (subst (λ (x : Result T E). IsOkAnd x (λ it. it ≡ v)) same is))),
    λ is. subst (λ (x : Result T E). IsOkAnd x (λ it. it ≡ v)) (sym same)
        ((read_is o e v).1 ((reads v).1 (subst (λ (w : Option Text). IsSomeAnd w (λ text. spells text v)) there is))),
  )

-- an option that has this value where it is left out
module _ {T : Type 0} (spells : Text → T → Type 0) (name : Text) (rows : List Row) (usual : T) where
  abbrev AsGiven : Option Text → T → Type 0
  AsGiven o value = MatchOption o (value ≡ usual) (λ text. spells text value)

  pub value_or_none : first_of name rows ≡ None → (value : T) → (usual ≡ value) ↔ AsGiven (first_of name rows) value
  value_or_none lacks value = (
    λ same. subst (λ (w : Option Text). AsGiven w value) (sym lacks) (sym same),
    λ has. sym (subst (λ (w : Option Text). AsGiven w value) lacks has),
  )

  pub value_or : {E : Type 0} (word : Text) → first_of name rows ≡ Some word → (o : Option T) → ((v : T) → (o ≡ Some v) ↔ spells word v)
      → (e : E) (r : Result T E) → r ≡ ok_or o e → (v : T) → IsOkAnd r (λ it. it ≡ v) ↔ AsGiven (first_of name rows) v
  value_or word there o reads e r same v = (
    λ is. subst (λ (w : Option Text). AsGiven w v) (sym there)
        ((reads v).0 ((read_is o e v).0 (subst (λ (x : Result T _). IsOkAnd x (λ it. it ≡ v)) same is))),
    λ is. subst (λ (x : Result T _). IsOkAnd x (λ it. it ≡ v)) (sym same)
        ((read_is o e v).1 ((reads v).1 (subst (λ (w : Option Text). AsGiven w v) there is))),
  )

-- an option that may be left out
module _ {T : Type 0} (spells : Text → T → Type 0) where
  abbrev AsIn : Option Text → Option T → Type 0
  AsIn o value = MatchOption o (value ≡ None) (λ text. IsSomeAnd value (λ it. spells text it))

  one_value : (word : Text) (o : Option T) → ((v : T) → (o ≡ Some v) ↔ spells word v) → (x : T) → o ≡ Some x
      → (value : Option T) → IsSomeAnd value (λ it. spells word it) → Some x ≡ value
  one_value word o reads x is None has = absurd has
  one_value word o reads x is (Some v) has = sym is ∙ (reads v).1 has

  no_value : (word : Text) (o : Option T) → ((v : T) → (o ≡ Some v) ↔ spells word v) → o ≡ None
      → (value : Option T) → IsSomeAnd value (λ it. spells word it) → ⊥
  no_value word o reads lacks None has = has
  no_value word o reads lacks (Some v) has = none-some v (sym lacks ∙ (reads v).1 has)

  module _ (name : Text) (rows : List Row) where
    pub left_out : first_of name rows ≡ None → (value : Option T) → (None ≡ value) ↔ IsOptional spells name rows value
    left_out lacks value = (
      λ same. subst (λ (w : Option Text). AsIn w value) (sym lacks) (sym same),
      λ has. sym (subst (λ (w : Option Text). AsIn w value) lacks has),
    )

    module _ (word : Text) (there : first_of name rows ≡ Some word) (o : Option T) (reads : (v : T) → (o ≡ Some v) ↔ spells word v) where
      pub one_given : (x : T) → o ≡ Some x → (value : Option T) → (Some x ≡ value) ↔ IsOptional spells name rows value
      one_given x is value = (
        λ same. subst (λ (v : Option T). IsOptional spells name rows v) same
            (subst (λ (w : Option Text). AsIn w (Some x)) (sym there) ((reads x).0 is)),
        λ has. one_value word o reads x is value (subst (λ (w : Option Text). AsIn w value) there has),
      )

      pub none_given : o ≡ None → (value : Option T) → ⊥ ↔ IsOptional spells name rows value
      none_given lacks value = (
        λ bad. absurd bad,
        λ has. no_value word o reads lacks value (subst (λ (w : Option Text). AsIn w value) there has),
      )
