-- What a table names differently has different names.
use Rattle.std.proofs.Common.{◌≡◌, ◌<◌, ◌^◌, ◌==◌, ◌&&◌, ◌++◌, ℕ, Bool, true, false, not, List, [], ◌∷◌, Option, None, Some, is_some, codes, if◌then◌else◌, inl, inr, refl, sym, ap, subst, ◌∙◌, lit<}
use Rattle.std.specs.Fmt.{decimal}
use Rattle.std.specs.Str.{bytes_eq}
use Rattle.std.proofs.lemmas.Bool.{and_parts, both_ways, cases_Bool, cond_both, eq-eqb, eqb-true, not-true, not-false, and_from, or_parts}
use Rattle.std.proofs.lemmas.Fmt.{decimal_injective}
use mathlib.Core.List.{append_cancel_left}
use Rattle.bgp_names.specs.Naming.{name_in, name_of_two_in, name_or, named, NamesDiffer, NamesOfTwoDiffer}
use Rattle.bgp_names.specs.Errors.{code_name, code_names, subcode_name, subcode_names, has_subcode, error_name, header_error_names, open_error_names, update_error_names, fsm_error_names, cease_names, refresh_error_names}
use Rattle.bgp_names.specs.Families.{family_name, family_names, family_numbers}
use Rattle.bgp_names.specs.Messages.{after_blank, type_names, type_text}
use Rattle.bgp_names.proofs.Distinct.{begins, begins_own, lacks, lacks_both, decimal_lacks, stops, one_front}

eq_self : (xs : List ℕ) → bytes_eq xs xs ≡ true
eq_self [] = refl
eq_self (c ∷ xs) = and_from (c == c) (bytes_eq xs xs) (eq-eqb c c refl) (eq_self xs)

-- no row has this name
abbrev pub is_new : List ℕ → List (ℕ × List ℕ) → Bool
is_new name [] = true
is_new name (row ∷ rows) = not (bytes_eq name row.1) && is_new name rows

-- each row has a name of its own, which doesn't begin with the word
abbrev pub are_apart : List ℕ → List (ℕ × List ℕ) → Bool
are_apart word [] = true
are_apart word (row ∷ rows) = not (begins word row.1) && (is_new row.1 rows && are_apart word rows)

not_named : (word name : List ℕ) (rows : List (ℕ × List ℕ)) (n : ℕ) → not (begins word name) ≡ true → is_new name rows ≡ true
    → name ≡ named word rows n → ⊥
not_named word name [] n unlike new e =
    both_ways (begins word name) (not-true (begins word name) unlike) (subst (λ (t : List ℕ). begins word t ≡ true) (sym e) (begins_own word (decimal n)))
not_named word name (row ∷ rows) n unlike new e =
    let parts = and_parts (not (bytes_eq name row.1)) (is_new name rows) new in
    elim (cases_Bool (n == row.0)) [
      | inl is ↦
          let same : name ≡ row.1 = rw is at e in
          both_ways (bytes_eq name row.1) (not-true (bytes_eq name row.1) parts.0) (subst (λ (t : List ℕ). bytes_eq name t ≡ true) same (eq_self name))
      | inr isnt ↦ not_named word name rows n unlike parts.1 (rw isnt at e)
    ]

-- two numbers have two names
pub one_name : (word : List ℕ) (rows : List (ℕ × List ℕ)) → are_apart word rows ≡ true → NamesDiffer (named word rows)
one_name word [] apart m n small small' e = decimal_injective m n small small' (append_cancel_left word (decimal m) (decimal n) e)
one_name word (row ∷ rows) apart m n small small' e =
    let head = and_parts (not (begins word row.1)) (is_new row.1 rows && are_apart word rows) apart in
    let rest = and_parts (is_new row.1 rows) (are_apart word rows) head.1 in
    elim (cases_Bool (m == row.0)) [
      | inl m_is ↦ elim (cases_Bool (n == row.0)) [
        | inl n_is ↦ eqb-true m row.0 m_is ∙ sym (eqb-true n row.0 n_is)
        | inr n_isnt ↦ absurd (not_named word row.1 rows n head.0 rest.0 (rw (m_is, n_isnt) at e))
      ]
      | inr m_isnt ↦ elim (cases_Bool (n == row.0)) [
        | inl n_is ↦ absurd (not_named word row.1 rows m head.0 rest.0 (sym (rw (m_isnt, n_is) at e)))
        | inr n_isnt ↦ one_name word rows rest.1 m n small small' (rw (m_isnt, n_isnt) at e)
      ]
    ]

-- ---- error codes and subcodes

pub one_code : NamesDiffer code_name
one_code = one_name (codes "code ") code_names refl

-- the subcodes of each code are apart
subcodes_apart : (code : ℕ) → are_apart (codes "subcode ") (subcode_names code) ≡ true
subcodes_apart code =
    let Apart : List (ℕ × List ℕ) → Type 0 = λ rows. are_apart (codes "subcode ") rows ≡ true in
    let six = if code == 6 then cease_names else if code == 7 then refresh_error_names else [] in
    let three = if code == 3 then update_error_names else if code == 5 then fsm_error_names else six in
    cond_both (code == 1) header_error_names (if code == 2 then open_error_names else three) Apart (λ _. refl) (λ _.
    cond_both (code == 2) open_error_names three Apart (λ _. refl) (λ _.
    cond_both (code == 3) update_error_names (if code == 5 then fsm_error_names else six) Apart (λ _. refl) (λ _.
    cond_both (code == 5) fsm_error_names six Apart (λ _. refl) (λ _.
    cond_both (code == 6) cease_names (if code == 7 then refresh_error_names else []) Apart (λ _. refl) (λ _.
    cond_both (code == 7) refresh_error_names [] Apart (λ _. refl) (λ _. refl))))))

pub one_subcode : (code : ℕ) → NamesDiffer (subcode_name code)
one_subcode code = one_name (codes "subcode ") (subcode_names code) (subcodes_apart code)

-- what is printed of a subcode behind the code
abbrev pub behind_code : ℕ → ℕ → List ℕ
behind_code code subcode = if has_subcode code subcode then codes ", " ++ subcode_name code subcode else []

silent_zero : (code subcode : ℕ) → has_subcode code subcode ≡ false → subcode ≡ 0
silent_zero code subcode is =
    eqb-true subcode 0 (not-false (subcode == 0) (or_parts (is_some (name_in (subcode_names code) subcode)) (not (subcode == 0)) is).1)

none_behind : (text : List ℕ) → codes ", " ++ text ≡ [] → ⊥
none_behind text e = cc

one_behind : (code l n : ℕ) → l < 2 ^ 64 → n < 2 ^ 64 → behind_code code l ≡ behind_code code n → l ≡ n
one_behind code l n small small' e =
    elim (cases_Bool (has_subcode code l)) [
      | inl l_has ↦ elim (cases_Bool (has_subcode code n)) [
        | inl n_has ↦
            let names : codes ", " ++ subcode_name code l ≡ codes ", " ++ subcode_name code n = rw (l_has, n_has) at e in
            one_subcode code l n small small' (append_cancel_left (codes ", ") (subcode_name code l) (subcode_name code n) names)
        | inr n_hasnt ↦ absurd (none_behind (subcode_name code l) (rw (l_has, n_hasnt) at e))
      ]
      | inr l_hasnt ↦ elim (cases_Bool (has_subcode code n)) [
        | inl n_has ↦ absurd (none_behind (subcode_name code n) (sym (rw (l_hasnt, n_has) at e)))
        | inr n_hasnt ↦ silent_zero code l l_hasnt ∙ sym (silent_zero code n n_hasnt)
      ]
    ]

behind_stops : (code subcode : ℕ) → stops 44 (behind_code code subcode) ≡ true
behind_stops code subcode =
    cond_both (has_subcode code subcode) (codes ", " ++ subcode_name code subcode) [] (λ (t : List ℕ). stops 44 t ≡ true) (λ _. refl) (λ _. refl)

-- no name of the table has the octet
abbrev pub all_lack : ℕ → List (ℕ × List ℕ) → Bool
all_lack octet [] = true
all_lack octet (row ∷ rows) = lacks octet row.1 && all_lack octet rows

named_lacks : (octet : ℕ) (word : List ℕ) (rows : List (ℕ × List ℕ)) (n : ℕ) → octet < 48 → n < 2 ^ 64 → lacks octet word ≡ true
    → all_lack octet rows ≡ true → lacks octet (named word rows n) ≡ true
named_lacks octet word [] n low small free none = lacks_both octet word (decimal n) free (decimal_lacks octet n low small)
named_lacks octet word (row ∷ rows) n low small free none =
    let parts = and_parts (lacks octet row.1) (all_lack octet rows) none in
    elim (cases_Bool (n == row.0)) [
      | inl is ↦ rw is parts.0
      | inr isnt ↦ rw isnt (named_lacks octet word rows n low small free parts.1)
    ]

code_lacks : (code : ℕ) → code < 2 ^ 64 → lacks 44 (code_name code) ≡ true
code_lacks code small = named_lacks 44 (codes "code ") code_names code (lit< tt) small refl refl

pub one_error : NamesOfTwoDiffer error_name
one_error k l m n sk sl sm sn e =
    let split = one_front 44 (code_name k) (code_name m) (behind_code k l) (behind_code m n) (code_lacks k sk) (code_lacks m sm) (behind_stops k l) (behind_stops m n) e in
    let code : k ≡ m = one_code k m sk sm split.0 in
    (code, one_behind k l n sl sn (split.1 ∙ ap (λ (c : ℕ). behind_code c n) (sym code)))

-- ---- families

-- no row has this name
abbrev pub is_new_of_two : List ℕ → List (ℕ × ℕ × List ℕ) → Bool
is_new_of_two name [] = true
is_new_of_two name (row ∷ rows) = not (bytes_eq name row.2) && is_new_of_two name rows

abbrev pub are_two_apart : List ℕ → List (ℕ × ℕ × List ℕ) → Bool
are_two_apart word [] = true
are_two_apart word (row ∷ rows) = not (begins word row.2) && (is_new_of_two row.2 rows && are_two_apart word rows)

-- what is printed by a table of families
abbrev pub family_by : List (ℕ × ℕ × List ℕ) → ℕ → ℕ → List ℕ
family_by rows afi safi = name_or (family_numbers afi safi) (name_of_two_in rows afi safi)

not_family : (name : List ℕ) (rows : List (ℕ × ℕ × List ℕ)) (a s : ℕ) → not (begins (codes "afi ") name) ≡ true → is_new_of_two name rows ≡ true
    → name ≡ family_by rows a s → ⊥
not_family name [] a s unlike new e =
    both_ways (begins (codes "afi ") name) (not-true (begins (codes "afi ") name) unlike)
    (subst (λ (t : List ℕ). begins (codes "afi ") t ≡ true) (sym e) (begins_own (codes "afi ") (decimal a ++ (codes " safi " ++ decimal s))))
not_family name (row ∷ rows) a s unlike new e =
    let parts = and_parts (not (bytes_eq name row.2)) (is_new_of_two name rows) new in
    elim (cases_Bool ((a == row.0) && (s == row.1))) [
      | inl is ↦
          let same : name ≡ row.2 = rw is at e in
          both_ways (bytes_eq name row.2) (not-true (bytes_eq name row.2) parts.0) (subst (λ (t : List ℕ). bytes_eq name t ≡ true) same (eq_self name))
      | inr isnt ↦ not_family name rows a s unlike parts.1 (rw isnt at e)
    ]

safi_stops : (s : ℕ) → stops 32 (codes " safi " ++ decimal s) ≡ true
safi_stops s = refl

one_pair : NamesOfTwoDiffer family_numbers
one_pair k l m n sk sl sm sn e =
    let behind = append_cancel_left (codes "afi ") (decimal k ++ (codes " safi " ++ decimal l)) (decimal m ++ (codes " safi " ++ decimal n)) e in
    let split = one_front 32 (decimal k) (decimal m) (codes " safi " ++ decimal l) (codes " safi " ++ decimal n) (decimal_lacks 32 k (lit< tt) sk) (decimal_lacks 32 m (lit< tt) sm) (safi_stops l) (safi_stops n) behind in
    (decimal_injective k m sk sm split.0, decimal_injective l n sl sn (append_cancel_left (codes " safi ") (decimal l) (decimal n) split.1))

one_family_by : (rows : List (ℕ × ℕ × List ℕ)) → are_two_apart (codes "afi ") rows ≡ true → NamesOfTwoDiffer (family_by rows)
one_family_by [] apart k l m n sk sl sm sn e = one_pair k l m n sk sl sm sn e
one_family_by (row ∷ rows) apart k l m n sk sl sm sn e =
    let head = and_parts (not (begins (codes "afi ") row.2)) (is_new_of_two row.2 rows && are_two_apart (codes "afi ") rows) apart in
    let rest = and_parts (is_new_of_two row.2 rows) (are_two_apart (codes "afi ") rows) head.1 in
    elim (cases_Bool ((k == row.0) && (l == row.1))) [
      | inl is ↦ elim (cases_Bool ((m == row.0) && (n == row.1))) [
        | inl is' ↦
            let first = and_parts (k == row.0) (l == row.1) is in
            let second = and_parts (m == row.0) (n == row.1) is' in
            (eqb-true k row.0 first.0 ∙ sym (eqb-true m row.0 second.0), eqb-true l row.1 first.1 ∙ sym (eqb-true n row.1 second.1))
        | inr isnt' ↦ absurd (not_family row.2 rows m n head.0 rest.0 (rw (is, isnt') at e))
      ]
      | inr isnt ↦ elim (cases_Bool ((m == row.0) && (n == row.1))) [
        | inl is' ↦ absurd (not_family row.2 rows k l head.0 rest.0 (sym (rw (isnt, is') at e)))
        | inr isnt' ↦ one_family_by rows rest.1 k l m n sk sl sm sn (rw (isnt, isnt') at e)
      ]
    ]

pub one_family : NamesOfTwoDiffer family_name
one_family = one_family_by family_names refl

-- ---- message types

blank_stops : (name : Option (List ℕ)) → stops 32 (after_blank name) ≡ true
blank_stops None = refl
blank_stops (Some name) = refl

pub one_type : NamesDiffer type_text
one_type m n small small' e =
    decimal_injective m n small small'
    (one_front 32 (decimal m) (decimal n) (after_blank (name_in type_names m)) (after_blank (name_in type_names n)) (decimal_lacks 32 m (lit< tt) small) (decimal_lacks 32 n (lit< tt) small') (blank_stops (name_in type_names m)) (blank_stops (name_in type_names n)) e).0
