-- What stands at a place of a file, whichever session is asked for.
use Rattle.std.proofs.Common.{◌≡◌, ◌≢◌, ◌∙◌, ◌⊎◌, ℕ, ◌+◌, ◌<◌, ◌≤◌, Bool, true, false, ◌||◌, ◌==◌, List, [], ◌∷◌, ◌++◌, length, take, drop, refl, sym, ap, subst, arith, inl, inr, length-append, IsTrue, Option, None, lit≤}
use Rattle.std.specs.Prelude.{if◌then◌else◌}
use Rattle.std.proofs.lemmas.Bool.{eqb-true}
use Rattle.std.proofs.lemmas.Bool.Decides.{eqb_tells}
use Rattle.std.proofs.lemmas.List.{length-take-le, take-append-drop, take_all}
use Rattle.bgp_prefix.specs.declared.session.Session.{Session}
use Rattle.mrt.specs.Layout.{Header, IsBgp4mp, IsRecord, LacksFields, body_of, form_of, header_of, is_of}
use Rattle.mrt.specs.Rules.{IsJudged, Judgement, Refused, body_limit}
use Rattle.mrt.specs.Rules as rules
use Rattle.mrt.specs.declared.fault.FaultKind.TheVariants as kinds
use Rattle.mrt.proofs.Places.{cut_body, cut_header, cut_other, judged_piece, judged_record, long_body, other_type}
use Rattle.mrt_sessions.specs.File.{IsJudgedForAll, NamesSession}

-- ---- how long a body may be

limit_by : (extended : Bool) → IsTrue extended → ◌≡◌ {A = ℕ} (if extended then 65583 else 8192) 65583
limit_by true is = refl
limit_by false is = absurd cc

pub limit_is : (session : Session) → IsTrue session.extended → body_limit session ≡ 65583
unfolding body_limit
limit_is session is = limit_by session.extended is

least_by : (extended : Bool) → 8192 ≤ (if extended then 65583 else 8192)
least_by true = lit≤ tt
least_by false = lit≤ tt

pub least_limit : (session : Session) → 8192 ≤ body_limit session
unfolding body_limit
least_limit session = least_by session.extended

-- ---- a type is known or not

kind_of : (kind : ℕ) → IsBgp4mp kind ⊎ (¬ IsBgp4mp kind)
kind_of kind = elim (eqb_tells kind 16) [
  | inl plain ↦ inl (inl plain.1)
  | inr not_plain ↦ elim (eqb_tells kind 17) [
    | inl precise ↦ inl (inr precise.1)
    | inr not_precise ↦ inr (λ known. elim known [
      | inl plain ↦ not_plain.1 plain
      | inr precise ↦ not_precise.1 precise
    ])
  ]
]

-- a record of this header is skipped for its type or subtype
abbrev pub IsOtherKind : Header → Type 0
IsOtherKind header = (¬ IsBgp4mp header.kind) ⊎ (form_of header.subtype ≡ None)

subtype_of : (header : Header) → IsBgp4mp header.kind → IsOtherKind header → form_of header.subtype ≡ None
subtype_of header known (inl unknown) = absurd (unknown known)
subtype_of header known (inr none) = none

-- ---- octets from a header on

module _ (octets : List ℕ) (head : 12 ≤ length octets) where
  pub head_len : length (take 12 octets) ≡ 12
  head_len = length-take-le 12 octets head

  pub parts : take 12 octets ++ drop 12 octets ≡ octets
  parts = take-append-drop 12 octets

  judged_as : (session : Session) (last : Option ℕ) (judgement : Judgement) → IsJudged session last (take 12 octets ++ drop 12 octets) judgement
      → IsJudged session last octets judgement
  judged_as session last judgement says = subst (λ (o : List ℕ). IsJudged session last o judgement) parts says

  pub too_long : IsBgp4mp (header_of octets).kind → 65583 < (header_of octets).count → IsJudgedForAll octets (Refused kinds.TooLong)
  too_long kind long session last is =
      let limit = limit_is session is in
      judged_as session last (Refused kinds.TooLong) (long_body session last (take 12 octets) (drop 12 octets) head_len kind (omega (arith, limit)))

  behind_head : length (drop 12 octets) + 12 ≡ length octets
  behind_head =
      let both = length-append (take 12 octets) (drop 12 octets) in
      let whole = ap length parts in
      let first = head_len in
      omega arith

  pub cut : ¬ (IsBgp4mp (header_of octets).kind × (65583 < (header_of octets).count)) → length octets < 12 + (header_of octets).count
      → IsJudgedForAll octets (Refused kinds.Truncated)
  cut fits short session last is =
      let limit = limit_is session is in
      let behind = behind_head in
      judged_as session last (Refused kinds.Truncated)
      (elim (kind_of (header_of octets).kind) [
        | inl known ↦ cut_body session last (take 12 octets) (drop 12 octets) head_len known (not_above known session limit fits) (omega arith)
        | inr other ↦ cut_other session last (take 12 octets) (drop 12 octets) head_len other (omega arith)
      ])
    where
      not_above : IsBgp4mp (header_of octets).kind → (session : Session) → body_limit session ≡ 65583
          → ¬ (IsBgp4mp (header_of octets).kind × (65583 < (header_of octets).count)) → (header_of octets).count ≤ body_limit session
      not_above known session limit fits = let below : ¬ (65583 < (header_of octets).count) = λ long. fits (known, long) in omega (arith, below, limit)

pub short : (octets : List ℕ) → length octets < 12 → length octets ≢ 0 → IsJudgedForAll octets (Refused kinds.Truncated)
short octets less some session last is = cut_header session last octets (omega (arith, some)) less

-- ---- a whole record

module _ (octets : List ℕ) (is_record : IsRecord octets) where
  pub body_is : body_of octets ≡ drop 12 octets
  body_is =
      let behind = behind_head octets is_record.header in
      take_all (header_of octets).count (drop 12 octets) (omega (arith, is_record.whole))

  pub body_len : length (drop 12 octets) ≡ (header_of octets).count
  body_len =
      let behind = behind_head octets is_record.header in
      omega (arith, is_record.whole)

  -- where a session reads a body of its length
  pub other_judged : (session : Session) (last : Option ℕ) → (IsBgp4mp (header_of octets).kind → (header_of octets).count ≤ body_limit session)
      → IsOtherKind (header_of octets) → IsJudged session last octets rules.Skipped
  other_judged session last fits other =
      judged_as octets is_record.header session last rules.Skipped
      (elim (kind_of (header_of octets).kind) [
        | inl known ↦ judged_piece session last rules.Skipped (take 12 octets) (drop 12 octets) (head_len octets is_record.header) known (fits known) body_len
            (inl (subtype_of (header_of octets) known other, refl))
        | inr unknown ↦ other_type session last (take 12 octets) (drop 12 octets) (head_len octets is_record.header) unknown body_len
      ])

  pub fitting : ¬ (IsBgp4mp (header_of octets).kind × (65583 < (header_of octets).count)) → IsBgp4mp (header_of octets).kind → (header_of octets).count ≤ 65583
  fitting fits known = let below : ¬ (65583 < (header_of octets).count) = λ long. fits (known, long) in omega (arith, below)

  pub no_fields : (rest : List ℕ) → IsBgp4mp (header_of octets).kind → (header_of octets).count ≤ 65583 → form_of (header_of octets).subtype ≢ None
      → LacksFields (header_of octets) (body_of octets) → IsJudgedForAll (octets ++ rest) (Refused kinds.Body)
  no_fields rest known fits form lacks session last is =
      let limit = limit_is session is in
      let lacking : LacksFields (header_of octets) (drop 12 octets) = subst (λ (b : List ℕ). LacksFields (header_of octets) b) body_is lacks in
      subst (λ (o : List ℕ). IsJudged session last (o ++ rest) (Refused kinds.Body)) (parts octets is_record.header)
      (judged_record session last (Refused kinds.Body) (take 12 octets) (drop 12 octets) rest (head_len octets is_record.header) known (omega (arith, limit)) body_len
      (inr (form, inl (lacking, refl))))

-- ---- what is found of a whole record

known_kind : (kind : ℕ) → IsBgp4mp kind → IsTrue (is_of kind (16 ∷ 17 ∷ []))
known_kind kind (inl plain) = subst (λ (k : ℕ). IsTrue (is_of k (16 ∷ 17 ∷ []))) (sym plain) refl
known_kind kind (inr precise) = subst (λ (k : ℕ). IsTrue (is_of k (16 ∷ 17 ∷ []))) (sym precise) refl

pub kind_is : (kind : ℕ) → IsTrue (is_of kind (16 ∷ 17 ∷ [])) → IsBgp4mp kind
kind_is kind known = elim (kind_of kind) [
  | inl is ↦ is
  | inr other ↦ absurd (none kind known other)
] where
  both : (a b : Bool) → (a || (b || false)) ≡ true → (a ≡ true) ⊎ (b ≡ true)
  both true b e = inl refl
  both false true e = inr refl
  both false false e = absurd cc

  none : (kind : ℕ) → IsTrue (is_of kind (16 ∷ 17 ∷ [])) → (¬ IsBgp4mp kind) → ⊥
  none kind known other = elim (both (kind == 16) (kind == 17) known) [
    | inl plain ↦ other (inl (eqb-true kind 16 plain))
    | inr precise ↦ other (inr (eqb-true kind 17 precise))
  ]

abbrev IsTooLong : Header → Type 0
IsTooLong header = IsBgp4mp header.kind × (65583 < header.count)

pub other_front : (octets : List ℕ) → IsRecord octets → (header : Header) → header ≡ header_of octets → ¬ IsTooLong header → IsOtherKind header
    → IsJudgedForAll octets rules.Skipped
other_front octets is header same fits other session last long =
    let limit = limit_is session long in
    other_judged octets is session last (λ known. omega (arith, limit, fitting octets is short known)) (subst IsOtherKind same other) where
      short : ¬ IsTooLong (header_of octets)
      short = subst (λ (h : Header). ¬ IsTooLong h) same fits

module _ (octets : List ℕ) (is : IsRecord octets) (header : Header) (same : header ≡ header_of octets) (fits : ¬ IsTooLong header) (known : ¬ IsOtherKind header)
    (body : List ℕ) (its : body ≡ drop 12 octets) where
  known_header : ¬ IsOtherKind (header_of octets)
  known_header = subst (λ (h : Header). ¬ IsOtherKind h) same known

  its_kind : IsBgp4mp (header_of octets).kind
  its_kind = elim (kind_of (header_of octets).kind) [
    | inl is_known ↦ is_known
    | inr unknown ↦ absurd (known_header (inl unknown))
  ]

  its_count : (header_of octets).count ≤ 65583
  its_count = fitting octets is (subst (λ (h : Header). ¬ IsTooLong h) same fits) its_kind

  body_same : body ≡ body_of octets
  body_same = its ∙ sym (body_is octets is)

  pub named_front : (¬ LacksFields header body) → NamesSession octets
  named_front there = record {
    whole = is;
    kind = known_kind (header_of octets).kind its_kind;
    fits = its_count;
    form = λ none. known_header (inr none);
    fields = subst (λ (h : Header). ¬ LacksFields h (body_of octets)) same (subst (λ (b : List ℕ). ¬ LacksFields header b) body_same there);
  }

  pub no_fields_front : (rest : List ℕ) → LacksFields header body → IsJudgedForAll (octets ++ rest) (Refused kinds.Body)
  no_fields_front rest lacks =
      no_fields octets is rest its_kind its_count (λ none. known_header (inr none))
      (subst (λ (h : Header). LacksFields h (body_of octets)) same (subst (λ (b : List ℕ). LacksFields header b) body_same lacks))
