-- What is awaited of a session behind one of its records.
use Rattle.std.proofs.Common.{◌≡◌, ◌∙◌, ◌↔◌, ◌==◌, ℕ, ◌+◌, ◌<◌, ◌≤◌, Bool, true, false, IsTrue, List, [], ◌∷◌, Option, None, Some, drop, get_or, length, map, refl, sym, ap, subst, inl, inr, arith, suc}
use Rattle.std.proofs.Math.Seq.{drop-cons}
use Rattle.std.specs.Bool.{then_some}
use Rattle.std.proofs.lemmas.Bool.{eqb-true, false≢true}
use Rattle.std.proofs.lemmas.List.{drop_all}
use Rattle.bgp_prefix.specs.Shown.{ShownRecord, second_of}
use Rattle.bgp_prefix.specs.declared.session.Session.{Session}
use Rattle.mrt.specs.Capture as capture
use Rattle.mrt.specs.Reader.{shown_of}
use Rattle.mrt.specs.Rules.{Judgement, OfSession, SkippedRefresh}
use Rattle.mrt.specs.Skipped.{judgement_for}
use Rattle.mrt.specs.declared.record.Record.{Record}
use Rattle.mrt.specs.declared.skipped.Skip.{Skip}
use Rattle.mrt.specs.declared.skipped.Skip.TheVariants as skips
use Rattle.mrt_sessions.specs.declared.alike.Awaited.{Awaited}
use Rattle.mrt_sessions.specs.declared.named.NamedRecord.{NamedRecord}
use Rattle.mrt_sessions.specs.File.{Located}
use Rattle.mrt_sessions.specs.Located.{located}
use Rattle.mrt_sessions.specs.ReadsAs.{IsJudgedOf, ReadsAs}
use Rattle.mrt_sessions.specs.Taking.{Awaits, IsAwaitedBehind, IsFirstOf}
use Rattle.mrt_sessions.proofs.Judged.{one_judgement}

tail_is : {X : Type 0} (x y : X) (xs ys : List X) → x ∷ xs ≡ y ∷ ys → xs ≡ ys
tail_is x y xs ys e = cc

-- ---- one record

module _ (session : Session) (awaited : Awaited) (named : Located) where
  abbrev IsSo : Judgement → Type 0
  IsSo judgement = IsJudgedOf session awaited.last named.octets judgement

  never : (one other : Judgement) → IsSo one → IsSo other → (one ≡ other → ⊥) → ⊥
  never one other is also apart = apart (one_judgement session awaited.last named.octets one other is also)

  not_passed : SkippedRefresh ≡ OfSession → ⊥
  not_passed e = cc

  pub passed_behind : IsSo SkippedRefresh → IsAwaitedBehind session awaited named (Some awaited)
  passed_behind is later = (there, λ reads. inl (is, reads)) where
    there : Awaits session awaited (named ∷ later) → Awaits session awaited later
    there (inl passed) = passed.1
    there (inr shown) = absurd (never SkippedRefresh OfSession is shown.1 not_passed)

  not_for : (skip : Skip) → OfSession ≡ judgement_for skip → ⊥
  not_for skips.OtherKind e = cc
  not_for (skips.OtherSession ends) e = cc
  not_for skips.RefreshReceived e = cc
  not_for skips.RefreshSent e = cc

  pub other_behind : (judgement : Judgement) → IsSo judgement → (SkippedRefresh ≡ judgement → ⊥) → (OfSession ≡ judgement → ⊥) → IsAwaitedBehind session awaited named None
  other_behind judgement is not_skipped not_shown later = there where
    there : Awaits session awaited (named ∷ later) → ⊥
    there (inl passed) = never SkippedRefresh judgement passed.0 is not_skipped
    there (inr shown) = never OfSession judgement shown.1 is not_shown

  pub skipped_behind : (skip : Skip) (passed : Bool) → IsSo (judgement_for skip) → (IsTrue passed ↔ (judgement_for skip ≡ SkippedRefresh))
      → IsAwaitedBehind session awaited named (then_some passed awaited)
  skipped_behind skip true is tells = passed_behind (subst IsSo (tells.0 refl) is)
  skipped_behind skip false is tells = other_behind (judgement_for skip) is (λ e. false≢true (tells.1 (sym e))) (not_for skip)

  pub shown_behind : (shown : ShownRecord) (next : Option Awaited) → IsSo OfSession → shown ≡ capture.shown_of named.octets → IsFirstOf shown (map shown_of awaited.records.now) next
      → IsAwaitedBehind session awaited named next
  shown_behind shown None is same first = there where
    there : (later : List Located) → Awaits session awaited (named ∷ later) → ⊥
    there later (inl passed) = never SkippedRefresh OfSession passed.0 is not_passed
    there later (inr another) = first another.0 (another.2 ∙ ap (λ (s : ShownRecord). s ∷ another.0) (sym same))
  shown_behind shown (Some next) is same first = λ later. (there later, back later) where
    second : next.last ≡ Some (second_of (capture.shown_of named.octets))
    second = first.1 ∙ ap (λ (s : ShownRecord). Some (second_of s)) same

    there : (later : List Located) → Awaits session awaited (named ∷ later) → Awaits session next later
    there later (inl passed) = absurd (never SkippedRefresh OfSession passed.0 is not_passed)
    there later (inr another) =
        subst (λ (l : Option ℕ). ReadsAs session l later (map shown_of next.records.now)) (sym second)
        (subst (λ (rs : List ShownRecord). ReadsAs session (Some (second_of (capture.shown_of named.octets))) later rs)
        (tail_is _ shown _ _ (sym another.2 ∙ first.0)) another.3)

    back : (later : List Located) → Awaits session next later → Awaits session awaited (named ∷ later)
    back later reads =
        inr (
          map shown_of next.records.now,
          is,
          first.0 ∙ ap (λ (s : ShownRecord). s ∷ map shown_of next.records.now) same,
          subst (λ (l : Option ℕ). ReadsAs session l later (map shown_of next.records.now)) second reads,
        )

-- ---- that none is left

pub none_left : (records : List Record) → (length records == 0) ≡ true → map shown_of records ≡ []
none_left [] is = refl
none_left (first ∷ records) is = let none = eqb-true (length (first ∷ records)) 0 is in absurd (omega arith)

pub is_empty : (records : List Record) → map shown_of records ≡ [] → (length records == 0) ≡ true
is_empty [] is = refl
is_empty (first ∷ records) is = cc

-- ---- of a list that is gone through

pub first_left : (named : List NamedRecord) (i : ℕ) (x : NamedRecord) → i < length named → x ≡ get_or named i x
    → map located (drop i named) ≡ located x ∷ map located (drop (suc i) named)
first_left named i x within is =
    ap (map located) (drop-cons named i x within) ∙ ap (λ (n : NamedRecord). located n ∷ map located (drop (suc i) named)) (sym is)

-- so it is of all of them as of those that are left
abbrev pub IsReadOn : Session → List NamedRecord → List ShownRecord → Awaited → ℕ → Type 0
IsReadOn session named records awaited i = ReadsAs session None (map located named) records ↔ Awaits session awaited (map located (drop i named))

module _ (session : Session) (named : List NamedRecord) (records : List ShownRecord) (awaited : Awaited) (i : ℕ) (so : IsReadOn session named records awaited i) where
  pub read_on : (x : NamedRecord) (next : Awaited) → i < length named → x ≡ get_or named i x → IsAwaitedBehind session awaited (located x) (Some next)
      → IsReadOn session named records next (i + 1)
  read_on x next within is behind =
      let first = first_left named i x within is in
      let step = behind (map located (drop (suc i) named)) in
      subst (λ (n : ℕ). IsReadOn session named records next n) one_more (
        λ reads. step.0 (subst (λ (ls : List Located). Awaits session awaited ls) first (so.0 reads)),
        λ reads. so.1 (subst (λ (ls : List Located). Awaits session awaited ls) (sym first) (step.1 reads)),
      ) where
        one_more : suc i ≡ i + 1
        one_more = omega arith

  pub read_no_further : (x : NamedRecord) → i < length named → x ≡ get_or named i x → IsAwaitedBehind session awaited (located x) None
      → ReadsAs session None (map located named) records → ⊥
  read_no_further x within is behind reads =
      behind (map located (drop (suc i) named)) (subst (λ (ls : List Located). Awaits session awaited ls) (first_left named i x within is) (so.0 reads))

  pub all_read : length named ≤ i → (ReadsAs session None (map located named) records ↔ (map shown_of awaited.records.now ≡ []))
  all_read past =
      let none : map located (drop i named) ≡ [] = ap (map located) (drop_all i named past) in (
        λ reads. subst (λ (ls : List Located). Awaits session awaited ls) none (so.0 reads),
        λ empty. so.1 (subst (λ (ls : List Located). Awaits session awaited ls) (sym none) empty),
      )
