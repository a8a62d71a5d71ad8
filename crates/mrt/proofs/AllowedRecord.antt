-- A record of the session is one that a capture may have there.
use Rattle.std.proofs.Common.{◌≡◌, ◌≢◌, ℕ, Bool, true, false, ◌<◌, ◌≤◌, List, [], ◌∷◌, ◌++◌, length, refl, arith, inl, inr, Option, None, Some, ◌⊎◌, if◌then◌else◌}
use Rattle.std.proofs.lemmas.Bool.{cases_lt, cases_eq}
use Rattle.bgp_prefix.specs.Shown.{Received, Sent, Changed}
use Rattle.bgp_prefix.specs.declared.session.Session.{Session}
use Rattle.bgp_prefix.specs.declared.session.RouteRefresh.TheVariants as refreshes
use Rattle.bgp_wire.specs.Header.{limit_with}
use Rattle.mrt.specs.declared.fault.FaultKind.{FaultKind}
use Rattle.mrt.specs.declared.layout.Form.{Form}
use Rattle.mrt.specs.declared.layout.Form.TheVariants as forms
use Rattle.mrt.specs.Layout.{header_of, body_of, content_in, is_of, old_state_in, new_state_in, IsState}
use Rattle.mrt.specs.Rules.{Rule, FirstSays, judgement_of, End, Skipped, SkippedSession, SkippedRefresh, Refused, OfSession, Holds, place_of, IsBefore, HasBadState, IsRouteRefresh, IsWholeRefresh, HasOtherLength}
use Rattle.mrt.specs.Rules as r
use Rattle.mrt.specs.Written.{IsAllowed}
use Rattle.mrt.specs.CaptureLaws.{EachAllowed}

-- none of the rules holds
NoneOf : (Rule → Type 0) → List Rule → Type 0
NoneOf H [] = Unit {0}
NoneOf H (rule ∷ later) = (¬ H rule) × NoneOf H later

-- rules that say something else than that the record is the session's
OtherOf : List Rule → Type 0
OtherOf [] = Unit {0}
OtherOf (rule ∷ later) = (OfSession ≡ judgement_of rule → ⊥) × OtherOf later

none_before : (H : Rule → Type 0) (before later : List Rule) → OtherOf before → FirstSays H (before ++ later) OfSession → NoneOf H before
unfolding NoneOf OtherOf
none_before H [] later other says = tt
none_before H (rule ∷ before) later other (inl here) = absurd (other.0 here.1)
none_before H (rule ∷ before) later other (inr there) = (there.0, none_before H before later other.1 there.1)

no_end : OfSession ≡ End → ⊥
no_end e = absurd (cc)

no_skipped : OfSession ≡ Skipped → ⊥
no_skipped e = absurd (cc)

no_other : OfSession ≡ SkippedSession → ⊥
no_other e = absurd (cc)

no_refresh : OfSession ≡ SkippedRefresh → ⊥
no_refresh e = absurd (cc)

no_refused : (kind : FaultKind) → OfSession ≡ Refused kind → ⊥
no_refused kind e = absurd (cc)

abbrev before_allowed : List Rule
before_allowed =
    r.Nothing ∷ r.CutHeader ∷ r.OtherTypeCut ∷ r.OtherType ∷ r.LongBody ∷ r.CutBody ∷ r.OtherSubtype ∷ r.NoFields ∷ r.OtherSession
    ∷ r.WithAddPath ∷ r.NoStates ∷ r.BadStates ∷ r.CutMessage ∷ r.Refresh ∷ r.WholeRefresh ∷ r.OtherLength ∷ r.Back ∷ []

others : OtherOf before_allowed
unfolding OtherOf
others = (no_end, (no_refused _, (no_refused _, (no_skipped, (no_refused _, (no_refused _, (no_skipped, (no_refused _, (no_other, (no_refused _, (no_refused _, (no_refused _, (no_refused _, (no_refused _, (no_refresh, (no_refused _, (no_refused _, tt)))))))))))))))))

-- a state is one of the six or not
known_state : (state : ℕ) → IsState state ⊎ (¬ IsState state)
known_state state = elim (cases_lt state 1) [
  | inl none ↦ inr (λ is. absurd (omega (arith, is.0)))
  | inr some ↦ elim (cases_lt 6 state) [
    | inl many ↦ inr (λ is. absurd (omega (arith, is.1)))
    | inr few ↦ inl (some, few)
  ]
]

good_states : (content : List ℕ) → ((length content ≢ 4) → ⊥) → (HasBadState content → ⊥) → IsState (old_state_in content) × IsState (new_state_in content)
good_states content four good = elim (cases_eq (length content) 4) [
  | inr not_four ↦ absurd (four not_four)
  | inl is_four ↦ elim (known_state (old_state_in content)) [
    | inr bad ↦ absurd (good (is_four, inl bad))
    | inl known ↦ elim (known_state (new_state_in content)) [
      | inr bad ↦ absurd (good (is_four, inr bad))
      | inl also ↦ (known, also)
    ]
  ]
]

long_enough : (content : List ℕ) → ((length content < 19) → ⊥) → 19 ≤ length content
long_enough content long = elim (cases_lt (length content) 19) [
  | inl short ↦ absurd (long short)
  | inr enough ↦ enough
]

abbrev pub form_by : Bool → Bool → Bool → Bool → Option Form
form_by a b c d =
    if a then Some forms.Change else (if b then Some forms.Received else (if c then Some forms.Sent else (if d then Some forms.AddPath else None)))

allowed_by : (session : Session) (last : Option ℕ) (second : ℕ) (content : List ℕ) (a b c d : Bool)
    → (form_by a b c d ≡ None → ⊥) → (form_by a b c d ≡ Some forms.AddPath → ⊥)
    → ((form_by a b c d ≡ Some forms.Change) × (length content ≢ 4) → ⊥) → ((form_by a b c d ≡ Some forms.Change) × HasBadState content → ⊥)
    → (((form_by a b c d ≡ Some forms.Received) ⊎ (form_by a b c d ≡ Some forms.Sent)) × (length content < 19) → ⊥)
    → (((form_by a b c d ≡ Some forms.Received) ⊎ (form_by a b c d ≡ Some forms.Sent)) × IsRouteRefresh content × (session.refresh ≡ refreshes.Refused) → ⊥)
    → (((form_by a b c d ≡ Some forms.Received) ⊎ (form_by a b c d ≡ Some forms.Sent)) × IsWholeRefresh content × (session.refresh ≡ refreshes.PassedOver) → ⊥)
    → (((form_by a b c d ≡ Some forms.Received) ⊎ (form_by a b c d ≡ Some forms.Sent)) × HasOtherLength (limit_with session.extended) content → ⊥)
    → (IsBefore second last → ⊥)
    → IsAllowed session last
    (if a then Changed second (old_state_in content) (new_state_in content) else (if b then Received second content else Sent second content))
allowed_by session last second content true b c d known plain four good long fresh passed whole on =
    let states = good_states content (λ n. four (refl, n)) (λ n. good (refl, n)) in (states.0, states.1, on)
allowed_by session last second content false true c d known plain four good long fresh passed whole on =
    ((long_enough content (λ n. long (inl refl, n)), λ may is. fresh (inl refl, is, may), λ may is. passed (inl refl, is, may), λ n. whole (inl refl, n)), on)
allowed_by session last second content false false true d known plain four good long fresh passed whole on =
    ((long_enough content (λ n. long (inr refl, n)), λ may is. fresh (inr refl, is, may), λ may is. passed (inr refl, is, may), λ n. whole (inr refl, n)), on)
allowed_by session last second content false false false true known plain four good long fresh passed whole on = absurd (plain refl)
allowed_by session last second content false false false false known plain four good long fresh passed whole on = absurd (known refl)

pub each_allowed : EachAllowed
unfolding NoneOf
each_allowed session last octets piece =
    let none = none_before (Holds session last (place_of octets)) before_allowed (r.Allowed ∷ []) others piece.judged in
    let subtype = (header_of octets).subtype in
    allowed_by session last (header_of octets).second (content_in (header_of octets) (body_of octets))
    (is_of subtype (0 ∷ 5 ∷ [])) (is_of subtype (1 ∷ 4 ∷ [])) (is_of subtype (6 ∷ 7 ∷ [])) (is_of subtype (8 ∷ 9 ∷ 10 ∷ 11 ∷ []))
    none.1.1.1.1.1.1.0 none.1.1.1.1.1.1.1.1.1.0 none.1.1.1.1.1.1.1.1.1.1.0 none.1.1.1.1.1.1.1.1.1.1.1.0 none.1.1.1.1.1.1.1.1.1.1.1.1.0 none.1.1.1.1.1.1.1.1.1.1.1.1.1.0 none.1.1.1.1.1.1.1.1.1.1.1.1.1.1.0 none.1.1.1.1.1.1.1.1.1.1.1.1.1.1.1.0 none.1.1.1.1.1.1.1.1.1.1.1.1.1.1.1.1.0
