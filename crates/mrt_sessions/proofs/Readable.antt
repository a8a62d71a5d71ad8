-- The parts of a file that is read of a session: its messages may be extended ones, or no body is longer than is read where they may not.
use Rattle.std.proofs.Common.{◌≡◌, ◌⊎◌, ℕ, ◌<◌, ◌≤◌, true, IsTrue, List, [], ◌∷◌, Option, None, refl, arith, inl, inr}
use Rattle.std.specs.List.{AllByRecursion}
use Rattle.bgp_prefix.specs.declared.session.Session.{Session}
use Rattle.mrt.specs.Layout.{IsBgp4mp, header_of}
use Rattle.mrt.specs.Rules.{Holds, IsJudged, Rule, Skipped, body_limit, judgement_of, place_of, rules}
use Rattle.mrt.specs.Rules as by
use Rattle.mrt_sessions.specs.File.{FitsPlain, HasExtendedBody, IsJudgedForAll, IsPart, Named, Other, Part}
use Rattle.mrt_sessions.proofs.Fronts.{IsOtherKind, kind_is, least_limit, limit_is, other_judged}
use Rattle.mrt_sessions.proofs.Judged.{which_says}

-- it is skipped, or its body is read
abbrev pub IsReadable : Session → Part → Type 0
IsReadable session (Other octets) = (last : Option ℕ) → IsJudged session last octets Skipped
IsReadable session (Named octets) = (header_of octets).count ≤ body_limit session

-- what is skipped where messages may be extended ones is of another type or subtype
abbrev longer : Session → Session
longer session = record session { extended = true }

of_rule : (session : Session) (octets : List ℕ) (rule : Rule) → Holds (longer session) None (place_of octets) rule → Skipped ≡ judgement_of rule → IsOtherKind (header_of octets)
of_rule session octets by.OtherType holds is = inl holds
of_rule session octets by.OtherSubtype holds is = inr holds
of_rule session octets _ holds is = absurd cc

other_kind : (session : Session) (octets : List ℕ) → IsJudgedForAll octets Skipped → IsOtherKind (header_of octets)
other_kind session octets skips =
    let rule = which_says (Holds (longer session) None (place_of octets)) rules Skipped (skips (longer session) None refl) in
    of_rule session octets rule.0 rule.1 rule.2

module _ (session : Session) where
  plain_body : (octets : List ℕ) → (¬ HasExtendedBody octets) → IsBgp4mp (header_of octets).kind → (header_of octets).count ≤ body_limit session
  plain_body octets fits known =
      let least = least_limit session in
      let short : ¬ (8192 < (header_of octets).count) = λ long. fits (known, long) in
      omega (arith, short, least)

  readable_plain : (parts : List Part) → AllByRecursion IsPart parts → AllByRecursion FitsPlain parts → AllByRecursion (IsReadable session) parts
  readable_plain [] each fit = tt
  readable_plain (Other octets ∷ parts) each fit = (
    λ last. other_judged octets each.0.0 session last (plain_body octets fit.0) (other_kind session octets each.0.1),
    readable_plain parts each.1 fit.1,
  )
  readable_plain (Named octets ∷ parts) each fit = (
    plain_body octets fit.0 (kind_is (header_of octets).kind each.0.kind),
    readable_plain parts each.1 fit.1,
  )

  pub readable_long : IsTrue session.extended → (parts : List Part) → AllByRecursion IsPart parts → AllByRecursion (IsReadable session) parts
  readable_long long [] each = tt
  readable_long long (Other octets ∷ parts) each = ((λ last. each.0.1 session last long), readable_long long parts each.1)
  readable_long long (Named octets ∷ parts) each = (
    let limit = limit_is session long in omega (arith, limit, each.0.fits),
    readable_long long parts each.1,
  )

  pub readable : (parts : List Part) → AllByRecursion IsPart parts → AllByRecursion FitsPlain parts ⊎ IsTrue session.extended → AllByRecursion (IsReadable session) parts
  readable parts each (inl fit) = readable_plain parts each fit
  readable parts each (inr long) = readable_long long parts each
