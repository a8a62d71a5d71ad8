-- No record of a session is skipped, where its ROUTE-REFRESH messages are records of it.
use Rattle.std.proofs.Common.{◌≡◌, ℕ, List, Option, ap, inl, inr}
use Rattle.bgp_prefix.specs.declared.session.RouteRefresh.TheVariants as refreshes
use Rattle.bgp_prefix.specs.declared.session.Session.{Session}
use Rattle.mrt.specs.Layout.{header_of}
use Rattle.mrt.specs.Rules.{Holds, IsOfOtherSession, Judgement, Rule, Skipped, SkippedRefresh, SkippedSession, judgement_of, place_of, record_rules}
use Rattle.mrt.specs.Rules as by
use Rattle.mrt.specs.Skipped.{judgement_for}
use Rattle.mrt.specs.declared.skipped.Skip.{Skip}
use Rattle.mrt.specs.declared.skipped.Skip.TheVariants as skips
use Rattle.mrt_sessions.specs.declared.addresses.Addresses.{Addresses}
use Rattle.mrt_sessions.specs.File.{NamesSession, addresses_of}
use Rattle.mrt_sessions.specs.ReadsAs.{IsJudgedOf, addresses_in}
use Rattle.mrt_sessions.proofs.Fronts.{kind_is}
use Rattle.mrt_sessions.proofs.Judged.{which_says}

module _ (session : Session) (last : Option ℕ) (octets : List ℕ) (names : NamesSession octets) where
  is_known : (rule : Rule) → Holds session last (place_of octets) rule → Skipped ≡ judgement_of rule → ⊥
  is_known by.OtherType holds is = holds (kind_is (header_of octets).kind names.kind)
  is_known by.OtherSubtype holds is = names.form holds
  is_known _ holds is = cc

  one_of_it : addresses_of octets ≡ addresses_in session → IsOfOtherSession session (place_of octets) → ⊥
  one_of_it same (inl peer) = peer (ap (λ (a : Addresses). a.peer) same)
  one_of_it same (inr local) = local (ap (λ (a : Addresses). a.local) same)

  is_of_it : addresses_of octets ≡ addresses_in session → (rule : Rule) → Holds session last (place_of octets) rule → SkippedSession ≡ judgement_of rule → ⊥
  is_of_it same by.OtherSession holds is = one_of_it same holds
  is_of_it same _ holds is = cc

  is_kept : session.refresh ≡ refreshes.NotOffered → (rule : Rule) → Holds session last (place_of octets) rule → SkippedRefresh ≡ judgement_of rule → ⊥
  is_kept refresh by.WholeRefresh holds is = let passed = holds.2 in cc
  is_kept refresh _ holds is = cc

  skipped_by : (judgement : Judgement) → IsJudgedOf session last octets judgement
      → ((rule : Rule) → Holds session last (place_of octets) rule → judgement ≡ judgement_of rule → ⊥) → ⊥
  skipped_by judgement says none =
      let rule = which_says (Holds session last (place_of octets)) record_rules judgement says in
      none rule.0 rule.1 rule.2

  pub never_skipped : addresses_of octets ≡ addresses_in session → session.refresh ≡ refreshes.NotOffered → (skip : Skip) → IsJudgedOf session last octets (judgement_for skip) → ⊥
  never_skipped same refresh skips.OtherKind says = skipped_by Skipped says is_known
  never_skipped same refresh (skips.OtherSession ends) says = skipped_by SkippedSession says (is_of_it same)
  never_skipped same refresh skips.RefreshReceived says = skipped_by SkippedRefresh says (is_kept refresh)
  never_skipped same refresh skips.RefreshSent says = skipped_by SkippedRefresh says (is_kept refresh)
