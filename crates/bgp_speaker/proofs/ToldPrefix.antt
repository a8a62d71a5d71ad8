-- An UPDATE about one prefix can be written, and reads as that.
use Rattle.std.proofs.Common.{◌≡◌, ◌<◌, ℕ, Bool, true, false, List, [], ◌∷◌, ◌++◌, ◌≤◌, Some, if◌then◌else◌, length, drop, refl, sym, ap, subst, ◌∙◌, inl, inr, IsTrue, None, ◌⊎◌, Option}
use Rattle.std.proofs.lemmas.Bool.{cases_lt}
use Rattle.std.proofs.lemmas.List.Elements.{All-cons, All-nil}
use Rattle.bgp_prefix.specs.Prefix.{PrefixBits, IsPrefix}
use Rattle.bgp_prefix.specs.declared.family.Family.{Family}
use Rattle.bgp_prefix.specs.declared.family.Family.TheVariants.{V4, V6}
use Rattle.bgp_wire.specs.Framing.{IsFrame}
use Rattle.bgp_wire.specs.Header.{limit_with}
use Rattle.bgp_open.specs.declared.families.Families.{Families}
use Rattle.bgp_open.specs.declared.link.Link.{Link}
use Rattle.bgp_open.specs.Families.{contains}
use Rattle.bgp_path.specs.declared.as_path.SegmentKind.TheVariants.{Sequence}
use Rattle.bgp_path.specs.Path.{PathValue}
use Rattle.bgp_path.proofs.Repeats.{none_are_distinct}
use Rattle.bgp_attr.specs.ReadBack.{IsForPeer}
use Rattle.bgp_update.specs.Found.{side_of}
use Rattle.bgp_update.specs.Changes.{RouteChanges}
use Rattle.bgp_update.specs.Clean.{IsClean}
use Rattle.bgp_update_writer.specs.Applied.{IsJustApplied, changes_of_update}
use Rattle.bgp_update_writer.specs.Refusals.{IsHopOf, IsSendable}
use Rattle.bgp_update_writer.specs.Short.{HasFewNumbers, IsShortPath, OnePrefixCanBeWritten}
use Rattle.bgp_update_writer.specs.Update.{Announces, Withdraws}
use Rattle.bgp_update_writer.specs.Written.{update_octets}
use Rattle.bgp_speaker.specs.declared.speaker.Speaker.{Speaker}
use Rattle.bgp_speaker.specs.Core.{IsPlain}
use Rattle.bgp_speaker.specs.Said.{SaysChanges, announced, own_hop, own_path}
use Rattle.bgp_speaker.proofs.PlainFrames.{short_is_plain}

few_numbers : (internal : Bool) (number : ℕ) → HasFewNumbers (if internal then [] else (record { kind = Sequence; numbers = number ∷ [] }) ∷ [])
few_numbers true number = inl refl
few_numbers false number = inr (Sequence, number, refl)

own_path_is_short : (speaker : Speaker) (link : Link) (family : Family) → IsShortPath (own_path speaker link family)
own_path_is_short speaker link family = record {
  as_path = few_numbers link.internal speaker.config.parts.local_as;
  communities = refl;
  cluster_list = refl;
  extended_communities = refl;
  large_communities = refl;
}

pub short : (speaker : Speaker) (link : Link) (family : Family) (path : PathValue) → path ≡ own_path speaker link family → IsShortPath path
short speaker link family path e = subst IsShortPath (sym e) (own_path_is_short speaker link family)

pub changes_announced : (speaker : Speaker) (link : Link) (prefix : PrefixBits) (family : Family) (path : PathValue)
    → family ≡ prefix.family → path ≡ own_path speaker link family → changes_of_update (Announces family (prefix ∷ []) path) ≡ announced speaker link prefix
changes_announced speaker link prefix family path same e =
    ap (λ (p : PathValue). changes_of_update (Announces family (prefix ∷ []) p)) (e ∙ ap (own_path speaker link) same)

-- what was written into nothing is all that stands there
pub says_all : (link : Link) (changes : RouteChanges) (old new octets : List ℕ) → old ≡ [] → new ≡ old ++ octets → length octets ≤ 4096
    → IsFrame (limit_with link.extended) (drop (length old) new) → IsClean link (drop (length old) new)
    → IsJustApplied link (drop (length old) new) changes → SaysChanges (Some link) changes new
says_all link changes old new octets none is short frame clean outcome =
    let says : IsFrame (limit_with link.extended) new × IsClean link new × IsJustApplied link new changes =
    subst (λ (o : List ℕ). IsFrame (limit_with link.extended) (drop (length o) new) × IsClean link (drop (length o) new) × IsJustApplied link (drop (length o) new) changes)
    none (frame, clean, outcome) in
    let within : length new ≤ 4096 = subst (λ (n : List ℕ). length n ≤ 4096) (sym (is ∙ ap (λ (o : List ℕ). o ++ octets) none)) short in
    (short_is_plain (limit_with link.extended) new within says.0, says.1, says.2)

-- One prefix can be written on the link as if the peer offered no longer messages, and that has as many octets: so it has at most
-- 4096 on every link.
not_above : (count : ℕ) → (4096 < count → ⊥) → count ≤ 4096
not_above count not = elim (cases_lt 4096 count) [ inl more ↦ absurd (not more) | inr within ↦ within ]

pub announced_short : OnePrefixCanBeWritten → (link : Link) (family : Family) (prefix : PrefixBits) → IsPrefix prefix → (path : PathValue)
    → IsShortPath path → length (update_octets link (Announces family (prefix ∷ []) path)) ≤ 4096
announced_short law link family prefix fits path short =
    not_above (length (update_octets link (Announces family (prefix ∷ []) path))) ((law (record link { extended = false }) family prefix fits).0 path short)

pub withdrawn_short : OnePrefixCanBeWritten → (link : Link) (family : Family) (prefix : PrefixBits) → IsPrefix prefix
    → length (update_octets link (Withdraws family (prefix ∷ []))) ≤ 4096
withdrawn_short law link family prefix fits =
    not_above (length (update_octets link (Withdraws family (prefix ∷ [])))) ((law (record link { extended = false }) family prefix fits).1)

-- the peer takes it as it is meant
hop_fits : (speaker : Speaker) (family : Family) → IsHopOf family (own_hop speaker family)
hop_fits speaker V4 = tt
hop_fits speaker V6 = tt

abbrev preference : Bool → Option ℕ
preference internal = if internal then Some 100 else None

no_preference : (internal : Bool) → IsTrue internal ⊎ (preference internal ≡ None)
no_preference true = inl refl
no_preference false = inr refl

own_path_is_for_peer : (speaker : Speaker) (link : Link) (family : Family) → IsForPeer (side_of link) (own_path speaker link family)
own_path_is_for_peer speaker link family = (
  elim (no_preference link.internal) [
    | inl internal ↦ inl internal
    | inr none ↦ inr (none, refl, refl)
  ],
  none_are_distinct,
)

-- what is sent on a plain link has no path identifiers
unidentified : (link : Link) → IsPlain (Some link) → (family : Family) → IsTrue (contains link.sent.identified family) → ⊥
unidentified link plain V4 is = let never : IsTrue false = subst (λ (f : Families). IsTrue f.v4) plain.1 is in absurd (cc)
unidentified link plain V6 is = let never : IsTrue false = subst (λ (f : Families). IsTrue f.v6) plain.1 is in absurd (cc)

pub sendable : (speaker : Speaker) (link : Link) (prefix : PrefixBits) (family : Family) (path : PathValue) → IsPlain (Some link) → family ≡ prefix.family
    → path ≡ own_path speaker link family → IsSendable link (Announces family (prefix ∷ []) path)
sendable speaker link prefix family path plain same e =
    subst (λ (p : PathValue). IsSendable link (Announces family (prefix ∷ []) p)) (sym e) (
      unidentified link plain family,
      (
        All-cons (λ (p : PrefixBits). p.family ≡ family) prefix [] (sym same) (All-nil (λ (p : PrefixBits). p.family ≡ family)),
        hop_fits speaker family,
        own_path_is_for_peer speaker link family,
      ),
    )

pub withdrawn_sendable : (link : Link) (prefix : PrefixBits) (family : Family) → IsPlain (Some link) → family ≡ prefix.family
    → IsSendable link (Withdraws family (prefix ∷ []))
withdrawn_sendable link prefix family plain same = (
  unidentified link plain family,
  All-cons (λ (p : PrefixBits). p.family ≡ family) prefix [] (sym same) (All-nil (λ (p : PrefixBits). p.family ≡ family)),
)
