-- What a whole message is, by a check of its header.
use Rattle.std.proofs.Common.{◌≡◌, ◌∙◌, ◌≤◌, ℕ, List, length, ap, sym, subst}
use Rattle.bgp_wire.specs.declared.header.Limit.{Limit}
use Rattle.bgp_wire.specs.Framing.{IsFrame}
use Rattle.bgp_wire.specs.Header.{IsSound, header_of, length_of, type_of}
use Rattle.bgp_wire.specs.Framing.{IsFaulty}
use Rattle.bgp_wire.specs.Verdict.{AreEachFault}
use Rattle.bgp_wire.specs.declared.header.HeaderFaults.{HeaderFaults}
use Rattle.bgp_why.specs.Lacks.{IsWholeOf}
use Rattle.bgp_why.specs.NotWhole.{IsOtherCount}

module _ (octets header : List ℕ) (at_front : header ≡ header_of octets) where
  sound_there : (limit : Limit) → IsSound limit header → IsSound limit (header_of octets)
  sound_there limit sound = subst (λ (o : List ℕ). IsSound limit o) at_front sound

  sound_here : (limit : Limit) → IsSound limit (header_of octets) → IsSound limit header
  sound_here limit sound = subst (λ (o : List ℕ). IsSound limit o) (sym at_front) sound

  -- a sound header that has this type, of a message that is as long as it says
  pub whole : (limit : Limit) (count found kind : ℕ) → 19 ≤ length octets → IsSound limit header → count ≡ length_of header → found ≡ type_of header
      → length octets ≡ count → found ≡ kind → IsWholeOf limit kind octets
  whole limit count found kind long sound is_count is_type as_long same = (
    record {
      header = long;
      sound = sound_there limit sound;
      whole = as_long ∙ is_count ∙ ap length_of at_front;
    },
    sym (ap type_of at_front) ∙ sym is_type ∙ same,
  )

  pub of_whole : (limit : Limit) (count found kind : ℕ) → count ≡ length_of header → found ≡ type_of header → IsWholeOf limit kind octets
      → (length octets ≡ count) × (found ≡ kind)
  of_whole limit count found kind is_count is_type is =
      (is.0.whole ∙ sym (ap length_of at_front) ∙ sym is_count, is_type ∙ ap type_of at_front ∙ is.1)

  pub not_whole : (limit : Limit) (kind : ℕ) → ¬ IsSound limit header → ¬ IsWholeOf limit kind octets
  not_whole limit kind faulty is = faulty (sound_here limit is.0.sound)

  -- why octets are no whole message
  pub faulty : (limit : Limit) (errors : HeaderFaults) → 19 ≤ length octets → ¬ IsSound limit header → AreEachFault limit header errors
      → IsFaulty limit octets × AreEachFault limit (header_of octets) errors
  faulty limit errors long none each = (
    (long, λ sound. none (sound_here limit sound)),
    subst (λ (o : List ℕ). AreEachFault limit o errors) at_front each,
  )

  pub frame : (limit : Limit) (count : ℕ) → 19 ≤ length octets → IsSound limit header → count ≡ length_of header → length octets ≡ count
      → IsFrame limit octets
  frame limit count long sound is_count same =
      record { header = long; sound = sound_there limit sound; whole = same ∙ is_count ∙ ap length_of at_front }

  pub other : (limit : Limit) (count : ℕ) → 19 ≤ length octets → IsSound limit header → count ≡ length_of header → (length octets ≡ count → ⊥)
      → IsOtherCount limit octets
  other limit count long sound is_count differs =
      (long, sound_there limit sound, λ same. differs (same ∙ sym (ap length_of at_front) ∙ sym is_count))
