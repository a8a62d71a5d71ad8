-- What a header without a fault announces.
use Rattle.std.proofs.Common.{◌≡◌, ◌↔◌, ◌∙◌, ◌≤◌, ℕ, false, true, List, IsTrue, length, nat_eq, ap, sym, subst}
use Rattle.std.proofs.lemmas.Bool.{eqb-true, eq-eqb}
use Rattle.bgp_wire.specs.declared.header.Limit.{Limit}
use Rattle.bgp_wire.specs.Header.{IsSound, header_of, type_of}
use Rattle.bgp_open.specs.declared.config.Config.{Config}
use Rattle.bgp_machine.specs.Heard.{Announces, received_limit}

module _ (config : Config) (octets header : List ℕ) (limit : Limit) (at_front : header ≡ header_of octets) (is_limit : limit ≡ received_limit config) where
  -- it is sound for the octets that it stands before
  sound_there : IsSound limit header → IsSound (received_limit config) (header_of octets)
  sound_there sound = subst (λ (o : List ℕ). IsSound (received_limit config) o) at_front (subst (λ (l : Limit). IsSound l header) is_limit sound)

  sound_here : IsSound (received_limit config) (header_of octets) → IsSound limit header
  sound_here sound = subst (λ (l : Limit). IsSound l header) (sym is_limit) (subst (λ (o : List ℕ). IsSound (received_limit config) o) (sym at_front) sound)

  -- a sound header announces the type that it has
  pub announces_its_type : (found kind : ℕ) → 19 ≤ length octets → IsSound limit header → found ≡ type_of header
      → IsTrue (nat_eq found kind) ↔ Announces config kind octets
  announces_its_type found kind long sound is_type = (
    λ same. record {
      header = long;
      sound = sound_there sound;
      type_field = sym (ap type_of at_front) ∙ sym is_type ∙ eqb-true found kind same;
    },
    λ announced. eq-eqb found kind (is_type ∙ ap type_of at_front ∙ announced.type_field),
  )

  -- a header with a fault announces nothing
  pub announces_nothing : (kind : ℕ) → ¬ IsSound limit header → IsTrue false ↔ Announces config kind octets
  announces_nothing kind faulty = (λ no. absurd (let impossible : false ≡ true = no in cc), λ announced. absurd (faulty (sound_here announced.sound)))
