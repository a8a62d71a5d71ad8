-- Equality of two peers' routes as a test, which is what `==` answers: of the routes of both
-- families and of the disabled families.
use Rattle.std.specs.Prelude.{◌&&◌, Bool}
use Rattle.std.specs.Bool.{beq}
use Rattle.std.specs.Cmp.{IsEquivalence, IsPartialEquivalence, partial_equiv_from_equiv}
use Rattle.std.specs.Cmp.{and_equiv, on_equiv, bool_eq_equiv, nat_eq_equiv}
use Rattle.std.specs.Cmp.Lexicographic.{pointwise, lists_equiv}
use Rattle.bgp_prefix.specs.Prefix.{prefix_length}
use Rattle.bgp_prefix.specs.PrefixOrder.{prefix_eq, family_rank, prefix_number}
use Rattle.bgp_update.specs.DeclaredFamilies.{Families}
use Rattle.bgp_path.specs.Path.{PathValue}
use Rattle.bgp_path.specs.SamePath.{same_value}
use Rattle.bgp_path.specs.SamePathLaws.{same_value_equiv}
use Rattle.bgp_update.specs.declared.destination.Destination.{Destination}
use Rattle.bgp_rib.specs.DestinationOrder.{destination_eq, id_count, id_number}
use Rattle.bgp_rib.specs.Routes.{Routes}

abbrev pub same_families : Families → Families → Bool
same_families a b = beq a.v4 b.v4 && beq a.v6 b.v6

-- two entries
abbrev pub same_entry : Destination × PathValue → Destination × PathValue → Bool
same_entry a b = destination_eq a.0 b.0 && same_value a.1 b.1

abbrev pub same_routes : Routes → Routes → Bool
same_routes a b = same_families a.disabled b.disabled && pointwise same_entry a.entries b.entries

families_equiv : IsEquivalence same_families
families_equiv = and_equiv (on_equiv (λ f. f.v4) bool_eq_equiv) (on_equiv (λ f. f.v6) bool_eq_equiv)

prefixes_equiv : IsEquivalence prefix_eq
prefixes_equiv =
    and_equiv (on_equiv family_rank nat_eq_equiv)
    (and_equiv (on_equiv prefix_number nat_eq_equiv) (on_equiv prefix_length nat_eq_equiv))

destinations_equiv : IsEquivalence destination_eq
destinations_equiv =
    and_equiv (on_equiv (λ d. d.prefix) prefixes_equiv)
    (and_equiv (on_equiv (λ d. id_count d.path) nat_eq_equiv)
    (on_equiv (λ d. id_number d.path) nat_eq_equiv))

entries_equiv : IsEquivalence same_entry
entries_equiv =
    and_equiv (on_equiv (λ e. e.0) destinations_equiv) (on_equiv (λ e. e.1) same_value_equiv)

pub same_routes_equiv : IsEquivalence same_routes
same_routes_equiv =
    and_equiv (on_equiv (λ r. r.disabled) families_equiv)
    (on_equiv (λ r. r.entries) (lists_equiv entries_equiv))

pub same_routes_per : IsPartialEquivalence same_routes
same_routes_per = partial_equiv_from_equiv same_routes_equiv
