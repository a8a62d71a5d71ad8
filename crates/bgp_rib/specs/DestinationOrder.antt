-- The order of destinations: by family, IPv4 before IPv6; of a family those without a path
-- identifier before those with one; then by prefix, and then by identifier.
use Rattle.std.specs.Prelude.{ℕ, ◌==◌, Bool, Option, None, Some}
use Rattle.std.specs.declared.cmp.Ordering.{Ordering}
use Rattle.std.specs.Ordering.{nat_cmp, on, then_cmp, eq_of_both}
use Rattle.bgp_prefix.specs.PrefixOrder.{family_rank, prefix_cmp, prefix_eq}
use Rattle.bgp_update.specs.declared.destination.Destination.{Destination}

-- how many identifiers there are
abbrev pub id_count : Option ℕ → ℕ
id_count None = 0
id_count (Some number) = 1

-- the number of the identifier; what stands for none counts for nothing
abbrev pub id_number : Option ℕ → ℕ
id_number None = 0
id_number (Some number) = number

-- the order
abbrev pub destination_cmp : Destination → Destination → Ordering
destination_cmp = then_cmp (on (λ d. family_rank d.prefix) nat_cmp)
    (then_cmp (on (λ d. id_count d.path) nat_cmp)
    (then_cmp (on (λ d. d.prefix) prefix_cmp) (on (λ d. id_number d.path) nat_cmp)))

-- the equality: of prefix and identifier, so of the destinations
abbrev pub destination_eq : Destination → Destination → Bool
destination_eq = eq_of_both (on (λ d. d.prefix) prefix_eq)
    (eq_of_both (on (λ d. id_count d.path) ◌==◌) (on (λ d. id_number d.path) ◌==◌))
