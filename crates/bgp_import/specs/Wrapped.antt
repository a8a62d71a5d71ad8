-- How many packets of a recording are wrapped in something that isn't looked into.
use Rattle.std.specs.Prelude.{◌≡◌, ◌+◌, ◌-◌, ◌^◌, ℕ, Bool, false, List, [], ◌∷◌, Option, None, Some}
use Rattle.std.specs.Prelude.{filter, if◌then◌else◌, length, min, nat_lt}
use Rattle.packets.specs.Packet.{Recorded}
use Rattle.segments.specs.Wrapping.{wrapping_in}
use Rattle.segments.specs.contracts.wrapping.WrappingPartialEq.TheImpl as equality
use Rattle.segments.specs.declared.wrapping.Wrapping.{Wrapping}
use Rattle.segments.specs.declared.wrapping.Wrapping.TheVariants as wrappings
use Rattle.bgp_import.specs.declared.wrapped.NotLookedInto.{NotLookedInto}
use Rattle.bgp_import.specs.declared.wrapped.Wrapped.{Wrapped}

-- what a packet is wrapped in is that
abbrev pub is_that : Wrapping → Option Wrapping → Bool
is_that wrapping None = false
is_that wrapping (Some its) = equality.ghosts.eq wrapping its

abbrev pub is_wrapped_in : Wrapping → Recorded → Bool
is_wrapped_in wrapping packet = is_that wrapping (wrapping_in packet.link_type packet.octets)

-- how many packets are wrapped in that
abbrev pub count_in : Wrapping → List Recorded → ℕ
count_in wrapping packets = length (filter (is_wrapped_in wrapping) packets)

-- the same, up to the greatest number that is told
abbrev pub told_count : Wrapping → List Recorded → ℕ
told_count wrapping packets = min (count_in wrapping packets) (2 ^ 64 - 1)

pub record AreCounted (packets : List Recorded) (wrapped : Wrapped) : Type 0 where
  pub gre : wrapped.gre ≡ told_count wrappings.Gre packets
  pub erspan : wrapped.erspan ≡ told_count wrappings.Erspan packets
  pub vxlan : wrapped.vxlan ≡ told_count wrappings.Vxlan packets
  pub mpls : wrapped.mpls ≡ told_count wrappings.Mpls packets
  pub pppoe : wrapped.pppoe ≡ told_count wrappings.Pppoe packets

-- ---- one more

abbrev pub one_more : ℕ → ℕ
one_more count = min (count + 1) (2 ^ 64 - 1)

abbrev pub with_one : Wrapping → Wrapped → Wrapped
with_one wrappings.Gre wrapped = record wrapped { gre = one_more wrapped.gre }
with_one wrappings.Erspan wrapped = record wrapped { erspan = one_more wrapped.erspan }
with_one wrappings.Vxlan wrapped = record wrapped { vxlan = one_more wrapped.vxlan }
with_one wrappings.Mpls wrapped = record wrapped { mpls = one_more wrapped.mpls }
with_one wrappings.Pppoe wrapped = record wrapped { pppoe = one_more wrapped.pppoe }

-- ---- what is told

-- of so many packets that are wrapped in that, where there are any
abbrev pub not_looked_into : Wrapping → ℕ → Option NotLookedInto
not_looked_into wrapping count =
    if nat_lt 0 count then Some (record { wrapping = wrapping; packets = count }) else None

abbrev pub told_in_order : Wrapped → List (Option NotLookedInto)
told_in_order wrapped = not_looked_into wrappings.Gre wrapped.gre
    ∷ not_looked_into wrappings.Erspan wrapped.erspan
    ∷ not_looked_into wrappings.Vxlan wrapped.vxlan
    ∷ not_looked_into wrappings.Mpls wrapped.mpls
    ∷ not_looked_into wrappings.Pppoe wrapped.pppoe ∷ []
