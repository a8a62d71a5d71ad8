-- Two addresses, and the session between them.
use Rattle.std.specs.Prelude.{◌≡◌, ℕ, Option, None, Some, false, if◌then◌else◌}
use Rattle.std.specs.Ordering.{is_gt}
use Rattle.bgp_prefix.specs.contracts.address.AddressOrd.TheImpl as order
use Rattle.bgp_prefix.specs.contracts.address.AddressPartialEq.TheImpl as equality
use Rattle.bgp_prefix.specs.declared.session.RouteRefresh.TheVariants as refreshes
use Rattle.bgp_prefix.specs.declared.session.Session.{Session}
use Rattle.segments.specs.Segment.{CutHeader, Finding, Fragment, NoPorts, Nothing, UnknownLink}
use Rattle.segments.specs.Segment.{Whole}
use Rattle.segments.specs.declared.found.Addresses.{Addresses}
use Rattle.segments.specs.declared.found.Ends.{Ends}
use Rattle.bgp_import.specs.declared.selection.Selection.{Selection}

-- the lesser address stands first
abbrev pub AreOrdered : Addresses → Type 0
AreOrdered addresses = is_gt (order.ghosts.cmp addresses.from addresses.to) ≡ false

abbrev pub ordered : Addresses → Addresses
ordered addresses =
    if is_gt (order.ghosts.cmp addresses.from addresses.to)
    then record { from = addresses.to; to = addresses.from } else addresses

-- the two addresses of what was found in a packet
abbrev pub addresses_of : Ends → Addresses
addresses_of ends = record { from = ends.from.address; to = ends.to.address }

abbrev pub addresses_in : Finding → Option Addresses
addresses_in Nothing = None
addresses_in (UnknownLink link_type) = None
addresses_in (Fragment addresses) = Some addresses
addresses_in (NoPorts addresses) = Some addresses
addresses_in (CutHeader ends) = Some (addresses_of ends)
addresses_in (Whole segment) = Some (addresses_of segment.ends)

-- those of what was found, the lesser first
abbrev pub IsBetween : Finding → Addresses → Type 0
IsBetween finding addresses =
    (its : Addresses) × (addresses_in finding ≡ Some its) × (addresses ≡ ordered its)

-- The connections between two addresses at a port, the first being the local one. Between one
-- address and itself the local system is the one that has the port.
abbrev pub session_of : Addresses → Session
session_of addresses = record {
  local = addresses.from;
  peer = addresses.to;
  refresh = refreshes.NotOffered;
  extended = false;
}

abbrev pub selection_of : Addresses → ℕ → Selection
selection_of addresses port = record {
  session = session_of addresses;
  port = port;
  local_port = if equality.ghosts.eq addresses.from addresses.to then Some port else None;
}
