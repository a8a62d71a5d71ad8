pub mod Sections
pub mod Counted
pub mod Fields
pub mod Destinations
pub mod Plain
pub mod Parts
pub mod Listed
pub mod Field
pub mod MpValue
pub mod MpParts
pub mod Mp
pub mod MpShown
pub mod Found
pub mod Noted
pub mod Surveyed
pub mod MpFaults
pub mod WithdrawFaults
pub mod ResetFaults
pub mod Disabled
pub mod Changes
pub mod Groups
pub mod Outcome
pub mod Clean
pub mod Subcodes
pub mod Allowed
pub mod Laws
pub use Rattle.bgp_attr.specs.Field as AttrField
pub use Rattle.bgp_attr.specs.Split
pub use Rattle.bgp_open.specs.Families
pub use Rattle.bgp_open.specs.declared.families.Families as DeclaredFamilies
pub use Rattle.bgp_open.specs.Capability
pub use Rattle.bgp_open.specs.Notification
pub use Rattle.bgp_open.specs.Open
pub use Rattle.bgp_open.specs.OpenFault
pub use Rattle.bgp_open.specs.RouteForm
pub use Rattle.bgp_open.specs.Triplet
pub use Rattle.bgp_open.specs.declared.fault.OpenFault as DeclaredOpenFault
pub use Rattle.bgp_open.specs.declared.route_form.RouteForm as DeclaredRouteForm
pub use Rattle.bgp_attr.specs.PathIn
pub use Rattle.bgp_attr.specs.Segments
