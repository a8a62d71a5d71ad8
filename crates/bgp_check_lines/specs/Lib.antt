pub mod Values
pub mod Teller
pub mod Lines
pub mod Printed
pub mod Reason
pub use Rattle.bgp_json_check.specs.Capture
pub use Rattle.bgp_json_check.specs.Sessions
pub use Rattle.bgp_check_text.specs.AsNumber
pub use Rattle.bgp_check_text.specs.End
pub use Rattle.bgp_check_text.specs.JudgeLine
pub use Rattle.bgp_check_text.specs.OfCapture
pub use Rattle.bgp_check_text.specs.OwnFaults
pub use Rattle.bgp_check_text.specs.Places
pub use Rattle.bgp_check_text.specs.Quiet
pub use Rattle.bgp_check_text.specs.Reached
pub use Rattle.bgp_check_text.specs.Reason as CheckTextReason
pub use Rattle.bgp_check_text.specs.Settings
pub use Rattle.bgp_check_text.specs.Tally
pub use Rattle.bgp_check_text.specs.Text
pub use Rattle.bgp_check_text.specs.Unshown
pub use Rattle.bgp_check_text.specs.declared.end.EndName
pub use Rattle.bgp_check_text.specs.declared.options.JudgeOptions
pub use Rattle.bgp_check_text.specs.declared.quiet.Printing
pub use Rattle.bgp_check_text.specs.declared.reason.Reason as DeclaredReason
pub use Rattle.bgp_check_text.specs.declared.settings.Settings as DeclaredSettings
pub use Rattle.bgp_check_text.specs.declared.tally.Tally as DeclaredTally
pub use Rattle.bgp_check_text.specs.Asked
pub use Rattle.bgp_check_text.specs.ReadAlike
pub use Rattle.bgp_check_text.specs.SentDeed
pub use Rattle.bgp_check_text.specs.declared.options.Asked as DeclaredAsked
pub use Rattle.bgp_check_text.specs.EndedLine
pub use Rattle.bgp_check_text.specs.Stretch
