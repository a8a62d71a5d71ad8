-- What is said of an MRT file: the definitions are bgp_check_capture_tool's.
pub use Rattle.bgp_check_capture_tool.specs.Checking.{ChecksCapture}
pub use Rattle.bgp_check_capture_tool.specs.Printed.{PrintsTrueNoes}
pub use Rattle.bgp_check_capture_tool.specs.declared.checking.CheckedCapture.{CheckedCapture}
pub use Rattle.bgp_check_capture_tool.specs.declared.options.CaptureOptions.{CaptureOptions}
