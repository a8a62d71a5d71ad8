-- What is said of a pcap file: the definitions are bgp_check_tool's.
pub use Rattle.bgp_check_tool.specs.Checking.{ChecksRecording}
pub use Rattle.bgp_check_tool.specs.Printed.{NoesAreTrue, PrintsTrue}
pub use Rattle.bgp_check_tool.specs.Printed.{UnfinishedAreTrue, YesesAreTrue}
pub use Rattle.bgp_check_tool.specs.declared.checking.CheckedRecording.{CheckedRecording}
pub use Rattle.bgp_check_tool.specs.declared.options.CheckOptions.{CheckOptions}
