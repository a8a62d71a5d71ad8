use Rattle.std.proofs.Common.{length}
use Rattle.bgp_recording_tool_tests.proofs.recording.+count_of.Given as goal

abbrev pub decreases-count_of : goal.decreases-count_of
decreases-count_of l = length l.runs.now
