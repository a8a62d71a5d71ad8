use Rattle.std.proofs.Common.{List, [], take}
use Rattle.mrt_sessions.specs.File.{Located}
use Rattle.mrt_sessions.specs.Sessions.{HoldsSessions, held_sessions}
use Rattle.bgp_check_lines.specs.Tally.{no_tally}
use Rattle.bgp_check_capture_tool.specs.Checking.{PutsBlocks}
use Rattle.bgp_check_capture_tool.specs.Firsts.{AreApart}
use Rattle.bgp_check_capture_tool.proofs.checking.put_sessions.Given as goal

-- the blocks of the sessions so far are put
abbrev pub invariant-loop-addresses : goal.invariant-loop-addresses
invariant-loop-addresses g l = record {
  puts : (named : List Located) → HoldsSessions named l.sessions
      → PutsBlocks l.telling named (take l.addresses-index (held_sessions l.sessions)) l.fn.lines l.lines no_tally l.counted.tally [] l.counted.refusals.items l.fn.marks l.marks;
  apart : AreApart l.counted.refusals.items;
}
