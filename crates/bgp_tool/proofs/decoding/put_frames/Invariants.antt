use Rattle.std.proofs.Common.{◌≡◌, ◌≤◌, ◌+◌, ◌++◌, List, ℕ, length}
use Rattle.bgp_wire.specs.Framing.{joined}
use Rattle.bgp_text.specs.Lines.{Writes}
use Rattle.bgp_json.specs.Output.{Knows, form_of}
use Rattle.bgp_tool.specs.Decoding.{stream_before}
use Rattle.bgp_tool.specs.Ending.{AreLines}
use Rattle.bgp_tool.proofs.decoding.put_frames.Given as goal

-- the frames that are gone are written, and the splitter is else as it was
abbrev pub invariant-loop-kind : goal.invariant-loop-kind
invariant-loop-kind g l =
    record {
      state : l.frames ≡ record l.fn.frames { octets = l.frames.octets };
      fewer : length l.frames.octets ≤ length l.fn.frames.octets;
      form : form_of l.teller ≡ form_of l.fn.teller;
      written : (before : List (List ℕ)) → l.given ≡ length (joined before) + length l.fn.frames.octets → Knows l.fn.teller (stream_before before)
          → (frames : List (List ℕ)) × (text : List ℕ)
          × AreLines l.fn.frames.limit (form_of l.fn.teller) before frames l.fn.frames.octets l.frames.octets text
          × Knows l.teller (stream_before (before ++ frames)) × Writes l.fn.lines l.lines text;
    }

abbrev pub decreases-loop-kind : goal.decreases-loop-kind
decreases-loop-kind g l = length l.frames.octets
