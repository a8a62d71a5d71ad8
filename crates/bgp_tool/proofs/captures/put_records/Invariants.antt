use Rattle.std.proofs.Common.{◌≡◌, ◌≤◌, ◌-◌, ◌^◌, ℕ, List, length}
use Rattle.bgp_text.specs.Lines.{Writes}
use Rattle.mrt.specs.Capture.{records_of}
use Rattle.bgp_json.specs.Output.{Knows, form_of}
use Rattle.bgp_tool.proofs.CaptureLines.{SoFar, came_in}
use Rattle.bgp_tool.proofs.captures.put_records.Given as goal

-- what was read so far, and its lines, which are put; and what is known of it
abbrev pub invariant-loop-shown : goal.invariant-loop-shown
invariant-loop-shown g l = record {
  so_far : (text : List ℕ)
      × (so : SoFar g.S.Source.gives g.S.Source.has_ended g.met.S.Source.joined g.S.Source.given_count g.met.S.Source.counted l.options l.fn.printed.source
      l.printed.source l.reader text) × Writes l.fn.printed.lines l.printed.lines text × Knows l.teller (came_in so.pieces)
      × (l.number ≡ length (records_of so.pieces));
  form : form_of l.teller ≡ l.options.form;
  fewer : l.number ≤ g.S.Source.given_count l.printed.source;
  one_source : l.reader.passed ≤ g.S.Source.given_count l.printed.source;
  calm : g.S.Source.failures l.printed.source ≡ g.S.Source.failures l.fn.printed.source;
}

abbrev pub decreases-loop-shown : goal.decreases-loop-shown
decreases-loop-shown g l = 2 ^ 63 - g.S.Source.given_count l.printed.source
