use Rattle.std.proofs.Common.{◌≡◌, ◌-◌, ◌^◌, ℕ, List, [], length, false}
use Rattle.bgp_wire.specs.Framing.{IsShort}
use Rattle.bgp_text.specs.Lines.{Writes}
use Rattle.bgp_json.specs.Output.{Knows, form_of}
use Rattle.bgp_tool.specs.Decoding.{stream_before}
use Rattle.bgp_tool.specs.Ending.{AreLines}
use Rattle.bgp_tool.proofs.decoding.decode.Given as goal

-- what was given so far, and the lines of its frames, which are put
abbrev pub invariant-reads : goal.invariant-reads
invariant-reads g l =
    record {
      state : l.frames ≡ record { limit = l.fn.options.limit; octets = l.frames.octets; is_closed = false };
      short : IsShort l.fn.options.limit l.frames.octets;
      form : form_of l.teller ≡ l.fn.options.form;
      failures : g.R.Source.failures l.source ≡ g.R.Source.failures l.fn.source;
      so_far : (stream text : List ℕ) × g.R.Source.gives l.fn.source l.source stream × (l.given ≡ length stream)
          × ((frames : List (List ℕ)) × AreLines l.fn.options.limit l.fn.options.form [] frames stream l.frames.octets text
          × Knows l.teller (stream_before frames)) × Writes l.fn.lines l.lines text;
    }

abbrev pub decreases-reads : goal.decreases-reads
decreases-reads g l = 2 ^ 63 - g.R.Source.given_count l.source
