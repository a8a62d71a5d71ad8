use Rattle.std.proofs.Common.{ℕ, None, ap, refl, subst, ◌∙◌}
use Rattle.mrt.specs.FromRead.{reader_state}
use Rattle.mrt.specs.FromWrite.{writer_state}
use Rattle.bgp_commands.specs.Ends.{AreEnds, IsOutput}
use Rattle.bgp_commands.proofs.importing.import_packets.Goals as goal

pub returns : goal.returns
returns g c =
    let source = c.import_recording-imported.new.source in
    let sink = writer_state c.import_recording-imported.new.sink in
    let ends = c.of-ends.result in
    let are = subst (λ s. AreEnds c.args.file (reader_state s) sink c.failures-failures.result None ends) c.source.ensures c.of-ends.ensures in
    record {
      begun = c.new-source.result;
      read = source;
      fresh = ap reader_state c.new-source.ensures.source ∙ c.new.ensures;
      no_front = c.new-source.ensures.front;
      is_call = rw c.import_of-import.ensures at c.import_recording-imported.ensures.imports;
      note = c.no_recording-note.result;
      is_note = (c.no_recording-note.new.source, c.no_recording-note.ensures);
      are_ends = record {
        is_file = are.is_file;
        is_octet = are.is_octet;
        is_error = are.is_error;
        is_output = subst (λ (n : ℕ). IsOutput sink n ends.output) c.failures-failures.ensures are.is_output;
        is_note = refl;
      };
    }
