use Rattle.std.proofs.Common.{refl, subst}
use Rattle.clap.specs.Words.{found_of, rows_of}
use Rattle.bgp_words.specs.Recording.{AreRecordingOptions}
use Rattle.bgp_import.specs.declared.options.RecordingOptions.{RecordingOptions}
use Rattle.bgp_words.proofs.SameParts.{same_recording}
use Rattle.bgp_words.proofs.recording.recording_of.Goals as goal

pub returns : goal.returns
returns c recording =
    let rows = rows_of (found_of c.args.matches.now) in (
      λ same. subst (λ (r : RecordingOptions). AreRecordingOptions r rows) same (record {
        port = (c.in_ok-port_of.ensures c.in_ok-port_of.field-0).0 refl;
        local_port = (c.in_ok-optional_port_of.ensures c.in_ok-optional_port_of.field-0).0 refl;
        connection = (c.in_ok-connection_of.ensures c.in_ok-connection_of.field-0).0 refl;
        within = (c.in_ok-seconds_of.ensures c.in_ok-seconds_of.field-0).0 refl;
      }),
      λ are. same_recording _ recording ((c.in_ok-port_of.ensures recording.port).1 are.port)
          ((c.in_ok-optional_port_of.ensures recording.local_port).1 are.local_port)
          ((c.in_ok-connection_of.ensures recording.connection).1 are.connection)
          ((c.in_ok-seconds_of.ensures recording.within).1 are.within),
    )
