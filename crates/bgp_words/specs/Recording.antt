-- What the commands that read one session, of a recording of packets or of a capture, are told of
-- it.
use Rattle.std.specs.Prelude.{Bool, List, None, codes, if◌then◌else◌}
use Rattle.clap.specs.Words.{Row}
use Rattle.bgp_prefix.specs.RouteRefresh.{refresh_with}
use Rattle.bgp_prefix.specs.declared.session.RouteRefresh.{RouteRefresh}
use Rattle.bgp_prefix.specs.declared.session.RouteRefresh.TheVariants.{PassedOver}
use Rattle.bgp_words.specs.Values.{IsOptional, IsPortText, IsPositiveText, IsSecondsText, IsValue}
use Rattle.bgp_words.specs.Values.{is_given}
use Rattle.bgp_import.specs.declared.options.RecordingOptions.{RecordingOptions}

-- the options that are for recordings alone
pub record AreRecordingOptions (recording : RecordingOptions) (rows : List Row) : Type 0 where
  pub port : IsValue IsPortText (codes "port") rows recording.port
  pub local_port : IsOptional IsPortText (codes "local-port") rows recording.local_port
  pub connection : IsOptional IsPositiveText (codes "connection") rows recording.connection
  pub within : IsValue IsSecondsText (codes "within") rows recording.within

-- What becomes of ROUTE-REFRESH messages, where the local system may have offered route refresh or
-- not: `--skip-refresh` passes over them either way.
abbrev pub refresh_told : Bool → List Row → RouteRefresh
refresh_told offered rows =
    if is_given (codes "skip-refresh") rows then PassedOver else refresh_with offered

-- where none of them is given
abbrev pub usual_recording : RecordingOptions
usual_recording = record { port = 179; local_port = None; connection = None; within = 10 }
