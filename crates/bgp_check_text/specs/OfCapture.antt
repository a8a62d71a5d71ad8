-- Whether `bgp judge` reads of a capture the same records as are told.
use Rattle.std.specs.Prelude.{◌≡◌, ◌↔◌, ◌⊎◌, ℕ, Bool, not, IsFalse, IsTrue, List, Option, None}
use Rattle.std.specs.Prelude.{Some, if◌then◌else◌}
use Rattle.std.specs.List.{AllByRecursion}
use Rattle.bgp_prefix.specs.RouteRefresh.{refresh_with}
use Rattle.bgp_prefix.specs.Shown.{ShownRecord}
use Rattle.bgp_prefix.specs.declared.session.RouteRefresh.{RouteRefresh}
use Rattle.bgp_prefix.specs.declared.session.RouteRefresh.TheVariants.{PassedOver}
use Rattle.bgp_prefix.specs.declared.session.Session.{Session}
use Rattle.mrt.specs.Capture.{Spells}
use Rattle.mrt_sessions.specs.File.{HasSuchRecords, Located}
use Rattle.mrt_sessions.specs.ReadsAs.{ReadsAs, addresses_in}
use Rattle.mrt_sessions.specs.Sessions.{records_between}
use Rattle.bgp_open.specs.declared.config.Config.{Config}
use Rattle.bgp_recording.specs.Captured.{IsNoRefresh}
use Rattle.bgp_check_text.specs.declared.options.Asked.{Asked}
use Rattle.bgp_check_text.specs.declared.options.JudgeOptions.{JudgeOptions}

-- ---- the session

-- What becomes of a ROUTE-REFRESH by `--skip-refresh` and `--no-refresh`: where it is whole it is
-- passed over, or else it is a record as others, or else the capture is refused for it.
abbrev pub refresh_by : Bool → Bool → RouteRefresh
refresh_by skips no_refresh = if skips then PassedOver else refresh_with (not no_refresh)

abbrev pub session_by : Session → Bool → Bool → Session
session_by session skips no_refresh =
    record session { refresh = refresh_by skips no_refresh }

-- that of which `judge` reads a capture by these options
abbrev pub session_of : JudgeOptions → Session
session_of options =
    session_by options.config.parts.session options.skips_refresh options.no_refresh

-- ---- the options

-- It reads just these records of a file in which the session has those: these are read so, and no
-- body in the file is longer than any that it reads.
abbrev pub IsReadAlike : Session → Bool → List Located → List ShownRecord → Type 0
IsReadAlike session is_plain named records =
    (IsTrue is_plain ⊎ IsTrue session.extended) × ReadsAs session None named records

-- of a capture nothing is asked
abbrev pub nothing_asked : Asked
nothing_asked = record { port = None; local_port = None; connection = None; within = None }

-- The options by which it gives the verdict on these records that is told under the configuration,
-- if it reads them. Of a ROUTE-REFRESH among them it is told that the local system doesn't offer
-- route refresh: it would refuse the capture else.
pub record AreOptionsFor (config : Config) (records : List ShownRecord) (skips_refresh : Bool)
    (options : JudgeOptions) : Type 0 where
  pub is_config : options.config ≡ config
  pub skips : options.skips_refresh ≡ skips_refresh
  pub refuses : IsFalse options.no_refresh ↔ AllByRecursion IsNoRefresh records
  pub asks : options.asked ≡ nothing_asked

-- there are such exactly where it reads them
abbrev pub AreCaptureOptions : Config → Bool → List Located → List ShownRecord → Bool
    → Option JudgeOptions → Type 0
AreCaptureOptions config is_plain named records skips_refresh None =
    (options : JudgeOptions) → AreOptionsFor config records skips_refresh options
    → ¬ IsReadAlike (session_of options) is_plain named records
AreCaptureOptions config is_plain named records skips_refresh (Some options) =
    AreOptionsFor config records skips_refresh options
    × IsReadAlike (session_of options) is_plain named records

-- ---- what they are worth

-- Where such options are told of a session's records in a file without a refusal, the file is a
-- capture of the session by these options that has just the records on which the verdict is told.
abbrev pub CapturesAreReadAlike : Type 0
CapturesAreReadAlike =
    (config : Config) (octets : List ℕ) (named : List Located) (offset : ℕ) (is_plain : Bool)
    (records : List ShownRecord) (skips_refresh : Bool) (options : JudgeOptions)
    → HasSuchRecords octets named offset None is_plain
    → AreCaptureOptions config is_plain
    (records_between (addresses_in config.parts.session) named) records skips_refresh
    (Some options)
    → Spells (session_of options) octets records
