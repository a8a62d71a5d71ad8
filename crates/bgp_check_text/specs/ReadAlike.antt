-- Whether `bgp judge` reads the same records of a connection as are told.
use Rattle.std.specs.Prelude.{◌≡◌, ◌||◌, ℕ, Bool, IsFalse, List, Option, None, Some, is_some, map}
use Rattle.std.specs.Prelude.{nat_lt}
use Rattle.std.specs.List.{AllByRecursion}
use Rattle.bgp_wire.specs.Header.{limit_with}
use Rattle.bgp_open.specs.declared.config.Config.{Config}
use Rattle.streams.specs.declared.connection.Connection.{Connection}
use Rattle.bgp_recording.specs.Captured.{IsNoRefresh, records_of}
use Rattle.bgp_recording.specs.Pieces.{alike}
use Rattle.bgp_recording.specs.Recorded.{IsRecordedInOrder}
use Rattle.bgp_recording.specs.Tells.{numbered_of}
use Rattle.bgp_recording.specs.declared.entry.Entry.{Entry}
use Rattle.bgp_recording.specs.declared.framing.Framings.{Framings}
use Rattle.bgp_recording.specs.declared.framing.Unshown.{Unshown}
use Rattle.bgp_import.specs.Refreshes.{IsRefreshIn}
use Rattle.bgp_import.specs.declared.refusal.Refusal.{Refusal}
use Rattle.bgp_check_text.specs.declared.options.Asked.{Asked}
use Rattle.bgp_check_text.specs.declared.options.JudgeOptions.{JudgeOptions}

-- it frames both directions by what the local system is configured to offer
abbrev pub framings_by : Config → Bool → Framings
framings_by config skips = alike record {
  limit = limit_with config.parts.session.extended;
  skips_refresh = skips;
}

-- a ROUTE-REFRESH is passed over in either direction
abbrev pub passes_over : Unshown → Unshown → Bool
passes_over received sent = nat_lt 0 received.passed_over || nat_lt 0 sent.passed_over

-- framed so, the connection has the same records, shown by the same packets
pub record IsReadAlike (framings : Framings) (within : ℕ) (connection : Connection)
    (entries : List Entry) : Type 0 where
  pub others : List Entry
  pub received : Unshown
  pub sent : Unshown
  pub recorded : IsRecordedInOrder framings within connection others received sent
  pub same : map numbered_of others ≡ map numbered_of entries

-- The options by which `judge` gives the verdict on these entries that is told under the
-- configuration, if it reads them. Of a ROUTE-REFRESH that isn't passed over it is told that the
-- local system doesn't offer route refresh: it would refuse it else.
pub record AreOptionsOf (config : Config) (asked : Asked) (entries : List Entry)
    (received_unshown sent_unshown : Unshown) (options : JudgeOptions) : Type 0 where
  pub is_config : options.config ≡ config
  pub is_asked : options.asked ≡ asked
  pub skips : options.skips_refresh ≡ passes_over received_unshown sent_unshown
  pub refusal : Option Refusal
  pub has : IsRefreshIn entries received_unshown.rest sent_unshown.rest refusal
  pub refuses : options.no_refresh ≡ is_some refusal
  pub calm : IsFalse options.no_refresh → AllByRecursion IsNoRefresh (records_of entries)

-- there are such exactly where it reads them
abbrev pub AreJudgeOptions : Config → Asked → ℕ → Connection → List Entry → Unshown → Unshown
    → Option JudgeOptions → Type 0
AreJudgeOptions config asked within connection entries received_unshown sent_unshown None =
    ¬ IsReadAlike (framings_by config (passes_over received_unshown sent_unshown)) within
    connection entries
AreJudgeOptions config asked within connection entries received_unshown sent_unshown
    (Some options) =
    AreOptionsOf config asked entries received_unshown sent_unshown options
    × IsReadAlike (framings_by config options.skips_refresh) within connection entries
