-- The values of `judge`: what the local system is configured to do, the session, what is told of a
-- recording, what is reported, and a file.
use Rattle.std.specs.Prelude.{◌≡◌, true, false, not, List, [], ◌∷◌, Some, codes}
use Rattle.clap.specs.Words.{Row, Text, first_of}
use Rattle.bgp_prefix.specs.Notation.{IsAddressText}
use Rattle.bgp_prefix.specs.declared.session.RouteRefresh.TheVariants as refreshes
use Rattle.bgp_open.specs.RouteOffer.{nothing}
use Rattle.bgp_open.specs.declared.config.Config.{Config}
use Rattle.bgp_open.specs.declared.config.ConfigParts.{ConfigParts}
use Rattle.bgp_words.specs.Values.{IsPositiveText, IsIdentifierText, IsNoFlag, is_given}
use Rattle.bgp_words.specs.Settings.{AreParts}
use Rattle.bgp_words.specs.Recording.{AreRecordingOptions, refresh_told, usual_recording}
use Rattle.bgp_import.specs.declared.options.RecordingOptions.{RecordingOptions}
use Rattle.bgp_words.specs.declared.judge.Reporting.{Reporting}
use Rattle.bgp_words.specs.declared.words.Command.{Command}
use Rattle.bgp_words.specs.declared.words.Command.TheVariants.{Decode, Capture, Judge}
use Rattle.bgp_words.specs.declared.words.Command.TheVariants.{Check, Import, List as Listing}
use Rattle.bgp_words.specs.declared.words.Command.TheVariants.{Speak, Pair}

-- `--explain`: the reason is wanted; `--json`: each line is a JSON object
abbrev pub reporting_told : List Row → Reporting
reporting_told rows = record {
  explain = is_given (codes "explain") rows;
  json = is_given (codes "json") rows;
}

-- the values of `judge`: a configuration, what is reported, and a file; `--no-refresh`: the local
-- system offers no route refresh; `--skip-refresh`: its messages are passed over
abbrev pub IsJudge : Config → RecordingOptions → Reporting → Text → List Row → Type 0
IsJudge config recording reporting file rows =
    AreParts config.parts (refresh_told (not (is_given (codes "no-refresh") rows)) rows) rows
    × AreRecordingOptions recording rows × (reporting ≡ reporting_told rows)
    × (first_of (codes "FILE") rows ≡ Some file)

-- The words are `judge FILE` with just the options that it has to have, in this order, behind the
-- program's name; each value is a word of its own, and no flag. What isn't told has its default.
pub record IsJudgeLine (words : List Text) (parts : ConfigParts) (file : Text) : Type 0 where
  pub name : Text
  pub local_as : Text
  pub peer_as : Text
  pub local_id : Text
  pub local : Text
  pub peer : Text
  pub spelled : words ≡ name ∷ codes "judge" ∷ codes "--local-as" ∷ local_as
      ∷ codes "--peer-as" ∷ peer_as ∷ codes "--local-id" ∷ local_id
      ∷ codes "--local" ∷ local ∷ codes "--peer" ∷ peer ∷ file ∷ []
  pub no_flags : IsNoFlag local_as × IsNoFlag peer_as × IsNoFlag local_id × IsNoFlag local
      × IsNoFlag peer × IsNoFlag file
  pub as_numbers : IsPositiveText local_as parts.local_as × IsPositiveText peer_as parts.peer_as
  pub identifier : IsIdentifierText local_id parts.local_id
  pub ends : IsAddressText local parts.session.local × IsAddressText peer parts.session.peer
  pub refresh : parts.session.refresh ≡ refreshes.Refused
  pub extended : parts.session.extended ≡ false
  pub holds : (parts.hold ≡ 90) × (parts.large_hold ≡ 240)
  pub families : parts.families ≡ record { v4 = true; v6 = false }
  pub flags : (parts.as4 ≡ true) × (parts.delay_open ≡ false)
  pub offers : parts.offers ≡ nothing

-- the command is `judge` with what these words tell; nothing is told of a recording, and neither the
-- reason nor JSON is wanted
abbrev pub IsJudgeOf : List Text → Command → Type 0
IsJudgeOf words (Decode form extended file) = ⊥
IsJudgeOf words (Capture form session recording file) = ⊥
IsJudgeOf words (Judge config recording reporting file) =
    IsJudgeLine words config.parts file.now × (recording ≡ usual_recording)
    × (reporting ≡ record { explain = false; json = false })
IsJudgeOf words (Import session recording file out) = ⊥
IsJudgeOf words (Listing port json file) = ⊥
IsJudgeOf words (Check checking file) = ⊥
IsJudgeOf words (Speak config speaking file) = ⊥
IsJudgeOf words (Pair file) = ⊥
