-- The verdict that is explained of a connection is the one that is told of it without a reason.
use Rattle.std.proofs.Common.{◌≡◌, ℕ, List, [], ◌∷◌, Option, map, refl, sym, ap, subst, ◌∙◌}
use Rattle.packets.specs.Packet.{Recorded}
use Rattle.streams.specs.Passed.{Segment}
use Rattle.mrt.specs.Reader.{shown_of}
use Rattle.bgp_prefix.specs.Shown.{ShownRecord}
use Rattle.bgp_open.specs.declared.config.Config.{Config}
use Rattle.bgp_judge.specs.Verdict.{HasOneVerdict, HasVerdict, VerdictValue}
use Rattle.bgp_import.specs.Once.{IsMadeOfPackets, RecordingsAreMadeOnce}
use Rattle.bgp_import.specs.Selecting.{AreTaken}
use Rattle.bgp_import.specs.declared.importing.Import.{Import}
use Rattle.bgp_recording.specs.Captured.{records_of}
use Rattle.bgp_recording.specs.Tells.{Numbered, numbered_of}
use Rattle.bgp_recording.specs.declared.entry.Entry.{Entry}
use Rattle.bgp_recording_tool.specs.declared.remark.Remark.{Remark}
use Rattle.bgp_recording_tool.specs.Connections.{IsJudged}
use Rattle.bgp_recording_tool.specs.Found.{Found}
use Rattle.bgp_recording_tool.specs.Laws.{RecordingsAreExplainedAsJudged}

pub records_by : (entries : List Entry) → records_of entries ≡ map (λ (n : Numbered). n.shown) (map numbered_of entries)
records_by [] = refl
records_by (e ∷ later) = ap (λ (rs : List ShownRecord). shown_of e.«record» ∷ rs) (records_by later)

module _ (config : Config) (wanted : Import) (packets : List Recorded) (segments : List Segment) (number : Option ℕ)
    (taken : AreTaken wanted.selection 0 packets segments) where
  pub by_packets : (named : Option ℕ) (verdict : VerdictValue) (found : Found) (remarks : List Remark)
      → (j : IsJudged config wanted packets segments number named verdict found remarks)
      → IsMadeOfPackets wanted number packets j.entries j.notes
  by_packets named verdict found remarks j = record { segments = segments; connection = j.connection; taken = taken; answered = j.chosen; made = j.made }

pub same_verdict : RecordingsAreMadeOnce → HasOneVerdict → RecordingsAreExplainedAsJudged
same_verdict once verdicts config wanted packets segments number named other verdict judged found beside more remarks others taken told also =
    let same = once wanted wanted number packets told.judged.entries also.entries told.judged.notes also.notes (record { selection = refl; within = refl })
    (by_packets config wanted packets segments number taken named verdict found remarks told.judged) (by_packets config wanted packets segments number taken other judged beside others also) in
    let records : records_of told.judged.entries ≡ records_of also.entries =
    records_by told.judged.entries ∙ ap (map (λ (n : Numbered). n.shown)) same.0 ∙ sym (records_by also.entries) in
    verdicts config (records_of also.entries) verdict judged (subst (λ (rs : List ShownRecord). HasVerdict config rs verdict) records told.judged.is) also.is
