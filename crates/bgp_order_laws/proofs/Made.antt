-- The verdict on the order that is made is one.
use Rattle.std.proofs.Common.{◌≡◌, ◌∙◌, ℕ, List, Option, map, refl, sym, ap, subst}
use Rattle.packets.specs.Packet.{Recorded}
use Rattle.streams.specs.Passed.{Segment}
use Rattle.bgp_prefix.specs.Shown.{ShownRecord}
use Rattle.bgp_open.specs.declared.config.Config.{Config}
use Rattle.bgp_judge.specs.Verdict.{HasOneVerdict, HasVerdict, VerdictValue}
use Rattle.bgp_recording.specs.Captured.{records_of}
use Rattle.bgp_recording.specs.Tells.{Numbered}
use Rattle.bgp_recording.specs.declared.entry.Entry.{Entry}
use Rattle.bgp_import.specs.Once.{IsMadeOfPackets, RecordingsAreMadeOnce}
use Rattle.bgp_import.specs.Selecting.{AreTaken}
use Rattle.bgp_import.specs.declared.importing.Import.{Import}
use Rattle.bgp_recording_tool.specs.Connections.{IsMadeVerdict}
use Rattle.bgp_recording_tool.specs.Headline.{BeginsWith}
use Rattle.bgp_recording_tool.specs.Told.{value_status, value_text}
use Rattle.bgp_recording_tool.proofs.SameVerdict.{records_by}
use Rattle.bgp_order_laws.specs.OneAnswer.{PrintsOneMadeVerdict}

module _ (config : Config) (wanted : Import) (packets : List Recorded) (segments : List Segment) (number : Option ℕ) (taken : AreTaken wanted.selection 0 packets segments) where
  of_packets : (entries : List Entry) (verdict : VerdictValue) → (made : IsMadeVerdict config wanted packets segments number entries verdict)
      → IsMadeOfPackets wanted number packets entries made.notes
  of_packets entries verdict made = record { segments = segments; connection = made.connection; taken = taken; answered = made.chosen; made = made.made }

  same_made : RecordingsAreMadeOnce → HasOneVerdict → (entries others : List Entry) (verdict judged : VerdictValue) → IsMadeVerdict config wanted packets segments number entries verdict
      → IsMadeVerdict config wanted packets segments number others judged → verdict ≡ judged
  same_made once single entries others verdict judged made also =
      let same = once wanted wanted number packets entries others made.notes also.notes (record { selection = refl; within = refl }) (of_packets entries verdict made) (of_packets others judged also) in
      let records : records_of entries ≡ records_of others =
      records_by entries ∙ ap (λ (ns : List Numbered). map (λ (n : Numbered). n.shown) ns) same.0 ∙ sym (records_by others) in
      single config (records_of others) verdict judged (subst (λ (rs : List ShownRecord). HasVerdict config rs verdict) records made.is) also.is

pub one_made : RecordingsAreMadeOnce → HasOneVerdict → PrintsOneMadeVerdict
one_made once single config wanted packets segments number text printed status code taken (verdict, is, one, begins) (judged, also, other, too) =
    let same = same_made config wanted packets segments number taken once single one.entries other.entries verdict judged one.made other.made in
    (verdict, begins, subst (λ (v : VerdictValue). BeginsWith (value_text v) (value_status v) printed code) (sym same) too)
