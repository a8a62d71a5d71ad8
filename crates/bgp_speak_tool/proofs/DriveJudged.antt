-- What a speaker's core shows is judged yes.
use Rattle.std.proofs.Common.{◌≡◌, ◌+◌, ℕ, List, inl, inr, drop, take, sym, subst, refl}
use Rattle.std.proofs.lemmas.List.{take-append-drop}
use Rattle.bgp_prefix.specs.Shown.{ShownRecord}
use Rattle.bgp_open.specs.declared.config.Config.{Config}
use Rattle.bgp_machine.specs.Run.{Begins, End, IsComplete, Run, end_of}
use Rattle.bgp_machine.specs.State.{fresh_state}
use Rattle.mrt.specs.Capture.{Spells}
use Rattle.mrt.specs.CaptureLaws.{CapturesReadBack, NeverBoth, OneSpelling}
use Rattle.bgp_speaker.specs.Core.{fresh_core}
use Rattle.bgp_speaker.specs.Driven.{EachDriveIsComplete}
use Rattle.bgp_speaker.specs.Written.{EachRecordCanBeWritten, SecondsStayInOrder}
use Rattle.bgp_speak_tool.specs.Driven.{DrivesAreJudgedYes, DrivesAreNotRefused, DrivesSpellTheirRecords, IsYesWith}
use Rattle.bgp_tool.specs.Judging.{SaysVerdict}

-- each front of the records of a run begins one
begins : (config : Config) (records : List ShownRecord) (end : End) (count : ℕ) → IsComplete config records end → Begins config (take count records)
begins config records end count complete = (
  drop count records,
  complete.0,
  subst (λ (r : List ShownRecord). Run config fresh_state r complete.0) (sym (take-append-drop count records)) complete.1,
)

judged_yes : (config : Config) (records : List ShownRecord) (end : End) (text : List ℕ) (status : ℕ) → IsComplete config records end
    → SaysVerdict config records text status → IsYesWith config records end text status
judged_yes config records end text status complete (inl says) = record {
  ends = says.ends;
  lists = says.lists;
  among = says.lists.every end complete;
  prints = says.prints;
  tells = says.tells;
}
judged_yes config records end text status complete (inr (inl denies)) =
    absurd (denies.behind (begins config records end (denies.count + 1) complete))
judged_yes config records end text status complete (inr (inr unfinished)) = absurd (unfinished.none end complete)

pub drives_spell : CapturesReadBack → EachRecordCanBeWritten → SecondsStayInOrder → DrivesSpellTheirRecords
drives_spell reads written seconds speaker inputs e octets capture =
    let session = speaker.config.parts.session in
    subst (λ (o : List ℕ). Spells speaker.config.parts.session o capture.records) (sym capture.written)
    (reads session capture.peer_as capture.local_as capture.records
    (written session speaker e inputs capture.records capture.takes refl capture.seconds capture.drives)
    (seconds (fresh_core speaker) e inputs capture.records capture.drives))

pub not_refused : DrivesSpellTheirRecords → NeverBoth → DrivesAreNotRefused
not_refused spells never speaker inputs e octets records kind offset capture =
    never speaker.config.parts.session octets capture.records records kind offset (spells speaker inputs e octets capture)

pub drives_judged : DrivesSpellTheirRecords → OneSpelling → EachDriveIsComplete → DrivesAreJudgedYes
drives_judged spells one complete speaker inputs e octets records text status capture spelled says =
    let same : capture.records ≡ records =
    one speaker.config.parts.session octets capture.records records (spells speaker inputs e octets capture) spelled in
    judged_yes speaker.config records (end_of e.moment.session) text status
    (subst (λ (r : List ShownRecord). IsComplete speaker.config r (end_of e.moment.session)) same
    (complete speaker e inputs capture.records capture.drives)) says
