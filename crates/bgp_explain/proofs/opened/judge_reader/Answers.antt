use Rattle.std.proofs.Common.{◌↔◌, IsTrue, sym, ◌≡◌, ◌∙◌, ◌++◌, ◌⊎◌, ◌+◌, ◌≤◌, ◌<◌, ◌==◌, List, ℕ, Bool, Option, ap, subst, arith, inl, inr, is_some, Some}
use Rattle.mrt.specs.Capture.{joined, records_of}
use Rattle.mrt.specs.FromRead.{ReaderState, reader_state, fresh_reader, Gives}
use Rattle.mrt.specs.FromWrite.{writer_state, Takes}
use Rattle.mrt.specs.declared.fault.CaptureFault.{CaptureFault}
use Rattle.mrt.specs.declared.source.FromRead.{FromRead}
use Rattle.bgp_tool.specs.Front.{kept, no_capture}
use Rattle.bgp_tool.specs.Judging.{fault_answered}
use Rattle.bgp_tool.specs.OpenedCapture.{TellsCapture, told_by}
use Rattle.bgp_tool.specs.Seen.{lacking_by, lacking_in}
use Rattle.bgp_tool.specs.declared.front.WithFront.{WithFront}
use Rattle.bgp_tool.specs.declared.note.CaptureCommand.TheVariants.{Judge}
use Rattle.bgp_tool.specs.declared.seen.Seen.{Seen}
use Rattle.bgp_tool.proofs.ToldCapture.{of_writer, of_reader}
use Rattle.bgp_explain.specs.declared.left_out.LeftOut.{LeftOut}
use Rattle.bgp_explain.specs.LeftOut.{IsLeftOutBy}
use Rattle.bgp_verdict_lines.proofs.Printed.{code_in, counted_in, viewed_in}
use Rattle.bgp_explain.specs.Opened.{IsOfConfederation, ReportsOpened, confederation_in, fault_told, left_out_in}
use Rattle.bgp_explain.specs.Written.{WritesReport}
use Rattle.bgp_explain.specs.declared.report.Report.{Report}
use Rattle.bgp_explain.specs.declared.report.Report.TheVariants.{VerdictAlone, WithReason}
use Rattle.bgp_explain.proofs.Reported.{JudgedOf, judges_read}
use Rattle.bgp_explain.proofs.Telling.{ToldOf, can_be_put, explains_read}
use Rattle.bgp_explain.proofs.opened.judge_reader.Goals.{then-failures, else-failures}
use Rattle.bgp_explain.proofs.opened.judge_reader.Goals as goal

pub write_report-status-requires-clause-can : goal.write_report-status-requires-clause-can
write_report-status-requires-clause-can g c =
    can_be_put _ _ c.args.config.now c.new-source.result c.explain_with-explained.new.source g.T.Tracker.may_lack c.explain_with-explained.new.reader
    c.explain_with-explained.result c.explain_with-explained.ensures.explained

pub returns-clause-reported : goal.returns-clause-reported
returns-clause-reported g c =
    let file = c.args.file in
    let config = c.args.config.now in
    let first = c.new-source.result in
    let seen = c.explain_with-explained.new.source in
    let last = reader_state seen.source in
    let found = c.explain_with-explained.new.reader in
    let old = writer_state c.args.sink.now in
    let new = writer_state c.write_report-status.new.sink in
    let status = c.write_report-status.result in
    let explained = c.explain_with-explained.result in
    let shows = explained.totals.seen in
    let flag = c.is_of_confederation-confederation.result in
    let left = c.left_out_of-left_out.result in
    let fresh : reader_state first.source ≡ fresh_reader c.args.reader =
    ap reader_state c.new-source.ensures.source ∙ c.new.ensures in
    let refused = c.refused_by-refused.result in
    let notes : (octets : List ℕ) (fault : Option CaptureFault) (lacking : Option Seen) (code : ℕ) → seen.front.items ≡ kept octets → refused ≡ fault
    → lacking_by (code == 0) shows ≡ lacking → (new.failures ≡ old.failures) ⊎ (status ≡ 5) → (new.failures ≤ old.failures → status < 4 → status ≡ code)
    → TellsCapture Judge file last octets found fault lacking old new status c.if-failures.note =
    λ octets fault lacking code front is lack counted own. elim c.if-failures.branch [
      | then-failures w ↦ rw w.note-is (of_writer Judge file last octets found fault lacking old new status w.unwritten-note.result
          counted (omega (arith, w.if-failures.true, c.failures.ensures, c.failures-failures.ensures)) w.unwritten-note.ensures)
      | else-failures w ↦ rw w.note-is (of_reader Judge file last octets found fault lacking old new status w.note_of-note.result
          (omega (arith, w.if-failures.false, c.failures.ensures, c.failures-failures.ensures))
          (λ less. w.note_of-note.ensures.read less
          ∙ ap (λ l. told_by Judge file (is_some found.last) (no_capture seen.front.items) refused l found.others) w.lacking-lacking.ensures
          ∙ ap (λ (o : List ℕ). told_by Judge file (is_some found.last) (no_capture o) refused (lacking_by (status == 0) shows) found.others) front
          ∙ ap (λ f. told_by Judge file (is_some found.last) (no_capture (kept octets)) f (lacking_by (status == 0) shows) found.others) is
          ∙ ap (λ l. told_by Judge file (is_some found.last) (no_capture (kept octets)) fault l found.others)
          (ap (λ (n : ℕ). lacking_by (n == 0) shows) (own (omega (arith, w.if-failures.false, c.failures.ensures, c.failures-failures.ensures)) less) ∙ lack))
          w.note_of-note.ensures.memory w.note_of-note.ensures.reader)
    ] in
    let skips = ap Some c.skipped-skipped.ensures in
    let by_report : (r : Report) → WritesReport c.args.form (λ a b. Takes g.W.Write.contents (writer_state a) (writer_state b)) (λ a. (writer_state a).failures) config explained c.args.sink.now c.write_report-status.new.sink status r
    → ReportsOpened c.args.form g.R.Read.remaining g.W.Write.contents config g.T.Tracker.may_lack file c.args.reader old new
    (record { outcome = record { status = status; skipped = Some c.skipped-skipped.result; note = c.if-failures.note }; confederation = flag; left_out = left }) r =
    λ r. elim r as (λ (k : Report). WritesReport c.args.form (λ a b. Takes g.W.Write.contents (writer_state a) (writer_state b)) (λ a. (writer_state a).failures) config explained c.args.sink.now c.write_report-status.new.sink status k
    → ReportsOpened c.args.form g.R.Read.remaining g.W.Write.contents config g.T.Tracker.may_lack file c.args.reader old new
    (record { outcome = record { status = status; skipped = Some c.skipped-skipped.result; note = c.if-failures.note }; confederation = flag; left_out = left }) k) [
      | VerdictAlone ↦ λ wrote.
          let told = subst
          (λ (s : ReaderState _). JudgedOf c.args.form (Takes g.W.Write.contents) (λ state. state.failures) (Gives g.R.Read.remaining) (λ state. state.has_ended)
          (λ state. state.failures) config s last g.T.Tracker.may_lack old new found status seen.front.items refused shows (confederation_in explained.answer explained.totals) (left_out_in explained.answer explained.totals))
          fresh
          (judges_read (λ (a : WithFront (FromRead _)). reader_state a.source) c.args.form (Takes g.W.Write.contents) (λ state. state.failures) (Gives g.R.Read.remaining)
          (λ state. state.has_ended) (λ state. state.failures) config first seen g.T.Tracker.may_lack old new (λ (a : WithFront (FromRead _)). a.front.items) found
          explained status refused c.new-source.ensures.front c.explain_with-explained.ensures.explained c.explain_with-explained.ensures.failures
          (viewed_in writer_state (Takes g.W.Write.contents) (λ state. state.failures) _ _ _ _ _ c.args.form wrote) c.refused_by-refused.ensures) in record {
            opened = record {
              source = last;
              found = found;
              judged = told.read;
              ends = told.ends;
              told = notes (joined told.read.pieces ++ told.read.rest) (fault_answered told.read.holds.answer) (lacking_in told.read.holds.code (records_of told.read.pieces))
                  told.read.holds.code told.front told.fault told.lacking (counted_in _ _ told.read.holds.text told.read.holds.code _ _ status c.args.form told.read.holds.wrote)
                  (code_in _ _ told.read.holds.text told.read.holds.code _ _ status c.args.form told.read.holds.wrote);
              skipped = skips;
            };
            confederation = subst (λ (b : Bool). IsTrue b ↔ IsOfConfederation told.read.holds.code (records_of told.read.pieces)) (sym c.is_of_confederation-confederation.ensures) told.is_of_one;
            left_out = subst (λ (l : LeftOut). IsLeftOutBy config told.read.holds.code (records_of told.read.pieces) l) (sym c.left_out_of-left_out.ensures) told.is_left_out;
          }
      | WithReason ↦ λ (text, detailed, said, wrote).
          let told = subst
          (λ (s : ReaderState _). ToldOf c.args.form (Takes g.W.Write.contents) (λ state. state.failures) (Gives g.R.Read.remaining) (λ state. state.has_ended)
          (λ state. state.failures) config s last g.T.Tracker.may_lack old new found status seen.front.items refused shows (confederation_in explained.answer explained.totals) (left_out_in explained.answer explained.totals))
          fresh
          (explains_read (λ (a : WithFront (FromRead _)). reader_state a.source) c.args.form (Takes g.W.Write.contents) (λ state. state.failures) (Gives g.R.Read.remaining)
          (λ state. state.has_ended) (λ state. state.failures) config first seen g.T.Tracker.may_lack old new (λ (a : WithFront (FromRead _)). a.front.items) found
          explained status refused c.new-source.ensures.front c.explain_with-explained.ensures.explained c.explain_with-explained.ensures.failures
          (text, detailed, said, viewed_in writer_state (Takes g.W.Write.contents) (λ state. state.failures) _ _ _ _ _ c.args.form wrote) c.refused_by-refused.ensures) in record {
            opened = record {
              source = last;
              found = found;
              explained = told.read;
              ends = told.ends;
              told = notes (joined told.read.pieces ++ told.read.rest) (fault_told told.read.holds.answer) (lacking_in told.read.holds.code (records_of told.read.pieces))
                  told.read.holds.code told.front told.fault told.lacking (counted_in _ _ told.read.holds.text told.read.holds.code _ _ status c.args.form told.read.holds.wrote)
                  (code_in _ _ told.read.holds.text told.read.holds.code _ _ status c.args.form told.read.holds.wrote);
              skipped = skips;
            };
            confederation = subst (λ (b : Bool). IsTrue b ↔ IsOfConfederation told.read.holds.code (records_of told.read.pieces)) (sym c.is_of_confederation-confederation.ensures) told.is_of_one;
            left_out = subst (λ (l : LeftOut). IsLeftOutBy config told.read.holds.code (records_of told.read.pieces) l) (sym c.left_out_of-left_out.ensures) told.is_left_out;
          }
    ] in
    by_report c.args.report c.write_report-status.ensures.writes
