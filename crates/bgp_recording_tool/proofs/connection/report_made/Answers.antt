use Rattle.std.proofs.Common.{◌↔◌, IsTrue, ◌∙◌, List, ap, map, refl, subst, sym}
use Rattle.std.specs.List.{AllByRecursion}
use Rattle.bgp_prefix.specs.Shown.{ShownRecord}
use Rattle.mrt.specs.Reader.{shown_of}
use Rattle.bgp_judge.specs.Verdict.{HasVerdict, verdict_value}
use Rattle.bgp_recording.specs.Captured.{records_of}
use Rattle.bgp_recording.specs.declared.entry.Entry.{Entry}
use Rattle.bgp_parts.specs.Confederations.{SomeShowConfederations}
use Rattle.bgp_explain.specs.LeftOut.{JudgesWithout}
use Rattle.bgp_explain.specs.Records.{AreExplained, CanBeShown}
use Rattle.bgp_explain.proofs.NextRecord.{can_of, entries_can}
use Rattle.bgp_recording_tool.specs.Connections.{IsInstead, IsMadeVerdict, IsMoreOf}
use Rattle.bgp_recording_tool.specs.Found.{entries_of, found_of}
use Rattle.bgp_recording_tool.proofs.Judgings.{made_verdict_of}
use Rattle.bgp_recording_tool.proofs.connection.report_made.Goals as goal

pub put_searched-requires-clause-explained : goal.put_searched-requires-clause-explained
put_searched-requires-clause-explained g c =
    subst (λ (rs : List ShownRecord). AreExplained c.args.config.now rs c.in_ok-explained.explained)
    (ap (map shown_of) c.deref.ensures.value ∙ c.requires.records ∙ ap records_of (sym c.as_slice-entries.ensures.value)) c.in_ok-explained.ensures.explained

pub put_searched-requires-clause-can : goal.put_searched-requires-clause-can
put_searched-requires-clause-can g c =
    let config = c.args.config.now in
    let session = config.parts.session in
    let entries = c.as_slice-entries.result.now in
    let explained = c.in_ok-explained.explained in
    let are : AreExplained config (records_of entries) explained = put_searched-requires-clause-explained g c in
    can_of session config (records_of entries) explained.verdict explained.reason
    (entries_can session entries (subst (λ (es : List Entry). AllByRecursion (CanBeShown session) es) (sym c.as_slice-entries.ensures.value) c.requires.can))
    are.reason

pub put_searched-requires-clause-sought : goal.put_searched-requires-clause-sought
put_searched-requires-clause-sought g c = c.in_ok-searched.ensures.sought

pub returns : goal.returns
returns g c = λ packets segments taken holds tells_one.
    let config = c.args.config.now in
    let same = c.as_slice-entries.ensures.value in
    let verdict = verdict_value c.in_ok-explained.explained.verdict in
    let (more, is_more, wrote, tells) = c.put_searched.ensures in
    let records = c.requires.records in
    let is = subst (λ (rs : List ShownRecord). HasVerdict config rs verdict) (ap (map shown_of) c.deref.ensures.value ∙ records) c.in_ok-explained.ensures.explained.verdict in
    let is_made = made_verdict_of config c.args.import.now packets segments c.args.number c.args.made.now verdict tells_one is in
    record {
      verdict = verdict;
      found = found_of c.in_ok-searched.searched;
      others = entries_of c.in_ok-searched.searched;
      more = more;
      is = is;
      is_found = c.in_ok-searched.ensures.found packets segments taken holds
          (subst (λ (es : List Entry). IsMadeVerdict config c.args.import.now packets segments c.args.number es verdict) (sym same) is_made);
      is_more = subst (λ (es : List Entry). IsMoreOf c.args.report config es (entries_of c.in_ok-searched.searched) verdict (found_of c.in_ok-searched.searched) more) same is_more;
      instead = subst (λ (es : List Entry). IsInstead config c.args.import.now packets segments c.args.report c.args.number es verdict (found_of c.in_ok-searched.searched)) same
          (c.in_ok-searched.ensures.instead packets segments taken holds);
      wrote = wrote;
      confederation = c.some_show_confederations-confederation.result;
      shows = subst (λ (rs : List ShownRecord). IsTrue c.some_show_confederations-confederation.result ↔ SomeShowConfederations rs) (ap (map shown_of) c.deref-2.ensures.value ∙ records)
          c.some_show_confederations-confederation.ensures;
      left_out = c.in_ok-explained.explained.left_out;
      leaves_out = subst (λ (rs : List ShownRecord). JudgesWithout config rs c.in_ok-explained.explained.left_out) (ap (map shown_of) c.deref.ensures.value ∙ records) c.in_ok-explained.ensures.explained.left_out;
      added = record { own = _; added = c.in_ok-add_remarks_on.ensures.ok; is_told = refl };
      tells = tells;
    }
