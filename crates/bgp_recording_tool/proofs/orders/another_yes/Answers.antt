use Rattle.std.proofs.Common.{◌≡◌, ◌∙◌, List, ap, map, subst}
use Rattle.bgp_prefix.specs.Shown.{ShownRecord}
use Rattle.mrt.specs.Reader.{shown_of}
use Rattle.bgp_judge.specs.Verdict.{VerdictValue, HasVerdict, verdict_value}
use Rattle.bgp_recording.specs.Captured.{records_of}
use Rattle.bgp_recording.specs.Gathered.{IsClocked}
use Rattle.bgp_orders.specs.Explained.{ShowARun}
use Rattle.bgp_orders.specs.WholeWays.{AreOfAWayOver}
use Rattle.bgp_explain.specs.Records.{AreExplained}
use Rattle.bgp_recording_tool.proofs.MadeOverAll.{shown_yes}
use Rattle.bgp_recording_tool.proofs.Searchings.{some_is}
use Rattle.bgp_recording_tool.proofs.orders.another_yes.Goals as goal

pub returns-clause-explained : goal.returns-clause-explained
returns-clause-explained g c =
    let config = c.args.config.now in
    let recording = c.in-Some.recording in
    let verdict = verdict_value c.in_ok-explained.explained.verdict in
    let records = some_is c.in_ok-recording.field-0 recording (λ made. map shown_of made.records.items ≡ records_of made.entries.items) c.in-Some.is
    c.in_ok-recording.ensures.records in
    let show = some_is c.in_ok-recording.field-0 recording (λ made. ShowARun config (map shown_of made.records.items)) c.in-Some.is c.in_ok-recording.ensures.run in (
      subst (λ (rs : List ShownRecord). AreExplained config rs c.in_ok-explained.explained) (ap (map shown_of) c.deref.ensures.value ∙ records) c.in_ok-explained.ensures.explained,
      shown_yes config (map shown_of recording.records.items) verdict show
          (subst (λ (rs : List ShownRecord). HasVerdict config rs verdict) (ap (map shown_of) c.deref.ensures.value) c.in_ok-explained.ensures.explained.verdict),
    )

pub returns-clause-yes : goal.returns-clause-yes
returns-clause-yes g c = λ clocked.
    let config = c.args.config.now in
    let recording = c.in-Some.recording in
    let verdict = verdict_value c.in_ok-explained.explained.verdict in
    let explained = returns-clause-explained g c in
    record {
      received = recording.received;
      sent = recording.sent;
      of = some_is c.in_ok-recording.field-0 recording
          (λ made. IsClocked c.args.connection.now → AreOfAWayOver c.args.framings c.args.within c.args.connection.now made.entries.items made.received made.sent) c.in-Some.is
          c.in_ok-recording.ensures.way clocked;
      is = subst (λ (v : VerdictValue). HasVerdict config (records_of recording.entries.items) v) explained.1 explained.0.verdict;
    }
