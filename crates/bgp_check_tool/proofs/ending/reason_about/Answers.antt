use Rattle.std.proofs.Common.{◌≡◌, ◌∙◌, true, ℕ, List, Option, ap, map, subst, sym}
use Rattle.bgp_prefix.specs.Shown.{ShownRecord}
use Rattle.mrt.specs.Reader.{shown_of}
use Rattle.bgp_judge.specs.Verdict.{HasVerdict, verdict_value}
use Rattle.bgp_parts.specs.Opens.{HasOwnOpen}
use Rattle.bgp_check.specs.Answered.{IsWidestFor, number_of}
use Rattle.bgp_check_lines.specs.CheckTextReason.{IsReasonTo, lines_text}
use Rattle.bgp_check_lines.specs.Places.{shown_places}
use Rattle.bgp_recording.specs.Captured.{records_of}
use Rattle.bgp_recording.specs.declared.entry.Entry.{Entry}
use Rattle.bgp_why.specs.declared.endpoint.Endpoint.{Endpoint}
use Rattle.bgp_check_tool.specs.About.{judged_value}
use Rattle.bgp_check_tool.specs.Place.{second_at}
use Rattle.bgp_check_tool.specs.Told.{peer_end}
use Rattle.bgp_check_tool.proofs.ending.reason_about.Goals as goal

pub reason_under-requires-clause-number : goal.reason_under-requires-clause-number
reason_under-requires-clause-number g c =
    subst (λ (rs : List ShownRecord). (own : Option (List ℕ)) → HasOwnOpen rs own → c.args.about.now.as_number ≡ number_of own) (sym (ap (map shown_of) c.as_slice-records.ensures.value ∙ c.requires.records))
    c.requires.number

pub reason_under-requires-clause-holds : goal.reason_under-requires-clause-holds
reason_under-requires-clause-holds g c =
    subst (λ (rs : List ShownRecord). HasVerdict c.args.about.now.under rs (verdict_value c.args.about.now.verdict)) (sym (ap (map shown_of) c.as_slice-records.ensures.value ∙ c.requires.records)) c.requires.holds

pub returns : goal.returns
returns g c = λ widest.
    let session = c.args.viewed.now.session in
    let about = c.args.about.now in
    let answer = judged_value about in
    let limit = c.args.framings.sent.limit in
    let entries = c.args.recording.now.entries.items in
    let deed = c.in_ok-reason.reason.deed.items in
    let lines = lines_text c.in_ok-reason.reason in
    let same : map shown_of c.as_slice-records.result.now ≡ records_of entries = ap (map shown_of) c.as_slice-records.ensures.value ∙ c.requires.records in
    let raw = c.in_ok-reason.ensures session (subst (λ (rs : List ShownRecord). IsWidestFor session rs about.peer_as about.under) (sym same) widest) in
    let placed = subst (λ (es : List Entry). IsReasonTo session limit c.second_at-first.result true c.peer_end-peer.result (shown_places es) c.args.instead (map shown_of c.as_slice-records.result.now) answer deed lines)
    c.as_slice-entries.ensures.value raw in
    let timed = subst (λ (n : ℕ). IsReasonTo session limit n true c.peer_end-peer.result (shown_places entries) c.args.instead (map shown_of c.as_slice-records.result.now) answer deed lines)
    (c.second_at-first.ensures ∙ ap (λ (es : List Entry). second_at es 0) c.as_slice-entries.ensures.value) placed in
    let to_peer = subst (λ (p : Endpoint). IsReasonTo session limit (second_at entries 0) true p (shown_places entries) c.args.instead (map shown_of c.as_slice-records.result.now) answer deed lines) c.peer_end-peer.ensures timed in
    subst (λ (rs : List ShownRecord). IsReasonTo session limit (second_at entries 0) true (peer_end session c.args.viewed.now.connection) (shown_places entries) c.args.instead rs answer deed lines) same to_peer
