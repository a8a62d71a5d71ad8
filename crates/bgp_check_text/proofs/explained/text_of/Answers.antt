use Rattle.std.proofs.Common.{map, subst, sym}
use Rattle.bgp_prefix.specs.declared.session.Session.{Session}
use Rattle.mrt.specs.Reader.{shown_of}
use Rattle.bgp_judge.specs.Verdict.{VerdictValue, verdict_value}
use Rattle.bgp_explain.specs.KeptLines.{kept_text}
use Rattle.bgp_explain.specs.Places.{places_of}
use Rattle.bgp_explain.specs.Text.{CanBePutOf}
use Rattle.bgp_check_text.specs.Reason.{SaysSo}
use Rattle.bgp_check_text.specs.Shown.{session_at}
use Rattle.bgp_check_text.proofs.AtRecord.{can_be_put}
use Rattle.bgp_check_text.proofs.Captured.{are_captured}
use Rattle.bgp_check_text.proofs.explained.text_of.Goals as goal

pub deed_of-requires : goal.deed_of-requires
deed_of-requires g c =
    let config = c.args.config.now in
    let records = map shown_of c.args.records.now in
    let explained = c.in_ok-explained.explained in
    subst (λ (s : Session). CanBePutOf s explained.reason) (sym c.session_at-session.ensures)
    (can_be_put config.parts.session c.args.telling.now.sent config records c.requires explained.verdict explained.reason c.in_ok-explained.ensures.explained.reason)

pub keep_lines_of-requires-clause-can : goal.keep_lines_of-requires-clause-can
keep_lines_of-requires-clause-can g c =
    let config = c.args.config.now in
    let records = map shown_of c.args.records.now in
    let explained = c.in_ok-explained.explained in
    subst (λ (s : Session). CanBePutOf s explained.reason) (sym c.session_at-session.ensures)
    (can_be_put config.parts.session c.args.telling.now.sent config records c.requires explained.verdict explained.reason c.in_ok-explained.ensures.explained.reason)

pub keep_lines_of-requires-clause-captured : goal.keep_lines_of-requires-clause-captured
keep_lines_of-requires-clause-captured g c =
    let config = c.args.config.now in
    let records = map shown_of c.args.records.now in
    (records, c.in_ok-explained.ensures.explained, are_captured config c.args.telling.now.sent records c.requires)

pub returns : goal.returns
returns g c = λ verdict holds.
    let config = c.args.config.now in
    let session = config.parts.session in
    let telling = c.args.telling.now in
    let places = places_of telling.places in
    let records = map shown_of c.args.records.now in
    let explained = c.in_ok-explained.explained in
    let are = c.in_ok-explained.ensures.explained in
    let deed = c.in_ok-deed_of.field-0.items in
    let lines = kept_text c.in_ok-keep_lines_of.field-0 in
    let same = c.records_have_just_one_verdict.ensures.one config records (verdict_value explained.verdict) verdict are.verdict holds in
    let at = subst (λ (s : Session). SaysSo config telling.style s telling.peer telling.another places records (verdict_value explained.verdict) deed lines)
    c.session_at-session.ensures (c.in_ok-deed_of.ensures records are, c.in_ok-keep_lines_of.ensures records are) in
    subst (λ (v : VerdictValue). SaysSo config telling.style (session_at session telling.sent records v) telling.peer telling.another places records v deed lines) same at
