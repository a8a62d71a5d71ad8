use Rattle.std.proofs.Common.{◌≡◌, ◌≢◌, ◌∙◌, ℕ, [], arith, inl, inr, refl, sym}
use Rattle.bgp_wire.specs.Header.{type_of}
use Rattle.bgp_wire.specs.Verdict.{type_code}
use Rattle.bgp_why.specs.Lacks.{IsWholeOf}
use Rattle.bgp_verdict_lines.proofs.Puts.{no_lines}
use Rattle.bgp_explain.proofs.WholeSent.{faulty_of, is_notification, not_of, whole_of}
use Rattle.bgp_explain.proofs.sent_line.put_octets.Goals as goal

pub returns-in-Faulty : goal.returns-in-Faulty
returns-in-Faulty g c =
    let octets = c.args.octets.now in
    let front = c.in-Some.ensures.some in
    let none = c.in-Faulty.ensures.verdict.0 in
    let four : ¬ IsWholeOf c.args.limit 4 octets = faulty_of c.args.limit octets _ c.requires.long c.requires.whole front 4 none in
    let three : ¬ IsWholeOf c.args.limit 3 octets = faulty_of c.args.limit octets _ c.requires.long c.requires.whole front 3 none in
    let (text, is, wrote) = c.put_words.ensures in
    (text, inr (inr (four, three, is)), wrote)

pub put_error-requires : goal.put_error-requires
put_error-requires g c =
    let (sound, count, kind) = c.in-Whole.ensures.verdict in
    let three = rw c.in-Notification.is at kind in
    is_notification c.args.limit c.args.octets.now _ c.requires.long c.requires.whole c.in-Some.ensures.some 3 sound three refl

pub returns-in-Notification : goal.returns-in-Notification
returns-in-Notification g c =
    let (sound, count, kind) = c.in-Whole.ensures.verdict in
    let three = rw c.in-Notification.is at kind in
    let (text, is, wrote) = c.put_error.ensures in
    (text, inr (inl (whole_of c.args.limit c.args.octets.now _ c.requires.long c.requires.whole c.in-Some.ensures.some 3 sound three, is)), wrote)

pub returns-in-Keepalive : goal.returns-in-Keepalive
returns-in-Keepalive g c =
    let (sound, count, kind) = c.in-Whole.ensures.verdict in
    let four = rw c.in-Keepalive.is at kind in
    ([], inl (whole_of c.args.limit c.args.octets.now _ c.requires.long c.requires.whole c.in-Some.ensures.some 4 sound four, refl), no_lines g.met.W.Sink.nothing c.args.lines.now)
