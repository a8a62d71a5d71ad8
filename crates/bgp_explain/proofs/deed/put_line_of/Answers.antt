use Rattle.std.proofs.Common.{List, ℕ, subst, ap, ◌∙◌}
use Rattle.bgp_prefix.specs.Shown.{ShownRecord, second_of}
use Rattle.bgp_verdict_lines.specs.Lines.{PutsLines}
use Rattle.bgp_why.specs.Deed.{peer_of, record_line}
use Rattle.bgp_explain.specs.Deed.{IsDeedOn}
use Rattle.bgp_explain.specs.Lacked.{lacked_of}
use Rattle.bgp_explain.specs.Places.{places_of}
use Rattle.bgp_explain.proofs.LackedText.{same_cause}
use Rattle.bgp_explain.proofs.deed.put_line_of.Goals as goal

pub returns : goal.returns
returns g c =
    let session = c.args.session.now in
    let (deed, is, wrote) = c.put_record_line.ensures in
    let done = subst (λ (r : ShownRecord). IsDeedOn session (peer_of session) c.args.link r deed) c.as_record-shown.ensures is in
    let second = c.second_in.ensures ∙ ap second_of c.as_record-shown.ensures in
    let place = c.place_of-place.ensures ∙ ap (λ (s : ℕ). places_of c.args.places c.args.impossible.now.number s) second in
    let cause = same_cause c.args.style.now.own_faults c.args.possible.now c.args.lacks.now in
    (deed, done, subst (λ (t : List ℕ). PutsLines c.args.lines.now c.put_record_line.new.lines t) (λ i. record_line (place i) session.local deed (cause i)) wrote)
