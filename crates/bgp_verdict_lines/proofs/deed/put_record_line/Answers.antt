use Rattle.std.proofs.Common.{subst}
use Rattle.bgp_open.specs.declared.route_form.RouteForm.{RouteForm}
use Rattle.mrt.specs.Reader.{shown_of}
use Rattle.bgp_why.specs.Deed.{IsDeed, cause_text, peer_of}
use Rattle.bgp_verdict_lines.proofs.Puts.{in_json, in_text}
use Rattle.bgp_verdict_lines.proofs.deed.put_record_line.Goals as goal

pub returns-in-Text : goal.returns-in-Text
returns-in-Text g c =
    let (deed, is, wrote) = c.put_record_line.ensures in
    (deed, is, in_text c.args.lines.now _ _ c.in-Text.is wrote)

pub returns-in-Json : goal.returns-in-Json
returns-in-Json g c =
    let (deed, is, said) = c.deed_text-text.ensures in
    let session = c.args.session.now in (
      deed,
      subst (λ (f : RouteForm). IsDeed session (peer_of session) f (shown_of c.args.shown.now) deed) c.form_on-form.ensures is,
      in_json c.args.lines.now _ _ _ _ c.in-Json.is
          (c.tell_record.ensures deed (cause_text c.args.style.now.own_faults c.args.possible.now c.args.lacks.now) said),
    )
