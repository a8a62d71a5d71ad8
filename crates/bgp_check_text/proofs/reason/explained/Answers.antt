use Rattle.std.proofs.Common.{◌∙◌, Bool, ℕ, Option, ap, map, subst}
use Rattle.mrt.specs.Reader.{shown_of}
use Rattle.bgp_explain.specs.KeptLines.{kept_text}
use Rattle.bgp_explain.specs.Places.{places_of}
use Rattle.bgp_why.specs.declared.style.Style.{Style}
use Rattle.bgp_check_text.specs.Reason.{IsSaid, are_shown, style_of}
use Rattle.bgp_check_text.proofs.reason.explained.Goals as goal

pub returns : goal.returns
returns g c = λ session verdict under holds are_faults.
    let asking = c.args.asking.now in
    let judged = c.args.judged.now in
    let records = map shown_of c.args.records.now in
    let deed = c.in_ok-said_of.field-0.deed.items in
    let lines = kept_text c.in_ok-said_of.field-0.lines in
    let styled = c.style_of.ensures ∙ ap (λ (b : Bool). style_of asking.first b judged.peer_as c.args.own_faults asking.instead) c.are_shown.ensures in
    let said = subst (λ (style : Style). IsSaid judged.under style asking.sent asking.peer c.another_of.result (places_of asking.places) records verdict deed lines)
    styled (c.in_ok-said_of.ensures verdict holds) in
    record {
      under = under;
      holds = holds;
      faults = c.args.own_faults;
      are_faults = are_faults;
      is_said = subst (λ (another : Option ℕ). IsSaid judged.under (style_of asking.first (are_shown asking.places) judged.peer_as c.args.own_faults asking.instead) asking.sent asking.peer another (places_of asking.places)
          records verdict deed lines)
          c.another_of.ensures said;
    }
