use Rattle.std.proofs.Common.{◌≡◌, ◌∙◌, true, false, Some, ap, inr, refl, subst, sym}
use Rattle.streams.specs.declared.passed.Side.{Side}
use Rattle.bgp_import.specs.Octets.{octets_from}
use Rattle.bgp_import.specs.ListText.{other_side}
use Rattle.bgp_check_lines.specs.DeclaredAsked.{Asked}
use Rattle.bgp_ended.specs.Outline.{IsOutlineOf}
use Rattle.bgp_ended.specs.Values.{OutlineValue}
use Rattle.bgp_check_tool.specs.Told.{IsEndTold, told_value}
use Rattle.streams.specs.Connections.{numbered}
use Rattle.bgp_import.proofs.Telling.{are_covered, is_clocked}
use Rattle.bgp_check_tool.proofs.connection.check_connection.Goals as goal

false_true : false ≡ true → ⊥
false_true e = cc

pub check_both-requires-clause-received : goal.check_both-requires-clause-received
check_both-requires-clause-received g c = let h = c.requires in
    (are_covered (Some c.args.opening.number) c.args.between.now.last_packet (numbered h.segments) c.in-Ok.connection (c.in-Ok.ensures h.segments h.holds)).0

pub check_both-requires-clause-sent : goal.check_both-requires-clause-sent
check_both-requires-clause-sent g c = let h = c.requires in
    (are_covered (Some c.args.opening.number) c.args.between.now.last_packet (numbered h.segments) c.in-Ok.connection (c.in-Ok.ensures h.segments h.holds)).1

pub returns-in-Ok-check_both : goal.returns-in-Ok-check_both
returns-in-Ok-check_both g c = λ segments holds order.
    let chosen = c.in-Ok.ensures segments holds in
    let clock = is_clocked segments (Some c.args.opening.number) c.args.between.now.last_packet c.in-Ok.connection order chosen in
    let is = c.in-Ok-check_both.ensures in
    let both = c.in-Ok-check_both.both in
    let options = c.args.between.now.options in
    let session = c.args.between.now.session in
    let from = c.args.opening.opened_by in (
      refl,
      refl,
      record {
        connection = c.in-Ok.connection;
        chosen = chosen;
        are_two = λ one. false_true (sym c.if-are_one.false ∙ c.are_one.ensures.1 one);
        is_outline = subst (λ (o : OutlineValue). IsOutlineOf c.in-Ok.connection o) (sym is.outline) c.in-Ok-outline_of.ensures;
        is_first = is.opener_octets;
        is_second = is.other_octets;
        is_opener = subst (λ (a : Asked). IsEndTold options a session c.args.opening c.in-Ok.connection from (told_value both.opener))
            (c.asked_both-asked.ensures.opener segments holds) (is.opener clock);
        is_other = subst (λ (a : Asked). IsEndTold options a session c.args.opening c.in-Ok.connection (other_side from) (told_value both.other))
            (c.asked_both-asked.ensures.other segments holds) (is.other clock);
      },
    )

pub returns-in-Err-check_both : goal.returns-in-Err-check_both
returns-in-Err-check_both g c = λ segments holds order.
    (refl, refl, inr (record { connection = c.in-Ok.connection; chosen = c.in-Ok.ensures segments holds; is = refl }))

pub returns-then-are_one : goal.returns-then-are_one
returns-then-are_one g c = λ segments holds order. (
  refl,
  refl,
  record {
    connection = c.in-Ok.connection;
    chosen = c.in-Ok.ensures segments holds;
    are_one = c.are_one.ensures.0 c.if-are_one.true;
    is_outline = c.in-Ok-outline_of.ensures;
    is_first = c.octets_from.ensures;
    is_second = c.octets_from-then-are_one.ensures ∙ ap (λ (s : Side). octets_from s c.in-Ok.connection) c.other_side.ensures;
  },
)
