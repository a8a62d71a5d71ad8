use Rattle.std.proofs.Common.{rules, IsTrue}
use Rattle.bgp_parts.proofs.PossibleNotifications.{like, resemble_none}
use Rattle.bgp_parts.specs.NotificationWords.{IsOfCode}
use Rattle.bgp_parts.proofs.notification.notification_parts.Goals as goal

pub returns-then-not-is_of_code-clause-none : goal.returns-then-not-is_of_code-clause-none
returns-then-not-is_of_code-clause-none c =
    let none : ¬ IsOfCode c.args.possible.now c.in-Some.notification.code = search rules in
    resemble_none c.args.possible.now c.args.octets.now _ _ _ c.in-Some.ensures.some none

pub returns-clause-some : goal.returns-clause-some
returns-clause-some c =
    let has : IsTrue c.is_of_code.result = search rules in
    record {
      code = c.in-Some.notification.code;
      subcode = c.in-Some.notification.subcode;
      detail = c.in-Some.notification.detail.now;
      is = c.in-Some.ensures.some;
      like = like c.args.possible.now c.in-Some.notification.code (c.is_of_code.ensures.0 has);
      part = c.part_of.ensures;
      second_part = c.second_part.ensures;
    }
