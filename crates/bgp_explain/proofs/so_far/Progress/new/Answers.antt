use Rattle.std.proofs.Common.{[], None, Option, Some, ap, refl, rules, ◌∙◌}
use Rattle.bgp_reason.specs.declared.told.Told.{Told}
use Rattle.bgp_explain.specs.declared.fractions.Names.{Names}
use Rattle.bgp_explain.specs.declared.moments.SentNotification.{SentNotification}
use Rattle.bgp_explain.specs.Fractions.{number_in}
use Rattle.bgp_explain.specs.Progress.{IsLast}
use Rattle.bgp_explain.specs.Sending.{IsSendingAt}
use Rattle.bgp_explain.proofs.so_far.Progress.new.Goals as goal

pub returns-clause-told : goal.returns-clause-told
returns-clause-told g c = λ config.
    let sends : IsSendingAt config [] c.nothing-3.result = search rules in
    let last : IsLast [] (Some c.new.result) = search rules in record {
      count = refl;
      told = c.nothing.ensures;
      moments = c.nothing-2.ensures.are config;
      sending = sends;
      tally = c.nothing-4.ensures;
      seen = c.nothing-5.ensures;
      last_message = last;
    }

pub returns-clause-names : goal.returns-clause-names
returns-clause-names g c =
    ap (λ (t : Told). let n : Names = record { told_by = t.told_by; last_received = t.last_received; notification = number_in c.nothing-2.result.notification; impossible = None } in n) c.nothing.ensures
    ∙ ap (λ (o : Option SentNotification). let n : Names = record { told_by = None; last_received = None; notification = number_in o; impossible = None } in n) c.nothing-2.ensures.none
