use Rattle.std.proofs.Common.{rules}
use Rattle.bgp_check_text.specs.Reason.{lines_text}
use Rattle.bgp_check_lines.proofs.Explaining.{told_made}
use Rattle.bgp_check_lines.proofs.reason.tell_reason.Goals as goal

pub returns : goal.returns
returns g c =
    told_made (lines_text c.args.reason.now) (λ v. v.items) c.objects_of-made.result (rw c.judged.ensures at c.objects_of-made.ensures.ok) c.objects_of-made.ensures.err c.put_made.ensures
