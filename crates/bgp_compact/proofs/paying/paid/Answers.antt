use Rattle.std.proofs.Common.{ap, sym, subst}
use Rattle.bgp_prefix.specs.Shown.{ShownRecord}
use Rattle.mrt.specs.Reader.{shown_of}
use Rattle.bgp_compact.specs.Parts.{PaidTo}
use Rattle.bgp_compact.proofs.paying.paid.Goals as goal

pub returns-in-In : goal.returns-in-In
returns-in-In c =
    subst (λ (r : ShownRecord). PaidTo c.args.config.now c.args.words r c.unpaid.result) (sym (ap shown_of c.in-In.is))
    (c.unpaid.ensures c.args.config.now c.in-In.field-0 c.in-In.field-1.now)
