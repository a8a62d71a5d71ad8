use Rattle.std.proofs.Common.{◌∙◌, sym}
use Rattle.bgp_why.proofs.errors.put_update_errors.Goals as goal

pub returns-then-has_all : goal.returns-then-has_all
returns-then-has_all g c = rw (sym c.has_all.ensures ∙ c.if-has_all.true) c.put.ensures

pub returns-else-has_all : goal.returns-else-has_all
returns-else-has_all g c = rw (sym c.has_all.ensures ∙ c.if-has_all.false) (rw c.update_errors.ensures at c.put_any.ensures)
