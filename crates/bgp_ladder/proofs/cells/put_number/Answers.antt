use Rattle.std.proofs.Common.{ℕ, List, subst, sym}
use Rattle.bgp_text.specs.Lines.{Writes}
use Rattle.bgp_ladder.proofs.Plain.{digits_plain}
use Rattle.bgp_ladder.proofs.cells.put_number.Goals as goal

pub returns : goal.returns
returns g c =
    subst (λ (t : List ℕ). Writes c.args.lines.now c.put_decimal.new.self t) (sym (digits_plain c.args.number c.ranges.number.fits)) c.put_decimal.ensures
