use Rattle.std.proofs.Common.{◌≡◌, ◌≤◌, arith, length, subst, true}
use Rattle.json.specs.Written.{PlainBetween}
use Rattle.json.proofs.Printed.Plain.{escape_on_plain}
use Rattle.json_writer.proofs.escaping.is_plain.Goals as goal

pub returns : goal.returns
returns c = escape_on_plain true c.args.text.now (λ k p q. c.loop-octet.invariant k p (omega (arith, c.loop-octet-test.false)))
