use Rattle.std.proofs.Common.{length, sym, ap, arith}
use Rattle.json_writer.proofs.Dotted.{has_one, has_two, has_three}
use Rattle.json_writer.proofs.places.small_count.Goals as goal

pub returns-in_default-clause-digits : goal.returns-in_default-clause-digits
returns-in_default-clause-digits c = sym (ap length (has_one c.args.number (omega arith)))

pub returns-in-10-to-4294967295-clause-digits : goal.returns-in-10-to-4294967295-clause-digits
returns-in-10-to-4294967295-clause-digits c = sym (ap length (has_two c.args.number (omega arith) (omega arith)))

pub returns-in-100-to-4294967295-clause-digits : goal.returns-in-100-to-4294967295-clause-digits
returns-in-100-to-4294967295-clause-digits c = sym (ap length (has_three c.args.number (omega arith) (omega arith)))
