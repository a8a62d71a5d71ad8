use Rattle.std.proofs.Common.{arith}
use Rattle.json_writer.proofs.Groups.{one, two, three, four}
use Rattle.json_writer.proofs.ipv6.write_group.Goals as goal

pub returns-in-4096-to-65535-clause-written : goal.returns-in-4096-to-65535-clause-written
returns-in-4096-to-65535-clause-written c =
    rw (four c.args.group (omega arith) (omega arith)) (rw (c.hex_digit-first.ensures, c.hex_digit-second.ensures, c.hex_digit-third.ensures, c.hex_digit-fourth.ensures) at c.write_text-in-4096-to-65535.ensures.written)

pub returns-in-256-to-65535-clause-written : goal.returns-in-256-to-65535-clause-written
returns-in-256-to-65535-clause-written c =
    rw (three c.args.group (omega arith) (omega arith)) (rw (c.hex_digit-second.ensures, c.hex_digit-third.ensures, c.hex_digit-fourth.ensures) at c.write_text-in-256-to-65535.ensures.written)

pub returns-in-16-to-65535-clause-written : goal.returns-in-16-to-65535-clause-written
returns-in-16-to-65535-clause-written c =
    rw (two c.args.group (omega arith) (omega arith)) (rw (c.hex_digit-third.ensures, c.hex_digit-fourth.ensures) at c.write_text-in-16-to-65535.ensures.written)

pub returns-in_default-clause-written : goal.returns-in_default-clause-written
returns-in_default-clause-written c =
    rw (one c.args.group (omega arith)) (rw c.hex_digit-fourth.ensures at c.write_text.ensures.written)
