use Rattle.std.proofs.Common.{arith}
use Rattle.bgp_open.specs.Capability.{said}
use Rattle.bgp_open.specs.Written.{FitsOpen}
use Rattle.bgp_open.proofs.WrittenOpen.{length-open_octets, appended_open, appended_whole, appended_reads_as, appended_one_parameter}
use Rattle.bgp_open.proofs.written_open.write_open.Goals as goal

pub returns-in-Err-clause-memory : goal.returns-in-Err-clause-memory
returns-in-Err-clause-memory g c =
    let count = length-open_octets (said c.args.my_as c.args.hold c.args.id c.args.capabilities.now) in
    λ _. omega (arith, c.in-Err.ensures.full, c.in-Some.ensures.one_parameter)

pub returns-clause-ok : goal.returns-clause-ok
returns-clause-ok g c =
    rw (c.put_parameters.ensures.one_parameter, c.put_fixed_fields.ensures.items, c.put_header.ensures.items, c.reserve.ensures.items)
    (appended_open _ (said c.args.my_as c.args.hold c.args.id c.args.capabilities.now) _ _ c.in-Some.ensures.one_parameter (omega arith))

pub returns-clause-whole : goal.returns-clause-whole
returns-clause-whole g c =
    let fits : FitsOpen (said c.args.my_as c.args.hold c.args.id c.args.capabilities.now) =
    record { my_as = omega arith; hold = omega arith; id = omega arith; capabilities = c.in-Some.ensures.few } in
    appended_whole _ _ _ fits (returns-clause-ok g c)

pub returns-clause-reads_back : goal.returns-clause-reads_back
returns-clause-reads_back g c =
    let fits : FitsOpen (said c.args.my_as c.args.hold c.args.id c.args.capabilities.now) =
    record { my_as = omega arith; hold = omega arith; id = omega arith; capabilities = c.in-Some.ensures.few } in
    appended_reads_as _ _ _ fits (returns-clause-ok g c)

pub returns-clause-one_parameter : goal.returns-clause-one_parameter
returns-clause-one_parameter g c = appended_one_parameter _ _ _ (returns-clause-ok g c)
