use Rattle.std.proofs.Common.{◌++◌, codes}
use Rattle.bgp_json_values.specs.Times.{time_members}
use Rattle.bgp_json_values.proofs.Members.{then_members}
use Rattle.bgp_json_verdicts.specs.At.{number_members}
use Rattle.bgp_json_check.specs.Members.{record_members}
use Rattle.bgp_json_check.proofs.member.put_known.Goals as goal

pub returns : goal.returns
returns g c =
    let place = c.args.place.now in
    let packet = number_members (codes "packet") place.packet in
    let time = time_members place.second place.micro in
    then_members (record_members place.number) (packet ++ time) c.in_ok-put_record.ensures
    (then_members packet time c.in_ok-put_number_if.ensures c.put_time.ensures)
