use Rattle.std.proofs.Common.{codes, map, ◌++◌}
use Rattle.bgp_json_values.proofs.Members.{then_members}
use Rattle.bgp_json.proofs.Tokens.{whole}
use Rattle.mrt_sessions.specs.Counts.{counts_in}
use Rattle.mrt_sessions.specs.Located.{located}
use Rattle.bgp_list.specs.SessionJson.{addresses_members, counts_members, seconds_members}
use Rattle.bgp_list.proofs.session_json.write_session.Goals as goal

pub returns : goal.returns
returns g c =
    let named = map located c.args.records.now in
    let addresses = addresses_members c.args.addresses in
    let counts = counts_members (counts_in named) in
    let seconds = seconds_members named in
    let put_counts = rw c.of.ensures at c.in_ok-put_counts_members.ensures in
    let put = then_members addresses (counts ++ seconds) c.in_ok-put_addresses.ensures (then_members counts seconds put_counts c.in_ok-put_seconds.ensures) in
    whole (codes "session") (addresses ++ (counts ++ seconds)) c.in_ok-begin.ensures put c.end_object.ensures
