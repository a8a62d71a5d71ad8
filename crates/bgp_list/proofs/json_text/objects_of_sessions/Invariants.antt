use Rattle.std.proofs.Common.{map, take}
use Rattle.mrt_sessions.specs.Sessions.{held_records, held_sessions}
use Rattle.bgp_list.specs.Objects.{AreObjects}
use Rattle.bgp_list.specs.SessionJson.{session_json}
use Rattle.bgp_list.proofs.json_text.objects_of_sessions.Given as goal

-- the objects of the sessions so far
abbrev pub invariant-loop-addresses : goal.invariant-loop-addresses
invariant-loop-addresses g l =
    AreObjects l.text.items (map (λ a. session_json a (held_records l.sessions a)) (take l.addresses-index (held_sessions l.sessions)))
