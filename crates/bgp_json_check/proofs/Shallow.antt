-- The objects of lines nest less deep than a reader of JSON goes.
use Rattle.std.proofs.Common.{◌≤◌, ◌++◌, ℕ, Bool, true, false, List, [], ◌∷◌, Option, None, Some, arith, codes, if◌then◌else◌}
use Rattle.std.specs.Prelude.{nat_lt}
use Rattle.json.specs.Json.{Json, boolean, max_depth, string}
use Rattle.json.specs.Tree.{depth}
use Rattle.bgp_path.specs.Path.{PathValue}
use Rattle.bgp_update.specs.declared.destination.Destination.{Destination}
use Rattle.bgp_open.specs.declared.families.Families.{Families}
use Rattle.bgp_list.specs.PeerAs.{PeerAs}
use Rattle.bgp_list.specs.PeerAs.TheVariants as peers
use Rattle.bgp_json.specs.Object.{typed}
use Rattle.bgp_json_values.specs.Objects.{number_of}
use Rattle.bgp_json_values.specs.ErrorJson.{error_members}
use Rattle.bgp_json_values.proofs.Depths.{AreWithin, array_depth, both_within, error_within, time_within}
use Rattle.bgp_json_values.specs.Times.{time_members}
use Rattle.bgp_json_verdicts.specs.At.{number_members as some_number, place_members}
use Rattle.bgp_list.specs.Values.{HowValue, Notified, Closed, Fallen}
use Rattle.bgp_list.specs.EndedJson.{how_members}
use Rattle.bgp_why.specs.declared.place.Place.{Place}
use Rattle.bgp_json_verdicts.specs.declared.at.At.{At}
use Rattle.bgp_json_verdicts.specs.Objects.{family_texts}
use Rattle.bgp_json_verdicts.specs.RouteJson.{route_members}
use Rattle.bgp_json_verdicts.proofs.Shallow.{number_within as packet_within, place_within, route_within, shallow}
use Rattle.bgp_list.specs.JsonMembers.{endpoint_members, number_members}
use Rattle.bgp_why.specs.declared.endpoint.Endpoint.{Endpoint}
use Rattle.bgp_json_check.specs.Members.{all_members, before_members, deed_members, disabled_members, end_members, flag_members, known_members, member_of, part_members, peer_members, record_members}
use Rattle.bgp_json_check.specs.Objects.{ended_json, judged_json, route_json}
use Rattle.bgp_json_check.specs.declared.member.JudgedEnd.{JudgedEnd}
use Rattle.bgp_json_check.specs.declared.member.Member.{Member}
use Rattle.bgp_json_check.specs.declared.member.Member.TheVariants as members

-- ---- members

number_within : (key : List ℕ) (number : Option ℕ) → AreWithin 6 (number_members key number)
number_within key None = tt
number_within key (Some number) = (omega arith, tt)

pub endpoint_within : (key port_key : List ℕ) (end : Endpoint) → AreWithin 6 (endpoint_members key port_key end)
endpoint_within key port_key end = (omega arith, number_within port_key end.port)

if_within : (is_so : Bool) (members : List (List ℕ × Json)) → AreWithin 6 members → AreWithin 6 (if is_so then members else [])
if_within true members each = each
if_within false members each = tt

pub flag_within : (key : List ℕ) (is_so : Bool) → AreWithin 6 (flag_members key is_so)
flag_within key is_so = if_within is_so ((key, boolean is_so) ∷ []) (omega arith, tt)

record_within : (number : ℕ) → AreWithin 6 (record_members number)
record_within number = if_within (nat_lt 0 number) ((codes "record", number_of number) ∷ []) (omega arith, tt)

pub known_within : (place : Place) → AreWithin 6 (known_members place)
known_within place =
    let packet = some_number (codes "packet") place.packet in
    let time = time_members place.second place.micro in
    both_within 6 (record_members place.number) (packet ++ time) (record_within place.number)
    (both_within 6 packet time (packet_within (codes "packet") place.packet) (time_within 6 place.second place.micro))

pub part_within : (part : Option (ℕ × ℕ)) → AreWithin 6 (part_members part)
part_within None = tt
part_within (Some part) = (let d = array_depth 0 number_of (part.0 ∷ part.1 ∷ []) (λ n. omega arith) in omega (arith, d), tt)

pub end_within : (name : JudgedEnd) → AreWithin 6 (end_members name)
end_within name =
    both_within 6 (endpoint_members (codes "address") (codes "port") name.end) (number_members (codes "as") name.as_number ++ part_members name.part) (endpoint_within (codes "address") (codes "port") name.end)
    (both_within 6 (number_members (codes "as") name.as_number) (part_members name.part) (number_within (codes "as") name.as_number) (part_within name.part))

pub peer_within : (peer : PeerAs) → AreWithin 6 (peer_members peer)
peer_within peers.Any = tt
peer_within (peers.Is number) = (omega arith, tt)
peer_within (peers.OtherThan number) = (omega arith, tt)

pub deed_within : (deed : List ℕ) → AreWithin 6 (deed_members deed)
deed_within [] = tt
deed_within (x ∷ deed) = (omega arith, tt)

pub disabled_within : (families : Families) → AreWithin 6 (disabled_members families)
disabled_within families = (let d = array_depth 0 string (family_texts families) (λ t. omega arith) in omega (arith, d), tt)

pub before_within : (counts : List ℕ) → AreWithin 6 (before_members counts)
before_within [] = tt
before_within (count ∷ counts) = (let d = array_depth 0 number_of (count ∷ counts) (λ n. omega arith) in omega (arith, d), tt)

member_within : (m : Member) → AreWithin 6 (member_of m)
member_within (members.Number key number) = (omega arith, tt)
member_within (members.Word key word) = (omega arith, tt)
member_within (members.Text key text) = (omega arith, tt)
member_within (members.Flag key is_so) = flag_within key.now is_so
member_within (members.Place place) = known_within place
member_within (members.End name) = end_within name
member_within (members.Peer peer) = peer_within peer
member_within (members.Deed deed) = deed_within deed.now
member_within (members.Direction direction) = (omega arith, tt)
member_within (members.State state) = (omega arith, tt)
member_within (members.Reached number) = (omega arith, tt)
member_within (members.Disabled families) = disabled_within families
member_within (members.Before counts) = before_within counts.now

members_within : (ms : List Member) → AreWithin 6 (all_members ms)
members_within [] = tt
members_within (m ∷ []) = member_within m
members_within (m ∷ n ∷ ms) = both_within 6 (member_of m) (all_members (n ∷ ms)) (member_within m) (members_within (n ∷ ms))

-- ---- how a session ended

wider : (ms : List (List ℕ × Json)) → AreWithin 2 ms → AreWithin 6 ms
wider [] each = tt
wider (m ∷ ms) each = let d = each.0 in (omega (arith, d), wider ms each.1)

how_within : (how : HowValue) → AreWithin 6 (how_members how)
how_within (Notified error) = (omega arith, wider (error_members error) (error_within error))
how_within (Closed closing) = (omega arith, tt)
how_within (Fallen state) = (omega arith, (omega arith, (omega arith, tt)))

-- ---- objects

pub plain_shallow : (kind : List ℕ) (ms : List Member) → depth (typed kind (all_members ms)) ≤ max_depth
plain_shallow kind ms = shallow kind (all_members ms) (members_within ms)

pub judged_shallow : (kind : List ℕ) (judged : ℕ) (ms : List Member) → depth (judged_json kind judged (all_members ms)) ≤ max_depth
judged_shallow kind judged ms = shallow kind ((codes "judged", number_of judged) ∷ all_members ms) (omega arith, members_within ms)

pub route_shallow : (kind : List ℕ) (judged end : ℕ) (destination : Destination) (path : PathValue) → depth (route_json kind judged end (destination, path)) ≤ max_depth
route_shallow kind judged end destination path =
    shallow kind ((codes "judged", number_of judged) ∷ (codes "end", number_of end) ∷ route_members destination path) (omega arith, (omega arith, route_within destination path))

pub ended_shallow : (judged : ℕ) (at : At) (by : Endpoint) (how : HowValue) → depth (ended_json judged at by how) ≤ max_depth
ended_shallow judged at by how =
    let dated = flag_members (codes "dated") at.is_dated in
    let ends = endpoint_members (codes "by") (codes "by_port") by in
    shallow (codes "ended") ((codes "judged", number_of judged) ∷ (place_members at.place ++ (dated ++ (ends ++ how_members how)))) (
      omega arith,
      both_within 6 (place_members at.place) (dated ++ (ends ++ how_members how)) (place_within at.place) (both_within 6 dated (ends ++ how_members how) (flag_within (codes "dated") at.is_dated)
          (both_within 6 ends (how_members how) (endpoint_within (codes "by") (codes "by_port") by) (how_within how))),
    )
