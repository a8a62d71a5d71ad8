-- The objects of a list nest less deep than a reader of JSON goes.
use Rattle.std.proofs.Common.{◌≤◌, ◌++◌, ℕ, List, ◌∷◌, Option, None, Some, arith, codes}
use Rattle.json.specs.Json.{Json, max_depth, string}
use Rattle.json.specs.Tree.{depth}
use Rattle.mrt_sessions.specs.Counts.{counts_in}
use Rattle.mrt_sessions.specs.File.{Located}
use Rattle.mrt_sessions.specs.declared.addresses.Addresses.{Addresses}
use Rattle.bgp_prefix.specs.declared.session.Session.{Session}
use Rattle.streams.specs.declared.connection.Opening.{Opening}
use Rattle.bgp_ended.specs.DeclaredEndpoint.{Endpoint}
use Rattle.bgp_import.specs.ListText.{other_side}
use Rattle.bgp_import.specs.declared.refusal.Refusal.{Refusal}
use Rattle.bgp_json_values.specs.Times.{time_members}
use Rattle.bgp_json_values.proofs.Depths.{AreWithin, both_within, error_within, object_depth, time_within}
use Rattle.bgp_json.specs.Object.{typed}
use Rattle.bgp_ended.specs.Values.{EndedValue, HowValue, Notified, Closed, Fallen, OutlineValue}
use Rattle.bgp_list.specs.ConnectionJson.{addresses_members, as_members, ends_members, first_members, opening_members, outlined_members, refused_members}
use Rattle.bgp_list.specs.Connections.{as_of, endpoint_of}
use Rattle.bgp_list.specs.EndedJson.{end_members, ended_members, how_members}
use Rattle.bgp_list.specs.Forms.{line_json}
use Rattle.bgp_list.specs.JsonMembers.{endpoint_members, number_members, pair_members}
use Rattle.bgp_list.specs.Lines.{LineValue, Octets, Refused, AllRefused}
use Rattle.bgp_list.specs.SessionJson as session
use Rattle.bgp_list.specs.SessionJson.{counts_members, seconds_members, session_json}

shallow : (kind : List ℕ) (members : List (List ℕ × Json)) → AreWithin 6 members → depth (typed kind members) ≤ max_depth
shallow kind members each =
    let d = object_depth 6 ((codes "type", string kind) ∷ members) (omega arith, each) in omega (arith, d)

-- ---- members

number_within : (n : ℕ) (key : List ℕ) (number : Option ℕ) → AreWithin n (number_members key number)
number_within n key None = tt
number_within n key (Some number) = (omega arith, tt)

endpoint_within : (n : ℕ) (key port_key : List ℕ) (end : Endpoint) → AreWithin n (endpoint_members key port_key end)
endpoint_within n key port_key end = (omega arith, number_within n port_key end.port)

how_within : (how : HowValue) → AreWithin 2 (how_members how)
how_within (Notified error) = (omega arith, error_within error)
how_within (Closed closing) = (omega arith, tt)
how_within (Fallen state) = (omega arith, (omega arith, (omega arith, tt)))

ended_within : (by : Endpoint) (ended : EndedValue) → AreWithin 2 (ended_members by ended)
ended_within by ended =
    let time = time_members ended.moment.second ended.moment.micro in
    let ends = endpoint_members (codes "by") (codes "by_port") by in
    let how = how_members ended.how in
    let both = both_within 2 ends how (endpoint_within 2 (codes "by") (codes "by_port") by) (how_within ended.how) in
    (omega arith, both_within 2 time (ends ++ how) (time_within 2 ended.moment.second ended.moment.micro) both)

end_within : (session : Session) (opening : Opening) (ended : Option EndedValue) → AreWithin 6 (end_members session opening ended)
end_within session opening None = (omega arith, tt)
end_within session opening (Some ended) =
    let by = endpoint_of ended.by session opening in
    let d = object_depth 2 (ended_members by ended) (ended_within by ended) in (omega (arith, d), tt)

-- ---- connections

first_within : (opening : Opening) → AreWithin 6 (first_members opening)
first_within opening =
    both_within 6 (time_members opening.second opening.micro) _ (time_within 6 opening.second opening.micro) (omega arith, tt)

opening_within : (session : Session) (opening : Opening) → AreWithin 6 (opening_members session opening)
opening_within session opening =
    let opener = endpoint_of opening.opened_by session opening in
    let other = endpoint_of (other_side opening.opened_by) session opening in
    let from = endpoint_members (codes "from") (codes "from_port") opener in
    let to = endpoint_members (codes "to") (codes "to_port") other in (
      omega arith,
      both_within 6 (ends_members session opening) (first_members opening)
          (both_within 6 from to (endpoint_within 6 (codes "from") (codes "from_port") opener) (endpoint_within 6 (codes "to") (codes "to_port") other)) (first_within opening),
    )

outlined_within : (session : Session) (opening : Opening) (outline : OutlineValue) (first second : ℕ) → AreWithin 6 (outlined_members session opening outline first second)
outlined_within session opening outline first second =
    let opener = number_members (codes "as") (as_of opening.opened_by outline) in
    let other = number_members (codes "to_as") (as_of (other_side opening.opened_by) outline) in
    let end = end_members session opening outline.ended in
    both_within 6 (as_members opening outline) (pair_members (codes "octets") first second ++ end)
    (both_within 6 opener other (number_within 6 (codes "as") (as_of opening.opened_by outline)) (number_within 6 (codes "to_as") (as_of (other_side opening.opened_by) outline))) (omega arith, end_within session opening outline.ended)

refused_within : (refusal : Refusal) → AreWithin 6 (refused_members refusal)
refused_within refusal = (omega arith, tt)

pub line_shallow : (line : LineValue) → depth (line_json line) ≤ max_depth
line_shallow (Octets session opening outline first second) =
    shallow (codes "connection") (opening_members session opening ++ outlined_members session opening outline first second)
    (both_within 6 (opening_members session opening) _ (opening_within session opening) (outlined_within session opening outline first second))
line_shallow (Refused session opening refusal) =
    shallow (codes "connection") (opening_members session opening ++ refused_members refusal)
    (both_within 6 (opening_members session opening) _ (opening_within session opening) (refused_within refusal))
line_shallow (AllRefused addresses refusal) =
    shallow (codes "session") (addresses_members addresses ++ refused_members refusal) (omega arith, refused_within refusal)

-- ---- sessions

pub session_shallow : (addresses : Addresses) (named : List Located) → depth (session_json addresses named) ≤ max_depth
session_shallow addresses named =
    shallow (codes "session") (session.addresses_members addresses ++ (counts_members (counts_in named) ++ seconds_members named))
    (omega arith, (omega arith, (omega arith, (omega arith, (omega arith, (omega arith, tt))))))
