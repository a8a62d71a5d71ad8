-- How a session ended, in JSON.
use Rattle.std.specs.Prelude.{◌++◌, ℕ, true, List, [], ◌∷◌, Option, None, Some, codes}
use Rattle.json.specs.Json.{Json, boolean, string}
use Rattle.streams.specs.declared.connection.Closing.{Closing}
use Rattle.streams.specs.declared.connection.Closing.TheVariants.{Fin, Reset}
use Rattle.streams.specs.declared.connection.Opening.{Opening}
use Rattle.bgp_prefix.specs.declared.session.Session.{Session}
use Rattle.bgp_ended.specs.DeclaredEndpoint.{Endpoint}
use Rattle.bgp_json_values.specs.ErrorJson.{error_members}
use Rattle.bgp_json_values.specs.Objects.{number_of, object_of}
use Rattle.bgp_json_values.specs.Times.{time_members}
use Rattle.bgp_json.specs.Others.{change_members}
use Rattle.bgp_ended.specs.Values.{EndedValue, HowValue, Notified, Closed, Fallen}
use Rattle.bgp_list.specs.Connections.{endpoint_of}
use Rattle.bgp_list.specs.JsonMembers.{endpoint_members}

-- by which of both TCP closed a connection
abbrev pub closing_word : Closing → List ℕ
closing_word Fin = codes "FIN"
closing_word Reset = codes "RST"

-- a NOTIFICATION with the members that its own object has; a FIN or a RST without one; a change of
-- state to Idle without one
abbrev pub how_members : HowValue → List (List ℕ × Json)
how_members (Notified error) =
    (codes "how", string (codes "NOTIFICATION")) ∷ error_members error
how_members (Closed closing) = (codes "how", string (closing_word closing)) ∷ []
how_members (Fallen state) = (codes "how", string (codes "change")) ∷ change_members state 1

-- the end of a connection: the packet that shows it, its time, who ended it, and how
abbrev pub ended_members : Endpoint → EndedValue → List (List ℕ × Json)
ended_members by ended =
    (codes "packet", number_of ended.moment.packet)
    ∷ (time_members ended.moment.second ended.moment.micro
    ++ (endpoint_members (codes "by") (codes "by_port") by ++ how_members ended.how))

-- the end of a connection, or that it is open at the end of the file
abbrev pub end_members : Session → Opening → Option EndedValue → List (List ℕ × Json)
end_members session opening None = (codes "open", boolean true) ∷ []
end_members session opening (Some ended) =
    (codes "ended", object_of (ended_members (endpoint_of ended.by session opening) ended)) ∷ []
