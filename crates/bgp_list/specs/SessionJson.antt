-- The object of a capture's session.
use Rattle.std.specs.Prelude.{◌++◌, ℕ, List, [], ◌∷◌, codes}
use Rattle.json.specs.Json.{Json}
use Rattle.mrt_sessions.specs.Counts.{counts_in}
use Rattle.mrt_sessions.specs.File.{Located}
use Rattle.mrt_sessions.specs.declared.addresses.Addresses.{Addresses}
use Rattle.mrt_sessions.specs.declared.counts.Counts.{Counts}
use Rattle.bgp_json_values.specs.Objects.{number_of}
use Rattle.bgp_json_values.specs.Texts.{address_json}
use Rattle.bgp_json.specs.Object.{typed}
use Rattle.bgp_list.specs.JsonMembers.{pair_members}
use Rattle.bgp_list.specs.Sessions.{first_second, last_second}

abbrev pub addresses_members : Addresses → List (List ℕ × Json)
addresses_members addresses =
    (codes "peer", address_json addresses.peer) ∷ (codes "local", address_json addresses.local) ∷ []

-- how many records there are of each direction: together all
abbrev pub counts_members : Counts → List (List ℕ × Json)
counts_members counts =
    (codes "received", number_of counts.received) ∷ (codes "sent", number_of counts.sent)
    ∷ (codes "changes", number_of counts.changes) ∷ []

-- the seconds of the first and of the last record
abbrev pub seconds_members : List Located → List (List ℕ × Json)
seconds_members named =
    pair_members (codes "seconds") (first_second named) (last_second named)

abbrev pub session_json : Addresses → List Located → Json
session_json addresses named =
    typed (codes "session") (addresses_members addresses
    ++ (counts_members (counts_in named) ++ seconds_members named))
