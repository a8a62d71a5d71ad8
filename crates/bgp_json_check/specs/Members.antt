-- The members of objects.
use Rattle.std.specs.Prelude.{◌++◌, ℕ, Bool, List, [], ◌∷◌, Option, None, Some, codes, nat_lt}
use Rattle.std.specs.Prelude.{if◌then◌else◌}
use Rattle.json.specs.Json.{Json, boolean, string}
use Rattle.bgp_open.specs.declared.families.Families.{Families}
use Rattle.bgp_names.specs.States.{state_name}
use Rattle.bgp_values.specs.declared.opens.Direction.{Direction}
use Rattle.bgp_values.specs.declared.opens.Direction.TheVariants.{Received, Sent}
use Rattle.bgp_list.specs.PeerAs.{PeerAs}
use Rattle.bgp_list.specs.PeerAs.TheVariants as peers
use Rattle.bgp_json_check.specs.declared.member.JudgedEnd.{JudgedEnd}
use Rattle.bgp_json_values.specs.Objects.{array_of, number_of}
use Rattle.bgp_json_values.specs.Times.{time_members}
use Rattle.bgp_json_verdicts.specs.At.{number_members as some_number}
use Rattle.bgp_json_verdicts.specs.Objects.{family_texts, state_member, text_json}
use Rattle.bgp_list.specs.JsonMembers.{endpoint_members, number_members, pair_members}
use Rattle.bgp_why.specs.declared.place.Place.{Place}
use Rattle.bgp_json_check.specs.declared.member.Member.{Member}
use Rattle.bgp_json_check.specs.declared.member.Member.TheVariants as members

-- that something is so, if it is
abbrev pub flag_members : List ℕ → Bool → List (List ℕ × Json)
flag_members key is_so = if is_so then (key, boolean is_so) ∷ [] else []

-- the number of a record, which is counted from 1: 0 stands for none
abbrev pub record_members : ℕ → List (List ℕ × Json)
record_members number =
    if nat_lt 0 number then (codes "record", number_of number) ∷ [] else []

-- a record: its number, if it has one, the packet that shows it, and its time
abbrev pub known_members : Place → List (List ℕ × Json)
known_members place =
    record_members place.number
    ++ (some_number (codes "packet") place.packet ++ time_members place.second place.micro)

-- which records these are, if that is said: the numbers of the first and of the last
abbrev pub part_members : Option (ℕ × ℕ) → List (List ℕ × Json)
part_members None = []
part_members (Some part) = pair_members (codes "records") part.0 part.1

-- an end: its address, its port and its AS number, if they are known, and which records these are
abbrev pub end_members : JudgedEnd → List (List ℕ × Json)
end_members name =
    endpoint_members (codes "address") (codes "port") name.end
    ++ (number_members (codes "as") name.as_number ++ part_members name.part)

-- the AS number that its peer has, or hasn't; none, if its OPEN can't be read
abbrev pub peer_members : PeerAs → List (List ℕ × Json)
peer_members peers.Any = []
peer_members (peers.Is number) = (codes "peer_as", number_of number) ∷ []
peer_members (peers.OtherThan number) = (codes "peer_as_not", number_of number) ∷ []

-- what was done, if that can be said
abbrev pub deed_members : List ℕ → List (List ℕ × Json)
deed_members [] = []
deed_members (x ∷ deed) = (codes "deed", text_json (x ∷ deed)) ∷ []

abbrev pub direction_word : Direction → List ℕ
direction_word Received = codes "received"
direction_word Sent = codes "sent"

abbrev pub disabled_members : Families → List (List ℕ × Json)
disabled_members families = (codes "disabled", array_of string (family_texts families)) ∷ []

-- how many routes the ends before had, each number once, ascending
abbrev pub some_before_members : List ℕ → List (List ℕ × Json)
some_before_members counts = (codes "before", array_of number_of counts) ∷ []

-- if there were some
abbrev pub before_members : List ℕ → List (List ℕ × Json)
before_members [] = []
before_members (count ∷ counts) = some_before_members (count ∷ counts)

-- the highest state that its records tell
abbrev pub reached_members : ℕ → List (List ℕ × Json)
reached_members number = (codes "reached", string (state_name number)) ∷ []

abbrev pub member_of : Member → List (List ℕ × Json)
member_of (members.Number key number) = (key.now, number_of number) ∷ []
member_of (members.Word key word) = (key.now, string word.now) ∷ []
member_of (members.Text key text) = (key.now, text_json text.now) ∷ []
member_of (members.Flag key is_so) = flag_members key.now is_so
member_of (members.Place place) = known_members place
member_of (members.End name) = end_members name
member_of (members.Peer peer) = peer_members peer
member_of (members.Deed deed) = deed_members deed.now
member_of (members.Direction direction) =
    (codes "direction", string (direction_word direction)) ∷ []
member_of (members.State state) = state_member state ∷ []
member_of (members.Reached number) = reached_members number
member_of (members.Disabled families) = disabled_members families
member_of (members.Before counts) = before_members counts.now

abbrev pub all_members : List Member → List (List ℕ × Json)
all_members [] = []
all_members (last ∷ []) = member_of last
all_members (first ∷ next ∷ listed) = member_of first ++ all_members (next ∷ listed)
