-- The lines that begin with a verdict on an end.
use Rattle.std.specs.Prelude.{◌++◌, Bool, ℕ, List, [], ◌∷◌, codes}
use Rattle.bgp_clock.specs.When.{when_text}
use Rattle.bgp_machine.specs.Run.{End}
use Rattle.bgp_check.specs.declared.not_judged.NotJudged.{NotJudged}
use Rattle.bgp_check.specs.declared.not_judged.NotJudged.TheVariants as reasons
use Rattle.bgp_check.specs.declared.peer_as.PeerAs.{PeerAs}
use Rattle.bgp_check.specs.declared.peer_as.PeerAs.TheVariants as peers
use Rattle.bgp_why.specs.Place.{place_text}
use Rattle.bgp_why.specs.State.{as_text}
use Rattle.bgp_why.specs.declared.place.Place.{Place}
use Rattle.bgp_check_text.specs.End.{end_text}
use Rattle.bgp_check_text.specs.Reached.{ReachedValue}
use Rattle.bgp_check_text.specs.States.{routes_if, states_text}
use Rattle.bgp_check_text.specs.declared.end.EndName.{EndName}

-- ---- an end that isn't judged, and why

abbrev pub why_text : NotJudged → List ℕ
why_text reasons.NothingSent = codes "the file has no message that it sent"
why_text reasons.ExtendedParameters =
    codes "an OPEN has extended parameters (RFC 9072), which are not judged"
why_text reasons.NoFamily = codes "its OPEN offers neither IPv4 nor IPv6 unicast"
why_text reasons.DynamicCapabilities =
    codes "both OPENs offer dynamic capabilities, which are not judged"
why_text reasons.Confederations =
    codes "an AS_PATH has confederation segments (RFC 5065), which are not judged"

unfoldable pub not_judged_line : EndName → NotJudged → List ℕ
not_judged_line name why =
    codes "not judged: " ++ (end_text name ++ (codes ": " ++ (why_text why ++ codes "\n")))

-- ---- a yes

-- for which peer the end has to be configured, unless it is the one whose OPEN was received
abbrev pub peer_text : PeerAs → List ℕ
peer_text peers.Any = codes ", with no readable OPEN from its peer"
peer_text (peers.Is number) = []
peer_text (peers.OtherThan number) =
    codes ", if configured for a peer in another AS than " ++ as_text number

unfoldable pub yes_line : EndName → PeerAs → ReachedValue → List End → List ℕ
yes_line name peer reached ends =
    codes "yes: " ++ (end_text name ++ (peer_text peer ++ (codes ": "
    ++ (states_text reached ends ++ codes "\n"))))

-- and the routes of its possible ends and of those before, if they are told
abbrev pub yes_lines : Bool → EndName → PeerAs → ReachedValue → List End → List ℕ
yes_lines routes name peer reached ends =
    yes_line name peer reached ends ++ routes_if routes reached ends

-- ---- a no, and what is unfinished

-- a record's place, and its time
unfoldable pub place_when : Place → List ℕ
place_when place =
    place_text place ++ (codes ", " ++ (when_text place.second place.micro ++ codes " UTC: "))

-- what was done, if that can be said
abbrev pub deed_if : List ℕ → List ℕ
deed_if [] = []
deed_if (x ∷ deed) = codes " " ++ (x ∷ deed)

unfoldable pub no_line : Place → EndName → List ℕ → List ℕ
no_line place name deed =
    codes "no at " ++ (place_when place ++ (end_text name ++ (deed_if deed ++ codes "\n")))

unfoldable pub unfinished_line : Place → EndName → List ℕ
unfinished_line place name =
    codes "unfinished after " ++ (place_when place ++ (end_text name
    ++ codes " has not done what is due\n"))
