-- The states in which a session may stand after records that a router may have, with their routes.
use Rattle.std.specs.Prelude.{◌++◌, ◌==◌, Bool, true, false, ℕ, List, [], ◌∷◌, codes}
use Rattle.std.specs.Prelude.{if◌then◌else◌, length, nat_lt}
use Rattle.std.specs.Fmt.{decimal}
use Rattle.std.specs.List.{flat_map}
use Rattle.bgp_update.specs.declared.destination.Destination.{Destination}
use Rattle.bgp_path.specs.Path.{PathValue}
use Rattle.bgp_open.specs.declared.families.Families.{Families}
use Rattle.bgp_machine.specs.Run.{End}
use Rattle.bgp_machine.specs.State.{number_of}
use Rattle.bgp_names.specs.Families.{families_name}
use Rattle.bgp_names.specs.States.{state_name}
use Rattle.bgp_text.specs.RouteText.{route_text}
use Rattle.bgp_check_text.specs.Reached.{ReachedValue}

-- families that are disabled
unfoldable pub with_text : List ℕ → List ℕ
with_text names = codes " with " ++ (names ++ codes " disabled")

-- by whether IPv4 and IPv6 are among them, if one is
abbrev pub disabled_by : Bool → Bool → List ℕ → List ℕ
disabled_by false false names = []
disabled_by true v6 names = with_text names
disabled_by false true names = with_text names

abbrev pub disabled_text : Families → List ℕ
disabled_text families = disabled_by families.v4 families.v6 (families_name families)

-- Established, with these families disabled and so many routes from the peer
unfoldable pub established_text : Families → ℕ → List ℕ
established_text disabled count =
    codes "Established" ++ (disabled_text disabled ++ (codes ", routes from its peer: "
    ++ decimal count))

-- `0 or 3`, by numbers of routes that ascend
abbrev pub or_count : ℕ → List ℕ
or_count count = codes " or " ++ decimal count

-- how many routes from the peer the ends before had, if there are some
abbrev pub counts_text : List ℕ → List ℕ
counts_text [] = []
counts_text (count ∷ others) =
    codes ", routes from its peer before that: " ++ (decimal count ++ flat_map or_count others)

-- a lower state after Established
unfoldable pub left_text : ℕ → List ℕ → List ℕ
left_text number counts =
    state_name number ++ (codes " after Established" ++ counts_text counts)

-- the highest state before it, if that is higher
abbrev pub after_text : ℕ → ℕ → List ℕ
after_text number highest =
    if nat_lt number highest then codes " after " ++ state_name highest else []

-- a state of records that never tell Established
unfoldable pub never_text : ℕ → ℕ → List ℕ
never_text number highest =
    state_name number ++ (after_text number highest ++ codes ", never Established")

-- a state below Established (RFC 6396, 4.4.1: 6), by how far the session came before
abbrev pub lower_text : ℕ → ReachedValue → List ℕ
lower_text number reached =
    if reached.highest == 6 then left_text number reached.counts
    else never_text number reached.highest

-- the state of a possible end
abbrev pub state_text : ReachedValue → End → List ℕ
state_text reached e =
    if number_of e.fsm == 6
    then established_text e.routes.disabled (length e.routes.entries)
    else lower_text (number_of e.fsm) reached

abbrev pub or_state : ReachedValue → End → List ℕ
or_state reached e = codes ", or " ++ state_text reached e

-- those of all possible ends
abbrev pub states_text : ReachedValue → List End → List ℕ
states_text reached [] = []
states_text reached (e ∷ ends) = state_text reached e ++ flat_map (or_state reached) ends

-- ---- their routes

unfoldable pub route_line : Destination × PathValue → List ℕ
route_line route = codes "  route " ++ (route_text route.0 route.1 ++ codes "\n")

abbrev pub routes_text : End → List ℕ
routes_text e = flat_map route_line e.routes.entries

-- after a line with its state
unfoldable pub state_line : ReachedValue → End → List ℕ
state_line reached e = codes "  " ++ (state_text reached e ++ codes "\n")

abbrev pub state_routes : ReachedValue → End → List ℕ
state_routes reached e = state_line reached e ++ routes_text e

-- those of each end, so if there are several
abbrev pub end_routes : ReachedValue → List End → List ℕ
end_routes reached ends =
    if length ends == 1 then flat_map routes_text ends
    else flat_map (state_routes reached) ends

-- an end before, with these families disabled and so many routes
unfoldable pub before_line : Families → ℕ → List ℕ
before_line disabled count =
    codes "  before that" ++ (disabled_text disabled ++ (codes ", routes from its peer: "
    ++ (decimal count ++ codes "\n")))

-- and its routes
abbrev pub before_routes : End → List ℕ
before_routes e =
    before_line e.routes.disabled (length e.routes.entries) ++ routes_text e

-- the routes of the ends, and then those of the ends before
abbrev pub all_routes : ReachedValue → List End → List ℕ
all_routes reached ends = end_routes reached ends ++ flat_map before_routes reached.before

-- if they are told
abbrev pub routes_if : Bool → ReachedValue → List End → List ℕ
routes_if true reached ends = all_routes reached ends
routes_if false reached ends = []
