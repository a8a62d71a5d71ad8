-- The text of a verdict on a session's records: a word, and behind a yes each possible end (RFC
-- 4271, 8.2.2) with its routes.
use Rattle.std.specs.Prelude.{◌++◌, ◌+◌, ℕ, Bool, true, false, List, map, codes}
use Rattle.std.specs.Fmt.{decimal}
use Rattle.std.specs.List.{flat_map}
use Rattle.bgp_path.specs.Path.{PathValue}
use Rattle.bgp_open.specs.declared.families.Families.{Families}
use Rattle.bgp_machine.specs.declared.fsm.Fsm.{Fsm}
use Rattle.bgp_machine.specs.declared.fsm.Fsm.TheVariants as states
use Rattle.bgp_machine.specs.Run.{End}
use Rattle.bgp_judge.specs.declared.verdict.Verdict.{Verdict}
use Rattle.bgp_judge.specs.declared.verdict.Verdict.TheVariants.{Yes, No, Unfinished}
use Rattle.bgp_judge.specs.Ends.{end_value}
use Rattle.bgp_update.specs.declared.destination.Destination.{Destination}
use Rattle.bgp_text.specs.RouteText.{route_text}

-- a state by its name
abbrev pub state_text : Fsm → List ℕ
state_text states.Idle = codes "Idle"
state_text states.Connect = codes "Connect"
state_text states.Active = codes "Active"
state_text states.OpenSent = codes "OpenSent"
state_text states.OpenConfirm = codes "OpenConfirm"
state_text states.Established = codes "Established"

-- families, by whether IPv4 and IPv6 are among them; a dash for none
abbrev pub families_by : Bool → Bool → List ℕ
families_by false false = codes "-"
families_by true false = codes "v4"
families_by false true = codes "v6"
families_by true true = codes "v4,v6"

abbrev pub families_text : Families → List ℕ
families_text families = families_by families.v4 families.v6

-- a route: its destination and its path
unfoldable pub route_line : Destination × PathValue → List ℕ
route_line route = codes "route " ++ (route_text route.0 route.1 ++ codes "\n")

-- an end: the state and the disabled families, and then its routes, in the order of destinations
unfoldable pub end_text : End → List ℕ
end_text e =
    codes "end " ++ (state_text e.fsm ++ (codes " disabled " ++ (families_text e.routes.disabled
    ++ (codes "\n" ++ flat_map route_line e.routes.entries))))

-- a no: the number of the first impossible record, which counts from 1
unfoldable pub no_line : ℕ → List ℕ
no_line count = codes "no at record " ++ (decimal (count + 1) ++ codes "\n")

-- a yes, and then each end
abbrev pub yes_text : List End → List ℕ
yes_text ends = codes "yes\n" ++ flat_map end_text ends

abbrev pub unfinished_line : List ℕ
unfinished_line = codes "unfinished\n"

abbrev pub verdict_text : {X : Type 0} → Verdict X → List ℕ
verdict_text (Yes ends) = yes_text (map end_value ends.items)
verdict_text (No count) = no_line count
verdict_text Unfinished = unfinished_line
