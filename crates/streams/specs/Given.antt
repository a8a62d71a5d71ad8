-- The octets of a stream that are given, each with the packet that gave it first: a map from
-- places.
use Rattle.std.specs.Prelude.{ℕ, ◌+◌, ◌-◌, List, [], ◌∷◌, Option, Some, None, cond, nat_lt, length}
use Rattle.std.specs.Prelude.{◌≤◌, get_or, All, max}
use Rattle.std.specs.List.{sum_by}
use Rattle.std.specs.Map.{values_of}
use Rattle.std.specs.Option.{option_or, option_map, option_and_then, is_none}
use Rattle.std.specs.List.{slice_get}
use Rattle.std.specs.Prelude.{Bool, false, not, ◌||◌, ◌&&◌, nat_eq, nat_le}
use Rattle.streams.specs.declared.connection.Run.{Run}
use Rattle.streams.specs.declared.gathered.Giver.{Giver}
use Rattle.streams.specs.declared.gathered.Given.{Given}
use Rattle.streams.specs.declared.gathered.Gathered.{Gathered}
use Rattle.streams.specs.declared.stretch.Stretch.{Stretch}

-- how many octets the runs are
abbrev pub total : List Run → ℕ
total runs = sum_by (λ run. run.count) runs

-- who gave the octets of a run
abbrev pub run_giver : Run → Giver
run_giver run = record { packet = run.packet; second = run.second; micro = run.micro }

-- who gave the octet at the place, by the runs
abbrev pub giver_at : List Run → ℕ → Option Giver
giver_at [] place = None
giver_at (run ∷ runs) place = cond (nat_lt place run.count)
    (Some (run_giver run))
    (giver_at runs (place - run.count))

-- the octet at the place, as far as none is missing
abbrev pub known_at : List ℕ → List Run → ℕ → Option Given
known_at octets runs place = option_and_then
    (λ octet. option_map (λ giver. record { octet = octet; giver = giver }) (giver_at runs place))
    (slice_get octets place)

-- how many octets a stretch has
abbrev pub extent_of : {Z : Type 0} → Stretch Z → ℕ
extent_of stretch = length stretch.octets.items

-- the octet at the place, of a stretch that ends right before the place `end`
abbrev pub island_at : {Z : Type 0} → ℕ → Stretch Z → ℕ → Option Given
island_at end island place = cond (nat_le end (place + extent_of island))
    (known_at island.octets.items island.runs.items (place + extent_of island - end)) None

-- that of the first island which ends after the place: each has the place right after its last
-- octet beside it, in their order
unfoldable pub held_at : {Z : Type 0} → List (ℕ × Stretch Z) → ℕ → Option Given
held_at [] place = None
held_at ((end, island) ∷ later) place =
    cond (nat_lt place end) (island_at end island place) (held_at later place)

-- the octet given at the place: its packet is the first that gave it
unfoldable pub given_at : {Z : Type 0} → Gathered Z → ℕ → Option Given
given_at gathered place = option_or
    (known_at gathered.known.octets.items gathered.known.runs.items place)
    (held_at gathered.islands.entries place)

-- these octets from their first one's place on, all of one giver
abbrev pub piece_at : ℕ → List ℕ → Giver → ℕ → Option Given
piece_at first octets giver place =
    cond (nat_le first place && nat_lt place (first + length octets))
    (Some (record { octet = get_or octets (place - first) 0; giver = giver }))
    None

-- another octet was given before at the place
abbrev pub differs : Option ℕ → ℕ → Bool
differs None octet = false
differs (Some before) octet = not (nat_eq before octet)

-- the direction's FIN stands at the place or before it
abbrev pub ends_before : Option ℕ → ℕ → Bool
ends_before None place = false
ends_before (Some fin) place = nat_le fin place

-- an octet can't stand at the place
abbrev pub contradicts : Option ℕ → Option ℕ → ℕ → ℕ → Bool
contradicts before fin place octet = differs before octet || ends_before fin place

-- the octet of what is given
abbrev pub octet_of : Option Given → Option ℕ
octet_of given = option_map (λ g. g.octet) given

-- the first place at which one of these octets contradicts what was given before
abbrev pub first_conflict : (ℕ → Option Given) → Option ℕ → ℕ → List ℕ → Option ℕ
first_conflict given fin place [] = None
first_conflict given fin place (octet ∷ octets) =
    cond (contradicts (octet_of (given place)) fin place octet) (Some place)
    (first_conflict given fin (place + 1) octets)

-- the first place at which one of these octets stands that wasn't given before
abbrev pub first_new : (ℕ → Option Given) → ℕ → List ℕ → Option ℕ
first_new given place [] = None
first_new given place (octet ∷ octets) = cond (is_none (given place))
    (Some place)
    (first_new given (place + 1) octets)

-- the first of so many places, from this one on, that is the FIN's or after it
abbrev pub first_after : Option ℕ → ℕ → ℕ → Option ℕ
first_after None place count = None
first_after (Some fin) place count =
    cond (nat_lt (max fin place) (place + count)) (Some (max fin place)) None

-- no run is empty
abbrev pub AreCounted : List Run → Type 0
AreCounted runs = All (λ run. 1 ≤ run.count) runs

-- how many octets are held
abbrev pub size : {Z : Type 0} → Gathered Z → ℕ
size gathered = length gathered.known.octets.items
    + sum_by extent_of (values_of gathered.islands.entries)
