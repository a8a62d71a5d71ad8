-- What is held of a recording's connections.
use Rattle.std.specs.Prelude.{List, [], ◌∷◌, Bool, All, filter}
use Rattle.streams.specs.declared.connections.Connections.{Connections}
use Rattle.streams.specs.declared.gathering.Gathering.{Gathering}
use Rattle.streams.specs.Passed.{Segment}
use Rattle.streams.specs.Connections.{has_ports, connections_of, first_in}
use Rattle.streams.specs.Gatherings.{AreSound, HoldsConnection, IsOf}

-- the connection goes between the segment's ports
abbrev pub passes : {Z : Type 0} → Segment → Gathering Z → Bool
passes s gathering = has_ports s gathering.local_port gathering.peer_port

abbrev pub AllSound : {Z : Type 0} → Connections Z → Type 0
AllSound connections = All AreSound connections.list.items

-- what is held of a connection is what its segments tell
abbrev pub IsOne : {Z : Type 0} → List Segment → Gathering Z → Type 0
IsOne [] gathering = ⊥
IsOne (s ∷ before) gathering =
    IsOf (first_in s before) gathering × HoldsConnection (s ∷ before) gathering

-- of each, in order
abbrev pub AreEach : {Z : Type 0} → List (List Segment) → List (Gathering Z) → Type 0
AreEach [] [] = Unit {0}
AreEach [] (gathering ∷ more) = ⊥
AreEach (segments ∷ others) [] = ⊥
AreEach (segments ∷ others) (gathering ∷ more) = IsOne segments gathering × AreEach others more

-- what is held is what the segments of a recording tell
pub record HoldsConnections {Z : Type 0} (segments : List Segment) (connections : Connections Z)
    : Type 0 where
  pub each : AreEach (connections_of segments) connections.list.items

-- those that hold octets
abbrev pub holding : {Z : Type 0} → List (Gathering Z) → List (Gathering Z)
holding gatherings = filter (λ g. g.has_octets) gatherings
