-- The connections of a recording: the segments of one pair of ports, up to the next SYN that begins
-- another. A connection's segments are told from the last one back to the first, the connections in
-- the order of their first segments.
use Rattle.std.specs.Prelude.{ℕ, List, [], ◌∷◌, ◌++◌, Option, Some, None, cond, Bool}
use Rattle.std.specs.Prelude.{false, not, ◌&&◌, ◌||◌, nat_eq, nat_lt, length, suc}
use Rattle.std.specs.Prelude.{get_or, filter, slice_set}
use Rattle.std.specs.Option.{option_or, option_map, is_some, is_none}
use Rattle.streams.specs.declared.passed.Side.{Side}
use Rattle.streams.specs.declared.connection.Closing.{Closing}
use Rattle.streams.specs.declared.connection.Closing.TheVariants.{Fin, Reset}
use Rattle.streams.specs.declared.connection.End.{End}
use Rattle.streams.specs.Passed.{Segment, other_side}
use Rattle.streams.specs.History.{start_of}

-- it goes between these ports
abbrev pub has_ports : Segment → ℕ → ℕ → Bool
has_ports s local_port peer_port =
    nat_eq local_port s.local_port && nat_eq peer_port s.peer_port

-- a segment without a SYN is among them
abbrev pub has_others : List Segment → Bool
has_others [] = false
has_others (s ∷ before) = has_others before || not s.syn

-- it has a SYN that begins another connection: its side has a SYN of another number in this one; or
-- its side has none there, it has no ACK, and a segment without a SYN stands there
abbrev pub begins : Segment → Option ℕ → Bool → Bool
begins s None others = s.syn && (is_none s.acknowledgment && others)
begins s (Some start) others = s.syn && not (nat_eq start s.sequence)

-- who opened a connection, by its first SYN: the side of that, if it has no ACK, else the other
abbrev pub opener_by : Segment → Option Side
opener_by s = cond s.syn
    (Some (cond (is_some s.acknowledgment) (other_side s.sender) s.sender)) None

abbrev pub opener_of : List Segment → Option Side
opener_of [] = None
opener_of (s ∷ before) = option_or (opener_of before) (opener_by s)

-- how a segment with a FIN or a RST ends a connection: a RST breaks it off, also one with a FIN
-- (RFC 9293, 3.10.7.4: the RST is looked at first)
abbrev pub closing_by : Segment → Closing
closing_by s = cond s.rst Reset Fin

-- the end of a connection: its first segment with a FIN or a RST
abbrev pub end_by : Segment → Option End
end_by s = cond (s.fin || s.rst)
    (Some (record {
      packet = s.packet;
      second = s.second;
      micro = s.micro;
      side = s.sender;
      closing = closing_by s;
    })) None

abbrev pub end_of_connection : List Segment → Option End
end_of_connection [] = None
end_of_connection (s ∷ before) = option_or (end_of_connection before) (end_by s)

-- a segment has data: octets, or such as the recording doesn't have
abbrev pub has_data : Segment → Bool
has_data s = nat_lt 0 (length s.octets) || not s.is_whole

-- a segment of a connection has data: it holds octets
abbrev pub has_octets : List Segment → Bool
has_octets [] = false
has_octets (s ∷ before) = has_octets before || has_data s

-- the first of some segments, told from the last one on
abbrev pub first_in : Segment → List Segment → Segment
first_in s [] = s
first_in s (last ∷ before) = first_in last before

-- the place of the last in a list that passes
abbrev pub last_index : {X : Type 0} → (X → Bool) → List X → Option ℕ
last_index test [] = None
last_index test (x ∷ xs) = option_or (option_map suc (last_index test xs))
    (cond (test x) (Some 0) None)

-- the connection goes between the segment's ports
abbrev pub is_between : Segment → List Segment → Bool
is_between s [] = false
is_between s (last ∷ before) =
    has_ports s (first_in last before).local_port (first_in last before).peer_port

-- one segment more: it is of the last connection between its ports, unless it begins another
abbrev pub put_at : Segment → List (List Segment) → Option ℕ → List (List Segment)
put_at s connections None = connections ++ (s ∷ []) ∷ []
put_at s connections (Some i) = cond (begins s (start_of s.sender (get_or connections i []))
    (has_others (get_or connections i [])))
    (connections ++ (s ∷ []) ∷ [])
    (slice_set connections i (s ∷ get_or connections i []))

unfoldable pub connections_of : List Segment → List (List Segment)
connections_of [] = []
connections_of (s ∷ before) = put_at s (connections_of before)
    (last_index (is_between s) (connections_of before))

-- those that hold octets: they have the numbers from 1 on
abbrev pub numbered : List Segment → List (List Segment)
numbered segments = filter has_octets (connections_of segments)
