-- Why a connection is refused: each rule's own refusal, and the first that holds.
use Rattle.std.specs.Prelude.{ℕ, List, [], ◌∷◌, Option, Some, None, cond, ◌&&◌, ◌||◌}
use Rattle.std.specs.Prelude.{nat_lt, nat_eq, min, length}
use Rattle.std.specs.Option.{option_or, option_map, is_none}
use Rattle.streams.specs.declared.fault.Fault.{Fault}
use Rattle.streams.specs.declared.fault.Fault.TheVariants as faults
use Rattle.streams.specs.declared.passed.Side.TheVariants.{Local, Peer}
use Rattle.streams.specs.Given.{first_conflict, first_new}
use Rattle.streams.specs.Passed.{Segment}
use Rattle.streams.specs.Places.{after}
use Rattle.streams.specs.History.{start_of, given_of, placed, end_of, fin_of, has_rst}

-- data octets that the recording doesn't have
abbrev pub cut : Segment → Option Fault
cut s = cond s.is_whole None (Some (faults.Cut s.packet))

-- a second below that of the connection's packet before
abbrev pub time_back : Segment → List Segment → Option Fault
time_back s [] = None
time_back s (last ∷ before) =
    cond (nat_lt s.second last.second) (Some (faults.TimeBack s.packet)) None

-- data or a FIN, without a SYN of that side at or before it
abbrev pub no_start : Segment → List Segment → Option Fault
no_start s before = cond
    ((nat_lt 0 (length s.octets) || s.fin) && is_none (start_of s.sender (s ∷ before)))
    (Some (faults.NoStart s.packet)) None

abbrev pub conflict_at : Segment → Option ℕ → Option Fault
conflict_at s place = option_map (λ p. faults.Conflict s.packet s.sender p) place

-- an octet was given before with another value, or stands at or after the place of the FIN
abbrev pub octet_conflict : Segment → List Segment → Option Fault
octet_conflict s before = conflict_at s (first_conflict (given_of s.sender before)
    (fin_of s.sender before) (placed s before).first (placed s before).octets)

-- the FIN stands elsewhere than the one before it: the lesser place is told
abbrev pub other_fin : ℕ → Option ℕ → Option ℕ
other_fin place None = None
other_fin place (Some before) = cond (nat_eq before place) None (Some (min before place))

-- the FIN isn't after all octets given
abbrev pub early_fin : ℕ → ℕ → Option ℕ
early_fin place end = cond (nat_lt place end) (Some place) None

abbrev pub fin_conflict : Segment → List Segment → Option Fault
fin_conflict s before = conflict_at s (cond s.fin
    (option_or (other_fin (after (placed s before)) (fin_of s.sender before))
    (early_fin (after (placed s before)) (end_of s.sender (s ∷ before))))
    None)

-- an octet is given for the first time though the side has sent a RST
abbrev pub after_reset : Segment → List Segment → Option Fault
after_reset s before = cond (has_rst s.sender before)
    (option_map (λ p. faults.AfterReset s.packet s.sender p)
    (first_new (given_of s.sender before) (placed s before).first (placed s before).octets))
    None

-- the first rule that holds of a segment after those before it
abbrev pub fault_at : Segment → List Segment → Option Fault
fault_at s before = option_or (cut s) (option_or (time_back s before)
    (option_or (no_start s before) (option_or (octet_conflict s before)
    (option_or (fin_conflict s before) (after_reset s before)))))

-- the first refusal of a connection's segments, packet by packet
unfoldable pub first_fault : List Segment → Option Fault
first_fault [] = None
first_fault (s ∷ before) = option_or (first_fault before) (fault_at s before)

-- the refusal of half a connection, at the first packet that acknowledges what a side sent whose
-- SYN isn't in it: the peer's or the local system's
abbrev pub half_of : Option ℕ → Option ℕ → Option Fault
half_of None None = None
half_of (Some packet) None = Some (faults.NoStart packet)
half_of None (Some packet) = Some (faults.NoStart packet)
half_of (Some received) (Some sent) = Some (faults.NoStart (min received sent))

-- the refusal at the end, of packets that show octets which the received and the sent stream lack:
-- the lesser packet's, of one packet the received stream's. Both streams' first holes are told
abbrev pub missing_of : Option ℕ → Option ℕ → ℕ → ℕ → Option Fault
missing_of None None received_next sent_next = None
missing_of (Some packet) None received_next sent_next =
    Some (faults.Missing packet Peer received_next)
missing_of None (Some packet) received_next sent_next =
    Some (faults.Missing packet Local sent_next)
missing_of (Some received) (Some sent) received_next sent_next = cond (nat_lt sent received)
    (Some (faults.Missing sent Local sent_next))
    (Some (faults.Missing received Peer received_next))
