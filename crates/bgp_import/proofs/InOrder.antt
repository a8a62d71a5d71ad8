-- The segments of packets, told from the last one back to the first, are in the order of their packets.
use Rattle.std.proofs.Common.{◌≡◌, ◌∙◌, ◌<◌, ◌≤◌, ◌+◌, ℕ, List, [], ◌∷◌, ◌++◌, reverse, Option, None, Some, sym, ap, subst, arith, append_assoc, append-nil}
use Rattle.std.proofs.lemmas.List.{reverse-append}
use Rattle.std.specs.List.{AllByRecursion}
use Rattle.packets.specs.Packet.{Recorded}
use Rattle.segments.specs.Segment.{TcpSegment}
use Rattle.streams.specs.Clock.{AreInOrder}
use Rattle.streams.specs.Passed.{Segment}
use Rattle.bgp_import.specs.Selecting.{IsPart, AreTaken, part_by, passed_of}
use Rattle.bgp_import.specs.declared.selection.Selection.{Selection}

-- all are of packets up to `last`
abbrev AreUpTo : ℕ → List Segment → Type 0
AreUpTo last segments = AllByRecursion (λ (s : Segment). s.packet ≤ last) segments

up_to_more : (last more : ℕ) (segments : List Segment) → last ≤ more → AreUpTo last segments → AreUpTo more segments
up_to_more last more [] le up = tt
up_to_more last more (s ∷ segments) le (here, up) = (omega (arith, here, le), up_to_more last more segments le up)

earlier : (last : ℕ) (s : Segment) (segments : List Segment) → last < s.packet → AreUpTo last segments → AllByRecursion (λ (e : Segment). e.packet < s.packet) segments
earlier last s [] lt up = tt
earlier last s (e ∷ segments) lt (here, up) = (omega (arith, here, lt), earlier last s segments lt up)

-- the segments of a packet stand behind what was told before, and those of later packets behind them
with_part : (before : ℕ) (packet : Recorded) (selection : Selection) (part others told : List Segment) (found : Option TcpSegment)
    → IsPart selection (before + 1) packet found part → AreUpTo before told → AreInOrder told
    → ((told' : List Segment) → AreUpTo (before + 1) told' → AreInOrder told' → AreInOrder (reverse others ++ told'))
    → AreInOrder (reverse (part ++ others) ++ told)
with_part before packet selection part others told None is up order on =
    subst (λ (p : List Segment). AreInOrder (reverse (p ++ others) ++ told)) (sym is)
    (on told (up_to_more before (before + 1) told (omega arith) up) order)
with_part before packet selection part others told (Some segment) (None, sent, is) up order on =
    subst (λ (p : List Segment). AreInOrder (reverse (p ++ others) ++ told)) (sym is)
    (on told (up_to_more before (before + 1) told (omega arith) up) order)
with_part before packet selection part others told (Some segment) (Some side, sent, is) up order on =
    let own = part_by (before + 1) packet segment (Some side) in
    let more = on (own ++ told) (omega arith, up_to_more before (before + 1) told (omega arith) up) (earlier before (passed_of (before + 1) packet segment side) told (omega arith) up, order) in
    let joined : reverse (own ++ others) ++ told ≡ reverse others ++ (own ++ told) = ap (λ (l : List Segment). l ++ told) (reverse-append own others) ∙ append_assoc (reverse others) own told in
    subst (λ (p : List Segment). AreInOrder (reverse (p ++ others) ++ told)) (sym is) (subst AreInOrder (sym joined) more)

-- what has been told, from the last one back, and then the rest
in_order_on : (selection : Selection) (before : ℕ) (packets : List Recorded) (segments told : List Segment)
    → AreTaken selection before packets segments → AreUpTo before told → AreInOrder told → AreInOrder (reverse segments ++ told)
in_order_on selection before [] segments told taken up order =
    subst (λ (s : List Segment). AreInOrder (reverse s ++ told)) (sym taken) order
in_order_on selection before (packet ∷ later) segments told (part, others, has, rest, is) up order =
    subst (λ (s : List Segment). AreInOrder (reverse s ++ told)) (sym is)
    (with_part before packet selection part others told has.found has.is_part up order
    (λ told' up' order'. in_order_on selection (before + 1) later others told' rest up' order'))

-- the packets of the segments rise
pub in_order : (selection : Selection) (packets : List Recorded) (segments : List Segment) → AreTaken selection 0 packets segments → AreInOrder (reverse segments)
in_order selection packets segments taken =
    subst AreInOrder (append-nil (reverse segments)) (in_order_on selection 0 packets segments [] taken tt tt)
