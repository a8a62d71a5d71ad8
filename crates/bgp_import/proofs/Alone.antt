-- Each thing that there is to tell of stands at a packet of its own.
use Rattle.std.proofs.Common.{◌≡◌, ◌≢◌, ◌∙◌, ◌<◌, ◌+◌, ◌-◌, ◌++◌, ℕ, List, [], ◌∷◌, length, reverse, Option, None, Some, Ok, Err, inl, inr, refl, sym, ap, subst, arith, length-append}
use Rattle.std.proofs.lemmas.List.{reverse-append}
use Rattle.std.specs.List.{AllByRecursion}
use Rattle.packets.specs.Packet.{Recorded}
use Rattle.segments.specs.Conversation.{Answer, IsAnswerIf, IsSelected}
use Rattle.segments.specs.Found.{found_in}
use Rattle.segments.specs.Segment.{CutHeader, Finding, Fragment, NoPorts, Nothing, TcpSegment, UnknownLink, Whole}
use Rattle.segments.specs.declared.conversation.Conversation.{Conversation}
use Rattle.segments.specs.declared.fault.PacketFault.{PacketFault}
use Rattle.segments.specs.declared.fault.PacketFault.TheVariants as faults
use Rattle.segments.specs.declared.found.Addresses.{Addresses}
use Rattle.segments.specs.declared.found.Ends.{Ends}
use Rattle.streams.specs.Choice.{first_packet}
use Rattle.streams.specs.Connections.{first_in, numbered}
use Rattle.streams.specs.Passed.{Segment}
use Rattle.streams.specs.declared.passed.Side.{Side}
use Rattle.streams.specs.declared.passed.Side.TheVariants.{Local, Peer}
use Rattle.bgp_import.specs.Selecting.{AreTaken, HasPart, IsFound, IsPart, IsSentBy, conversation_of, part_by}
use Rattle.bgp_import.specs.declared.selection.Selection.{Selection}
use Rattle.bgp_import.proofs.InOrder.{in_order}
use Rattle.bgp_import.specs.Alone.{ConnectionsStandAlone, NoneBeginsAtARefusal, RefusalsStandAlone}
use Rattle.bgp_import.specs.Pairs.{AreOrdered, addresses_in, addresses_of, ordered, selection_of}
use Rattle.bgp_import.specs.Places.{IsNumber, connection_in}
use Rattle.bgp_import.specs.Reading.{AreKnown}
use Rattle.bgp_import.specs.Talks.{IsLinkKnown, IsRefusedAt}
use Rattle.bgp_import.proofs.AddressOrder.{one_way}
use Rattle.bgp_import.proofs.ListedSoFar.{place_of}
use Rattle.bgp_import.proofs.Rising.{FirstIs, RiseIn, first_at, numbered_rise, one_first}

-- ---- lists

all_joined : {X : Type 0} (P : X → Type 0) (xs ys : List X) → AllByRecursion P xs → AllByRecursion P ys → AllByRecursion P (xs ++ ys)
all_joined P [] ys all also = also
all_joined P (x ∷ xs) ys all also = (all.0, all_joined P xs ys all.1 also)

all_reversed : {X : Type 0} (P : X → Type 0) (xs : List X) → AllByRecursion P xs → AllByRecursion P (reverse xs)
all_reversed P [] all = tt
all_reversed {X} P (x ∷ xs) all =
    subst (λ (ys : List X). AllByRecursion P ys) (sym (reverse-append (x ∷ []) xs)) (all_joined P (reverse xs) (x ∷ []) (all_reversed P xs all.1) (all.0, tt))

all_weaker : {X : Type 0} (P Q : X → Type 0) (xs : List X) → ((x : X) → P x → Q x) → AllByRecursion P xs → AllByRecursion Q xs
all_weaker P Q [] f all = tt
all_weaker P Q (x ∷ xs) f all = (f x all.0, all_weaker P Q xs f all.1)

all_at : {X : Type 0} (P : X → Type 0) (front later : List X) (x : X) → AllByRecursion P (front ++ x ∷ later) → P x
all_at P [] later x all = all.0
all_at P (y ∷ front) later x all = all_at P front later x all.1

head_is : {X : Type 0} (x y : X) (xs ys : List X) → x ∷ xs ≡ y ∷ ys → x ≡ y
head_is x y xs ys e = cc

tail_is : {X : Type 0} (x y : X) (xs ys : List X) → x ∷ xs ≡ y ∷ ys → xs ≡ ys
tail_is x y xs ys e = cc

same_place : {X : Type 0} (a b c d : List X) (p q : X) → a ++ p ∷ c ≡ b ++ q ∷ d → length a ≡ length b → p ≡ q
same_place [] [] c d p q e same = head_is p q c d e
same_place [] (y ∷ b) c d p q e same = absurd (omega (arith, same))
same_place (x ∷ a) [] c d p q e same = absurd (omega (arith, same))
same_place (x ∷ a) (y ∷ b) c d p q e same = same_place a b c d p q (tail_is x y (a ++ p ∷ c) (b ++ q ∷ d) e) (omega (arith, same))

-- a shorter front is within a longer one
within_front : {X : Type 0} (a b c d : List X) (p : X) → a ++ p ∷ c ≡ b ++ d → length a < length b → (more : List X) × (b ≡ a ++ p ∷ more)
within_front a [] c d p e less = absurd (omega (arith, less))
within_front {X} [] (y ∷ b) c d p e less = (b, ap (λ (x : X). x ∷ b) (sym (head_is p y c (b ++ d) e)))
within_front {X} (x ∷ a) (y ∷ b) c d p e less =
    let rest = within_front a b c d p (tail_is x y (a ++ p ∷ c) (b ++ d) e) (omega (arith, less)) in
    (rest.0, ap (λ (z : X). z ∷ b) (sym (head_is x y (a ++ p ∷ c) (b ++ d) e)) ∙ ap (λ (zs : List X). x ∷ zs) rest.1)

-- ---- what is found in a packet

one_answer : (Holds : Type 0) (wanted a b : Answer) → IsAnswerIf Holds wanted a → IsAnswerIf Holds wanted b → a ≡ b
one_answer Holds wanted a b (inl h) (inl k) = h.1 ∙ sym k.1
one_answer Holds wanted a b (inl h) (inr k) = absurd (k.0 h.0)
one_answer Holds wanted a b (inr h) (inl k) = absurd (h.0 k.0)
one_answer Holds wanted a b (inr h) (inr k) = h.1 ∙ sym k.1

one_selected : (conversation : Conversation) (finding : Finding) (a b : Answer) → IsSelected conversation finding a → IsSelected conversation finding b → a ≡ b
one_selected conversation Nothing a b h k = h ∙ sym k
one_selected conversation (UnknownLink link_type) a b h k = h ∙ sym k
one_selected conversation (Fragment addresses) a b h k = one_answer _ _ a b h k
one_selected conversation (NoPorts addresses) a b h k = one_answer _ _ a b h k
one_selected conversation (CutHeader ends) a b h k = one_answer _ _ a b h k
one_selected conversation (Whole segment) a b h k = one_answer _ _ a b h k

abbrev taken_as : Option TcpSegment → Answer
taken_as found = Ok found

abbrev refused_as : PacketFault → Answer
refused_as fault = Err fault

found_is : (a b : Option TcpSegment) → taken_as a ≡ taken_as b → a ≡ b
found_is a b e = cc

fault_is : (a b : PacketFault) → refused_as a ≡ refused_as b → a ≡ b
fault_is a b e = cc

not_both : (found : Option TcpSegment) (fault : PacketFault) → taken_as found ≡ refused_as fault → ⊥
not_both found fault e = cc

some_taken : (segment : TcpSegment) → taken_as (Some segment) ≢ taken_as None
some_taken segment e = cc

refused_some : (fault : PacketFault) → refused_as fault ≢ taken_as None
refused_some fault e = cc

some_is : (a b : Addresses) → Some a ≡ Some b → a ≡ b
some_is a b e = cc

-- the addresses for which something is found are those of the packet
own_pair : (port : ℕ) (q : Addresses) (finding : Finding) (answer : Answer) → AreOrdered q → IsSelected (conversation_of (selection_of q port)) finding answer
    → answer ≢ taken_as None → ((link_type : ℕ) → finding ≢ UnknownLink link_type) → (its : Addresses) × (addresses_in finding ≡ Some its) × (q ≡ ordered its)
own_pair port q Nothing answer is selected some known = absurd (some selected)
own_pair port q (UnknownLink link_type) answer is selected some known = absurd (known link_type refl)
own_pair port q (Fragment a) answer is selected some known = elim selected [ inl here ↦ (a, refl, one_way q a is here.0) | inr none ↦ absurd (some none.1) ]
own_pair port q (NoPorts a) answer is selected some known = elim selected [ inl here ↦ (a, refl, one_way q a is here.0) | inr none ↦ absurd (some none.1) ]
own_pair port q (CutHeader ends) answer is selected some known =
    elim selected [ inl here ↦ (addresses_of ends, refl, one_way q (addresses_of ends) is here.0.0) | inr none ↦ absurd (some none.1) ]
own_pair port q (Whole segment) answer is selected some known =
    elim selected [ inl here ↦ (addresses_of segment.ends, refl, one_way q (addresses_of segment.ends) is here.0.0) | inr none ↦ absurd (some none.1) ]

one_pair : (port : ℕ) (a b : Addresses) (finding : Finding) (answer other : Answer) → AreOrdered a → AreOrdered b → ((link_type : ℕ) → finding ≢ UnknownLink link_type)
    → IsSelected (conversation_of (selection_of a port)) finding answer → answer ≢ taken_as None
    → IsSelected (conversation_of (selection_of b port)) finding other → other ≢ taken_as None → a ≡ b
one_pair port a b finding answer other is_a is_b known selected some chosen also =
    let x = own_pair port a finding answer is_a selected some known in
    let y = own_pair port b finding other is_b chosen also known in
    x.2 ∙ ap ordered (some_is x.0 y.0 (sym x.1 ∙ y.1)) ∙ sym y.2

-- a segment is of a link that is known
link_of : (conversation : Conversation) (finding : Finding) (segment : TcpSegment) → IsSelected conversation finding (Ok (Some segment))
    → (link_type : ℕ) → finding ≢ UnknownLink link_type
link_of conversation finding segment selected link_type link =
    not_both (Some segment) (faults.Link link_type) (subst (λ (f : Finding). IsSelected conversation f (Ok (Some segment))) link selected)

-- ---- the segments of packets

one_sender : (selection : Selection) (ends : Ends) (a b : Option Side) → IsSentBy selection ends a → IsSentBy selection ends b → a ≡ b
one_sender selection ends None None h k = refl
one_sender selection ends None (Some Local) h k = absurd (h.0 k)
one_sender selection ends None (Some Peer) h k = absurd (h.1 k.1)
one_sender selection ends (Some Local) None h k = absurd (k.0 h)
one_sender selection ends (Some Local) (Some Local) h k = refl
one_sender selection ends (Some Local) (Some Peer) h k = absurd (k.0 h)
one_sender selection ends (Some Peer) None h k = absurd (k.1 h.1)
one_sender selection ends (Some Peer) (Some Local) h k = absurd (h.0 k)
one_sender selection ends (Some Peer) (Some Peer) h k = refl

one_part : (selection : Selection) (number : ℕ) (packet : Recorded) (found : Option TcpSegment) (a b : List Segment) → IsPart selection number packet found a
    → IsPart selection number packet found b → a ≡ b
one_part selection number packet None a b h k = h ∙ sym k
one_part selection number packet (Some segment) a b (side, sent, is) (other, also, too) =
    is ∙ ap (λ (s : Option Side). part_by number packet segment s) (one_sender selection segment.ends side other sent also) ∙ sym too

same_part : (selection : Selection) (number : ℕ) (packet : Recorded) (a b : List Segment) → HasPart selection number packet a → HasPart selection number packet b → a ≡ b
same_part selection number packet a b h k =
    let same : h.found ≡ k.found =
    found_is h.found k.found (one_selected _ (found_in packet.link_type packet.octets) (Ok h.found) (Ok k.found) h.is_found k.is_found) in
    one_part selection number packet k.found a b (subst (λ (f : Option TcpSegment). IsPart selection number packet f a) same h.is_part) k.is_part

pub same_taken : (selection : Selection) (before : ℕ) (packets : List Recorded) (a b : List Segment) → AreTaken selection before packets a → AreTaken selection before packets b → a ≡ b
same_taken selection before [] a b h k = h ∙ sym k
same_taken selection before (packet ∷ later) a b (part, others, has, rest, is) (part', others', has', rest', is') =
    is ∙ ap (λ (p : List Segment). p ++ others) (same_part selection (before + 1) packet part part' has has')
    ∙ ap (λ (o : List Segment). part' ++ o) (same_taken selection (before + 1) later others others' rest rest') ∙ sym is'

-- none of the packets is refused
taken_at : (selection : Selection) (before : ℕ) (front later : List Recorded) (packet : Recorded) (segments : List Segment)
    → AreTaken selection before (front ++ packet ∷ later) segments → (found : Option TcpSegment) × IsFound selection packet (Ok found)
taken_at selection before [] later packet segments (part, others, has, rest, is) = (has.found, has.is_found)
taken_at selection before (x ∷ front) later packet segments (part, others, has, rest, is) = taken_at selection (before + 1) front later packet others rest

pub taken_not_refused : (selection : Selection) (front later packets : List Recorded) (packet : Recorded) (segments : List Segment) (fault : PacketFault)
    → packets ≡ front ++ packet ∷ later → AreTaken selection 0 packets segments → IsFound selection packet (Err fault) → ⊥
taken_not_refused selection front later packets packet segments fault whole taken refused =
    let found = taken_at selection 0 front later packet segments (subst (λ (ps : List Recorded). AreTaken selection 0 ps segments) whole taken) in
    not_both found.0 fault (one_selected _ (found_in packet.link_type packet.octets) (Ok found.0) (Err fault) found.1 refused)

-- a segment of one of these packets, the first of which has the number after `before`
record AtPacket (selection : Selection) (before : ℕ) (packets : List Recorded) (s : Segment) : Type 0 where
  front : List Recorded
  packet : Recorded
  later : List Recorded
  segment : TcpSegment
  whole : packets ≡ front ++ packet ∷ later
  at : s.packet ≡ before + length front + 1
  found : IsFound selection packet (Ok (Some segment))

part_at : (selection : Selection) (before : ℕ) (packet : Recorded) (later : List Recorded) (part : List Segment) (found : Option TcpSegment)
    → IsFound selection packet (Ok found) → IsPart selection (before + 1) packet found part → AllByRecursion (AtPacket selection before (packet ∷ later)) part
part_at selection before packet later part None is_found is = subst (λ (p : List Segment). AllByRecursion (AtPacket selection before (packet ∷ later)) p) (sym is) tt
part_at selection before packet later part (Some segment) is_found (None, sent, is) =
    subst (λ (p : List Segment). AllByRecursion (AtPacket selection before (packet ∷ later)) p) (sym is) tt
part_at selection before packet later part (Some segment) is_found (Some side, sent, is) =
    subst (λ (p : List Segment). AllByRecursion (AtPacket selection before (packet ∷ later)) p) (sym is)
    (record { front = []; packet = packet; later = later; segment = segment; whole = refl; at = omega arith; found = is_found }, tt)

one_on : (selection : Selection) (before : ℕ) (packet : Recorded) (later : List Recorded) (s : Segment) → AtPacket selection (before + 1) later s
    → AtPacket selection before (packet ∷ later) s
one_on selection before packet later s at = record {
  front = packet ∷ at.front;
  packet = at.packet;
  later = at.later;
  segment = at.segment;
  whole = ap (λ (ps : List Recorded). packet ∷ ps) at.whole;
  at = omega (arith, at.at);
  found = at.found;
}

each_at : (selection : Selection) (before : ℕ) (packets : List Recorded) (segments : List Segment) → AreTaken selection before packets segments
    → AllByRecursion (AtPacket selection before packets) segments
each_at selection before [] segments taken = subst (λ (s : List Segment). AllByRecursion (AtPacket selection before []) s) (sym taken) tt
each_at selection before (packet ∷ later) segments (part, others, has, rest, is) =
    subst (λ (s : List Segment). AllByRecursion (AtPacket selection before (packet ∷ later)) s) (sym is)
    (all_joined (AtPacket selection before (packet ∷ later)) part others (part_at selection before packet later part has.found has.is_found has.is_part)
    (all_weaker (AtPacket selection (before + 1) later) (AtPacket selection before (packet ∷ later)) others (one_on selection before packet later)
    (each_at selection (before + 1) later others rest)))

not_beyond : (selection : Selection) (packets : List Recorded) (s : Segment) → AtPacket selection 0 packets s → s.packet < length packets + 1
not_beyond selection packets s at =
    let count = ap length at.whole ∙ length-append at.front (at.packet ∷ at.later) in
    omega (arith, at.at, count)

-- ---- connections

first_is : (P : Segment → Type 0) (connection : List Segment) → FirstIs P connection → (s : Segment) × (first_packet connection ≡ s.packet) × P s
first_is P [] is = absurd is
first_is P (s ∷ before) is = (first_in s before, refl, is)

module _ (port : ℕ) (packets : List Recorded) where
  module _ (q : Addresses) (segments : List Segment) (taken : AreTaken (selection_of q port) 0 packets segments) where
    abbrev of_packets : Segment → Type 0
    of_packets = AtPacket (selection_of q port) 0 packets

    all_of_packets : AllByRecursion of_packets (reverse segments)
    all_of_packets = all_reversed of_packets segments (each_at (selection_of q port) 0 packets segments taken)

    rising : RiseIn of_packets 0 (length packets + 1) (numbered (reverse segments))
    rising = numbered_rise of_packets (length packets + 1) (reverse segments) (in_order (selection_of q port) packets segments taken) all_of_packets
        (all_weaker of_packets (λ (s : Segment). s.packet < length packets + 1) (reverse segments) (not_beyond (selection_of q port) packets) all_of_packets)

    index_of : (number : ℕ) → IsNumber segments number → number - 1 < length (numbered (reverse segments))
    index_of number is = omega (arith, is.0, is.1)

    first_found : (number : ℕ) → IsNumber segments number → (s : Segment) × (first_packet (connection_in segments number) ≡ s.packet) × of_packets s
    first_found number is = first_is of_packets (connection_in segments number)
        (first_at of_packets 0 (length packets + 1) (numbered (reverse segments)) (number - 1) rising (index_of number is))

    one_number : (n m : ℕ) → IsNumber segments n → IsNumber segments m → first_packet (connection_in segments n) ≡ first_packet (connection_in segments m) → n ≡ m
    one_number n m is also same =
        let index : n - 1 ≡ m - 1 =
        one_first of_packets 0 (length packets + 1) (numbered (reverse segments)) (n - 1) (m - 1) rising (index_of n is) (index_of m also) same in
        omega (arith, index, is.0, also.0)

  -- two connections that begin at one packet
  pub alone : (a b : Addresses) (xs ys : List Segment) (n m : ℕ) → AreOrdered a → AreOrdered b → AreTaken (selection_of a port) 0 packets xs
      → AreTaken (selection_of b port) 0 packets ys → IsNumber xs n → IsNumber ys m → first_packet (connection_in xs n) ≡ first_packet (connection_in ys m)
      → (a ≡ b) × (xs ≡ ys) × (n ≡ m)
  alone a b xs ys n m is_a is_b taken also is_n is_m same =
      let x = first_found a xs taken n is_n in
      let y = first_found b ys also m is_m in
      let one = x.2 in
      let other = y.2 in
      let length_is : length one.front ≡ length other.front = omega (arith, x.1, y.1, same, one.at, other.at) in
      let packet_is : one.packet ≡ other.packet = same_place one.front other.front one.later other.later one.packet other.packet (sym one.whole ∙ other.whole) length_is in
      let found : IsFound (selection_of b port) one.packet (Ok (Some other.segment)) =
      subst (λ (p : Recorded). IsFound (selection_of b port) p (Ok (Some other.segment))) (sym packet_is) other.found in
      let finding = found_in one.packet.link_type one.packet.octets in
      let pair : a ≡ b = one_pair port a b finding (Ok (Some one.segment)) (Ok (Some other.segment)) is_a is_b
      (link_of (conversation_of (selection_of a port)) finding one.segment one.found) one.found (some_taken one.segment) found (some_taken other.segment) in
      let mine : AreTaken (selection_of b port) 0 packets xs = subst (λ (q : Addresses). AreTaken (selection_of q port) 0 packets xs) pair taken in
      let list : xs ≡ ys = same_taken (selection_of b port) 0 packets xs ys mine also in (
        pair,
        list,
        one_number b xs mine n m is_n (subst (λ (s : List Segment). IsNumber s m) (sym list) is_m)
            (same ∙ ap (λ (s : List Segment). first_packet (connection_in s m)) (sym list)),
      )

  -- a connection and a refusal
  pub apart : AreKnown packets → (a b : Addresses) (xs : List Segment) (n place : ℕ) (fault : PacketFault) → AreOrdered a → AreOrdered b
      → AreTaken (selection_of a port) 0 packets xs → IsNumber xs n → IsRefusedAt port packets b fault place → first_packet (connection_in xs n) ≡ place → ⊥
  apart known a b xs n place fault is_a is_b taken is_n refused same =
      let x = first_found a xs taken n is_n in
      let one = x.2 in
      let length_is : length one.front ≡ length refused.front = omega (arith, x.1, same, one.at, refused.is) in
      let packet_is : one.packet ≡ refused.packet = same_place one.front refused.front one.later refused.later one.packet refused.packet (sym one.whole ∙ refused.whole) length_is in
      let found : IsFound (selection_of a port) refused.packet (Ok (Some one.segment)) =
      subst (λ (p : Recorded). IsFound (selection_of a port) p (Ok (Some one.segment))) packet_is one.found in
      let finding = found_in refused.packet.link_type refused.packet.octets in
      let pair : a ≡ b = one_pair port a b finding (Ok (Some one.segment)) (Err fault) is_a is_b
      (link_of (conversation_of (selection_of a port)) finding one.segment found) found (some_taken one.segment) refused.refused (refused_some fault) in
      taken_not_refused (selection_of b port) refused.front refused.later packets refused.packet xs fault refused.whole
      (subst (λ (q : Addresses). AreTaken (selection_of q port) 0 packets xs) pair taken) refused.refused

  -- two refusals at one packet
  pub refused_alone : AreKnown packets → (a b : Addresses) (fault another : PacketFault) (place : ℕ) → AreOrdered a → AreOrdered b
      → IsRefusedAt port packets a fault place → IsRefusedAt port packets b another place → (a ≡ b) × (fault ≡ another)
  refused_alone known a b fault another place is_a is_b one other =
      let length_is : length one.front ≡ length other.front = omega (arith, one.is, other.is) in
      let packet_is : one.packet ≡ other.packet = same_place one.front other.front one.later other.later one.packet other.packet (sym one.whole ∙ other.whole) length_is in
      let its_link = all_at IsLinkKnown one.front one.later one.packet
      (subst (λ (ps : List Recorded). AreKnown ps) one.whole known) in
      let refused : IsFound (selection_of b port) one.packet (Err another) =
      subst (λ (p : Recorded). IsFound (selection_of b port) p (Err another)) (sym packet_is) other.refused in
      let finding = found_in one.packet.link_type one.packet.octets in
      let pair : a ≡ b = one_pair port a b finding (Err fault) (Err another) is_a is_b its_link one.refused (refused_some fault) refused (refused_some another) in (
        pair,
        fault_is fault another (one_selected _ finding (Err fault) (Err another)
            (subst (λ (q : Addresses). IsFound (selection_of q port) one.packet (Err fault)) pair one.refused) refused),
      )

  -- the first packet that is refused for two addresses is one
  not_before : (q : Addresses) (fault another : PacketFault) (place there : ℕ) → IsRefusedAt port packets q fault place → IsRefusedAt port packets q another there → place < there → ⊥
  not_before q fault another place there one other less =
      let shorter : length one.front < length other.front = omega (arith, one.is, other.is, less) in
      let more = within_front one.front other.front one.later (other.packet ∷ other.later) one.packet (sym one.whole ∙ other.whole) shorter in
      taken_not_refused (selection_of q port) one.front more.0 other.front one.packet other.segments fault more.1 other.taken one.refused

  pub one_place : (q : Addresses) (fault another : PacketFault) (place there : ℕ) → IsRefusedAt port packets q fault place → IsRefusedAt port packets q another there → place ≡ there
  one_place q fault another place there one other =
      omega (arith, not_before q fault another place there one other, not_before q another fault there place other one)

pub connections_alone : ConnectionsStandAlone
connections_alone port packets a b xs ys opening other one another same =
    let its = place_of xs opening.number opening refl one.opens in
    let others = place_of ys other.number other refl another.opens in
    alone port packets a b xs ys opening.number other.number one.ordered another.ordered one.taken another.taken one.number another.number (sym its ∙ same ∙ others)

pub refusals_alone : RefusalsStandAlone
refusals_alone port place packets a b fault another known is_a is_b one other = refused_alone port packets known a b fault another place is_a is_b one other

pub none_at_refusal : NoneBeginsAtARefusal
none_at_refusal port place packets a b xs opening fault known is_b one refused same =
    let its = place_of xs opening.number opening refl one.opens in
    apart port packets known a b xs opening.number place fault one.ordered is_b one.taken one.number refused (sym its ∙ same)
