-- The segments of packets that are taken one after another.
use Rattle.std.proofs.Common.{◌≡◌, ◌∙◌, ◌+◌, ℕ, List, [], ◌∷◌, ◌++◌, length, reverse, Option, None, Some, refl, sym, ap, subst, arith, append_assoc, append-nil}
use Rattle.std.proofs.lemmas.List.{reverse-append}
use Rattle.packets.specs.Packet.{Recorded}
use Rattle.segments.specs.Conversation.{Answer, IsSelected}
use Rattle.segments.specs.Found.{found_in}
use Rattle.segments.specs.Segment.{Finding, TcpSegment}
use Rattle.segments.specs.declared.conversation.Conversation.{Conversation}
use Rattle.streams.specs.Passed.{Segment}
use Rattle.bgp_import.specs.Selecting.{conversation_of, HasPart, IsPart, IsFound, AreTaken}
use Rattle.bgp_import.specs.declared.selection.Selection.{Selection}

-- what is selected of what was found in a packet is found in it
pub found_so : (selection : Selection) (packet : Recorded) (conversation : Conversation) (finding : Finding) (answer : Answer)
    → IsSelected conversation finding answer → conversation ≡ conversation_of selection → finding ≡ found_in packet.link_type packet.octets
    → IsFound selection packet answer
found_so selection packet conversation finding answer selected meant found =
    subst (λ (f : Finding). IsSelected (conversation_of selection) f answer) found
    (subst (λ (m : Conversation). IsSelected m finding answer) meant selected)

at_number : (selection : Selection) (packet : Recorded) (part : List Segment) (n m : ℕ) → n ≡ m → HasPart selection n packet part → HasPart selection m packet part
at_number selection packet part n m same has = subst (λ (k : ℕ). HasPart selection k packet part) same has

-- one packet more
pub one_more : (selection : Selection) (before : ℕ) (packets : List Recorded) (segments : List Segment) (packet : Recorded) (part : List Segment)
    → AreTaken selection before packets segments → HasPart selection (before + length packets + 1) packet part
    → AreTaken selection before (packets ++ packet ∷ []) (segments ++ part)
one_more selection before [] segments packet part taken has =
    (part, [], at_number selection packet part _ _ (omega arith) has, refl, ap (λ (s : List Segment). s ++ part) taken ∙ sym (append-nil part))
one_more selection before (first ∷ later) segments packet part (own, others, first_has, rest, is) has =
    let there = at_number selection packet part _ (before + 1 + length later + 1) (omega arith) has in (
      own,
      others ++ part,
      first_has,
      one_more selection (before + 1) later others packet part rest there,
      ap (λ (s : List Segment). s ++ part) is ∙ append_assoc own others part,
    )

part_reversed : (selection : Selection) (number : ℕ) (packet : Recorded) (found : Option TcpSegment) (part : List Segment) → IsPart selection number packet found part → reverse part ≡ part
part_reversed selection number packet None part is = ap reverse is ∙ sym is
part_reversed selection number packet (Some segment) part (None, sent, is) = ap reverse is ∙ sym is
part_reversed selection number packet (Some segment) part (Some side, sent, is) = ap reverse is ∙ sym is

-- told from the last one back, they begin with those of the last packet
pub last_first : (selection : Selection) (number : ℕ) (packet : Recorded) (segments part : List Segment) → HasPart selection number packet part
    → part ++ reverse segments ≡ reverse (segments ++ part)
last_first selection number packet segments part has =
    ap (λ (p : List Segment). p ++ reverse segments) (sym (part_reversed selection number packet has.found part has.is_part))
    ∙ sym (reverse-append segments part)
