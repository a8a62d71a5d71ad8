-- Which packets are of a conversation, and which are refused for it.
use Rattle.std.specs.Prelude.{◌≡◌, ◌⊎◌, Option, None, Some, Result, Ok, Err}
use Rattle.bgp_prefix.specs.declared.address.Address.{Address}
use Rattle.segments.specs.declared.conversation.Conversation.{Conversation}
use Rattle.segments.specs.declared.fault.PacketFault.{PacketFault}
use Rattle.segments.specs.declared.fault.PacketFault.TheVariants as faults
use Rattle.segments.specs.declared.found.Ends.{Ends}
use Rattle.segments.specs.declared.found.Segment.{Segment}
use Rattle.segments.specs.Segment.{TcpSegment, segment_value}
use Rattle.segments.specs.Segment.{Finding, Nothing, UnknownLink, Fragment, NoPorts}
use Rattle.segments.specs.Segment.{CutHeader, Whole}

-- from one of the two addresses to the other
abbrev pub AreBetween : Conversation → Address → Address → Type 0
AreBetween conversation from to =
    ((from ≡ conversation.local) × (to ≡ conversation.peer))
    ⊎ ((from ≡ conversation.peer) × (to ≡ conversation.local))

-- and one of the ports is the conversation's
abbrev pub AreEnds : Conversation → Ends → Type 0
AreEnds conversation ends =
    AreBetween conversation ends.from.address ends.to.address
    × ((ends.from.port ≡ conversation.port) ⊎ (ends.to.port ≡ conversation.port))

-- what is answered: a segment, nothing, or a refusal
abbrev pub Answer : Type 0
Answer = Result (Option TcpSegment) PacketFault

abbrev pub answer_of : Result (Option Segment) PacketFault → Answer
answer_of (Ok (Some segment)) = Ok (Some (segment_value segment))
answer_of (Ok None) = Ok None
answer_of (Err fault) = Err fault

-- this where it is so, and else nothing
abbrev pub IsAnswerIf : Type 0 → Answer → Answer → Type 0
IsAnswerIf Holds wanted answer =
    (Holds × (answer ≡ wanted)) ⊎ ((¬ Holds) × (answer ≡ Ok None))

-- The answer for what was found in a packet. A fragment and a packet without ports may be of
-- another conversation between the same addresses, and are refused too.
abbrev pub IsSelected : Conversation → Finding → Answer → Type 0
IsSelected conversation Nothing answer = answer ≡ Ok None
IsSelected conversation (UnknownLink link_type) answer = answer ≡ Err (faults.Link link_type)
IsSelected conversation (Fragment addresses) answer =
    IsAnswerIf (AreBetween conversation addresses.from addresses.to) (Err faults.Fragment) answer
IsSelected conversation (NoPorts addresses) answer =
    IsAnswerIf (AreBetween conversation addresses.from addresses.to) (Err faults.Cut) answer
IsSelected conversation (CutHeader ends) answer =
    IsAnswerIf (AreEnds conversation ends) (Err faults.Cut) answer
IsSelected conversation (Whole segment) answer =
    IsAnswerIf (AreEnds conversation segment.ends) (Ok (Some segment)) answer
