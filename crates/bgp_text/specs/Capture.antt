-- What decoding a capture writes: a line a record of the session, and a last one where the capture
-- is refused.
use Rattle.std.specs.Prelude.{◌≡◌, ◌⊎◌, ◌++◌, ℕ, List, [], ◌∷◌, codes}
use Rattle.std.specs.Fmt.{decimal}
use Rattle.bgp_prefix.specs.Shown.{ShownRecord, Received, Sent, Changed}
use Rattle.bgp_prefix.specs.declared.session.Session.{Session}
use Rattle.bgp_wire.specs.declared.header.Limit.{Limit}
use Rattle.bgp_wire.specs.declared.header.HeaderFaults.{HeaderFaults}
use Rattle.bgp_wire.specs.Header.{header_of, limit_with}
use Rattle.bgp_wire.specs.Verdict.{AreFaults}
use Rattle.bgp_wire.specs.Framing.{IsFrame, IsFaulty}
use Rattle.bgp_update.specs.DeclaredRouteForm.{RouteForm}
use Rattle.bgp_update.specs.RouteForm.{plain_form}
use Rattle.mrt.specs.Fault.{fault_number, fault_name}
use Rattle.mrt.specs.declared.fault.FaultKind.{FaultKind}
use Rattle.bgp_text.specs.Message.{Message, Says}
use Rattle.bgp_text.specs.Text.{text_of, subcodes_text}

-- a header with faults: their subcodes, ascending (RFC 4271, 6.1)
unfoldable pub faulty_text : HeaderFaults → List ℕ
faulty_text faults = codes "fault" ++ subcodes_text faults

-- The text of a message's octets, where it may be so long and routes are spelled in this form: of
-- what they say, or of a header with faults.
abbrev pub IsMessageText : RouteForm → Limit → List ℕ → List ℕ → Type 0
IsMessageText form limit octets text =
    (IsFrame limit octets
    × ((message : Message) × Says form octets message × (text ≡ text_of message)))
    ⊎ (IsFaulty limit octets
    × ((faults : HeaderFaults) × AreFaults limit (header_of octets) faults
    × (text ≡ faulty_text faults)))

-- a message behind its second and how it went
unfoldable pub message_text : ℕ → List ℕ → List ℕ → List ℕ
message_text second went text = codes "@" ++ (decimal second ++ (went ++ text))

-- a change of state, from one number to another
unfoldable pub change_text : ℕ → ℕ → ℕ → List ℕ
change_text second old new =
    codes "@" ++ (decimal second ++ (codes " change " ++ (decimal old
    ++ (codes " " ++ decimal new))))

-- The line of a record of the session without its end, where routes are spelled in this form. A
-- message that was received may be as long as the local system offers (RFC 8654, 4); one that was
-- sent is told by the same limit, so that a longer one is told as a fault where the peer alone
-- offers longer ones.
abbrev pub IsRecordText : Session → RouteForm → ShownRecord → List ℕ → Type 0
IsRecordText session form (Received second octets) text =
    (told : List ℕ) × IsMessageText form (limit_with session.extended) octets told
    × (text ≡ message_text second (codes " received ") told)
IsRecordText session form (Sent second octets) text =
    (told : List ℕ) × IsMessageText form (limit_with session.extended) octets told
    × (text ≡ message_text second (codes " sent ") told)
IsRecordText session form (Changed second old new) text = text ≡ change_text second old new

-- the line of a record of the session, by the plain form: what both OPENs settle isn't known here
abbrev pub IsRecordLine : Session → ShownRecord → List ℕ → Type 0
IsRecordLine session shown line =
    (text : List ℕ) × IsRecordText session plain_form shown text × (line ≡ text ++ codes "\n")

-- the lines of records, one after another
abbrev pub AreRecordLines : Session → List ShownRecord → List ℕ → Type 0
AreRecordLines session [] text = text ≡ []
AreRecordLines session (shown ∷ records) text =
    (line rest : List ℕ) × IsRecordLine session shown line × AreRecordLines session records rest
    × (text ≡ line ++ rest)

-- a capture that is refused: the fault's number and name, and the record's offset
unfoldable pub refused_line : FaultKind → ℕ → List ℕ
refused_line kind offset =
    codes "capture refused: " ++ (decimal (fault_number kind) ++ (codes " " ++ (fault_name kind
    ++ (codes " at " ++ (decimal offset ++ codes "\n")))))
