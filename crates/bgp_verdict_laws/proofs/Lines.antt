-- Each line is read from its object: so lines with one object have one text.
use Rattle.std.proofs.Common.{◌≡◌, ◌∙◌, ◌++◌, ℕ, Bool, true, false, List, [], ◌∷◌, Option, None, Some, codes, refl, sym, ap, if◌then◌else◌}
use Rattle.json.specs.Json.{Json, string}
use Rattle.mrt.specs.Fault.{fault_name, fault_number}
use Rattle.mrt.specs.declared.fault.CaptureFault.{CaptureFault}
use Rattle.bgp_prefix.specs.declared.session.Session.{Session}
use Rattle.streams.specs.declared.connection.Opening.{Opening}
use Rattle.streams.specs.declared.fault.Fault.{Fault}
use Rattle.streams.specs.declared.fault.Fault.TheVariants as faults
use Rattle.streams.specs.declared.passed.Side.{Side}
use Rattle.streams.specs.declared.passed.Side.TheVariants.{Local, Peer}
use Rattle.bgp_open.specs.declared.families.Families.{Families}
use Rattle.bgp_machine.specs.State.{number_of as state_number}
use Rattle.bgp_machine.specs.declared.fsm.Fsm.{Fsm}
use Rattle.bgp_machine.specs.declared.fsm.Fsm.TheVariants as states
use Rattle.bgp_names.specs.States.{state_name}
use Rattle.bgp_text.specs.Capture.{refused_line}
use Rattle.bgp_values.specs.declared.opens.Direction.{Direction}
use Rattle.bgp_json_laws.specs.VerdictText.{families_by, state_text}
use Rattle.bgp_import.specs.ListText.{end_of, end_text, opening_text, other_side}
use Rattle.bgp_import.specs.Refusals.{place_text, reason_text, refusal_line, refusal_name, refusal_number, refusal_packet, refusal_place}
use Rattle.bgp_import.specs.declared.refusal.Refusal.{Refusal}
use Rattle.bgp_import.specs.declared.refusal.Refusal.TheVariants as refusals
use Rattle.bgp_json_values.specs.Objects.{array_of, number_of}
use Rattle.bgp_json_values.specs.Texts.{address_json}
use Rattle.bgp_json.specs.Others.{octet_members}
use Rattle.bgp_json.specs.Place.{direction_json}
use Rattle.bgp_json_verdicts.specs.Lines.{LineValue, Opens, Answers, Ends, HasRoute, Reasons, RefusesCapture, Refuses, line_text}
use Rattle.bgp_json_verdicts.specs.Objects.{family_texts, line_json, octet_of}
use Rattle.bgp_json_verdicts.specs.declared.answer.Answer.{Answer}
use Rattle.bgp_json_verdicts.specs.declared.answer.Answer.TheVariants as answers
use Rattle.bgp_json_verdicts.specs.declared.telling.Counts.{Counts}
use Rattle.bgp_verdict_laws.specs.Laws.{IsLine, LinesAreDetermined}
use Rattle.bgp_verdict_laws.proofs.Shapes.{IsMade, having, nothing}
use Rattle.bgp_verdict_laws.proofs.Times.{time_made}
use Rattle.bgp_verdict_laws.proofs.Reading.{Connection, EndLine, Refused, Verdict, families_in, list_in, place_of_octet, plain, reads}
use Rattle.bgp_verdict_laws.proofs.Reasons.{reason_reads}
use Rattle.bgp_verdict_laws.proofs.Routes.{route_reads}

-- ---- an octet that a refusal names

abbrev direction_if : Option (Direction × ℕ) → Option Json
direction_if None = None
direction_if (Some place) = Some (direction_json place.0)

abbrev octet_if : Option (Direction × ℕ) → Option Json
octet_if None = None
octet_if (Some place) = Some (number_of place.1)

octet_made : (place : Option (Direction × ℕ)) → IsMade (codes "direction" ∷ codes "octet" ∷ []) (direction_if place ∷ octet_if place ∷ []) (octet_members place)
octet_made None = record { is = refl; long = refl }
octet_made (Some place) = record { is = refl; long = refl }

abbrev OctetReads : Refusal → Type 0
OctetReads refusal = place_of_octet (direction_if (octet_of refusal)) (octet_if (octet_of refusal)) ≡ place_text (refusal_place refusal)

conflict_reads : (number place : ℕ) (from : Side) → OctetReads (refusals.Connection (faults.Conflict number from place))
conflict_reads number place Local = refl
conflict_reads number place Peer = refl

missing_reads : (number place : ℕ) (from : Side) → OctetReads (refusals.Connection (faults.Missing number from place))
missing_reads number place Local = refl
missing_reads number place Peer = refl

reset_reads : (number place : ℕ) (from : Side) → OctetReads (refusals.Connection (faults.AfterReset number from place))
reset_reads number place Local = refl
reset_reads number place Peer = refl

refresh_reads : (number place : ℕ) (from : Side) → OctetReads (refusals.RouteRefresh number from place)
refresh_reads number place Local = refl
refresh_reads number place Peer = refl

fault_reads : (fault : Fault) → OctetReads (refusals.Connection fault)
fault_reads (faults.Cut number) = refl
fault_reads (faults.TimeBack number) = refl
fault_reads (faults.NoConnection number) = refl
fault_reads (faults.Several number) = refl
fault_reads (faults.NoStart number) = refl
fault_reads (faults.Conflict number from place) = conflict_reads number place from
fault_reads (faults.Missing number from place) = missing_reads number place from
fault_reads (faults.AfterReset number from place) = reset_reads number place from

octet_back : (refusal : Refusal) → OctetReads refusal
octet_back (refusals.File fault) = refl
octet_back (refusals.Packet fault number) = refl
octet_back (refusals.Connection fault) = fault_reads fault
octet_back (refusals.Memory number) = refl
octet_back (refusals.RouteRefresh number from place) = refresh_reads number place from

-- ---- states and families

state_back : (state : Fsm) → state_name (state_number state) ≡ state_text state
state_back states.Idle = refl
state_back states.Connect = refl
state_back states.Active = refl
state_back states.OpenSent = refl
state_back states.OpenConfirm = refl
state_back states.Established = refl

families_back : (v4 v6 : Bool)
    → families_in (list_in (Some (array_of string ((if v4 then codes "v4" ∷ [] else []) ++ (if v6 then codes "v6" ∷ [] else []))))) ≡ families_by v4 v6
families_back false false = refl
families_back true false = refl
families_back false true = refl
families_back true true = refl

-- ---- lines

module _ (counts : Counts) where
  abbrev Reads : LineValue → Type 0
  Reads line = plain (line_json counts line) ≡ line_text line

  opens_reads : (session : Session) (opening : Opening) → Reads (Opens session opening)
  unfolding line_text opening_text end_text
  opens_reads session opening =
      let from = end_of opening.opened_by session opening in
      let to = end_of (other_side opening.opened_by) session opening in
      reads Connection _ _ (having (codes "connection") (number_of opening.number) (having (codes "from") (address_json from.address) (having (codes "from_port") (number_of from.port)
      (having (codes "to") (address_json to.address) (having (codes "to_port") (number_of to.port) (time_made opening.second opening.micro))))))

  answers_reads : (answer : Answer) → Reads (Answers answer)
  unfolding line_text
  answers_reads answers.Yes =
      reads Verdict (Some (number_of counts.judged) ∷ Some (string (codes "yes")) ∷ None ∷ None ∷ []) _ record { is = refl; long = refl }
  answers_reads (answers.NoAt number) =
      reads Verdict (Some (number_of counts.judged) ∷ Some (string (codes "no")) ∷ Some (number_of number) ∷ None ∷ []) _ record { is = refl; long = refl }
  answers_reads (answers.NoAtPacket packet) =
      reads Verdict (Some (number_of counts.judged) ∷ Some (string (codes "no")) ∷ None ∷ Some (number_of packet) ∷ []) _ record { is = refl; long = refl }
  answers_reads answers.Unfinished =
      reads Verdict (Some (number_of counts.judged) ∷ Some (string (codes "unfinished")) ∷ None ∷ None ∷ []) _ record { is = refl; long = refl }

  ends_reads : (state : Fsm) (disabled : Families) → Reads (Ends state disabled)
  unfolding line_text
  ends_reads state disabled =
      reads EndLine _ _ (having (codes "judged") (number_of counts.judged) (having (codes "end") (number_of counts.end)
      (having (codes "state") (string (state_name (state_number state))) (having (codes "disabled") (array_of string (family_texts disabled)) nothing))))
      ∙ ap (λ (s : List ℕ). codes "end " ++ (s ++ (codes " disabled " ++ (families_in (list_in (Some (array_of string (family_texts disabled)))) ++ codes "\n")))) (state_back state)
      ∙ ap (λ (f : List ℕ). codes "end " ++ (state_text state ++ (codes " disabled " ++ (f ++ codes "\n")))) (families_back disabled.v4 disabled.v6)

  capture_reads : (fault : CaptureFault) → Reads (RefusesCapture fault)
  unfolding line_text refused_line
  capture_reads fault =
      reads Refused (Some (string (codes "capture")) ∷ Some (number_of (fault_number fault.kind)) ∷ Some (string (fault_name fault.kind)) ∷ Some (number_of fault.offset)
      ∷ None ∷ None ∷ None ∷ []) _ record { is = refl; long = refl }

  refuses_reads : (refusal : Refusal) → Reads (Refuses refusal)
  unfolding line_text refusal_line reason_text
  refuses_reads refusal =
      let octet = octet_made (octet_of refusal) in
      reads Refused (Some (string (codes "recording")) ∷ Some (number_of (refusal_number refusal)) ∷ Some (string (refusal_name refusal)) ∷ None
      ∷ Some (number_of (refusal_packet refusal)) ∷ direction_if (octet_of refusal) ∷ octet_if (octet_of refusal) ∷ []) _
      record {
        is = ap (λ (ms : List (List ℕ × Json)). (codes "what", string (codes "recording")) ∷ (codes "number", number_of (refusal_number refusal))
            ∷ (codes "name", string (refusal_name refusal)) ∷ (codes "packet", number_of (refusal_packet refusal)) ∷ ms) octet.is;
        long = refl;
      }
      ∙ ap (λ (t : List ℕ). codes "recording refused: " ++ (reason_text refusal ++ (t ++ codes "\n"))) (octet_back refusal)

  pub line_reads : (line : LineValue) → IsLine line → Reads line
  unfolding line_text
  line_reads (Opens session opening) is = opens_reads session opening
  line_reads (Answers answer) is = answers_reads answer
  line_reads (Ends state disabled) is = ends_reads state disabled
  line_reads (HasRoute destination path) is = route_reads path counts destination is
  line_reads (Reasons reason) is = reason_reads counts reason is
  line_reads (RefusesCapture fault) is = capture_reads fault
  line_reads (Refuses refusal) is = refuses_reads refusal

pub same_line : LinesAreDetermined
same_line counts also line other is too e =
    sym (line_reads counts line is) ∙ ap plain e ∙ line_reads also other too
