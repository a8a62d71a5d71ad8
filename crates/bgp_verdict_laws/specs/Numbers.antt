-- Lines whose numbers have 64 bits: JSON can have each number of their objects.
use Rattle.std.specs.Prelude.{◌<◌, ◌+◌, ◌^◌, ⊤, ℕ, List, Option, None, Some, All, length}
use Rattle.json.specs.Tree.{HasNumbers}
use Rattle.bgp_path.specs.AsPath.{PathSegment}
use Rattle.bgp_path.specs.Path.{PathValue}
use Rattle.bgp_path.specs.declared.path.Aggregator.{Aggregator}
use Rattle.bgp_values.specs.declared.opens.Direction.{Direction}
use Rattle.bgp_import.specs.Refusals.{refusal_number, refusal_packet}
use Rattle.bgp_why.specs.declared.place.Place.{Place}
use Rattle.bgp_json_verdicts.specs.Lines.{LineValue, Opens, Answers, Ends, HasRoute, Reasons}
use Rattle.bgp_json_verdicts.specs.Lines.{RefusesCapture, Refuses}
use Rattle.bgp_json_verdicts.specs.Lines.{ReasonValue, TheRecord, TheMessage, TheData, IsUnfit}
use Rattle.bgp_json_verdicts.specs.Lines.{AnotherAs, TheState, LastReceived, Possible}
use Rattle.bgp_json_verdicts.specs.Lines.{InAnotherOrder, OtherOrdersUnknown}
use Rattle.bgp_json_verdicts.specs.Lines.{SentAlready, Note, Records, Ignored, OtherSessions}
use Rattle.bgp_json_verdicts.specs.Lines.{OtherKinds}
use Rattle.bgp_json_verdicts.specs.Objects.{objects_of, octet_of}
use Rattle.bgp_json_verdicts.specs.declared.answer.Answer.{Answer}
use Rattle.bgp_json_verdicts.specs.declared.answer.Answer.TheVariants as answers
use Rattle.bgp_json_verdicts.specs.declared.at.At.{At}

abbrev pub Fits : ℕ → Type 0
Fits number = number < 2 ^ 64

abbrev pub FitsIfAny : Option ℕ → Type 0
FitsIfAny None = ⊤
FitsIfAny (Some number) = Fits number

-- microseconds are below 1,000,000 wherever they are put
abbrev pub FitsPlace : Place → Type 0
FitsPlace place = Fits place.number × FitsIfAny place.packet × Fits place.second

abbrev pub FitsAtIfAny : Option At → Type 0
FitsAtIfAny None = ⊤
FitsAtIfAny (Some at) = FitsPlace at.place

abbrev pub FitsAnswer : Answer → Type 0
FitsAnswer answers.Yes = ⊤
FitsAnswer (answers.NoAt number) = Fits number
FitsAnswer (answers.NoAtPacket packet) = Fits packet
FitsAnswer answers.Unfinished = ⊤

abbrev pub FitsReason : ReasonValue → Type 0
FitsReason (TheRecord place local deed) = FitsPlace place
FitsReason (TheMessage text) = ⊤
FitsReason (TheData text) = ⊤
FitsReason (IsUnfit why) = ⊤
FitsReason (AnotherAs number) = Fits number
FitsReason (TheState state since) = FitsAtIfAny since
FitsReason (LastReceived at name asked) = FitsPlace at.place
FitsReason (Possible is_owed is_next is_first item but) = ⊤
FitsReason (InAnotherOrder item) = ⊤
FitsReason OtherOrdersUnknown = ⊤
FitsReason (SentAlready code subcode at) = FitsPlace at.place × Fits code × Fits subcode
FitsReason (Note text) = ⊤
FitsReason (Records received sent changes) = Fits (received + sent + changes)
FitsReason (Ignored count) = Fits count
FitsReason (OtherSessions count first) = Fits count
FitsReason (OtherKinds count) = Fits count

abbrev pub FitsAggregator : Option Aggregator → Type 0
FitsAggregator None = ⊤
FitsAggregator (Some a) = Fits a.as_number

abbrev pub FitsSegment : PathSegment → Type 0
FitsSegment segment = All Fits segment.numbers

abbrev pub FitsPath : PathValue → Type 0
FitsPath p =
    All FitsSegment p.as_path × FitsIfAny p.multi_exit_disc × FitsIfAny p.local_pref
    × FitsAggregator p.aggregator

abbrev pub FitsOctet : Option (Direction × ℕ) → Type 0
FitsOctet None = ⊤
FitsOctet (Some place) = Fits place.1

abbrev pub FitsLine : LineValue → Type 0
FitsLine (Opens session opening) =
    Fits opening.number × Fits opening.local_port × Fits opening.peer_port × Fits opening.second
FitsLine (Answers answer) = FitsAnswer answer
FitsLine (Ends state disabled) = ⊤
FitsLine (HasRoute destination path) = FitsIfAny destination.path × FitsPath path
FitsLine (Reasons reason) = FitsReason reason
FitsLine (RefusesCapture fault) = Fits fault.offset
FitsLine (Refuses refusal) =
    Fits (refusal_number refusal) × Fits (refusal_packet refusal) × FitsOctet (octet_of refusal)

-- so are the numbers of an output's lines, and those that count them
abbrev pub LinesHaveNumbers : Type 0
LinesHaveNumbers =
    (lines : List LineValue) → length lines < 2 ^ 64 → All FitsLine lines
    → All HasNumbers (objects_of lines)
