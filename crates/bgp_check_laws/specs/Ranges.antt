-- Lines of `check` as they are put: their numbers have 64 bits, their texts are UTF-8, and each
-- segment of a path has numbers.
use Rattle.std.specs.Prelude.{◌+◌, ⊤, ℕ, List, Option, None, Some, All, IsUtf8, length}
use Rattle.mrt_sessions.specs.File.{Located, NamesSession}
use Rattle.bgp_wire.specs.Octets.{AreOctets}
use Rattle.bgp_path.specs.Path.{PathValue}
use Rattle.bgp_update.specs.declared.destination.Destination.{Destination}
use Rattle.bgp_machine.specs.Run.{End}
use Rattle.bgp_check.specs.declared.peer_as.PeerAs.{PeerAs}
use Rattle.bgp_check.specs.declared.peer_as.PeerAs.TheVariants as peers
use Rattle.bgp_check_text.specs.Reached.{ReachedValue}
use Rattle.bgp_check_text.specs.declared.end.EndName.{EndName}
use Rattle.bgp_check_text.specs.declared.tally.Tally.{Tally}
use Rattle.bgp_check_lines.specs.Values.{CheckValue, IsYes, IsNo, IsUnfinished, IsUnjudged}
use Rattle.bgp_check_lines.specs.Values.{IsUnnamed, Explains, PassesOver, IsIncomplete, IsNotRead}
use Rattle.bgp_check_lines.specs.Values.{InMadeOrder, OneOrder, AnotherOrder, AllOrders, IsLate}
use Rattle.bgp_check_lines.specs.Values.{IsEnded, IsOpen, Repeats, Lists, HasSession}
use Rattle.bgp_check_lines.specs.Values.{RefusesFile, RefusesCapture, IsCutShort, NothingAt}
use Rattle.bgp_check_lines.specs.Values.{NoRecord, Counts}
use Rattle.bgp_json_verdicts.specs.Lines as verdicts
use Rattle.bgp_list_laws.specs.Laws.{AreRecords}
use Rattle.bgp_list_laws.specs.Ranges.{IsHow, IsRefusal}
use Rattle.bgp_list_laws.specs.Ranges.{IsLine as IsListed}
use Rattle.bgp_verdict_laws.specs.Laws.{IsFilled, IsReason}
use Rattle.bgp_verdict_laws.specs.Numbers.{Fits, FitsIfAny, FitsPath, FitsPlace, FitsReason}

-- ---- ends

abbrev pub FitsPart : Option (ℕ × ℕ) → Type 0
FitsPart None = ⊤
FitsPart (Some part) = Fits part.0 × Fits part.1

pub record IsName (name : EndName) : Type 0 where
  pub port : FitsIfAny name.end.port
  pub as_number : FitsIfAny name.as_number
  pub part : FitsPart name.part

abbrev pub FitsPeer : PeerAs → Type 0
FitsPeer peers.Any = ⊤
FitsPeer (peers.Is number) = Fits number
FitsPeer (peers.OtherThan number) = Fits number

pub record IsRoute (route : Destination × PathValue) : Type 0 where
  pub filled : All IsFilled route.1.as_path
  pub path_id : FitsIfAny route.0.path
  pub numbers : FitsPath route.1

pub record IsEnding (e : End) : Type 0 where
  pub count : Fits (length e.routes.entries)
  pub routes : All IsRoute e.routes.entries

pub record AreEndings (ends : List End) : Type 0 where
  pub count : Fits (length ends)
  pub each : All IsEnding ends

pub record IsReached (reached : ReachedValue) : Type 0 where
  pub highest : Fits reached.highest
  pub counts : All Fits reached.counts
  pub before : AreEndings reached.before

-- a record of a capture's session
abbrev pub IsRecord : Located → Type 0
IsRecord l = AreOctets l.octets × NamesSession l.octets

-- ---- lines

-- a line of a reason, and no other
abbrev pub IsOfReason : verdicts.LineValue → Type 0
IsOfReason (verdicts.Opens session opening) = ⊥
IsOfReason (verdicts.Answers answer) = ⊥
IsOfReason (verdicts.Ends state disabled) = ⊥
IsOfReason (verdicts.HasRoute destination path) = ⊥
IsOfReason (verdicts.Reasons reason) = IsReason reason × FitsReason reason
IsOfReason (verdicts.RefusesCapture fault) = ⊥
IsOfReason (verdicts.Refuses refusal) = ⊥

pub record IsTally (tally : Tally) : Type 0 where
  pub ends : Fits (tally.yes + tally.no + tally.unfinished + tally.not_judged)
  pub refused : Fits tally.refused

abbrev pub IsLine : CheckValue → Type 0
IsLine (IsYes routes name peer reached ends) =
    IsName name × FitsPeer peer × IsReached reached × AreEndings ends
IsLine (IsNo place name deed) = FitsPlace place × IsName name × IsUtf8 deed
IsLine (IsUnfinished place name) = FitsPlace place × IsName name
IsLine (IsUnjudged name why) = IsName name
IsLine (IsUnnamed end part why) = FitsIfAny end.port × FitsPart part
IsLine (Explains lines) = All IsOfReason lines
IsLine (PassesOver direction count) = Fits count
IsLine (IsIncomplete direction count) = Fits count
IsLine (IsNotRead direction at count is_refresh) = Fits at × Fits count
IsLine (InMadeOrder first deed place) = FitsPlace place × IsUtf8 deed
IsLine (OneOrder count) = Fits count
IsLine AnotherOrder = ⊤
IsLine AllOrders = ⊤
IsLine (IsLate within is_yes) = Fits within
IsLine (IsEnded first number micro by ended) =
    Fits number × Fits ended.second × FitsIfAny by.port × IsHow ended.how
IsLine IsOpen = ⊤
IsLine (Repeats options) = ⊤
IsLine (Lists line) = IsListed line
IsLine (HasSession addresses named) = AreRecords named
IsLine (RefusesFile refusal) = IsRefusal refusal
IsLine (RefusesCapture fault) = Fits fault.offset
IsLine (IsCutShort packet) = Fits packet
IsLine (NothingAt port) = Fits port
IsLine NoRecord = ⊤
IsLine (Counts tally) = IsTally tally
