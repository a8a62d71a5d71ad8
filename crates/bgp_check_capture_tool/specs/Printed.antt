-- What the lines of a session are worth: a verdict that is printed of a capture.
use Rattle.std.specs.Prelude.{◌≡◌, ◌↔◌, ◌⊎◌, ◌<◌, ◌+◌, ◌++◌, IsTrue, ℕ, Bool, List, []}
use Rattle.std.specs.Prelude.{Option, None, Some, codes, length, slice_index_or, take}
use Rattle.std.specs.Fmt.{decimal}
use Rattle.std.specs.List.{AllByRecursion, slice_get}
use Rattle.bgp_prefix.specs.Shown.{ShownRecord, second_of}
use Rattle.bgp_prefix.specs.Text.{address_text}
use Rattle.bgp_clock.specs.When.{when_text}
use Rattle.mrt.specs.declared.fault.CaptureFault.{CaptureFault}
use Rattle.mrt.specs.declared.fault.FaultKind.{FaultKind}
use Rattle.mrt_sessions.specs.File.{HasSuchRecords, Located}
use Rattle.mrt_sessions.specs.Held.{IsHeld}
use Rattle.mrt_sessions.specs.Reading.{IsReading}
use Rattle.mrt_sessions.specs.Sessions.{records_between}
use Rattle.mrt_sessions.specs.declared.addresses.Addresses.{Addresses}
use Rattle.mrt_sessions.specs.declared.holding.Ending.{Ending}
use Rattle.mrt_sessions.specs.declared.lengths.ExtendedMessages.{ExtendedMessages}
use Rattle.bgp_open.specs.declared.config.Config.{Config}
use Rattle.bgp_machine.specs.Lists.{Each, Has}
use Rattle.bgp_machine.specs.Run.{Begins}
use Rattle.bgp_judge.specs.Verdict.{VerdictValue}
use Rattle.bgp_check_lines.specs.Printed.{IsWrittenIn}
use Rattle.bgp_parts.specs.Opens.{HasHeardOpen, HasOwnOpen}
use Rattle.bgp_check.specs.Answered.{HasFault, JudgedAs}
use Rattle.bgp_check.specs.Configurations.{IsOf}
use Rattle.bgp_check.specs.Cut.{IsWholeStretch}
use Rattle.bgp_check.specs.Over.{HasVerdictOver}
use Rattle.bgp_check.specs.WidestMade.{IsFaultless}
use Rattle.bgp_check.specs.declared.own_fault.OwnFault.{OwnFault}
use Rattle.bgp_check.specs.declared.peer_as.PeerAs.{PeerAs}
use Rattle.bgp_check.specs.BeforeLeaving.{IsAtLeaving}
use Rattle.bgp_check.specs.Left.{HasVerdictWhereLeft}
use Rattle.bgp_check.specs.SessionOffers.{HearsOffer, SendsOffer}
use Rattle.bgp_check.specs.Passed.{Keeps, Left, nothing_left}
use Rattle.bgp_check.specs.StretchTold.{offers_of, with_leaving}
use Rattle.bgp_check_lines.specs.Tally.{last_text, status_of}
use Rattle.bgp_check_lines.specs.DeclaredTally.{Tally}
use Rattle.bgp_check_lines.specs.Sessions.{fault_text}
use Rattle.bgp_check_capture_tool.specs.Checking.{Block, IsBlock, blocks_text, nothing_text}
use Rattle.bgp_check_capture_tool.specs.Checking.{telling_of}
use Rattle.bgp_check_capture_tool.specs.Ends.{End, Silent, Staying, Stretch, session_of}
use Rattle.bgp_check_capture_tool.specs.Headline.{IsToldAmong}
use Rattle.bgp_check_capture_tool.specs.Places.{micro_after}
use Rattle.bgp_check_capture_tool.specs.StretchEnd.{StretchEnd}
use Rattle.bgp_check_capture_tool.specs.Stretches.{first_of}
use Rattle.bgp_check_capture_tool.specs.Text.{end_text}
use Rattle.bgp_check_capture_tool.specs.declared.options.CaptureOptions.{CaptureOptions}
use Rattle.bgp_check_capture_tool.specs.declared.telling.Telling.{Telling}

-- ---- the records of a stretch

-- These are read of the session between two addresses that has these records in the file: the
-- longest messages of each direction are those that an OPEN of its receiver offers.
pub record AreReadOf (addresses : Addresses) (named : List Located) (records : List ShownRecord)
    : Type 0 where
  pub extended : ExtendedMessages
  pub is_received : IsTrue extended.received ↔ Has SendsOffer named
  pub is_sent : IsTrue extended.sent ↔ Has HearsOffer named
  pub refusal : Option CaptureFault
  pub reading : IsReading addresses extended named records refusal

-- A stretch of that session: its records from one that leaves Idle up to the next one that does.
-- Left are those that aren't passed over, by what both OPENs in it offer.
pub record ReadStretch (addresses : Addresses) (named : List Located) : Type 0 where
  pub records : List ShownRecord
  pub are_read : AreReadOf addresses named records
  pub front : List ShownRecord
  pub stretch : List ShownRecord
  pub behind : List ShownRecord
  pub whole : records ≡ front ++ (stretch ++ behind)
  pub stretched : IsWholeStretch stretch
  pub next : IsAtLeaving behind
  pub own : Option (List ℕ)
  pub heard : Option (List ℕ)
  pub has_own : HasOwnOpen stretch own
  pub has_heard : HasHeardOpen stretch heard
  pub left : Left
  pub keeps : Keeps (offers_of own heard) 0 stretch nothing_left left

-- what of it is judged: what is left, and the record that leaves it, if one does
abbrev pub judged_of : {addresses : Addresses} {named : List Located}
    → ReadStretch addresses named → List ShownRecord
judged_of it = with_leaving it.left.records (first_of it.behind)

-- ---- a line that begins with the word `no`

-- the lines of a stretch begin so
abbrev pub BeginsWithNo : Bool → Addresses → StretchEnd → Type 0
BeginsWithNo routes addresses end =
    (rest : List ℕ) × (end_text routes addresses.local (Stretch end) ≡ codes "no " ++ rest)

-- They name a record of the session, and its time with its fraction: of those that are judged in this stretch of it,
-- the one after so many, at its place among all that the session has. No run under a
-- configuration under which the OPEN that was sent is the local system's own shows what is judged
-- up to that record; nor all of it. Some run under one of these configurations shows what is judged
-- before it, if there is such a configuration: it is the record at which no run goes on. If there
-- is none, for a fault of the OPEN, no record behind that OPEN is named.
pub record IsTrueNo (routes : Bool) (addresses : Addresses) (named : List Located)
    (end : StretchEnd) : Type 0 where
  pub it : ReadStretch addresses named
  pub is_part : end.part ≡ record { before = length it.front; count = length it.stretch }
  pub count : ℕ
  pub place : ℕ
  pub is_place : place
      ≡ length it.front + slice_index_or it.left.places count (length it.stretch)
  pub impossible : ShownRecord
  pub is_judged : slice_get (judged_of it) count ≡ Some impossible
  pub stands : slice_get it.records place ≡ Some impossible
  pub rest : List ℕ
  pub is_named : end_text routes addresses.local (Stretch end)
      ≡ codes "no at record " ++ (decimal (place + 1) ++ (codes ", "
      ++ (when_text (second_of impossible) (micro_after named place) ++ (codes " UTC: "
      ++ (address_text addresses.local ++ rest)))))
  pub none : (own : Option (List ℕ)) (config : Config) → HasOwnOpen (judged_of it) own
      → IsOf (session_of addresses) own config
      → (¬ Begins config (take (count + 1) (judged_of it))) × (¬ Begins config (judged_of it))
  pub possible : (own : Option (List ℕ)) → HasOwnOpen (judged_of it) own → IsFaultless own
      → (config : Config) × IsOf (session_of addresses) own config
      × Begins config (take count (judged_of it))
  pub by_open : (own : Option (List ℕ)) (fault : OwnFault) → HasOwnOpen (judged_of it) own
      → HasFault own fault → (n : ℕ) → HasOwnOpen (take n (judged_of it)) own → count < n

-- so it is of each stretch of a session whose lines begin so
abbrev pub IsTrueIfNo : Bool → Addresses → List Located → End → Type 0
IsTrueIfNo routes addresses named (Silent count) = Unit {0}
IsTrueIfNo routes addresses named (Staying count) = Unit {0}
IsTrueIfNo routes addresses named (Stretch end) =
    BeginsWithNo routes addresses end → IsTrueNo routes addresses named end

abbrev pub NoesAreTrue : Bool → List Located → Block → Type 0
NoesAreTrue routes named block =
    Each (IsTrueIfNo routes block.addresses (records_between block.addresses named)) block.ends

-- The octets have these records, and the text is that of blocks, each of which is told of a session
-- of these: so each line that begins with the word `no` is that of a stretch. In these each such
-- line is true.
pub record HasTrueNoes (options : CaptureOptions) (octets : List ℕ) (fault : Option CaptureFault)
    (text : List ℕ) : Type 0 where
  pub named : List Located
  pub offset : ℕ
  pub refusal : Option FaultKind
  pub plain : Bool
  pub has : HasSuchRecords octets named offset refusal plain
  pub blocks : List Block
  pub told : AllByRecursion (IsBlock (telling_of options plain fault) named) blocks
  pub noes : AllByRecursion (NoesAreTrue options.printing.routes named) blocks
  pub is_text : text ≡ blocks_text options.printing named blocks

-- What is written of these octets is such a text, or none, and behind it no line of a session.
pub record WritesTrueNoes {T : Type 0} (takes : T → T → List ℕ → Type 0) (failures : T → ℕ)
    (options : CaptureOptions) (octets : List ℕ) (sink sink' : T) (status : ℕ)
    (fault : Option CaptureFault) : Type 0 where
  pub text : List ℕ
  pub noes : HasTrueNoes options octets fault text ⊎ (text ≡ [])
  pub tally : Tally
  pub written : IsWrittenIn options.form takes failures
      (text ++ (fault_text fault ++ (nothing_text tally
      ++ last_text options.printing.quiet tally)))
      (status_of tally) sink sink' status

-- These octets are held of the source, and of them that is written.
pub record PrintsTrueNoes {S T : Type 0} (gives : S → S → List ℕ → Type 0) (has_ended : S → Bool)
    (takes : T → T → List ℕ → Type 0) (failures : T → ℕ) (options : CaptureOptions)
    (source source' : S) (sink sink' : T) (status : ℕ) (fault : Option CaptureFault) : Type 0
  where
    pub octets : List ℕ
    pub ending : Ending
    pub held : IsHeld gives has_ended source source' octets ending
    pub writes : WritesTrueNoes takes failures options octets sink sink' status fault

-- ---- the law

-- the verdict is that over these configurations: of a stretch that a record leaves, or of one that
-- none does
abbrev pub HasVerdictBy : (Config → Type 0) → List ShownRecord → Option ShownRecord → VerdictValue
    → Type 0
HasVerdictBy Is records None verdict = HasVerdictOver Is records verdict
HasVerdictBy Is records (Some leaving) verdict = HasVerdictWhereLeft Is records leaving verdict

-- The verdict on this stretch of the session is this one over all configurations under which the
-- OPEN that was sent is the local system's own, where that has no own fault.
pub record HasVerdictOverAll (addresses : Addresses) (named : List Located) (end : StretchEnd)
    (verdict : VerdictValue) : Type 0 where
  pub it : ReadStretch addresses named
  pub is_part : end.part ≡ record { before = length it.front; count = length it.stretch }
  pub over_all : (own : Option (List ℕ)) → HasOwnOpen (judged_of it) own → IsFaultless own
      → HasVerdictBy (IsOf (session_of addresses) own) it.left.records (first_of it.behind) verdict

-- So it is of each verdict that is told of a stretch: of a yes, a no and an unfinished.
abbrev pub ToldVerdictIsOverAll : Type 0
ToldVerdictIsOverAll =
    (telling : Telling) (addresses : Addresses) (named : List Located) (end : StretchEnd)
    (number : Option ℕ) (peer : PeerAs) (under : Config) (verdict : VerdictValue)
    → IsToldAmong telling addresses named end
    → end.told.answer ≡ JudgedAs number peer under verdict
    → HasVerdictOverAll addresses named end verdict
