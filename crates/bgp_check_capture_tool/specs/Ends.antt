-- What is told of a session in a capture: of its local system, stretch by stretch.
use Rattle.std.specs.Prelude.{◌≡◌, ◌↔◌, ◌⊎◌, ◌+◌, ◌++◌, IsTrue, ℕ, List, [], ◌∷◌, Option, Some}
use Rattle.std.specs.Prelude.{false, length}
use Rattle.bgp_prefix.specs.Shown.{ShownRecord}
use Rattle.bgp_prefix.specs.declared.session.RouteRefresh.TheVariants as refreshes
use Rattle.bgp_prefix.specs.declared.session.Session.{Session}
use Rattle.mrt.specs.declared.fault.CaptureFault.{CaptureFault}
use Rattle.mrt_sessions.specs.File.{Located}
use Rattle.mrt_sessions.specs.Reading.{IsReading}
use Rattle.mrt_sessions.specs.declared.addresses.Addresses.{Addresses}
use Rattle.mrt_sessions.specs.declared.lengths.ExtendedMessages.{ExtendedMessages}
use Rattle.bgp_machine.specs.Lists.{Has}
use Rattle.bgp_check.specs.Cut.{joined}
use Rattle.bgp_check.specs.NotJudged.{SendsSome}
use Rattle.bgp_check.specs.SessionOffers.{HearsOffer, SendsOffer}
use Rattle.bgp_check_lines.specs.Capture.{no_memory}
use Rattle.bgp_check_capture_tool.specs.Judging.{telling_where}
use Rattle.bgp_check_capture_tool.specs.StretchEnd.{IsStretchEnd, StretchEnd, View}
use Rattle.bgp_check_capture_tool.specs.Stretches.{AreCut, first_of}
use Rattle.bgp_check_capture_tool.specs.declared.telling.Telling.{Telling}

pub data End : Type 0 where
  -- the session has so many records, and no message is sent
  Silent : ℕ → End
  -- so many records stand before its first stretch
  Staying : ℕ → End
  -- a stretch
  Stretch : StretchEnd → End

-- a session's, whatever its OPENs offer
abbrev pub session_of : Addresses → Session
session_of addresses = record {
  peer = addresses.peer;
  local = addresses.local;
  refresh = refreshes.NotOffered;
  extended = false;
}

-- between these addresses
abbrev pub addresses_of : Session → Addresses
addresses_of session = record { peer = session.peer; local = session.local }

-- ---- its stretches

abbrev pub IsToldOf : View → ℕ → List ShownRecord → Option ShownRecord → End → Type 0
IsToldOf view before stretch leaving (Silent count) = ⊥
IsToldOf view before stretch leaving (Staying count) = ⊥
IsToldOf view before stretch leaving (Stretch end) = IsStretchEnd view before stretch leaving end

-- Of each of these stretches this is told; the first record of the next one, or of what is left
-- after them all, leaves it.
abbrev pub AreTold : View → ℕ → List (List ShownRecord) → List ShownRecord → List End → Type 0
AreTold view before [] rest [] = Unit {0}
AreTold view before [] rest (end ∷ ends) = ⊥
AreTold view before (stretch ∷ stretches) rest [] = ⊥
AreTold view before (stretch ∷ stretches) rest (end ∷ ends) =
    IsToldOf view before stretch (first_of (joined stretches ++ rest)) end
    × AreTold view (before + length stretch) stretches rest ends

-- what stands before them is told of at once, if there is something
abbrev pub front_ends : List ShownRecord → List End
front_ends [] = []
front_ends (first ∷ records) = Staying (length (first ∷ records)) ∷ []

-- of all stretches but those of the rest
pub record TellsStretches (view : View) (records rest : List ShownRecord)
    (ends : List End) : Type 0 where
  pub front : List ShownRecord
  pub stretches : List (List ShownRecord)
  pub later : List End
  pub cut : AreCut records front stretches rest
  pub told : AreTold view (length front) stretches rest later
  pub are : ends ≡ front_ends front ++ later

-- ---- its records

-- of all of them at once, where no message is sent
abbrev pub silent_ends : List ShownRecord → List End
silent_ends [] = []
silent_ends (first ∷ records) = Silent (length (first ∷ records)) ∷ []

abbrev pub TellsRecords : View → List ShownRecord → List ShownRecord → List End → Type 0
TellsRecords view records rest ends =
    ((¬ SendsSome records) × (rest ≡ []) × (ends ≡ silent_ends records))
    ⊎ (SendsSome records × TellsStretches view records rest ends)

-- a session of a file that has these records there, and of which this one is refused, if one is
abbrev pub view_of : Telling → Addresses → List Located → Option CaptureFault → View
view_of telling addresses named refusal = record {
  telling = telling_where refusal telling;
  session = session_of addresses;
  named = named;
}

-- This is told of the session that has these records in a file: of those that are read of it, and
-- then why the next one is refused, if it is. The longest messages of each direction are those that
-- an OPEN of its receiver offers. Where memory is refused for a stretch, that is told in its place,
-- and nothing of what follows: the rest begins with it.
pub record IsToldAsRead (telling : Telling) (addresses : Addresses) (named : List Located)
    (ends : List End) (fault : Option CaptureFault) : Type 0 where
  pub extended : ExtendedMessages
  pub is_received : IsTrue extended.received ↔ Has SendsOffer named
  pub is_sent : IsTrue extended.sent ↔ Has HearsOffer named
  pub records : List ShownRecord
  pub refusal : Option CaptureFault
  pub reading : IsReading addresses extended named records refusal
  pub rest : List ShownRecord
  pub tells : TellsRecords (view_of telling addresses named refusal) records rest ends
  pub is_fault :
      ((rest ≡ []) × (fault ≡ refusal)) ⊎ ((¬ (rest ≡ [])) × (fault ≡ Some no_memory))

-- or only that memory was refused
abbrev pub IsSessionTold : Telling → Addresses → List Located → List End → Option CaptureFault
    → Type 0
IsSessionTold telling addresses named ends fault =
    IsToldAsRead telling addresses named ends fault
    ⊎ ((ends ≡ []) × (fault ≡ Some no_memory))
