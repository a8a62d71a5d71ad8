-- Some records of a file, as a reader of captures reads them of one session (RFC 6396, 2 and 4.4).
use Rattle.std.specs.Prelude.{◌≡◌, ◌⊎◌, ℕ, List, [], ◌∷◌, Option, Some}
use Rattle.bgp_prefix.specs.Shown.{ShownRecord, second_of}
use Rattle.bgp_prefix.specs.declared.session.Session.{Session}
use Rattle.mrt.specs.Capture.{shown_of}
use Rattle.mrt.specs.Rules.{FirstSays, Holds, Judgement, OfSession, SkippedRefresh, place_of}
use Rattle.mrt.specs.Rules.{record_rules}
use Rattle.mrt_sessions.specs.declared.addresses.Addresses.{Addresses}
use Rattle.mrt_sessions.specs.File.{Located}

-- the two addresses of a session
abbrev pub addresses_in : Session → Addresses
addresses_in session = record { peer = session.peer; local = session.local }

-- A whole record of type BGP4MP or BGP4MP_ET, whose body isn't too long, is judged so for the
-- session, behind one of the session of the second `last`.
abbrev pub IsJudgedOf : Session → Option ℕ → List ℕ → Judgement → Type 0
IsJudgedOf session last octets judgement =
    FirstSays (Holds session last (place_of octets)) record_rules judgement

-- Behind one of the second `last` such records are read as just these: each is the session's and
-- shows the next of them, or is a ROUTE-REFRESH that is passed over; and none of them is left.
abbrev pub ReadsAs : Session → Option ℕ → List Located → List ShownRecord → Type 0
ReadsAs session last [] records = records ≡ []
ReadsAs session last (named ∷ later) records =
    (IsJudgedOf session last named.octets SkippedRefresh × ReadsAs session last later records)
    ⊎ ((others : List ShownRecord) × IsJudgedOf session last named.octets OfSession
    × (records ≡ shown_of named.octets ∷ others)
    × ReadsAs session (Some (second_of (shown_of named.octets))) later others)
