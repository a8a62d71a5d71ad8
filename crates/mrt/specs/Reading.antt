-- What a read of one record tells of it.
use Rattle.std.specs.Prelude.{◌≡◌, ◌≤◌, ◌+◌, ◌++◌, ℕ, Bool, List, [], length, take, IsTrue}
use Rattle.std.specs.Prelude.{Option}
use Rattle.bgp_prefix.specs.declared.session.Session.{Session}
use Rattle.mrt.specs.Layout.{header_of, body_of, content_in, content_at}
use Rattle.mrt.specs.Rules.{Refused, IsJudged}
use Rattle.mrt.specs.Capture.{Shown, IsPiece, shown_of, micro_of}
use Rattle.mrt.specs.Skipped.{piece_for, IsSkipOf}
use Rattle.mrt.specs.Found.{shown_as}
use Rattle.mrt.specs.declared.fault.FaultKind.{FaultKind}
use Rattle.mrt.specs.declared.judging.Found.{Found}
use Rattle.mrt.specs.declared.reading.Read.{Read}
use Rattle.mrt.specs.declared.reading.Read.TheVariants as reads

-- Whatever stands behind these octets, which is nothing where the source has ended, the place where
-- they begin is refused for this fault.
abbrev pub IsRefused : Session → Option ℕ → List ℕ → Bool → FaultKind → Type 0
IsRefused session last octets ended kind =
    (more : List ℕ) → (IsTrue ended → more ≡ [])
    → IsJudged session last (octets ++ more) (Refused kind)

-- the octets are a record of the session, whose body the buffer holds, and this was found
pub record IsFoundIn (octets buffer : List ℕ) (found : Found) : Type 0 where
  pub count : length octets ≡ 12 + found.count
  pub fits : found.count ≤ length buffer
  pub body : take found.count buffer ≡ body_of octets
  pub content_at : found.content_at ≡ content_at (header_of octets) (body_of octets)
  pub within : found.content_at ≤ found.count
  pub second : found.second ≡ (header_of octets).second
  pub micro : found.micro ≡ micro_of octets
  pub shown : shown_as found.second found.shows
      (content_in (header_of octets) (body_of octets)) ≡ shown_of octets

-- these octets were read, and so many of a skipped record
abbrev pub IsRead : Session → Option ℕ → List ℕ → Bool → List ℕ → Read → Type 0
IsRead session last octets ended buffer reads.End = (octets ≡ []) × IsTrue ended
IsRead session last octets ended buffer (reads.Skipped skip count) =
    IsPiece session last (piece_for skip octets)
    × IsSkipOf skip (header_of octets) (body_of octets) × (length octets ≡ count)
IsRead session last octets ended buffer (reads.Refused kind) =
    IsRefused session last octets ended kind
IsRead session last octets ended buffer (reads.OfSession found) =
    IsPiece session last (Shown octets) × IsFoundIn octets buffer found
