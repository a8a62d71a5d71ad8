-- What the reader's functions tell of a record: its header, its fields, and what it was judged.
use Rattle.std.specs.Prelude.{◌≡◌, ◌≤◌, ℕ, List, length, Option, Result, Ok, Err}
use Rattle.bgp_prefix.specs.Shown.{ShownRecord, Received, Sent, Changed}
use Rattle.bgp_prefix.specs.declared.family.Family.{Family}
use Rattle.bgp_prefix.specs.declared.family.Family.TheVariants.{V4, V6}
use Rattle.bgp_prefix.specs.declared.session.Session.{Session}
use Rattle.mrt.specs.Layout.{Header, LacksFields, micro_in, peer_in, local_in, content_at}
use Rattle.mrt.specs.Layout.{content_in, shown_in}
use Rattle.mrt.specs.Skipped.{judgement_for, IsSkipOf}
use Rattle.mrt.specs.Rules as rules
use Rattle.mrt.specs.Rules.{Place, Judgement, Holds, FirstSays, content_rules, record_rules}
use Rattle.mrt.specs.declared.layout.RecordHeader.{RecordHeader}
use Rattle.mrt.specs.declared.layout.Fields.{Fields}
use Rattle.mrt.specs.declared.fault.FaultKind.{FaultKind}
use Rattle.mrt.specs.declared.judging.Content.{Content}
use Rattle.mrt.specs.declared.judging.Content.TheVariants as contents
use Rattle.mrt.specs.declared.judging.Message.{Message}
use Rattle.mrt.specs.declared.judging.Message.TheVariants as messages
use Rattle.mrt.specs.declared.judging.Shows.{Shows}
use Rattle.mrt.specs.declared.judging.Shows.TheVariants as shows
use Rattle.mrt.specs.declared.judging.Found.{Found}
use Rattle.mrt.specs.declared.judging.Judged.{Judged}
use Rattle.mrt.specs.declared.judging.Judged.TheVariants as judged

-- the header that was read
abbrev pub header_value : RecordHeader → Header
header_value header = record {
  second = header.second;
  kind = header.kind;
  subtype = header.subtype;
  count = header.count;
}

-- the AFI of a family
abbrev pub afi_number : Family → ℕ
afi_number V4 = 1
afi_number V6 = 2

-- the fields that were read are those of the body
pub record AreFields (header : Header) (body : List ℕ) (fields : Fields) : Type 0 where
  pub there : ¬ LacksFields header body
  pub micro : fields.micro ≡ micro_in header body
  pub peer : fields.ends.peer ≡ peer_in header body
  pub local : fields.ends.local ≡ local_in header body
  pub content_at : fields.content_at ≡ content_at header body
  pub within : fields.content_at ≤ length body

-- a record with this header, this body and this content
abbrev pub place_with : Header → List ℕ → List ℕ → Place
place_with header body content =
    record { left = 0; header = header; body = body; content = content }

-- what follows from a refusal, or from none
abbrev pub judgement_by : {X : Type 0} → Result X FaultKind → Judgement
judgement_by (Ok x) = rules.OfSession
judgement_by (Err kind) = rules.Refused kind

-- what follows from what a message is
abbrev pub judgement_by_message : Message → Judgement
judgement_by_message messages.Whole = rules.OfSession
judgement_by_message messages.PassedOver = rules.SkippedRefresh
judgement_by_message (messages.Refused kind) = rules.Refused kind

-- what a record shows at this second, whose content this is
abbrev pub shown_as : ℕ → Shows → List ℕ → ShownRecord
shown_as second shows.Received content = Received second content
shown_as second shows.Sent content = Sent second content
shown_as second (shows.Changed old new) content = Changed second old new

-- the content of a record of the session, with this header and body, was found to be this
abbrev pub IsContentAs : Session → Option ℕ → Header → List ℕ → List ℕ → Content → Type 0
IsContentAs session last header body content (contents.Shown shows) =
    FirstSays (Holds session last (place_with header body content)) content_rules rules.OfSession
    × (shown_as header.second shows content ≡ shown_in header content)
IsContentAs session last header body content (contents.Skipped skip) =
    FirstSays (Holds session last (place_with header body content)) content_rules
    (judgement_for skip)
    × IsSkipOf skip header body
IsContentAs session last header body content (contents.Refused kind) =
    FirstSays (Holds session last (place_with header body content)) content_rules
    (rules.Refused kind)

-- a found record of this header and body
pub record IsFound (header : Header) (body : List ℕ) (found : Found) : Type 0 where
  pub count : found.count ≡ length body
  pub content_at : found.content_at ≡ content_at header body
  pub within : found.content_at ≤ length body
  pub second : found.second ≡ header.second
  pub micro : found.micro ≡ micro_in header body
  pub shown : shown_as header.second found.shows (content_in header body)
      ≡ shown_in header (content_in header body)

-- a whole record with this header and body is judged so by the rules on whole records
abbrev pub IsJudgedBy : Session → Option ℕ → Header → List ℕ → Judgement → Type 0
IsJudgedBy session last header body judgement =
    FirstSays (Holds session last (place_with header body (content_in header body)))
    record_rules judgement

-- and so it was judged
abbrev pub IsJudgedAs : Session → Option ℕ → Header → List ℕ → Judged → Type 0
IsJudgedAs session last header body (judged.Skipped skip) =
    IsJudgedBy session last header body (judgement_for skip) × IsSkipOf skip header body
IsJudgedAs session last header body (judged.Refused kind) =
    IsJudgedBy session last header body (rules.Refused kind)
IsJudgedAs session last header body (judged.OfSession found) =
    IsJudgedBy session last header body rules.OfSession × IsFound header body found
