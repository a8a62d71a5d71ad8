-- What a record of a file is to one session, and what is awaited behind it.
use Rattle.std.specs.Prelude.{◌≡◌, ◌≢◌, ◌↔◌, ℕ, List, ◌∷◌, Option, None, Some, map}
use Rattle.bgp_prefix.specs.Shown.{ShownRecord, second_of}
use Rattle.bgp_prefix.specs.declared.session.Session.{Session}
use Rattle.mrt.specs.Capture as capture
use Rattle.mrt.specs.Reader.{shown_of}
use Rattle.mrt.specs.Rules.{OfSession, Refused}
use Rattle.mrt.specs.Skipped.{judgement_for}
use Rattle.mrt_sessions.specs.declared.alike.Awaited.{Awaited}
use Rattle.mrt_sessions.specs.declared.taking.TakenAs.{TakenAs}
use Rattle.mrt_sessions.specs.declared.taking.TakenAs.TheVariants as taken
use Rattle.mrt_sessions.specs.File.{Located}
use Rattle.mrt_sessions.specs.ReadsAs.{IsJudgedOf, ReadsAs}

-- it is judged so
abbrev pub IsTakenAs : Session → Option ℕ → List ℕ → TakenAs → Type 0
IsTakenAs session last octets (taken.Shown shown) =
    IsJudgedOf session last octets OfSession × (shown_of shown ≡ capture.shown_of octets)
IsTakenAs session last octets (taken.Skipped skip) =
    IsJudgedOf session last octets (judgement_for skip)
IsTakenAs session last octets (taken.Refused kind) =
    IsJudgedOf session last octets (Refused kind)

-- these records are read as what is awaited
abbrev pub Awaits : Session → Awaited → List Located → Type 0
Awaits session awaited named =
    ReadsAs session awaited.last named (map shown_of awaited.records.now)

-- What is awaited behind a record that shows this, where these are awaited: something only if it
-- shows the first of them, and then the others.
abbrev pub IsFirstOf : ShownRecord → List ShownRecord → Option Awaited → Type 0
IsFirstOf shown records None = (others : List ShownRecord) → records ≢ shown ∷ others
IsFirstOf shown records (Some next) =
    (records ≡ shown ∷ map shown_of next.records.now) × (next.last ≡ Some (second_of shown))

-- What is awaited behind this record. With it in front, records are read as what was awaited before
-- exactly where they are read, without it, as what is awaited then; or none are.
abbrev pub IsAwaitedBehind : Session → Awaited → Located → Option Awaited → Type 0
IsAwaitedBehind session awaited named None =
    (later : List Located) → ¬ Awaits session awaited (named ∷ later)
IsAwaitedBehind session awaited named (Some next) =
    (later : List Located)
    → (Awaits session awaited (named ∷ later) ↔ Awaits session next later)
