-- What is kept of a session's records while they are judged, one after another.
use Rattle.std.specs.Prelude.{◌≡◌, ◌<◌, ◌+◌, ◌^◌, ◌++◌, ℕ, List, [], ◌∷◌, Option, None, Some}
use Rattle.std.specs.Prelude.{IfSome, Vec, length}
use Rattle.bgp_prefix.specs.Shown.{ShownRecord}
use Rattle.bgp_open.specs.declared.config.Config.{Config}
use Rattle.bgp_machine.specs.Run.{Begins}
use Rattle.bgp_reason.specs.Asked.{AreAsked}
use Rattle.bgp_reason.specs.Possible.{ArePossible}
use Rattle.bgp_reason.specs.declared.told.Told.{Told}
use Rattle.bgp_reason.specs.Told.{told, last_message}
use Rattle.bgp_explain.specs.declared.explained.Impossible.{Impossible}
use Rattle.bgp_explain.specs.declared.moments.Moments.{Moments}
use Rattle.bgp_explain.specs.declared.sending.Sending.{Sending}
use Rattle.bgp_explain.specs.declared.so_far.Found.{Found}
use Rattle.bgp_explain.specs.declared.so_far.Progress.{Progress}
use Rattle.bgp_explain.specs.declared.so_far.Stop.{Stop}
use Rattle.bgp_explain.specs.Kept.{shown_by}
use Rattle.bgp_explain.specs.Moments.{AreMomentsOf}
use Rattle.bgp_explain.specs.Sending.{IsSendingAt}
use Rattle.bgp_explain.specs.Tally.{tally_of}
use Rattle.bgp_tool.specs.Seen.{seen_in}

-- the message that was received last, if there was memory for it
abbrev pub IsLast : {X : Type 0} → List ShownRecord → Option (Vec ℕ X) → Type 0
IsLast records last = IfSome last (λ message. message.items ≡ last_message records)

-- what the records tell of a reason
pub record AreSaidBy {X : Type 0} (config : Config) (records : List ShownRecord) (said : Told)
    (times : Moments) (sends : Sending) (last : Option (Vec ℕ X)) : Type 0 where
  pub told : said ≡ told records
  pub moments : AreMomentsOf config records times
  pub sending : IsSendingAt config records sends
  pub last_message : IsLast records last

-- a record after these is named by its number
abbrev pub IsNamed : {X : Type 0} → List ShownRecord → ShownRecord → Option (Impossible X) → Type 0
IsNamed before shown None = ⊥
IsNamed before shown (Some impossible) =
    (impossible.number ≡ length before + 1) × (shown_by impossible.«record» ≡ shown)

-- how many the records are and what they tell
pub record IsToldOf {X : Type 0} (config : Config) (records : List ShownRecord)
    (progress : Progress X) : Type 0 where
  pub count : progress.count ≡ length records
  pub told : progress.told ≡ told records
  pub moments : AreMomentsOf config records progress.moments
  pub sending : IsSendingAt config records progress.sending
  pub tally : progress.tally ≡ tally_of records
  pub seen : progress.seen ≡ seen_in records
  pub last_message : IsLast records progress.last_message

-- A record after these is kept with its number, and what could have stood in its place.
pub record IsFound {X : Type 0} (config : Config) (before : List ShownRecord)
    (shown : ShownRecord) (found : Found X) : Type 0 where
  pub number : found.impossible.number ≡ length before + 1
  pub kept : shown_by found.impossible.«record» ≡ shown
  pub possible : ArePossible config before found.possible
  pub asked : AreAsked config before found.possible
  pub timely : IfSome found.possible.hold_timer_expired (λ from. from < 2 ^ 32)

-- The records stop being those of a run at one. It is kept with what could have stood in its place,
-- if there was memory for it, and what those before it tell.
pub record StopsAt {X : Type 0} (config : Config) (records : List ShownRecord)
    (progress : Progress X) (stop : Stop X) : Type 0 where
  pub before : List ShownRecord
  pub shown : ShownRecord
  pub after : List ShownRecord
  pub split : records ≡ before ++ shown ∷ after
  pub begins : Begins config before
  pub stops : ¬ Begins config (before ++ shown ∷ [])
  pub tells : IsToldOf config before progress
  pub found : IfSome stop.found (IsFound config before shown)

-- How far the judging has come with these records, whose tracker stands for records by `stands`:
-- for all of them, and they begin a run; or it stopped at the first impossible one.
abbrev pub IsAtBy : {X : Type 0} → (Config → List ShownRecord → Type 0) → Config
    → List ShownRecord → Progress X → Option (Stop X) → Type 0
IsAtBy stands config records progress None =
    stands config records × Begins config records × IsToldOf config records progress
IsAtBy stands config records progress (Some stop) = StopsAt config records progress stop

abbrev pub IsAt : {X : Type 0} → (Config → List ShownRecord → Type 0) → Config
    → List ShownRecord → Progress X → Type 0
IsAt stands config records progress = IsAtBy stands config records progress progress.stop
