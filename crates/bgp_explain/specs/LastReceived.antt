-- Which of a session's records is told as the message that was received last.
use Rattle.std.specs.Prelude.{◌≡◌, ◌≢◌, ◌+◌, ◌++◌, ℕ, List, ◌∷◌, Option, None, Some, length}
use Rattle.std.specs.List.{AllByRecursion}
use Rattle.bgp_prefix.specs.Shown.{ShownRecord, Received, Sent, Changed}
use Rattle.bgp_machine.specs.declared.fsm.Fsm.TheVariants.{Idle}
use Rattle.bgp_machine.specs.Going.{fsm_at}
use Rattle.bgp_reason.specs.Told.{told, last_message}

-- no message is received, and Idle isn't told
abbrev pub IsQuiet : ShownRecord → Type 0
IsQuiet (Received second octets) = ⊥
IsQuiet (Sent second octets) = Unit {0}
IsQuiet (Changed second old new) = fsm_at new ≢ Some Idle

-- The record with this number is a message that was received in a state other than Idle, with these
-- octets; after it none is received, and Idle isn't told.
pub record IsLastAt (records : List ShownRecord) (place : ℕ) (octets : List ℕ) : Type 0 where
  pub before : List ShownRecord
  pub second : ℕ
  pub after : List ShownRecord
  pub whole : records ≡ before ++ Received second octets ∷ after
  pub number : place ≡ length before + 1
  pub going : (told before).state ≢ Idle
  pub quiet : AllByRecursion IsQuiet after

-- no message was received since Idle was told
pub record NoneSinceIdle (records : List ShownRecord) : Type 0 where
  pub before : List ShownRecord
  pub after : List ShownRecord
  pub whole : records ≡ before ++ after
  pub idle : (told before).state ≡ Idle
  pub quiet : AllByRecursion IsQuiet after

abbrev pub IsLastReceived : List ShownRecord → Option ℕ → Type 0
IsLastReceived records None = NoneSinceIdle records
IsLastReceived records (Some number) = IsLastAt records number (last_message records)

-- ---- the law

-- The record that is told as the message received last is it, and its octets are those that are
-- kept; where none is told, there is none.
abbrev pub LastReceivedIsTold : Type 0
LastReceivedIsTold =
    (records : List ShownRecord) → IsLastReceived records (told records).last_received
