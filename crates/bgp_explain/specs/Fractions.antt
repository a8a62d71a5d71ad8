-- The fractions of the seconds of a capture's records, a list beside the records; and those of them
-- that are kept: of the records that a reason names.
use Rattle.std.specs.Prelude.{◌≡◌, ◌==◌, ◌≤◌, ◌⊎◌, ℕ, zero, suc, List, Option, None, Some, length}
use Rattle.std.specs.Prelude.{if◌then◌else◌, option_map, slice_get, unwrap_or}
use Rattle.bgp_reason.specs.declared.told.Told.{Told}
use Rattle.bgp_explain.specs.declared.explained.Impossible.{Impossible}
use Rattle.bgp_explain.specs.declared.explained.Reason.{Reason}
use Rattle.bgp_explain.specs.declared.fractions.Fractions.{Fractions}
use Rattle.bgp_explain.specs.declared.fractions.Names.{Names}
use Rattle.bgp_explain.specs.declared.fractions.NumberedRecord.{NumberedRecord}
use Rattle.bgp_explain.specs.declared.moments.Moments.{Moments}
use Rattle.bgp_explain.specs.declared.moments.SentNotification.{SentNotification}
use Rattle.bgp_explain.specs.declared.so_far.Found.{Found}
use Rattle.bgp_explain.specs.declared.so_far.Progress.{Progress}
use Rattle.bgp_explain.specs.declared.so_far.Stop.{Stop}

-- the item with this count, from 1, where there is one
abbrev pub counted : {X : Type 0} → List X → ℕ → Option X
counted items zero = None
counted items (suc index) = slice_get items index

-- the fraction of the record with this count, if it has one
abbrev pub micro_at : List (Option ℕ) → ℕ → Option ℕ
micro_at micros count = unwrap_or (counted micros count) None

-- ---- which records are named

abbrev pub number_in : Option SentNotification → Option ℕ
number_in sent = option_map (λ (s : SentNotification). s.number) sent

abbrev pub impossible_number : {X : Type 0} → Option (Impossible X) → Option ℕ
impossible_number None = None
impossible_number (Some impossible) = Some impossible.number

-- the one that told the state, that of the message received last, that of the NOTIFICATION that was
-- sent last, and the impossible one, if there is one
abbrev pub names_by : Told → Moments → Option ℕ → Names
names_by told moments impossible = record {
  told_by = told.told_by;
  last_received = told.last_received;
  notification = number_in moments.notification;
  impossible = impossible;
}

-- by a reason
abbrev pub reason_names : {X : Type 0} → Reason X → Names
reason_names reason =
    names_by reason.told reason.moments (impossible_number reason.impossible)

-- by what is kept of the records so far
abbrev pub found_number : {X : Type 0} → Option (Found X) → Option ℕ
found_number None = None
found_number (Some found) = Some found.impossible.number

abbrev pub stop_number : {X : Type 0} → Option (Stop X) → Option ℕ
stop_number None = None
stop_number (Some stop) = found_number stop.found

abbrev pub progress_names : {X : Type 0} → Progress X → Names
progress_names progress =
    names_by progress.told progress.moments (stop_number progress.stop)

-- before the first record
abbrev pub no_names : Names
no_names =
    record { told_by = None; last_received = None; notification = None; impossible = None }

-- a name after the record with this number: as before, of that one, or none
abbrev pub IsNameAfter : ℕ → Option ℕ → Option ℕ → Type 0
IsNameAfter number before after =
    (after ≡ before) ⊎ ((after ≡ Some number) ⊎ (after ≡ None))

pub record AreNamesAfter (number : ℕ) (before after : Names) : Type 0 where
  pub told_by : IsNameAfter number before.told_by after.told_by
  pub last_received : IsNameAfter number before.last_received after.last_received
  pub notification : IsNameAfter number before.notification after.notification
  pub impossible : IsNameAfter number before.impossible after.impossible

-- ---- which fractions are kept

-- that of the record with this count, where it is one of the four
abbrev pub micro_in : Fractions → ℕ → Option ℕ
micro_in fractions count =
    if fractions.told_by.number == count then fractions.told_by.micro
    else (if fractions.last_received.number == count then fractions.last_received.micro
    else (if fractions.notification.number == count then fractions.notification.micro
    else (if fractions.impossible.number == count then fractions.impossible.micro else None)))

-- it is the one that is named, if one is
abbrev pub IsNamed : Option ℕ → NumberedRecord → Type 0
IsNamed None kept = Unit {0}
IsNamed (Some number) kept = kept.number ≡ number

-- it is one of these, with its fraction, and the one that is named; its number is 0 before one is
pub record IsKept (micros : List (Option ℕ)) (name : Option ℕ) (kept : NumberedRecord)
    : Type 0 where
  pub within : kept.number ≤ length micros
  pub micro : kept.micro ≡ micro_at micros kept.number
  pub named : IsNamed name kept

pub record AreKept (micros : List (Option ℕ)) (names : Names) (fractions : Fractions)
    : Type 0 where
  pub told_by : IsKept micros names.told_by fractions.told_by
  pub last_received : IsKept micros names.last_received fractions.last_received
  pub notification : IsKept micros names.notification fractions.notification
  pub impossible : IsKept micros names.impossible fractions.impossible

-- those of the records that a reason names, where there is one
abbrev pub AreKeptFor : {X : Type 0} → List (Option ℕ) → Option (Reason X) → Fractions → Type 0
AreKeptFor micros None fractions = Unit {0}
AreKeptFor micros (Some reason) fractions = AreKept micros (reason_names reason) fractions

-- after the record with this number and this fraction
abbrev pub kept_with : NumberedRecord → Option ℕ → ℕ → Option ℕ → NumberedRecord
kept_with kept None number micro = kept
kept_with kept (Some name) number micro =
    if name == number then record { number = number; micro = micro } else kept
