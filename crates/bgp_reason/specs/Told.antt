-- What a session's records tell, with the numbers of the records that tell it. They count from 1.
use Rattle.std.specs.Prelude.{◌≡◌, ◌++◌, ◌+◌, ℕ, List, [], ◌∷◌, Option, None, Some, length}
use Rattle.bgp_prefix.specs.Shown.{ShownRecord, Received, Sent, Changed}
use Rattle.bgp_machine.specs.declared.fsm.Fsm.{Fsm}
use Rattle.bgp_machine.specs.declared.fsm.Fsm.TheVariants as fsms
use Rattle.bgp_machine.specs.Going.{fsm_at}
use Rattle.bgp_judge.specs.Told.{told as told_of}
use Rattle.bgp_reason.specs.declared.told.Told.{Told}

-- what no record tells
abbrev pub nothing_told : Told
nothing_told = record { state = fsms.Idle; told_by = None; last_received = None }

-- where Idle is told, no message was received since
abbrev pub told_by_change : ℕ → Option Fsm → Told → Told
told_by_change number None t = t
told_by_change number (Some fsms.Idle) t =
    record { state = fsms.Idle; told_by = Some number; last_received = None }
told_by_change number (Some fsm) t = record t { state = fsm; told_by = Some number }

-- what is received while Idle is told is ignored, so it is no message of a session
abbrev pub told_by_message : ℕ → Fsm → Told → Told
told_by_message number fsms.Idle t = t
told_by_message number fsm t = record t { last_received = Some number }

-- what one record more tells, the one with this number
abbrev pub told_with : ℕ → ShownRecord → Told → Told
told_with number (Received second octets) t = told_by_message number t.state t
told_with number (Sent second octets) t = t
told_with number (Changed second old new) t = told_by_change number (fsm_at new) t

abbrev pub told_from : ℕ → Told → List ShownRecord → Told
told_from count t [] = t
told_from count t (shown ∷ records) =
    told_from (count + 1) (told_with (count + 1) shown t) records

-- what the records tell
abbrev pub told : List ShownRecord → Told
told records = told_from 0 nothing_told records

-- the message that was received last, where this one was before
abbrev pub last_from : List ℕ → List ShownRecord → List ℕ
last_from last [] = last
last_from last (Received second octets ∷ records) = last_from octets records
last_from last (Sent second octets ∷ records) = last_from last records
last_from last (Changed second old new ∷ records) = last_from last records

-- and no octets where none was
abbrev pub last_message : List ShownRecord → List ℕ
last_message records = last_from [] records

-- ---- laws

-- what is told record by record
abbrev pub ToldOneMore : Type 0
ToldOneMore =
    (records : List ShownRecord) (shown : ShownRecord)
    → told (records ++ shown ∷ []) ≡ told_with (length records + 1) shown (told records)

-- the state is the one that the judge's records tell
abbrev pub ToldStateIsTold : Type 0
ToldStateIsTold = (records : List ShownRecord) → (told records).state ≡ (told_of records).fsm
