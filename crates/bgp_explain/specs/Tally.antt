-- How many records of a session there are, kind by kind, and their lines after a yes.
use Rattle.std.specs.Prelude.{◌+◌, ◌++◌, ℕ, Bool, List, [], ◌∷◌, Option, if◌then◌else◌, codes}
use Rattle.std.specs.Fmt.{decimal}
use Rattle.bgp_prefix.specs.Shown.{ShownRecord, Received, Sent, Changed}
use Rattle.bgp_machine.specs.declared.fsm.Fsm.{Fsm}
use Rattle.bgp_machine.specs.declared.fsm.Fsm.TheVariants.{Idle}
use Rattle.bgp_judge.specs.Told.{Told, fresh_told, told_next}
use Rattle.bgp_explain.specs.declared.skipped.Skipped.{Skipped}
use Rattle.bgp_explain.specs.declared.tally.Tally.{Tally}
use Rattle.bgp_explain.specs.Skipped.{skipped_lines}

abbrev pub no_tally : Tally
no_tally = record { received = 0; sent = 0; changes = 0; ignored = 0 }

-- what is received while Idle is told is ignored, by each run
abbrev pub ignored_with : Fsm → ℕ → ℕ
ignored_with Idle count = count + 1
ignored_with state count = count

-- one record more, in a state that is told
abbrev pub tally_with : Tally → Fsm → ShownRecord → Tally
tally_with t state (Received second octets) =
    record t { received = t.received + 1; ignored = ignored_with state t.ignored }
tally_with t state (Sent second octets) = record t { sent = t.sent + 1 }
tally_with t state (Changed second old new) = record t { changes = t.changes + 1 }

-- record after record
abbrev pub tally_from : Tally → Told → List ShownRecord → Tally
tally_from t told [] = t
tally_from t told (shown ∷ records) =
    tally_from (tally_with t told.fsm shown) (told_next told shown) records

abbrev pub tally_of : List ShownRecord → Tally
tally_of records = tally_from no_tally fresh_told records

-- ---- the lines

unfoldable pub records_line : Tally → List ℕ
records_line t =
    codes "  records of the session: " ++ (decimal (t.received + t.sent + t.changes)
    ++ (codes " (received " ++ (decimal t.received ++ (codes ", sent " ++ (decimal t.sent
    ++ (codes ", changes of state " ++ (decimal t.changes ++ codes ")\n")))))))

unfoldable pub ignored_line : Tally → List ℕ
ignored_line t = codes "  received in Idle, and ignored: " ++ (decimal t.ignored ++ codes "\n")

-- nothing was judged, if no change leaves Idle
abbrev pub idle_note : Bool → List ℕ
idle_note left_idle =
    if left_idle then []
    else codes "  note: no record leaves Idle, so nothing was judged\n"

abbrev pub yes_lines : Tally → Option Skipped → Bool → List ℕ
yes_lines t skipped left_idle =
    records_line t ++ (ignored_line t ++ (skipped_lines skipped ++ idle_note left_idle))
