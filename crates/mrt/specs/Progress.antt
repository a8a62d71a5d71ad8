-- How a reader goes on, record by record.
use Rattle.std.specs.Prelude.{◌≤◌, ◌+◌, ◌-◌, ◌++◌, ℕ, Bool, List, [], ◌∷◌, Option, None, Some}
use Rattle.std.specs.Prelude.{Result, Ok, Err}
use Rattle.std.specs.Prelude.{take, drop, length}
use Rattle.bgp_prefix.specs.Shown.{ShownRecord}
use Rattle.bgp_prefix.specs.declared.session.Session.{Session}
use Rattle.mrt.specs.Capture.{pairs_besides}
use Rattle.mrt.specs.Found.{shown_as}
use Rattle.mrt.specs.Reader.{ReaderState, Answers, Ends, Fails, device_count}
use Rattle.mrt.specs.Skipped.{one_more}
use Rattle.mrt.specs.declared.record.Endpoints.{Endpoints}
use Rattle.mrt.specs.declared.fault.CaptureFault.{CaptureFault}
use Rattle.mrt.specs.declared.fault.FaultKind.{FaultKind}
use Rattle.mrt.specs.declared.judging.Found.{Found}
use Rattle.mrt.specs.declared.progress.Progress.{Progress}
use Rattle.mrt.specs.declared.skipped.Skip.{Skip}
use Rattle.mrt.specs.declared.skipped.Skip.TheVariants as skips

-- how far it is
abbrev pub state_of : Progress → ReaderState
state_of progress = record {
  passed = progress.passed;
  last = progress.last;
  micro = progress.micro;
  place = progress.place;
  is_ended = progress.is_ended;
  fault = progress.fault;
  others = progress.others.items;
  skipped = progress.skipped;
}

-- the pairs of addresses with one more, where it is another and there is room for it
abbrev pub with_pair : List Endpoints → Endpoints → List Endpoints
with_pair known ends = known ++ take (9 - length known) (pairs_besides known (ends ∷ []))

abbrev pub pairs_after : List Endpoints → Skip → List Endpoints
pairs_after known skips.OtherKind = known
pairs_after known (skips.OtherSession ends) = with_pair known ends
pairs_after known skips.RefreshReceived = known
pairs_after known skips.RefreshSent = known

-- after a record of so many octets that is skipped
abbrev pub after_skipped : ReaderState → Skip → ℕ → ReaderState
after_skipped state skip count = record state {
  passed = state.passed + count;
  others = pairs_after state.others skip;
  skipped = one_more state.skipped skip;
}

-- behind one of the session
abbrev pub after_record : ReaderState → ℕ → Option ℕ → ℕ → ReaderState
after_record state second micro count = record state {
  passed = state.passed + count;
  last = Some second;
  micro = micro;
  place = state.passed;
}

-- the fault at a place
abbrev pub fault_at : ReaderState → FaultKind → CaptureFault
fault_at state kind = record { kind = kind; offset = state.passed }

-- how many failures a call counts: one where it answers that a device failed
abbrev pub failures_of : {X : Type 0} → Result X CaptureFault → ℕ
failures_of (Ok answer) = 0
failures_of (Err fault) = device_count fault.kind

-- what a found record shows, whose body stands at the front of the buffer
abbrev pub shown_from : Found → List ℕ → ShownRecord
shown_from found buffer =
    shown_as found.second found.shows (drop found.content_at (take found.count buffer))

-- A record was found, and the buffer has its body; or the end, or a fault.
module _ {S : Type 0} (gives : S → S → List ℕ → Type 0) (has_ended : S → Bool)
    (session : Session) where
  pub record Finds (old new : S) (from after : ReaderState) (buffer : List ℕ) (found : Found)
      : Type 0 where
    pub answers : Answers gives has_ended session old new from after (shown_from found buffer)
    pub within : found.content_at ≤ found.count
    pub fits : found.count ≤ length buffer

  abbrev pub Advances : S → S → ReaderState → ReaderState → List ℕ
      → Result (Option Found) CaptureFault → Type 0
  Advances old new from after buffer (Ok (Some found)) = Finds old new from after buffer found
  Advances old new from after buffer (Ok None) = Ends gives has_ended session old new from after
  Advances old new from after buffer (Err fault) =
      Fails gives has_ended session old new from after fault
