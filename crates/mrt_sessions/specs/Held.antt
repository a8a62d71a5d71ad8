-- A file that is held whole, and where it stops.
use Rattle.std.specs.Prelude.{◌++◌, ℕ, Bool, List, IsTrue}
use Rattle.mrt_sessions.specs.declared.holding.Ending.{Ending}
use Rattle.mrt_sessions.specs.declared.holding.Ending.TheVariants as endings

-- A source gave these octets from one state to another, and has ended; or a read of it failed then;
-- or it gave more, for which there was no memory. The members are the source's.
abbrev pub IsHeld : {S : Type 0} → (S → S → List ℕ → Type 0) → (S → Bool) → S → S → List ℕ → Ending
    → Type 0
IsHeld gives has_ended old new octets endings.End =
    gives old new octets × IsTrue (has_ended new)
IsHeld gives has_ended old new octets endings.Device = gives old new octets
IsHeld gives has_ended old new octets endings.Memory =
    (lost : List ℕ) × gives old new (octets ++ lost)

-- how many failures of the source that is
abbrev pub failures_by : Ending → ℕ
failures_by endings.End = 0
failures_by endings.Device = 1
failures_by endings.Memory = 0
