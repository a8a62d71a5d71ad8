-- A sink that is given nothing more once it has failed.
use Rattle.std.specs.Prelude.{◌≡◌, ◌+◌, ◌++◌, ℕ, Bool, true, false, List}
use Rattle.mrt.specs.declared.sink.Sink as sinks
use Rattle.bgp_text.specs.declared.outlet.Outlet.{Outlet}

-- What becomes of what the sink hasn't taken, by whether it had failed before and has failed now:
-- this is held; or the sink failed on the way; or it had failed, and nothing was given to it.
module _ {W : Type 0} (failures : W → ℕ) (old new : W) (left held : List ℕ) where
  abbrev pub IsKept : Bool → Bool → Type 0
  IsKept false false = (left ≡ held) × (failures new ≡ failures old)
  IsKept false true = failures new ≡ failures old + 1
  IsKept true true = new ≡ old
  IsKept true false = ⊥

-- What was held, with a text behind it, was handed over or is held: the sink took a beginning of
-- it.
pub record Passes {W : Type 0} {sink : sinks.Ghosts W} (old new : Outlet W sink)
    (held text held' : List ℕ) : Type 0 where
  pub same_sink : new.sink.ghost_name ≡ old.sink.ghost_name
  pub taken : List ℕ
  pub left : List ℕ
  pub took : sink.takes old.sink.now new.sink.now taken
  pub whole : held ++ text ≡ taken ++ left
  pub kept : IsKept sink.failures old.sink.now new.sink.now left held'
      old.has_failed new.has_failed
