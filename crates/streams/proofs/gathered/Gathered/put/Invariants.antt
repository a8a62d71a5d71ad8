use Rattle.std.proofs.Common.{◌≡◌, ◌≤◌, ◌+◌, ◌-◌, ℕ, length, take}
use Rattle.std.specs.Option.{option_or}
use Rattle.streams.specs.Given.{given_at, piece_at, size}
use Rattle.streams.specs.Islands.{IsSound}
use Rattle.streams.proofs.gathered.Gathered.put.Given as goal

-- the octets so far are given
abbrev pub invariant-loop-done : goal.invariant-loop-done
invariant-loop-done g l = record {
  within : l.done ≤ length l.octets;
  sound : IsSound l.self;
  given : (at : ℕ) → given_at l.self at ≡ option_or (given_at l.initial.self at) (piece_at l.place (take l.done l.octets) l.giver at);
  size : size l.self ≤ size l.initial.self + l.done;
}

abbrev pub decreases-loop-done : goal.decreases-loop-done
decreases-loop-done g l = length l.octets - l.done
