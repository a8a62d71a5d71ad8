use Rattle.std.proofs.Common.{◌≡◌, ◌≤◌, ◌-◌, length, take}
use Rattle.json_writer.proofs.buffer.Buffer.grow.Given as goal

-- the text stands
abbrev pub invariant-loop-self : goal.invariant-loop-self
invariant-loop-self g l =
    (l.self-inside.len ≤ length l.self-inside.places.items) × (take l.self-inside.len l.self-inside.places.items ≡ l.fn.self.items)

-- how many places are missing
abbrev pub decreases-loop-self : goal.decreases-loop-self
decreases-loop-self g l = l.count - (length l.self-inside.places.items - l.self-inside.len)
