use Rattle.std.proofs.Common.{◌≡◌, ℕ, length}
use Rattle.std.specs.BTreeMap.{btree_map_len}
use Rattle.streams.specs.Given.{AreCounted, total, given_at, size}
use Rattle.streams.specs.Islands.{AreIslands, AreFrom}
use Rattle.streams.proofs.gathered.Gathered.absorb.Given as goal

-- the same octets are given
abbrev pub invariant-loop-end : goal.invariant-loop-end
invariant-loop-end g l = record {
  covered : total l.self.known.runs.items ≡ length l.self.known.octets.items;
  counted : AreCounted l.self.known.runs.items;
  islands : AreIslands l.self.islands;
  from : AreFrom (length l.self.known.octets.items) l.self.islands;
  given : (at : ℕ) → given_at l.self at ≡ given_at l.initial.self at;
  size : size l.self ≡ size l.initial.self;
}

abbrev pub decreases-loop-end : goal.decreases-loop-end
decreases-loop-end g l = btree_map_len l.self.islands
