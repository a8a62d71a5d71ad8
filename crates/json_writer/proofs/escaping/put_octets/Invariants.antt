use Rattle.std.proofs.Common.{◌≡◌, ◌++◌, length, take}
use Rattle.json.specs.Print.{escape}
use Rattle.json_writer.proofs.escaping.put_octets.Given as goal

-- the octets so far are put, and what stood before stays
abbrev pub invariant-loop-octet : goal.invariant-loop-octet
invariant-loop-octet g l =
    (l.out.items ≡ l.fn.out.items ++ escape (take l.octet-index l.text)) × (take (length l.fn.out.items) l.out.items ≡ l.fn.out.items)
