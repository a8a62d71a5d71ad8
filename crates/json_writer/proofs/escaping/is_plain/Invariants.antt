use Rattle.json.specs.Written.{PlainBetween}
use Rattle.json_writer.proofs.escaping.is_plain.Given as goal

-- none of the octets so far needs an escape
abbrev pub invariant-loop-octet : goal.invariant-loop-octet
invariant-loop-octet l = PlainBetween l.text 0 l.octet-index
