use Rattle.std.proofs.Common.{◌≡◌, ◌+◌, ◌*◌, take}
use Rattle.hex.specs.Hex.{encode_lower}
use Rattle.json_writer.specs.Places.{Puts}
use Rattle.json_writer.specs.Plain.{ArePlain}
use Rattle.json_writer.proofs.places.write_hex.Given as goal

-- the digits of the octets so far are written
abbrev pub invariant-loop-octet : goal.invariant-loop-octet
invariant-loop-octet l =
    (l.end ≡ l.at + 2 * l.octet-index) × Puts l.fn.places l.at l.places l.end (encode_lower (take l.octet-index l.octets))
    × ArePlain (encode_lower (take l.octet-index l.octets))
