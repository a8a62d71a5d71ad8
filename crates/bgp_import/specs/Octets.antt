-- How many octets a system sent.
use Rattle.std.specs.Prelude.{ℕ, length}
use Rattle.streams.specs.declared.connection.Connection.{Connection}
use Rattle.streams.specs.declared.passed.Side.{Side}
use Rattle.streams.specs.declared.passed.Side.TheVariants.{Local, Peer}

abbrev pub octets_from : Side → Connection → ℕ
octets_from Local connection = length connection.sent.octets.now
octets_from Peer connection = length connection.received.octets.now
