-- A record that names two addresses, as it is held.
use Rattle.mrt_sessions.specs.declared.named.NamedRecord.{NamedRecord}
use Rattle.mrt_sessions.specs.File.{Located}

-- it and its place in the file
abbrev pub located : NamedRecord → Located
located named = record { offset = named.offset; octets = named.octets.now }
