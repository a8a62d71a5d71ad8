-- What a splitter of a stream holds (RFC 4271, 4.1): octets that came and aren't handed out yet.
use Rattle.std.specs.Prelude.{ℕ, Bool, false, List, [], ◌++◌, if◌then◌else◌}
use Rattle.bgp_wire.specs.declared.header.Limit.{Limit}

pub record Held : Type 0 where
  pub limit : Limit
  pub octets : List ℕ
  -- a fault was answered, and no more octets are taken
  pub is_closed : Bool

-- nothing came yet
abbrev pub nothing_held : Limit → Held
nothing_held limit = record { limit = limit; octets = []; is_closed = false }

-- a piece of the stream came; after a fault was answered it is passed over
abbrev pub after_feed : Held → List ℕ → Held
after_feed held piece =
    if held.is_closed then held else record held { octets = held.octets ++ piece }
