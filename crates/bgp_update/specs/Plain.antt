-- Destinations without path identifiers: what prefixes are on a session without ADD-PATH (RFC
-- 7911).
use Rattle.std.specs.Prelude.{List, None, map}
use Rattle.bgp_open.specs.Prefix.{PrefixBits}
use Rattle.bgp_update.specs.declared.destination.Destination.{Destination}

-- the prefix alone
abbrev pub plain : PrefixBits → Destination
plain prefix = record { prefix = prefix; path = None }

abbrev pub all_plain : List PrefixBits → List Destination
all_plain prefixes = map plain prefixes
