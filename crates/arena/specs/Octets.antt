-- Octets in which nothing lies, as units of 16 that are aligned to 16.
use Rattle.std.specs.Prelude.{ℕ, ◌/◌}
use mir.Syntax.{Ty, w128, ty_int, ty_array}
use base.Fml.{Fml}
use denote.RawPtr.{Ptr, room_for}

-- n octets, as such units
abbrev pub units_of : ℕ → Ty
units_of n = ty_array (ty_int w128) (n / 16)

-- room for them at p
abbrev pub octets_at : Ptr → ℕ → Fml
octets_at p n = room_for (units_of n) p
