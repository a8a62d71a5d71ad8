-- Blocks that came back, each of which holds where the next one is.
use Rattle.std.specs.Prelude.{◌≡◌, ℕ, List, [], ◌∷◌}
use mir.Syntax.{Ty, w64, ty_int, ty_ptr, ty_struct, tcons, tnil}
use mir.Val.{Val, vint, vstruct, vcons, vnil}
use base.Fraction.{full_share}
use base.Fml.{Fml, ftrue, fsep, fex, fwand, fat, froom}
use denote.RawPtr.{Ptr, block_ptr, block_of, count_of, ptr_val}
use Rattle.arena.specs.Octets.{units_of}

-- an object of memory, a count of octets in it, and a size: where a block lies
abbrev pub Span : Type 0
Span = ℕ × ℕ × ℕ

-- n octets at p
abbrev pub span_of : Ptr → ℕ → Span
span_of p n = (block_of p, count_of p, n)

-- `Node`, as it lies in memory
abbrev pub node_type : Ty
node_type = ty_struct [] (tcons (ty_int w64) (tcons ty_ptr tnil))

-- its machine value
abbrev pub node_val : ℕ → Ptr → Val
node_val n next = vstruct (vcons (vint w64 n) (vcons (ptr_val next) vnil))

-- with the room of its node, all octets of the block
abbrev pub behind : Span → Fml
behind s = fwand (froom node_type s.0 s.1) (froom (units_of s.2) s.0 s.1)

-- the block s, whose node points to next
abbrev pub block : Span → Ptr → Fml
block s next = fsep (fat full_share node_type s.0 s.1 (node_val s.2 next)) (behind s)

-- these blocks, one after another from first on
abbrev pub links : List Span → Ptr → Fml
links [] first = ftrue
links (s ∷ ss) first =
    fex (first ≡ block_ptr s.0 s.1) (λ _. fex Ptr (λ next. fsep (block s next) (links ss next)))
