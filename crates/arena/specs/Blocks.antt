-- The right to give a block back.
use Rattle.std.specs.Prelude.{◌^◌, ◌<◌}
use mir.Syntax.{Ty}
use base.Fml.{Fml, fex, fwand}
use prog.Memory.{size}
use denote.RawPtr.{Ptr, room_for}
use Rattle.arena.specs.Octets.{octets_at}
use Rattle.arena.specs.Sizes.{block_size}

-- of the block for a τ at p: with the room for the τ, all octets of the block
abbrev pub block_token : Ty → Ptr → Fml
block_token τ p =
    fex (size τ < 2 ^ 63) (λ _. fwand (room_for τ p) (octets_at p (block_size (size τ))))
