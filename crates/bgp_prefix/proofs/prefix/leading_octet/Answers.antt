use Rattle.std.proofs.Common.{ℕ, ◌/◌, ◌∙◌, ap, refl, slice_index_or, rules}
use Rattle.bgp_prefix.proofs.Masks.{whole_at}
use Rattle.bgp_prefix.proofs.prefix.leading_octet.Goals as goal

pub returns-then-place-whole : goal.returns-then-place-whole
returns-then-place-whole c =
    ap (λ (place : ℕ). slice_index_or c.args.octets.now place 0) c.from.ensures
    ∙ whole_at c.args.octets.now c.args.bits (c.args.bits / 8) c.args.place (search rules) refl c.if-place-whole.true c.requires.enough c.requires.fits
