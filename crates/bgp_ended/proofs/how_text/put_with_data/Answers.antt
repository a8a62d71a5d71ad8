use Rattle.std.proofs.Common.{◌≡◌, ◌≤◌, ◌++◌, ℕ, List, [], ◌∷◌, arith, codes, length, refl, subst, sym}
use Rattle.bgp_text.proofs.Pieces.{Joins, and_then}
use Rattle.bgp_text.specs.Lines.{Writes}
use Rattle.bgp_why.specs.Cut.{cut}
use Rattle.bgp_ended.specs.HowText.{raw_text, with_data_text}
use Rattle.bgp_ended.proofs.how_text.put_with_data.Goals as goal

some_there : (detail : List ℕ) → 1 ≤ length detail → with_data_text detail ≡ codes " with data " ++ cut (raw_text detail)
unfolding with_data_text
some_there [] some = absurd (omega (arith, some))
some_there (octet ∷ octets) some = refl

pub returns-in_default : goal.returns-in_default
returns-in_default g c =
    let law : Joins g.W.Sink = record { joined = g.met.W.Sink.joined } in
    let text = and_then law c.put-in_default.ensures c.put_cut_raw.ensures in
    subst (λ t. Writes c.args.lines.now c.put_cut_raw.new.lines t) (sym (some_there c.args.detail.now c.in_default.len_at_least)) text
