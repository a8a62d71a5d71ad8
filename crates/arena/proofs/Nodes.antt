-- A block is a node and the octets behind it. Assumes `Logic`.
use Rattle.std.proofs.Common.{◌≡◌, ℕ, ◌+◌, ◌-◌, ◌≤◌, [], ◌∷◌, refl, sym, arith}
use seplogic.Ra.Ura.{Ura}
use base.Fraction.{full_share}
use base.Logic.{SProp, ent, sep, wand, apply∗}
use base.Fml.{fat, froom}
use types.Logic.{Logic, sem}
use types.Kit.{‵, raw, ◌⊛◌, ◌$◌, ◌∵◌, !, qed, by, use1, use2, split, frame, assume}
use denote.RawPtr.{Ptr}
use Rattle.arena.specs.Octets.{units_of}
use Rattle.arena.specs.Chain.{Span, node_type, node_val, behind}
use Rattle.arena.proofs.Cuts.{cuts, glues, resized}

module _ {M : Type 1} {𝓤 : Ura M} (𝓛 : Logic 𝓤) where
  open 𝓛 use {H}

  abbrev octets : ℕ → ℕ → ℕ → SProp 𝓤
  octets b o n = H.room (units_of n) b o

  pub dissolves : (s : Span) (next : Ptr) → ent 𝓤 (sep 𝓤 (H.at full_share node_type s.0 s.1 (node_val s.2 next)) (sem 𝓛 (behind s))) (octets s.0 s.1 s.2)
  dissolves s next = qed 𝓛 (‵ (fat full_share node_type s.0 s.1 (node_val s.2 next)) ∷ ‵ (behind s) ∷ []) ∵
      use1 𝓛 (‵ (froom node_type s.0 s.1)) (𝓛.laws.at_room node_type s.0 s.1 (node_val s.2 next)) $ by ! (apply∗ 𝓤 (H.room node_type s.0 s.1) (octets s.0 s.1 s.2))

  pub forms : (b o n : ℕ) → 16 ≤ n → ent 𝓤 (octets b o n) (sep 𝓤 (H.room node_type b o) (sem 𝓛 (behind (b, o, n))))
  forms b o n large =
      let rest = n - 16 in let sum : n ≡ 16 + rest = omega arith in
      let Head : SProp 𝓤 = H.room node_type b o in
      qed 𝓛 (raw (octets b o n) ∷ []) ∵ use1 𝓛 (raw (octets b o (16 + rest))) (resized 𝓛 b o n (16 + rest) sum) $
      use1 𝓛 (raw (octets b o 16) ⊛ raw (octets b (o + 16) rest)) (cuts 𝓛 b o 16 rest refl) $ split ! $
      use1 𝓛 (raw Head ⊛ raw (wand 𝓤 Head (octets b o 16))) (𝓛.laws.room_as (units_of 16) node_type b o refl tt) $ split ! $ frame ! $ assume ! (raw Head) $
      use2 𝓛 (raw (octets b o 16)) (apply∗ 𝓤 Head (octets b o 16)) $ use2 𝓛 (raw (octets b o (16 + rest))) (glues 𝓛 b o 16 rest refl) $ by ! (resized 𝓛 b o (16 + rest) n (sym sum))
