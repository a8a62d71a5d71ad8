-- A compact tracker is its parts.
use Rattle.std.proofs.Common.{◌≡◌, ◌∙◌, ap, subst}
use Rattle.std.proofs.Props.{props}
use Rattle.bgp_open.specs.declared.config.Config.{Config}
use Rattle.bgp_rib.specs.Routes.{Routes}
use Rattle.bgp_compact.specs.declared.compact.CompactTracker.{CompactTracker}
use Rattle.bgp_compact.specs.declared.words.Words.{Words}
use Rattle.bgp_compact.specs.Parts.{AreFine}

fine_prop : (words : Words) → IsProp (AreFine words)
fine_prop words = hlevel props

abbrev made_of : {X : Type 0} → X → Config → (words : Words) → Routes → AreFine words → CompactTracker X
made_of alloc config words table fine = record { alloc = alloc; config = config; words = words; table = table; fine = fine }

-- with the same words the same is known of them
same_words : {X : Type 0} (alloc : X) (config : Config) (words other : Words) (table : Routes) (fine : AreFine words) (others : AreFine other) → words ≡ other
    → made_of alloc config words table fine ≡ made_of alloc config other table others
same_words alloc config words other table fine others e =
    subst (λ (v : Words). (f : AreFine v) → made_of alloc config words table fine ≡ made_of alloc config v table f) e
    (λ f. ap (λ (h : AreFine words). made_of alloc config words table h) (fine_prop words fine f)) others

pub same_tracker : {X : Type 0} (t o : CompactTracker X) → t.alloc ≡ o.alloc → t.config ≡ o.config → t.words ≡ o.words → t.table ≡ o.table → t ≡ o
same_tracker t o alloc config words table =
    ap (λ v. made_of v t.config t.words t.table t.fine) alloc
    ∙ ap (λ (v : Config). made_of o.alloc v t.words t.table t.fine) config
    ∙ ap (λ (v : Routes). made_of o.alloc o.config t.words v t.fine) table
    ∙ same_words o.alloc o.config t.words o.words o.table t.fine o.fine words
