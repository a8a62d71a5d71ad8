use Rattle.std.proofs.Common.{◌≡◌, ◌∙◌, ◌&&◌, sym}
use Rattle.std.specs.Cmp.Lexicographic.{pointwise}
use Rattle.std.specs.Option.{option_eq}
use Rattle.bgp_prefix.specs.declared.family.Family.TheVariants.{V4, V6}
use Rattle.bgp_rib.specs.Keys.{bits_eq}
use Rattle.bgp_rib.proofs.Joined.{alike, alike_by, identified_eq, joined_alike}
use Rattle.bgp_rib.proofs.KeyParts.{and_more, and_stop, chain_true, chain_false}
use Rattle.bgp_rib.proofs.table.Table.is_same.Goals as goal
use Rattle.bgp_rib.proofs.table.Table.is_same.Goals.{then-eq, else-eq, then-eq-2, else-eq-2}

pub returns-then-eq-3 : goal.returns-then-eq-3
returns-then-eq-3 g c =
    let t = c.self.inside in
    let u = c.other.inside in
    let F = option_eq g.V.PartialEq.eq in
    let p1 = pointwise (alike_by (bits_eq V4) F) t.plain_v4.entries u.plain_v4.entries in
    let p2 = pointwise (alike_by (identified_eq (bits_eq V4)) F) t.identified_v4.entries u.identified_v4.entries in
    let p3 = pointwise (alike_by (bits_eq V6) F) t.plain_v6.entries u.plain_v6.entries in
    let p4 = pointwise (alike_by (identified_eq (bits_eq V6)) F) t.identified_v6.entries u.identified_v6.entries in
    let first : c.if-eq.value ≡ (p1 && p2) =
    elim c.if-eq.branch [ then-eq w ↦ and_more p1 p2 c.if-eq.value (sym c.eq.ensures ∙ w.if-eq.true) (w.value-is ∙ w.eq-then-eq.ensures) | else-eq w ↦ and_stop p1 p2 c.if-eq.value (sym c.eq.ensures ∙ w.if-eq.false) (w.value-is ∙ w.if-eq.false) ] in
    let second : c.if-eq-2.value ≡ (c.if-eq.value && p3) =
    elim c.if-eq-2.branch [ then-eq-2 w ↦ and_more c.if-eq.value p3 c.if-eq-2.value w.if-eq-2.true (w.value-is ∙ w.eq-then-eq-2.ensures) | else-eq-2 w ↦ and_stop c.if-eq.value p3 c.if-eq-2.value w.if-eq-2.false (w.value-is ∙ w.if-eq-2.false) ] in
    c.eq-then-eq-3.ensures ∙ chain_true p1 p2 p3 p4 c.if-eq.value c.if-eq-2.value first second c.if-eq-3.true
    ∙ sym (joined_alike F t.plain_v4.entries u.plain_v4.entries t.identified_v4.entries u.identified_v4.entries t.plain_v6.entries u.plain_v6.entries t.identified_v6.entries u.identified_v6.entries) ∙ (λ i. pointwise (alike F) (c.self.view_is i) (c.other.view_is i))

pub returns-else-eq-3 : goal.returns-else-eq-3
returns-else-eq-3 g c =
    let t = c.self.inside in
    let u = c.other.inside in
    let F = option_eq g.V.PartialEq.eq in
    let p1 = pointwise (alike_by (bits_eq V4) F) t.plain_v4.entries u.plain_v4.entries in
    let p2 = pointwise (alike_by (identified_eq (bits_eq V4)) F) t.identified_v4.entries u.identified_v4.entries in
    let p3 = pointwise (alike_by (bits_eq V6) F) t.plain_v6.entries u.plain_v6.entries in
    let p4 = pointwise (alike_by (identified_eq (bits_eq V6)) F) t.identified_v6.entries u.identified_v6.entries in
    let first : c.if-eq.value ≡ (p1 && p2) =
    elim c.if-eq.branch [ then-eq w ↦ and_more p1 p2 c.if-eq.value (sym c.eq.ensures ∙ w.if-eq.true) (w.value-is ∙ w.eq-then-eq.ensures) | else-eq w ↦ and_stop p1 p2 c.if-eq.value (sym c.eq.ensures ∙ w.if-eq.false) (w.value-is ∙ w.if-eq.false) ] in
    let second : c.if-eq-2.value ≡ (c.if-eq.value && p3) =
    elim c.if-eq-2.branch [ then-eq-2 w ↦ and_more c.if-eq.value p3 c.if-eq-2.value w.if-eq-2.true (w.value-is ∙ w.eq-then-eq-2.ensures) | else-eq-2 w ↦ and_stop c.if-eq.value p3 c.if-eq-2.value w.if-eq-2.false (w.value-is ∙ w.if-eq-2.false) ] in
    chain_false p1 p2 p3 p4 c.if-eq.value c.if-eq-2.value first second c.if-eq-3.false
    ∙ sym (joined_alike F t.plain_v4.entries u.plain_v4.entries t.identified_v4.entries u.identified_v4.entries t.plain_v6.entries u.plain_v6.entries t.identified_v6.entries u.identified_v6.entries) ∙ (λ i. pointwise (alike F) (c.self.view_is i) (c.other.view_is i))
