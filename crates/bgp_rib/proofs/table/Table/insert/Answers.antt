use Rattle.std.proofs.Common.{◌≡◌, ◌∙◌, ◌+◌, ◌^◌, ◌<◌, None, length, sym, ap, arith}
use Rattle.std.specs.BTreeMap.{is_at, insert_entry}
use Rattle.std.specs.Map.{lookup}
use Rattle.bgp_rib.specs.DestinationOrder.{destination_cmp}
use Rattle.bgp_rib.specs.Keyed.{destination_of}
use Rattle.bgp_rib.specs.Keys.{joined, v4_plain, v4_identified, v6_plain, v6_identified}
use Rattle.bgp_rib.proofs.Joined.{joined_length, look_v4_plain, look_v4_identified, look_v6_plain, look_v6_identified, put_v4_plain, put_v4_identified, put_v6_plain, put_v6_identified}
use Rattle.bgp_rib.proofs.KeyParts.{grown, on_err}
use Rattle.bgp_rib.proofs.table.Table.insert.Goals as goal

pub returns-in_err-insert-in-PlainV4-clause-absent : goal.returns-in_err-insert-in-PlainV4-clause-absent
returns-in_err-insert-in-PlainV4-clause-absent g c =
    let t = c.self.inside in
    let here : v4_plain c.in-PlainV4.key ≡ c.args.destination.now = ap destination_of (sym c.in-PlainV4.is) ∙ c.of.ensures in
    on_err c.from_residual.result (sym (look_v4_plain t.plain_v4.entries t.identified_v4.entries t.plain_v6.entries t.identified_v6.entries c.in-PlainV4.key ∙ (λ i. lookup (is_at (destination_cmp (here i))) (c.self.view_is i))) ∙ c.in_err-insert-in-PlainV4.ensures.absent)

pub invariant_of-self-in-PlainV4 : goal.invariant_of-self-in-PlainV4
invariant_of-self-in-PlainV4 g c =
    let t = c.self.inside in
    let here : v4_plain c.in-PlainV4.key ≡ c.args.destination.now = ap destination_of (sym c.in-PlainV4.is) ∙ c.of.ensures in
    let found = c.in_ok-insert-in-PlainV4.ensures.old ∙ look_v4_plain t.plain_v4.entries t.identified_v4.entries t.plain_v6.entries t.identified_v6.entries c.in-PlainV4.key ∙ (λ i. lookup (is_at (destination_cmp (here i))) (c.self.view_is i)) in
    let all = joined_length t.plain_v4.entries t.identified_v4.entries t.plain_v6.entries t.identified_v6.entries in
    let seen = ap length c.self.view_is in
    let space : c.in_ok-insert-in-PlainV4.field-0 ≡ None → length c.args.self.now + 1 < 2 ^ 64 = λ none. c.is_too_full.ensures.space c.if-is_too_full.false (sym found ∙ none) in
    omega (arith, grown c.in_ok-insert-in-PlainV4.field-0 (length c.insert.new.self.entries) (length t.plain_v4.entries) (length t.identified_v4.entries + length t.plain_v6.entries + length t.identified_v6.entries) c.in_ok-insert-in-PlainV4.ensures.len (λ none. omega (arith, space none, all, seen)) (omega (arith, c.self.invariant)))

pub returns-in_ok-insert-in-PlainV4-clause-old : goal.returns-in_ok-insert-in-PlainV4-clause-old
returns-in_ok-insert-in-PlainV4-clause-old g c =
    let t = c.self.inside in
    let here : v4_plain c.in-PlainV4.key ≡ c.args.destination.now = ap destination_of (sym c.in-PlainV4.is) ∙ c.of.ensures in
    c.in_ok-insert-in-PlainV4.ensures.old ∙ look_v4_plain t.plain_v4.entries t.identified_v4.entries t.plain_v6.entries t.identified_v6.entries c.in-PlainV4.key ∙ (λ i. lookup (is_at (destination_cmp (here i))) (c.self.view_is i))

pub returns-in_ok-insert-in-PlainV4-clause-entries : goal.returns-in_ok-insert-in-PlainV4-clause-entries
returns-in_ok-insert-in-PlainV4-clause-entries g c =
    let t = c.self.inside in
    let here : v4_plain c.in-PlainV4.key ≡ c.args.destination.now = ap destination_of (sym c.in-PlainV4.is) ∙ c.of.ensures in
    (λ i. joined (c.in_ok-insert-in-PlainV4.ensures.entries i) t.identified_v4.entries t.plain_v6.entries t.identified_v6.entries)
    ∙ put_v4_plain t.plain_v4.entries t.identified_v4.entries t.plain_v6.entries t.identified_v6.entries c.in-PlainV4.key c.args.route
    ∙ (λ i. insert_entry destination_cmp (c.self.view_is i) (here i) c.args.route)

pub returns-in_err-insert-in-IdentifiedV4-clause-absent : goal.returns-in_err-insert-in-IdentifiedV4-clause-absent
returns-in_err-insert-in-IdentifiedV4-clause-absent g c =
    let t = c.self.inside in
    let here : v4_identified c.in-IdentifiedV4.key ≡ c.args.destination.now = ap destination_of (sym c.in-IdentifiedV4.is) ∙ c.of.ensures in
    on_err c.from_residual-in_err-insert-in-IdentifiedV4.result (sym (look_v4_identified t.plain_v4.entries t.identified_v4.entries t.plain_v6.entries t.identified_v6.entries c.in-IdentifiedV4.key ∙ (λ i. lookup (is_at (destination_cmp (here i))) (c.self.view_is i))) ∙ c.in_err-insert-in-IdentifiedV4.ensures.absent)

pub invariant_of-self-in-IdentifiedV4 : goal.invariant_of-self-in-IdentifiedV4
invariant_of-self-in-IdentifiedV4 g c =
    let t = c.self.inside in
    let here : v4_identified c.in-IdentifiedV4.key ≡ c.args.destination.now = ap destination_of (sym c.in-IdentifiedV4.is) ∙ c.of.ensures in
    let found = c.in_ok-insert-in-IdentifiedV4.ensures.old ∙ look_v4_identified t.plain_v4.entries t.identified_v4.entries t.plain_v6.entries t.identified_v6.entries c.in-IdentifiedV4.key ∙ (λ i. lookup (is_at (destination_cmp (here i))) (c.self.view_is i)) in
    let all = joined_length t.plain_v4.entries t.identified_v4.entries t.plain_v6.entries t.identified_v6.entries in
    let seen = ap length c.self.view_is in
    let space : c.in_ok-insert-in-IdentifiedV4.field-0 ≡ None → length c.args.self.now + 1 < 2 ^ 64 = λ none. c.is_too_full.ensures.space c.if-is_too_full.false (sym found ∙ none) in
    omega (arith, grown c.in_ok-insert-in-IdentifiedV4.field-0 (length c.insert-in-IdentifiedV4.new.self.entries) (length t.identified_v4.entries) (length t.plain_v4.entries + length t.plain_v6.entries + length t.identified_v6.entries) c.in_ok-insert-in-IdentifiedV4.ensures.len (λ none. omega (arith, space none, all, seen)) (omega (arith, c.self.invariant)))

pub returns-in_ok-insert-in-IdentifiedV4-clause-old : goal.returns-in_ok-insert-in-IdentifiedV4-clause-old
returns-in_ok-insert-in-IdentifiedV4-clause-old g c =
    let t = c.self.inside in
    let here : v4_identified c.in-IdentifiedV4.key ≡ c.args.destination.now = ap destination_of (sym c.in-IdentifiedV4.is) ∙ c.of.ensures in
    c.in_ok-insert-in-IdentifiedV4.ensures.old ∙ look_v4_identified t.plain_v4.entries t.identified_v4.entries t.plain_v6.entries t.identified_v6.entries c.in-IdentifiedV4.key ∙ (λ i. lookup (is_at (destination_cmp (here i))) (c.self.view_is i))

pub returns-in_ok-insert-in-IdentifiedV4-clause-entries : goal.returns-in_ok-insert-in-IdentifiedV4-clause-entries
returns-in_ok-insert-in-IdentifiedV4-clause-entries g c =
    let t = c.self.inside in
    let here : v4_identified c.in-IdentifiedV4.key ≡ c.args.destination.now = ap destination_of (sym c.in-IdentifiedV4.is) ∙ c.of.ensures in
    (λ i. joined t.plain_v4.entries (c.in_ok-insert-in-IdentifiedV4.ensures.entries i) t.plain_v6.entries t.identified_v6.entries)
    ∙ put_v4_identified t.plain_v4.entries t.identified_v4.entries t.plain_v6.entries t.identified_v6.entries c.in-IdentifiedV4.key c.args.route
    ∙ (λ i. insert_entry destination_cmp (c.self.view_is i) (here i) c.args.route)

pub returns-in_err-insert-in-PlainV6-clause-absent : goal.returns-in_err-insert-in-PlainV6-clause-absent
returns-in_err-insert-in-PlainV6-clause-absent g c =
    let t = c.self.inside in
    let here : v6_plain c.in-PlainV6.key ≡ c.args.destination.now = ap destination_of (sym c.in-PlainV6.is) ∙ c.of.ensures in
    on_err c.from_residual-in_err-insert-in-PlainV6.result (sym (look_v6_plain t.plain_v4.entries t.identified_v4.entries t.plain_v6.entries t.identified_v6.entries c.in-PlainV6.key ∙ (λ i. lookup (is_at (destination_cmp (here i))) (c.self.view_is i))) ∙ c.in_err-insert-in-PlainV6.ensures.absent)

pub invariant_of-self-in-PlainV6 : goal.invariant_of-self-in-PlainV6
invariant_of-self-in-PlainV6 g c =
    let t = c.self.inside in
    let here : v6_plain c.in-PlainV6.key ≡ c.args.destination.now = ap destination_of (sym c.in-PlainV6.is) ∙ c.of.ensures in
    let found = c.in_ok-insert-in-PlainV6.ensures.old ∙ look_v6_plain t.plain_v4.entries t.identified_v4.entries t.plain_v6.entries t.identified_v6.entries c.in-PlainV6.key ∙ (λ i. lookup (is_at (destination_cmp (here i))) (c.self.view_is i)) in
    let all = joined_length t.plain_v4.entries t.identified_v4.entries t.plain_v6.entries t.identified_v6.entries in
    let seen = ap length c.self.view_is in
    let space : c.in_ok-insert-in-PlainV6.field-0 ≡ None → length c.args.self.now + 1 < 2 ^ 64 = λ none. c.is_too_full.ensures.space c.if-is_too_full.false (sym found ∙ none) in
    omega (arith, grown c.in_ok-insert-in-PlainV6.field-0 (length c.insert-in-PlainV6.new.self.entries) (length t.plain_v6.entries) (length t.plain_v4.entries + length t.identified_v4.entries + length t.identified_v6.entries) c.in_ok-insert-in-PlainV6.ensures.len (λ none. omega (arith, space none, all, seen)) (omega (arith, c.self.invariant)))

pub returns-in_ok-insert-in-PlainV6-clause-old : goal.returns-in_ok-insert-in-PlainV6-clause-old
returns-in_ok-insert-in-PlainV6-clause-old g c =
    let t = c.self.inside in
    let here : v6_plain c.in-PlainV6.key ≡ c.args.destination.now = ap destination_of (sym c.in-PlainV6.is) ∙ c.of.ensures in
    c.in_ok-insert-in-PlainV6.ensures.old ∙ look_v6_plain t.plain_v4.entries t.identified_v4.entries t.plain_v6.entries t.identified_v6.entries c.in-PlainV6.key ∙ (λ i. lookup (is_at (destination_cmp (here i))) (c.self.view_is i))

pub returns-in_ok-insert-in-PlainV6-clause-entries : goal.returns-in_ok-insert-in-PlainV6-clause-entries
returns-in_ok-insert-in-PlainV6-clause-entries g c =
    let t = c.self.inside in
    let here : v6_plain c.in-PlainV6.key ≡ c.args.destination.now = ap destination_of (sym c.in-PlainV6.is) ∙ c.of.ensures in
    (λ i. joined t.plain_v4.entries t.identified_v4.entries (c.in_ok-insert-in-PlainV6.ensures.entries i) t.identified_v6.entries)
    ∙ put_v6_plain t.plain_v4.entries t.identified_v4.entries t.plain_v6.entries t.identified_v6.entries c.in-PlainV6.key c.args.route
    ∙ (λ i. insert_entry destination_cmp (c.self.view_is i) (here i) c.args.route)

pub returns-in_err-insert-in-IdentifiedV6-clause-absent : goal.returns-in_err-insert-in-IdentifiedV6-clause-absent
returns-in_err-insert-in-IdentifiedV6-clause-absent g c =
    let t = c.self.inside in
    let here : v6_identified c.in-IdentifiedV6.key ≡ c.args.destination.now = ap destination_of (sym c.in-IdentifiedV6.is) ∙ c.of.ensures in
    on_err c.from_residual-in_err-insert-in-IdentifiedV6.result (sym (look_v6_identified t.plain_v4.entries t.identified_v4.entries t.plain_v6.entries t.identified_v6.entries c.in-IdentifiedV6.key ∙ (λ i. lookup (is_at (destination_cmp (here i))) (c.self.view_is i))) ∙ c.in_err-insert-in-IdentifiedV6.ensures.absent)

pub invariant_of-self-in-IdentifiedV6 : goal.invariant_of-self-in-IdentifiedV6
invariant_of-self-in-IdentifiedV6 g c =
    let t = c.self.inside in
    let here : v6_identified c.in-IdentifiedV6.key ≡ c.args.destination.now = ap destination_of (sym c.in-IdentifiedV6.is) ∙ c.of.ensures in
    let found = c.in_ok-insert-in-IdentifiedV6.ensures.old ∙ look_v6_identified t.plain_v4.entries t.identified_v4.entries t.plain_v6.entries t.identified_v6.entries c.in-IdentifiedV6.key ∙ (λ i. lookup (is_at (destination_cmp (here i))) (c.self.view_is i)) in
    let all = joined_length t.plain_v4.entries t.identified_v4.entries t.plain_v6.entries t.identified_v6.entries in
    let seen = ap length c.self.view_is in
    let space : c.in_ok-insert-in-IdentifiedV6.field-0 ≡ None → length c.args.self.now + 1 < 2 ^ 64 = λ none. c.is_too_full.ensures.space c.if-is_too_full.false (sym found ∙ none) in
    omega (arith, grown c.in_ok-insert-in-IdentifiedV6.field-0 (length c.insert-in-IdentifiedV6.new.self.entries) (length t.identified_v6.entries) (length t.plain_v4.entries + length t.identified_v4.entries + length t.plain_v6.entries) c.in_ok-insert-in-IdentifiedV6.ensures.len (λ none. omega (arith, space none, all, seen)) (omega (arith, c.self.invariant)))

pub returns-in_ok-insert-in-IdentifiedV6-clause-old : goal.returns-in_ok-insert-in-IdentifiedV6-clause-old
returns-in_ok-insert-in-IdentifiedV6-clause-old g c =
    let t = c.self.inside in
    let here : v6_identified c.in-IdentifiedV6.key ≡ c.args.destination.now = ap destination_of (sym c.in-IdentifiedV6.is) ∙ c.of.ensures in
    c.in_ok-insert-in-IdentifiedV6.ensures.old ∙ look_v6_identified t.plain_v4.entries t.identified_v4.entries t.plain_v6.entries t.identified_v6.entries c.in-IdentifiedV6.key ∙ (λ i. lookup (is_at (destination_cmp (here i))) (c.self.view_is i))

pub returns-in_ok-insert-in-IdentifiedV6-clause-entries : goal.returns-in_ok-insert-in-IdentifiedV6-clause-entries
returns-in_ok-insert-in-IdentifiedV6-clause-entries g c =
    let t = c.self.inside in
    let here : v6_identified c.in-IdentifiedV6.key ≡ c.args.destination.now = ap destination_of (sym c.in-IdentifiedV6.is) ∙ c.of.ensures in
    (λ i. joined t.plain_v4.entries t.identified_v4.entries t.plain_v6.entries (c.in_ok-insert-in-IdentifiedV6.ensures.entries i))
    ∙ put_v6_identified t.plain_v4.entries t.identified_v4.entries t.plain_v6.entries t.identified_v6.entries c.in-IdentifiedV6.key c.args.route
    ∙ (λ i. insert_entry destination_cmp (c.self.view_is i) (here i) c.args.route)
