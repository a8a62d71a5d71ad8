-- Records make one table.
use Rattle.std.proofs.Common.{◌≡◌, ℕ, Bool, true, false, List, [], ◌∷◌, refl, sym, subst, ◌∙◌}
use Rattle.bgp_prefix.specs.Shown.{ShownRecord, Received, Sent, Changed}
use Rattle.bgp_open.specs.declared.config.Config.{Config}
use Rattle.bgp_open.specs.declared.link.Link.{Link}
use Rattle.bgp_machine.specs.declared.fsm.Fsm.{Fsm}
use Rattle.bgp_machine.specs.declared.fsm.Fsm.TheVariants as fsms
use Rattle.bgp_rib.specs.Routes.{Routes, no_routes}
use Rattle.bgp_rib.specs.SameRoutes.{same_routes}
use Rattle.bgp_rib.proofs.RouteLaws.{routes_decide}
use Rattle.bgp_judge.specs.Told.{Told, fresh_told, link_told, told_next}
use Rattle.bgp_compact.specs.Table.{IsTableBehind, IsTableByMessage, IsTableChanged, IsTableFrom, RecordsMakeOneTable}

-- that differ is not so
by_test : (next other : Routes) (same : Bool) → same_routes next other ≡ same → ((next ≡ other → ⊥) → next ≡ other) → next ≡ other
by_test next other true e stable = (routes_decide next other).0 e
by_test next other false e stable = stable (λ same. let k = sym e ∙ (routes_decide next other).1 same in cc)

-- two that differ come of no changes, so both are the old one
one_changed : (config : Config) (link : Link) (octets : List ℕ) (table next other : Routes) → IsTableChanged config link octets table next → IsTableChanged config link octets table other → next ≡ other
one_changed config link octets table next other a b = by_test next other (same_routes next other) refl (λ differ.
    a.kept (λ changes may. differ (a.applied changes may ∙ sym (b.applied changes may)))
    ∙ sym (b.kept (λ changes may. differ (a.applied changes may ∙ sym (b.applied changes may)))))

one_by_message : (config : Config) (fsm : Fsm) (link : Link) (octets : List ℕ) (table next other : Routes) → IsTableByMessage config fsm link octets table next
    → IsTableByMessage config fsm link octets table other → next ≡ other
one_by_message config fsms.Established link octets table next other a b = one_changed config link octets table next other a b
one_by_message config fsms.Idle link octets table next other a b = a ∙ sym b
one_by_message config fsms.Connect link octets table next other a b = a ∙ sym b
one_by_message config fsms.Active link octets table next other a b = a ∙ sym b
one_by_message config fsms.OpenSent link octets table next other a b = a ∙ sym b
one_by_message config fsms.OpenConfirm link octets table next other a b = a ∙ sym b

one_behind : (config : Config) (t : Told) (r : ShownRecord) (table next other : Routes) → IsTableBehind config t r table next → IsTableBehind config t r table other
    → next ≡ other
one_behind config t (Received u octets) table next other a b = one_by_message config t.fsm (link_told config t) octets table next other a b
one_behind config t (Sent u octets) table next other a b = a ∙ sym b
one_behind config t (Changed u x y) table next other a b = a ∙ sym b

one_from : (config : Config) (t : Told) (table : Routes) (records : List ShownRecord) (last other : Routes) → IsTableFrom config t table records last
    → IsTableFrom config t table records other → last ≡ other
one_from config t table [] last other a b = a ∙ sym b
one_from config t table (r ∷ records) last other a b =
    one_from config (told_next t r) a.0 records last other a.2
    (subst (λ (v : Routes). IsTableFrom config (told_next t r) v records other) (one_behind config t r table b.0 a.0 b.1 a.1) b.2)

pub one_table : RecordsMakeOneTable
one_table config records table other a b = one_from config fresh_told no_routes records table other a b
