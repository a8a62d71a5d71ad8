use Rattle.std.proofs.Common.{rules, is_some}
use Rattle.std.proofs.lemmas.Map.Made.{filter_same_pairs}
use Rattle.bgp_rib.proofs.table.keep_routes.Goals as goal

pub returns-clause-entries : goal.returns-clause-entries
returns-clause-entries g c =
    filter_same_pairs _ (λ e. is_some e.1) _ (λ k v b w f' t. search rules) c.args.map.now.entries _ c.retain.ensures.filtered
