use Rattle.std.proofs.Common.{◌++◌, ◌∷◌, [], IsTrue, map, option_map, subst, sym}
use Rattle.bgp_judge.specs.Ends.{end_value}
use Rattle.bgp_watch.specs.Front.{StartsEstablished, front_value}
use Rattle.bgp_watch.proofs.Fronts.{found_front, kept_front, none_found, not_told}
use Rattle.bgp_watch.proofs.watching.with_front.Goals as goal

pub returns-then-fronts-count : goal.returns-then-fronts-count
returns-then-fronts-count g c = λ config records shown stands len above is.
    kept_front config records shown (option_map front_value c.args.before)
    (not_told c.records_tell_the_state.ensures.each config (records ++ shown ∷ []) (above c.if-fronts-count.true)) is

pub returns-then-starts_established : goal.returns-then-starts_established
returns-then-starts_established g c = λ config records shown stands len above is.
    found_front c.records_tell_the_state.ensures.each config (records ++ shown ∷ []) c.args.count (map end_value c.in-Ok.ends.items) len
    (c.in-Ok.ensures config (records ++ shown ∷ []) stands)
    (subst (λ ends. StartsEstablished (map end_value ends)) c.as_slice.ensures.value (c.starts_established.ensures.0 c.if-starts_established.true))

pub returns-else-starts_established : goal.returns-else-starts_established
returns-else-starts_established g c = λ config records shown stands len above is.
    kept_front config records shown (option_map front_value c.args.before)
    (none_found c.records_tell_the_state.ensures.each config (records ++ shown ∷ []) (map end_value c.in-Ok.ends.items)
    (c.in-Ok.ensures config (records ++ shown ∷ []) stands)
    (λ starts.
    let is_so : IsTrue c.starts_established.result = c.starts_established.ensures.1 (subst (λ ends. StartsEstablished (map end_value ends)) (sym c.as_slice.ensures.value) starts) in
    let is_not = c.if-starts_established.false in
    cc)) is
