use Rattle.std.proofs.Common.{ap, length, ◌≤◌, ℕ, subst}
use Rattle.mrt_sessions.specs.Sessions.{held_records, held_sessions}
use Rattle.bgp_list.specs.SessionJson.{session_json}
use Rattle.bgp_list.proofs.Objects.{all_items, item_with, none_yet}
use Rattle.bgp_list.proofs.json_text.objects_of_sessions.Goals as goal

pub loop-addresses-init : goal.loop-addresses-init
loop-addresses-init g c = none_yet c.new-text.result.items c.new-text.ensures.items

pub loop-addresses-preserved : goal.loop-addresses-preserved
loop-addresses-preserved g c =
    item_with (λ a. session_json a (held_records c.args.sessions.now a)) c.in_order-addresses-items.result.now (held_sessions c.args.sessions.now) c.loop-addresses.addresses-index _
    c.loop-addresses.text.items c.add_held.new.text.items c.in_order-addresses-items.ensures c.loop-addresses-test.true c.loop-addresses.invariant c.in_ok-add_held.ensures

pub returns : goal.returns
returns g c =
    all_items (λ a. session_json a (held_records c.args.sessions.now a)) (held_sessions c.args.sessions.now) c.loop-addresses.addresses-index c.loop-addresses.text.items
    (subst (λ (n : ℕ). n ≤ c.loop-addresses.addresses-index) (ap length c.in_order-addresses-items.ensures) c.loop-addresses-test.false) c.loop-addresses.invariant
