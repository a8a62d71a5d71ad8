-- From each place a walk can go on to the end.
use Rattle.std.proofs.Common.{◌≡◌, ◌<◌, ◌≤◌, ◌+◌, ℕ, List, [], ◌∷◌, Option, None, Some, IfSome, refl, inl, inr, arith}
use Rattle.std.proofs.lemmas.Bool.{cases_lt}
use Rattle.streams.specs.declared.connection.End.{End}
use Rattle.streams.specs.declared.passed.Side.TheVariants.{Local}
use Rattle.bgp_recording.specs.declared.message.Message.{Message}
use Rattle.bgp_recording.specs.Allowed.{Item, Received, Sent, Ended}
use Rattle.bgp_recording.specs.Told.{AreClocked, IsClock, IsLast}
use Rattle.bgp_recording.proofs.Orders.{not_later}
use Rattle.bgp_orders.specs.Walks.{IsWalk, WalksGoOn}
use Rattle.bgp_orders.proofs.Walks.{clocked_received, clocked_sent, clocked_end}

-- a received message that came by a packet before that one is no later; what is no earlier by packets isn't overdue
in_time : (within : ℕ) (clock : ℕ → ℕ) (packet second later at : ℕ) → IsClock clock → second ≡ clock packet → at ≡ clock later → packet ≤ later → second ≤ at + within
in_time within clock packet second later at clocked is also le = omega (arith, not_later clock packet second later at clocked is also le)

-- nothing is left but the end
only_end : (within : ℕ) (end : Option End) → (order : List Item) × IsWalk within [] [] end order
only_end within None = ([], (refl, refl, refl))
only_end within (Some e) = (Ended e ∷ [], (refl, refl, tt, (refl, refl, refl)))

-- no received message is left
only_sent : (within : ℕ) (ss : List Message) (end : Option End) → (order : List Item) × IsWalk within [] ss end order
only_sent within [] end = only_end within end
only_sent within (s ∷ ss) end = let k = only_sent within ss end in (Sent s ∷ k.0, (ss, refl, tt, k.1))

before_end : (r s : Message) (ss : List Message) (end : Option End) → r.packet < s.packet → IfSome end (IsLast (s ∷ ss)) → IfSome end (λ e. e.side ≡ Local → r.packet ≤ e.packet)
before_end r s ss None lt last = tt
before_end r s ss (Some e) lt last = λ own. omega (arith, lt, (last own).0)

-- The next received message is left, and walks go on from where it is taken: so they do before it,
-- whatever is left to be sent.
beside : (within : ℕ) (clock : ℕ → ℕ) (r : Message) (rs : List Message)
    → ((ss : List Message) (end : Option End) → AreClocked clock rs ss end → (order : List Item) × IsWalk within rs ss end order)
    → (ss : List Message) (end : Option End) → AreClocked clock (r ∷ rs) ss end → (order : List Item) × IsWalk within (r ∷ rs) ss end order
beside within clock r rs go [] None c =
    let k = go [] None (clocked_received clock r rs [] None c) in
    (Received r ∷ k.0, (rs, refl, (tt, tt), k.1))
beside within clock r rs go [] (Some e) c =
    elim (cases_lt r.packet e.packet) [
      | inl lt ↦
          let k = go [] (Some e) (clocked_received clock r rs [] (Some e) c) in
          (Received r ∷ k.0, (rs, refl, (tt, λ own. omega (arith, lt)), k.1))
      | inr ge ↦
          let k = go [] None (clocked_received clock r rs [] None (clocked_end clock (r ∷ rs) [] (Some e) c)) in (
            Ended e ∷ Received r ∷ k.0,
            (
              refl,
              refl,
              in_time within clock e.packet e.second r.packet r.second c.clocked c.end_by c.received_by.0 ge,
              (rs, refl, (tt, tt), k.1),
            ),
          )
    ]
beside within clock r rs go (s ∷ ss) end c =
    elim (cases_lt r.packet s.packet) [
      | inl lt ↦
          let k = go (s ∷ ss) end (clocked_received clock r rs (s ∷ ss) end c) in
          (Received r ∷ k.0, (rs, refl, (lt, before_end r s ss end lt c.sent_last), k.1))
      | inr ge ↦
          let k = beside within clock r rs go ss end (clocked_sent clock s (r ∷ rs) ss end c) in
          (Sent s ∷ k.0, (ss, refl, in_time within clock s.packet s.second r.packet r.second c.clocked c.sent_by.0 c.received_by.0 ge, k.1))
    ]

walk_on : (within : ℕ) (clock : ℕ → ℕ) (rs ss : List Message) (end : Option End) → AreClocked clock rs ss end → (order : List Item) × IsWalk within rs ss end order
walk_on within clock [] ss end c = only_sent within ss end
walk_on within clock (r ∷ rs) ss end c = beside within clock r rs (λ left last k. walk_on within clock rs left last k) ss end c

pub walks_go_on : WalksGoOn
walks_go_on = walk_on
