use Rattle.std.proofs.Common.{◌≡◌, ◌<◌, ◌++◌, Bool, true, false, ℕ, List, [], codes, if◌then◌else◌, nat_lt, refl, subst, arith}
use Rattle.bgp_names.specs.States.{state_name}
use Rattle.bgp_text.specs.Lines.{Writes}
use Rattle.bgp_text.proofs.Pieces.{Joins, and_then}
use Rattle.bgp_check_text.proofs.states.put_after.Goals as goal

chosen : (b : Bool) (text : List ℕ) → b ≡ true → text ≡ (if b then text else [])
chosen true text is = refl
chosen false text is = absurd (let k : ⊥ = cc in k)

less : (number highest : ℕ) → number < highest → nat_lt number highest ≡ true
less number highest below = grind arith

pub returns-then-number-highest : goal.returns-then-number-highest
returns-then-number-highest g c =
    let law : Joins g.W.Sink = record { joined = g.met.W.Sink.joined } in
    subst (λ (text : List ℕ). Writes c.args.lines.now c.put_state_name.new.lines text)
    (chosen (nat_lt c.args.number c.args.highest) (codes " after " ++ state_name c.args.highest) (less c.args.number c.args.highest c.if-number-highest.true))
    (and_then law c.put.ensures c.put_state_name.ensures)
