use Rattle.std.proofs.Common.{◌≡◌, ◌∙◌, ◌++◌, ◌∷◌, List, refl, sym, ap, append-nil, append_assoc}
use Rattle.std.specs.List.{flat_map}
use Rattle.bgp_update.specs.Triplet.{Triplet}
use Rattle.bgp_update.specs.Capability.{capability_of}
use Rattle.bgp_text.specs.Text.{capability_text, capabilities_text}
use Rattle.bgp_text.proofs.Pieces.{Joins, and_then}
use Rattle.bgp_text.proofs.messages.put_capabilities.Goals as goal

-- capabilities that are there print one after another
text_of_some : (capabilities others : List Triplet) (first : Triplet) → capabilities ≡ first ∷ others
    → flat_map capability_text capabilities ≡ capabilities_text capabilities
unfolding capabilities_text
text_of_some capabilities others first is = rw is refl

pub returns-in_default : goal.returns-in_default
unfolding capabilities_text
returns-in_default g c = rw c.in_default.ensures.steps.0 c.put.ensures

pub loop-another-preserved : goal.loop-another-preserved
loop-another-preserved g c =
    let law : Joins g.W.Sink = record { joined = g.met.W.Sink.joined } in
    let so_far = c.loop-another.invariant in
    let one = capability_text (capability_of c.in-Some-another.another) in
    let behind = flat_map capability_text c.next-in-loop-another.new.self in (
      so_far.0 ++ one,
      and_then law so_far.1 c.put_capability-in-loop-another.ensures,
      append_assoc so_far.0 one behind
          ∙ sym (ap (λ (left : List Triplet). so_far.0 ++ flat_map capability_text left) c.in-Some-another.ensures.steps)
          ∙ so_far.2,
    )

pub returns : goal.returns
returns g c =
    let so_far = c.loop-another.invariant in
    let all : so_far.0 ≡ capabilities_text c.args.capabilities =
    sym (append-nil so_far.0)
    ∙ sym (ap (λ (left : List Triplet). so_far.0 ++ flat_map capability_text left) c.in-None.ensures.steps.0)
    ∙ so_far.2
    ∙ text_of_some c.args.capabilities _ _ c.in-Some.ensures.steps
    in
    rw all at so_far.1
