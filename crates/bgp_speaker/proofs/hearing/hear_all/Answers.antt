use Rattle.std.proofs.Common.{ℕ, List, drop, length, sym, ap, subst, ◌∙◌}
use Rattle.bgp_rib.specs.Routes.{no_routes}
use Rattle.bgp_wire.specs.declared.header.Limit.{Limit}
use Rattle.bgp_wire.specs.Framing.{IsFrame, IsFaulty, IsShort}
use Rattle.bgp_wire.specs.Held.{Held}
use Rattle.bgp_speaker.specs.Drafts.{GoesOnHearing}
use Rattle.bgp_speaker.proofs.Drafting.{on_ok}
use Rattle.bgp_speaker.proofs.HearingAll.{one_more_heard, ends_deaf, ends_short, ends_at_fault, held_is, kind_at}
use Rattle.bgp_speaker.proofs.PlainLinks.{does_hear_plain}
use Rattle.bgp_speaker.proofs.hearing.hear_all.Goals as goal

pub loop-frames-preserved : goal.loop-frames-preserved
loop-frames-preserved g c =
    let now = rw c.in-Frame.is at c.next.follows.holds-at-none in
    let first = c.in-Frame.ensures.first in
    let frame = c.in-Frame.octets.now in
    let held = c.loop-frames.frames.octets in
    let limit = c.loop-frames.invariant.limit in
    record {
      limit = ap (λ (v : Held). v.limit) now ∙ limit;
      unclosed = ap (λ (v : Held). v.is_closed) now ∙ c.loop-frames.invariant.unclosed;
      plain = does_hear_plain no_routes c.args.speaker.now c.args.kept.now.keys c.args.t frame c.loop-frames.draft c.hear.new.self c.requires.offers
          (c.is_connected.ensures.0 c.loop-frames-test.true) (c.in_ok-hear-in-Frame.ensures no_routes) c.loop-frames.invariant.plain;
      goes = λ routes. subst (λ (o : List ℕ). GoesOnHearing routes c.args.speaker.now c.args.kept.now.keys c.args.t c.args.frames.now.octets o c.args.draft.now c.hear.new.self)
          (sym (ap (λ (v : Held). v.octets) now))
          (one_more_heard routes c.args.speaker.now c.args.kept.now.keys c.args.t c.args.frames.now.octets held frame (drop (length frame) held)
          c.args.draft.now c.loop-frames.draft c.hear.new.self (c.loop-frames.invariant.goes routes) (c.is_connected.ensures.0 c.loop-frames-test.true)
          (subst (λ (l : Limit). IsFrame l frame) limit first.0) first.2 (c.in_ok-hear-in-Frame.ensures routes));
    }

pub returns-in-More : goal.returns-in-More
returns-in-More g c routes =
    let now = rw c.in-More.is at c.next.follows.holds-at-none in
    let held = c.loop-frames.frames in
    ends_short routes c.args.speaker.now c.args.kept.now.keys c.args.t c.args.frames.now.octets held.octets c.next.follows.lender-at-none c.args.draft.now c.loop-frames.draft
    (c.loop-frames.invariant.goes routes) (subst (λ (l : Limit). IsShort l held.octets) c.loop-frames.invariant.limit c.in-More.ensures.first)
    (now ∙ held_is _ held c.loop-frames.invariant.limit c.loop-frames.invariant.unclosed)

pub returns-in-Fault : goal.returns-in-Fault
returns-in-Fault g c routes =
    let first = c.in-Fault.ensures.first in
    let held = c.loop-frames.frames.octets in
    on_ok c.hear-in-Fault.result (c.hear-in-Fault.ensures routes) (λ x.
    ends_at_fault routes c.args.speaker.now c.args.kept.now.keys c.args.t c.args.frames.now.octets held c.in-Fault.header.now c.next.follows.lender-at-none c.args.draft.now
    c.loop-frames.draft c.hear-in-Fault.new.self (c.loop-frames.invariant.goes routes) (c.is_connected.ensures.0 c.loop-frames-test.true)
    (subst (λ (l : Limit). IsFaulty l held) c.loop-frames.invariant.limit first.0) first.1 x)

pub returns : goal.returns
returns g c routes =
    let framing = c.each_stream_has_one_framing.ensures.each _ c.loop-frames.frames.octets in
    ends_deaf routes c.args.speaker.now c.args.kept.now.keys c.args.t c.args.frames.now.octets c.loop-frames.frames.octets c.loop-frames.frames c.args.draft.now c.loop-frames.draft
    framing.0 framing.1 (c.loop-frames.invariant.goes routes) (λ on. let yes = c.is_connected.ensures.1 on in let not = c.loop-frames-test.false in absurd (cc)) framing.2

pub hear-requires-in-Fault-clause-kind : goal.hear-requires-in-Fault-clause-kind
hear-requires-in-Fault-clause-kind g c =
    let first = c.in-Fault.ensures.first in
    kind_at c.loop-frames.frames.octets c.in-Fault.header.now first.0.0 first.1
