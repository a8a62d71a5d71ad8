use Rattle.std.proofs.Common.{◌∙◌, refl, sym, ap}
use Rattle.packets.specs.Packet.{recorded_of}
use Rattle.segments.specs.Segment.{finding_of}
use Rattle.bgp_import.proofs.Changed.{gone, recounted}
use Rattle.bgp_import.proofs.TakenSoFar.{is_known, lost, no_addresses}
use Rattle.bgp_import.proofs.talks.Talks.take.Goals as goal

pub returns-in-UnknownLink-clause-takes : goal.returns-in-UnknownLink-clause-takes
returns-in-UnknownLink-clause-takes g c = λ port packets number h.
    let unknown = sym c.read_segment-found.ensures ∙ ap finding_of c.in-UnknownLink.is in
    rw c.refused.ensures (c.in-UnknownLink.link_type, refl, number, unknown, recounted port packets c.args.self.now c.take.new.self h)

pub returns-in_default-addresses_of-clause-takes : goal.returns-in_default-addresses_of-clause-takes
returns-in_default-addresses_of-clause-takes g c = λ port packets number h. (
  is_known (recorded_of c.args.packet.now) c.read_segment-found.result c.read_segment-found.ensures c.in_default.not-UnknownLink,
  no_addresses port packets (recorded_of c.args.packet.now) (record c.args.self.now { wrapped = c.take.new.self }) c.read_segment-found.result c.read_segment-found.ensures
      c.in_default.not-UnknownLink c.addresses_of.result c.addresses_of.ensures c.in_default-addresses_of.is (recounted port packets c.args.self.now c.take.new.self h),
)

pub returns-in-Ok-clause-takes : goal.returns-in-Ok-clause-takes
returns-in-Ok-clause-takes g c = λ port packets number h. (
  is_known (recorded_of c.args.packet.now) c.read_segment-found.result c.read_segment-found.ensures c.in_default.not-UnknownLink,
  c.in-Ok.ensures.ok port packets number (recounted port packets c.args.self.now c.take.new.self h),
)

pub returns-in-Err-clause-takes : goal.returns-in-Err-clause-takes
returns-in-Err-clause-takes g c = λ port packets number h.
    let mid = c.take_found.new.self in
    let new = record mid { by_addresses = c.remove.new.self } in
    let let_go = gone mid new c.ordered-addresses.result c.remove.ensures.updates in (
      number,
      lost port packets (record c.args.self.now { wrapped = c.take.new.self }) mid new c.ordered-addresses.result
          (recounted port packets c.args.self.now c.take.new.self h) c.in-Err.ensures.err c.take_found.ensures.port let_go.0 let_go.1,
    )
