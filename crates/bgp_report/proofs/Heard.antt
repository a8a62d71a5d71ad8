-- The connection that an end has, and what is put of its records.
use Rattle.std.proofs.Common.{◌≡◌, ℕ, List, Option, None, Some, IfSome, reverse, subst, sym}
use Rattle.packets.specs.Packet.{Recorded}
use Rattle.streams.specs.Choice.{IsAnswered}
use Rattle.streams.specs.Connections.{numbered}
use Rattle.streams.specs.Held.{HoldsConnections}
use Rattle.streams.specs.Passed.{Segment}
use Rattle.streams.specs.declared.connection.Connection.{Connection}
use Rattle.segments.specs.declared.fault.PacketFault.{PacketFault}
use Rattle.bgp_prefix.specs.declared.session.Session.{Session}
use Rattle.bgp_recording.specs.Gathered.{IsClocked, IsCovered}
use Rattle.bgp_import.specs.Pairs.{selection_of}
use Rattle.bgp_import.specs.Talks.{HoldsAll, HoldsBy, HoldsSome, talk_at}
use Rattle.bgp_import.specs.declared.talk.Talk.{Talk}
use Rattle.bgp_import.specs.declared.talks.Talks.{Talks}
use Rattle.bgp_import.proofs.InOrder.{in_order}
use Rattle.bgp_import.proofs.Telling.{are_covered, is_clocked}
use Rattle.bgp_report.specs.Ladders.{IsHeard, addresses_of}

-- ---- a connection

module _ {Z : Type 0} (port : ℕ) (packets : List Recorded) (talks : Talks Z) (talk : Talk Z) (session : Session) (number : ℕ)
    (held : HoldsSome port packets talks) (at : talk_at talks (addresses_of session) ≡ Some talk) where
  pub heard : (found : Option Connection) → IfSome found (λ c. talk.refusal ≡ None)
      → ((segments : List Segment) → HoldsConnections segments talk.connections → IfSome found (λ c. IsAnswered (Some number) 0 (numbered segments) c))
      → IfSome found (λ c. (IsHeard port packets session number c × IsClocked c) × (IsCovered c.received × IsCovered c.sent))
  heard None fine answered = tt
  heard (Some c) fine answered =
      let its = held.each (addresses_of session) talk at in
      let all : HoldsAll port packets (addresses_of session) talk.connections =
      subst (λ (o : Option (PacketFault × ℕ)). HoldsBy port packets (addresses_of session) talk.connections o) fine its.1 in
      let chosen = answered (reverse all.segments) all.holds in
      let order = in_order (selection_of (addresses_of session) port) packets all.segments all.taken in (
        (
          record { segments = all.segments; ordered = its.0; taken = all.taken; chosen = chosen },
          is_clocked (reverse all.segments) (Some number) 0 c order chosen,
        ),
        are_covered (Some number) 0 (numbered (reverse all.segments)) c chosen,
      )

pub both_of : (P Q : Connection → Type 0) (found : Option Connection) → IfSome found (λ c. P c × Q c) → IfSome found P × IfSome found Q
both_of P Q None both = (tt, tt)
both_of P Q (Some c) both = both
