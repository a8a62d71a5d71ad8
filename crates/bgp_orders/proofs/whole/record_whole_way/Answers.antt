use Rattle.std.proofs.Common.{List, inl, inr, refl, sym, ap, subst, ◌∙◌}
use Rattle.bgp_prefix.specs.Shown.{ShownRecord}
use Rattle.bgp_machine.specs.Run.{End as TheEnd, IsComplete}
use Rattle.bgp_recording.specs.Captured.{records_of}
use Rattle.bgp_recording.specs.Told.{IsTold}
use Rattle.bgp_orders.specs.Connections.{TellsConnection}
use Rattle.bgp_orders.specs.Entries.{AreOfAWay}
use Rattle.bgp_orders.specs.Explained.{IsWhole, ShowARun}
use Rattle.bgp_orders.specs.Tracks.{NoneIsFound}
use Rattle.bgp_orders.proofs.Along.{none_is}
use Rattle.bgp_orders.proofs.Counts.{some_is}
use Rattle.bgp_orders.proofs.NoOrder.{connection_is_told}
use Rattle.bgp_orders.proofs.whole.record_whole_way.Goals as goal

pub returns-clause-way : goal.returns-clause-way
returns-clause-way g c =
    let framed = c.in_ok-framed.framed in
    let exchange = c.exchange-exchange.result in
    let tells : TellsConnection c.args.framings c.args.connection.now exchange =
    record {
      received = framed.received.messages.items;
      sent = framed.sent.messages.items;
      received_unshown = framed.received.unshown;
      sent_unshown = framed.sent.unshown;
      heard = c.in_ok-framed.ensures.received;
      said = c.in_ok-framed.ensures.sent;
      is = c.exchange-exchange.ensures;
    } in
    λ clocked. record {
      exchange = exchange;
      tells = tells;
      received_unshown = refl;
      sent_unshown = refl;
      of = some_is c.in_ok-entries.field-0 c.in-Some.entries (λ entries. IsTold exchange → AreOfAWay c.args.within exchange entries.items) c.in-Some.is c.in_ok-entries.ensures.way
          (connection_is_told c.args.framings c.args.connection.now exchange tells clocked);
    }

pub returns-clause-ends : goal.returns-clause-ends
returns-clause-ends g c =
    let framed = c.in_ok-framed.framed in
    let exchange = c.exchange-exchange.result in
    let tells : TellsConnection c.args.framings c.args.connection.now exchange =
    record {
      received = framed.received.messages.items;
      sent = framed.sent.messages.items;
      received_unshown = framed.received.unshown;
      sent_unshown = framed.sent.unshown;
      heard = c.in_ok-framed.ensures.received;
      said = c.in_ok-framed.ensures.sent;
      is = c.exchange-exchange.ensures;
    } in
    λ clocked e complete. record {
      exchange = exchange;
      tells = tells;
      whole = some_is c.in_ok-entries.field-0 c.in-Some.entries
          (λ entries. IsTold exchange → (e : TheEnd) → IsComplete c.args.config.now (records_of entries.items) e → IsWhole c.args.config.now c.args.within exchange e) c.in-Some.is
          c.in_ok-entries.ensures.ends (connection_is_told c.args.framings c.args.connection.now exchange tells clocked) e
          (subst (λ (v : List ShownRecord). IsComplete c.args.config.now v e) (c.in_ok-records.ensures ∙ ap records_of c.deref.ensures.value) complete);
    }

pub returns-clause-run : goal.returns-clause-run
returns-clause-run g c =
    let config = c.args.config.now in
    let run = some_is c.in_ok-entries.field-0 c.in-Some.entries (λ entries. ShowARun config (records_of entries.items)) c.in-Some.is c.in_ok-entries.ensures.run in
    subst (λ (v : List ShownRecord). ShowARun config v) (sym (c.in_ok-records.ensures ∙ ap records_of c.deref.ensures.value)) run

pub returns-in_default-clause-none : goal.returns-in_default-clause-none
returns-in_default-clause-none g c =
    let framed = c.in_ok-framed.framed in
    let exchange = c.exchange-exchange.result in
    let config = c.args.config.now in
    let tells : TellsConnection c.args.framings c.args.connection.now exchange =
    record {
      received = framed.received.messages.items;
      sent = framed.sent.messages.items;
      received_unshown = framed.received.unshown;
      sent_unshown = framed.sent.unshown;
      heard = c.in_ok-framed.ensures.received;
      said = c.in_ok-framed.ensures.sent;
      is = c.exchange-exchange.ensures;
    } in
    elim (none_is c.in_ok-entries.field-0 (NoneIsFound config c.args.within exchange) c.in_default.is c.in_ok-entries.ensures.none) [
      | inl none ↦ inl (record { exchange = exchange; tells = tells; none = none })
      | inr many ↦ inr (record { exchange = exchange; tells = tells; holds = many })
    ]
