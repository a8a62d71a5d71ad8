-- What a gathered connection tells goes by its clock.
use Rattle.std.proofs.Common.{◌≡◌, ◌≤◌, ℕ, List, Option, IfSome, Some, None, ap, subst, sym, ◌∙◌, map}
use Rattle.std.specs.List.{AllByRecursion}
use Rattle.streams.specs.declared.connection.Connection.{Connection}
use Rattle.streams.specs.declared.connection.End.{End}
use Rattle.streams.specs.declared.connection.Run.{Run}
use Rattle.streams.specs.declared.connection.Stream.{Stream}
use Rattle.bgp_recording.specs.declared.entry.Entry.{Entry}
use Rattle.bgp_recording.specs.declared.framing.Direction.TheVariants.{Received, Sent}
use Rattle.bgp_recording.specs.declared.framing.Framing.{Framing}
use Rattle.bgp_recording.specs.declared.framing.Framings.{Framings}
use Rattle.bgp_recording.specs.declared.framing.Unshown.{Unshown}
use Rattle.bgp_recording.specs.declared.pending.Moment.{Moment}
use Rattle.bgp_recording.specs.Framed.{AreSplit, EachAt, IsStamped}
use Rattle.bgp_recording.specs.Recorded.{IsExchangeOf, IsRecordedInOrder}
use Rattle.bgp_recording.specs.Tells.{Tells, HasSecond, numbered_of}
use Rattle.bgp_recording.specs.declared.message.Message.{Message}
use Rattle.bgp_recording.specs.declared.ordering.Exchange.{Exchange}
use Rattle.bgp_recording.specs.Gathered.{GoesFrom, IsClocked, IsHeard, IsSaid, AreMade}
use Rattle.bgp_recording.specs.Givers.{own_end, AreLatest, AreEarliest}
use Rattle.bgp_recording.specs.Told.{IsTold, IsMade as IsMadeOf}
use Rattle.bgp_recording.specs.Steps.{order_of}
use Rattle.streams.specs.declared.passed.Side.{Side}
use Rattle.bgp_recording.specs.MadeOrder.{made_order}
use Rattle.bgp_recording.specs.Values.{values_of}
use Rattle.bgp_recording.specs.Moments.{first_moment, opening_moment}
use Rattle.bgp_recording.proofs.Lists.{all_weaker}
use Rattle.bgp_recording.proofs.Heard.{came_by, came_rise, made_each, made_rise, made_last, own_end_is, stamped_came, stamped_made}

end_weaker : (P Q : End → Type 0) (o : Option End) → ((e : End) → P e → Q e) → IfSome o P → IfSome o Q
end_weaker P Q None f h = tt
end_weaker P Q (Some e) f h = f e h

is_told : (framings : Framings) (connection : Connection) (exchange : Exchange) (received_unshown sent_unshown : Unshown) → exchange.packet ≡ connection.packet → exchange.second ≡ connection.second
    → exchange.end ≡ connection.end → IsClocked connection → IsHeard framings.received connection.received exchange.received.now received_unshown
    → IsSaid framings.sent connection.sent exchange.end exchange.sent.now sent_unshown → IsTold exchange
is_told framings connection exchange received_unshown sent_unshown packet second end h heard said =
    let ends = subst (λ (o : Option End). IfSome o (λ e. GoesFrom h.clock connection.packet e.packet e.second)) (sym end) h.ends in
    let by : AllByRecursion (λ (m : Message). m.second ≡ h.clock m.packet) exchange.sent.now =
    made_each (λ x. x.second ≡ h.clock x.packet) connection.sent.runs.now (own_end exchange.end) said.pieces exchange.sent.now
    (all_weaker (λ run. GoesFrom h.clock connection.packet run.packet run.second) (λ run. run.second ≡ h.clock run.packet) (λ run k. k.0) connection.sent.runs.now h.sent)
    (own_end_is (λ x. x.second ≡ h.clock x.packet) exchange.end (end_weaker _ _ exchange.end (λ e k. k.0) ends)) said.made in
    let first : AllByRecursion (λ (m : Message). connection.packet ≤ m.packet) exchange.sent.now =
    made_each (λ x. connection.packet ≤ x.packet) connection.sent.runs.now (own_end exchange.end) said.pieces exchange.sent.now
    (all_weaker (λ run. GoesFrom h.clock connection.packet run.packet run.second) (λ run. connection.packet ≤ run.packet) (λ run k. k.1) connection.sent.runs.now h.sent)
    (own_end_is (λ x. connection.packet ≤ x.packet) exchange.end (end_weaker _ _ exchange.end (λ e k. k.1) ends)) said.made in
    record {
      clock = h.clock;
      begins = second ∙ h.begins ∙ ap (λ p. h.clock p) (sym packet);
      first = subst (λ (n : ℕ). AllByRecursion (λ (m : Message). n ≤ m.packet) exchange.sent.now) (sym packet) first;
      go_by = record {
        clocked = h.rises;
        received_by = came_by h.clock connection.packet connection.received.runs.now 0 heard.pieces exchange.received.now h.received heard.came;
        sent_by = by;
        end_by = end_weaker _ _ exchange.end (λ e k. k.0) ends;
        received_rise = came_rise connection.received.runs.now 0 heard.pieces exchange.received.now heard.came;
        sent_rise = made_rise connection.sent.runs.now (own_end exchange.end) 0 said.pieces exchange.sent.now said.made;
        sent_last = made_last connection.sent.runs.now exchange.end said.pieces exchange.sent.now said.made;
      };
    }

pub heard_by : (framing : Framing) (stream : Stream) (messages : List Message) (unshown : Unshown) (latest mine : List Run) → mine ≡ latest → AreLatest stream.runs.now latest
    → AreSplit framing Received mine stream.octets.now messages unshown → IsHeard framing stream messages unshown
heard_by framing stream messages unshown latest mine same h split = record {
  pieces = split.pieces;
  framed = split.framed;
  kinds = split.kinds;
  came = stamped_came framing stream.runs.now latest 0 split.pieces messages h split.kinds
      (subst (λ (rs : List Run). EachAt (IsStamped Received rs) 0 split.pieces messages) same split.stamped);
}

pub said_by : (framing : Framing) (stream : Stream) (end : Option End) (own : Option Moment) (messages : List Message) (unshown : Unshown) (earliest mine : List Run) → own ≡ own_end end
    → mine ≡ earliest → AreEarliest stream.runs.now own earliest → AreSplit framing Sent mine stream.octets.now messages unshown → IsSaid framing stream end messages unshown
said_by framing stream end own messages unshown earliest mine is same h split = record {
  pieces = split.pieces;
  framed = split.framed;
  kinds = split.kinds;
  made = subst (λ (o : Option Moment). AreMade stream.runs.now o 0 split.pieces messages) is
      (stamped_made framing stream.runs.now earliest own 0 split.pieces messages h split.kinds
      (subst (λ (rs : List Run). EachAt (IsStamped Sent rs) 0 split.pieces messages) same split.stamped));
}

pub is_told_by : (framings : Framings) (connection : Connection) (exchange : Exchange) (received sent : List Message) (received_unshown sent_unshown : Unshown) → exchange.packet ≡ connection.packet
    → exchange.second ≡ connection.second → exchange.end ≡ connection.end → exchange.received.now ≡ received → exchange.sent.now ≡ sent → IsClocked connection
    → IsHeard framings.received connection.received received received_unshown → IsSaid framings.sent connection.sent connection.end sent sent_unshown → IsTold exchange
is_told_by framings connection exchange received sent received_unshown sent_unshown packet second end p q h heard said =
    is_told framings connection exchange received_unshown sent_unshown packet second end h
    (subst (λ (ms : List Message). IsHeard framings.received connection.received ms received_unshown) (sym p) heard)
    (subst (λ (ms : List Message). IsSaid framings.sent connection.sent exchange.end ms sent_unshown) (sym q)
    (subst (λ (o : Option End). IsSaid framings.sent connection.sent o sent sent_unshown) (sym end) said))

same_first : (connection : Connection) (exchange : Exchange) → exchange.packet ≡ connection.packet → exchange.second ≡ connection.second → exchange.micro ≡ connection.micro
    → opening_moment exchange ≡ first_moment connection
same_first connection exchange packet second micro = cc

pub recorded_by : (framings : Framings) (within : ℕ) (connection : Connection) (entries : List Entry) (received_unshown sent_unshown : Unshown) (received sent heard_now said_now : List Message)
    → heard_now ≡ received → said_now ≡ sent → IsHeard framings.received connection.received received received_unshown → IsSaid framings.sent connection.sent connection.end sent sent_unshown
    → Tells within connection.opened_by (first_moment connection) heard_now said_now connection.end (map numbered_of entries) → AllByRecursion HasSecond entries
    → map numbered_of entries ≡ made_order within connection.opened_by (first_moment connection) (values_of heard_now) (values_of said_now) connection.end
    → IsRecordedInOrder framings within connection entries received_unshown sent_unshown
recorded_by framings within connection entries received_unshown sent_unshown received sent heard_now said_now p q heard said tells seconds order = record {
  told = record {
    received = received;
    sent = sent;
    heard = heard;
    said = said;
    tells = subst (λ (ms : List Message). Tells within connection.opened_by (first_moment connection) ms sent connection.end (map numbered_of entries)) p
        (subst (λ (ms : List Message). Tells within connection.opened_by (first_moment connection) heard_now ms connection.end (map numbered_of entries)) q tells);
    seconds = seconds;
  };
  order = order
      ∙ ap (λ (ms : List Message). made_order within connection.opened_by (first_moment connection) (values_of ms) (values_of said_now) connection.end) p
      ∙ ap (λ (ms : List Message). made_order within connection.opened_by (first_moment connection) (values_of received) (values_of ms) connection.end) q;
}

pub recorded_of : (framings : Framings) (within : ℕ) (connection : Connection) (exchange : Exchange) (entries : List Entry) (received sent : List Message) (received_unshown sent_unshown : Unshown)
    → IsExchangeOf connection received sent exchange → IsHeard framings.received connection.received received received_unshown
    → IsSaid framings.sent connection.sent connection.end sent sent_unshown → IsClocked connection → (IsTold exchange → IsMadeOf within exchange entries) → AllByRecursion HasSecond entries
    → map numbered_of entries ≡ order_of within exchange → IsRecordedInOrder framings within connection entries received_unshown sent_unshown
recorded_of framings within connection exchange entries received sent received_unshown sent_unshown of heard said clocked made seconds order =
    let told = is_told_by framings connection exchange received sent received_unshown sent_unshown of.packet of.second of.end of.received of.sent clocked heard said in
    let first = same_first connection exchange of.packet of.second of.micro in
    let ns = map numbered_of entries in
    let rs = exchange.received.now in
    let ss = exchange.sent.now in
    let tells : Tells within connection.opened_by (first_moment connection) rs ss connection.end ns =
    subst (λ (e : Option End). Tells within connection.opened_by (first_moment connection) rs ss e ns) of.end
    (subst (λ (m : Moment). Tells within connection.opened_by m rs ss exchange.end ns) first
    (subst (λ (s : Side). Tells within s (opening_moment exchange) rs ss exchange.end ns) of.opened_by (made told))) in
    let ordered : ns ≡ made_order within connection.opened_by (first_moment connection) (values_of rs) (values_of ss) connection.end =
    order
    ∙ ap (λ (s : Side). made_order within s (opening_moment exchange) (values_of rs) (values_of ss) exchange.end) of.opened_by
    ∙ ap (λ (m : Moment). made_order within connection.opened_by m (values_of rs) (values_of ss) exchange.end) first
    ∙ ap (λ (e : Option End). made_order within connection.opened_by (first_moment connection) (values_of rs) (values_of ss) e) of.end in
    recorded_by framings within connection entries received_unshown sent_unshown received sent rs ss of.received of.sent heard said tells seconds ordered
