use Rattle.std.proofs.Common.{◌∙◌, ap, refl, subst, sym}
use Rattle.streams.specs.declared.connection.Connection.{Connection}
use Rattle.streams.specs.declared.passed.Side.{Side}
use Rattle.bgp_recording.specs.Gathered.{IsClocked}
use Rattle.bgp_recording.specs.declared.entry.Entry.{Entry}
use Rattle.bgp_check_tool.specs.Made.{IsMade}
use Rattle.bgp_check_tool.proofs.OtherEnd.{clocked}
use Rattle.bgp_report.proofs.ladder.drawn_of.Goals as goal

pub returns : goal.returns
returns g c = λ clock.
    let connection = c.args.connection.now in
    let made = c.in_ok-made.made in
    let its_clock = subst (λ (v : Connection). IsClocked v) (sym c.seen_from.ensures) (clocked c.args.side connection clock) in
    record {
      summary = c.in_ok-names.ensures.summary;
      left = c.in_ok-names.ensures.left;
      right = c.in_ok-names.ensures.right;
      made = subst (λ (v : Connection). IsMade c.args.within v made.framings made.recording.entries.items made.recording.received made.recording.sent) c.seen_from.ensures (c.in_ok-made.ensures.told its_clock);
      is_ladder = rw c.column_of.ensures (rw c.place_in.ensures (rw c.deref.ensures.value (rw c.place_of.ensures refl)));
    }
