use Rattle.std.proofs.Common.{rules, sym, refl, map, subst}
use Rattle.std.specs.List.{AllByRecursion}
use Rattle.mrt.specs.Sink.{TakesBeginning}
use Rattle.bgp_speaker.specs.Choosing.{sent_in}
use Rattle.bgp_speaker.specs.Shown.{input_value, shown_value}
use Rattle.bgp_open.specs.declared.config.Config.{Config}
use Rattle.bgp_talk.specs.CoreFacts.{IsShort}
use Rattle.bgp_talk.specs.Talk.{capture_of, in_hand}
use Rattle.bgp_talk.proofs.Accounts.{capture_joined}
use Rattle.bgp_talk.proofs.Joining.{cut_at_once, step_talks}
use Rattle.bgp_talk.proofs.Entering.{chosen_of, sends_of}
use Rattle.bgp_talk.proofs.talking.Talk.enter.Goals as goal

pub write_records-requires-clause-short : goal.write_records-requires-clause-short
write_records-requires-clause-short g c =
    subst (λ (r : _). AllByRecursion (IsShort c.args.self.now.config) (map shown_value r)) (sym c.as_slice.ensures.value)
    (subst (λ (config : Config). AllByRecursion (IsShort config) (map shown_value c.in-Ok.output.records.items)) c.args.self.now.configured
    (c.each_record_is_short.ensures _ _ _ _ _ (chosen_of _ _ _ _ _ _ c.again.ensures c.in-Ok.ensures.ok)))

pub returns-in_default-clause-err : goal.returns-in_default-clause-err
returns-in_default-clause-err g c = λ owed connection left.
    cut_at_once g.W.Wire.tells g.C.Sink.takes (capture_of c.args.self.now.config) g.met.W.Wire.joined g.met.C.Sink.joined (capture_joined c.args.self.now.config)
    (g.met.C.Sink.nothing c.args.sink.now) (g.met.W.Wire.nothing c.args.wire.now)
    (refl, input_value c.args.input.now, owed, c.now-second.result, refl, refl, c.now-second.ensures.told)

pub returns-then-is_err-clause-err : goal.returns-then-is_err-clause-err
returns-then-is_err-clause-err g c =
    let begun : TakesBeginning g.C.Sink.takes c.args.sink.now c.write_records.new.sink (capture_of c.args.self.now.config (map shown_value c.in-Ok.output.records.items)) = search rules in
    λ owed connection left.
    cut_at_once g.W.Wire.tells g.C.Sink.takes (capture_of c.args.self.now.config) g.met.W.Wire.joined g.met.C.Sink.joined (capture_joined c.args.self.now.config)
    (g.met.C.Sink.nothing c.args.sink.now) (g.met.W.Wire.nothing c.args.wire.now) (
      c.now-second.result,
      map shown_value c.in-Ok.output.records.items,
      in_hand owed (sent_in (map shown_value c.in-Ok.output.records.items)) connection left c.step.new.self,
      c.now-second.ensures.told,
      step_talks (input_value c.args.input.now) owed connection left c.args.self.now.core c.step.new.self c.now-second.result _ _
          (chosen_of _ _ _ _ _ _ c.again.ensures c.in-Ok.ensures.ok) refl,
      begun,
    )

pub returns-clause-ok : goal.returns-clause-ok
returns-clause-ok g c =
    let written : g.C.Sink.takes c.args.sink.now c.write_records.new.sink (capture_of c.args.self.now.config (map shown_value c.in-Ok.output.records.items)) = search rules in
    record {
      second = c.now-second.result;
      records = map shown_value c.in-Ok.output.records.items;
      told = c.now-second.ensures.told;
      wrote = written;
      chosen = chosen_of _ _ _ _ _ _ c.again.ensures c.in-Ok.ensures.ok;
      sends = sends_of _ _ _ _ _ c.in-Ok.ensures.ok;
    }
