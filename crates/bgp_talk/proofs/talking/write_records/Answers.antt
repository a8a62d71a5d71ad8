use Rattle.std.proofs.Common.{rules, ◌≡◌, ◌∙◌, ℕ, List, ◌∷◌, ◌++◌, ap, sym, subst, append_assoc}
use Rattle.mrt.specs.Reader.{shown_of}
use Rattle.mrt.specs.Sink.{TakesBeginning}
use Rattle.mrt.specs.Written.{record_octets}
use Rattle.mrt.proofs.Parts.{begins_first, begins_behind}
use Rattle.bgp_talk.specs.CoreFacts.{IsShort}
use Rattle.bgp_talk.proofs.Accounts.{text_first, short_first, writable}
use Rattle.bgp_talk.proofs.talking.write_records.Goals as goal

pub write_record-requires-clause-writable : goal.write_record-requires-clause-writable
write_record-requires-clause-writable g c =
    let is : c.loop-first.rest.now ≡ c.in-Some.first.now ∷ c.in-Some.behind.now = search rules in
    let short = (short_first c.args.config.now _ _ _ is c.loop-first.invariant.short).0 in
    (c.requires.families, writable c.args.config.now (shown_of c.record.result) (subst (IsShort c.args.config.now) (sym c.record.ensures) short))

pub returns-then-is_err-clause-err : goal.returns-then-is_err-clause-err
returns-then-is_err-clause-err g c =
    let is : c.loop-first.rest.now ≡ c.in-Some.first.now ∷ c.in-Some.behind.now = search rules in
    let so_far = c.loop-first.invariant.written in
    let text = so_far.2 ∙ ap (λ (o : List ℕ). so_far.0 ++ o) (text_first c.args.config.now _ _ _ _ is c.record.ensures) in
    let begun : TakesBeginning g.C.Sink.takes c.loop-first.sink c.write_record.new.sink (record_octets c.args.config.now.parts.session c.args.config.now.parts.peer_as c.args.config.now.parts.local_as (shown_of c.record.result)) = search rules in
    subst (TakesBeginning g.C.Sink.takes c.args.sink.now c.write_record.new.sink) (sym text)
    (begins_behind _ g.met.C.Sink.joined _ _ _ _ _ so_far.1 (begins_first _ g.met.C.Sink.joined _ _ _ _ begun))

pub loop-first-preserved : goal.loop-first-preserved
loop-first-preserved g c =
    let is : c.loop-first.rest.now ≡ c.in-Some.first.now ∷ c.in-Some.behind.now = search rules in
    let so_far = c.loop-first.invariant.written in
    let took : g.C.Sink.takes c.loop-first.sink c.write_record.new.sink (record_octets c.args.config.now.parts.session c.args.config.now.parts.peer_as c.args.config.now.parts.local_as (shown_of c.record.result)) = search rules in
    record {
      written = (
        _,
        g.met.C.Sink.joined _ _ _ _ _ so_far.1 took,
        so_far.2 ∙ ap (λ (o : List ℕ). so_far.0 ++ o) (text_first c.args.config.now _ _ _ _ is c.record.ensures)
            ∙ sym (append_assoc so_far.0 _ _),
      );
      short = (short_first c.args.config.now _ _ _ is c.loop-first.invariant.short).1;
      calm = search rules;
    }
