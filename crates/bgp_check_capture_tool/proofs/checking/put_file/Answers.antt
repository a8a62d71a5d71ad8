use Rattle.std.proofs.Common.{◌∙◌, [], List, Option, ap, inl, inr, length, map, refl, subst, sym}
use Rattle.mrt.specs.declared.fault.CaptureFault.{CaptureFault}
use Rattle.std.specs.List.{AllByRecursion}
use Rattle.mrt_sessions.specs.Located.{located}
use Rattle.mrt_sessions.specs.Sessions.{HoldsSessions}
use Rattle.mrt_sessions.specs.declared.named.NamedRecord.{NamedRecord}
use Rattle.bgp_check_lines.specs.Lines.{PutsLines}
use Rattle.bgp_check_lines.proofs.Puts.{no_lines}
use Rattle.bgp_check_capture_tool.specs.Checking.{IsBlock, blocks_text, marks_of}
use Rattle.bgp_check_capture_tool.specs.Firsts.{AreApart}
use Rattle.bgp_check_capture_tool.specs.Marks.{AddsMarks}
use Rattle.bgp_check_capture_tool.specs.declared.telling.Telling.{Telling}
use Rattle.bgp_check_capture_tool.proofs.Apart.{none_apart}
use Rattle.bgp_check_capture_tool.proofs.Marked.{adds_nothing}
use Rattle.bgp_check_capture_tool.proofs.checking.put_file.Goals as goal

pub returns-in_default-clause-puts : goal.returns-in_default-clause-puts
returns-in_default-clause-puts g c = record {
  text = [];
  wrote = no_lines g.met.W.Sink.nothing c.args.lines.now;
  tells = inr (refl, c.without_memory.ensures.tally, c.without_memory.ensures.refusals, c.without_memory.ensures.sessions, c.without_memory.ensures.fault);
  marked = adds_nothing c.args.marks.now;
}

pub returns-in_default-of-clause-puts : goal.returns-in_default-of-clause-puts
returns-in_default-of-clause-puts g c = record {
  text = [];
  wrote = no_lines g.met.W.Sink.nothing c.args.lines.now;
  tells = inr (refl, c.without_memory-in_default-of.ensures.tally, c.without_memory-in_default-of.ensures.refusals, c.without_memory-in_default-of.ensures.sessions, c.without_memory-in_default-of.ensures.fault);
  marked = adds_nothing c.args.marks.now;
}

pub returns-in_default-clause-apart : goal.returns-in_default-clause-apart
returns-in_default-clause-apart g c = subst (λ (fs : List (Option CaptureFault)). AreApart fs) (sym c.without_memory.ensures.refusals) none_apart

pub returns-in_default-of-clause-apart : goal.returns-in_default-of-clause-apart
returns-in_default-of-clause-apart g c = subst (λ (fs : List (Option CaptureFault)). AreApart fs) (sym c.without_memory-in_default-of.ensures.refusals) none_apart

pub put_sessions-counted-requires : goal.put_sessions-counted-requires
put_sessions-counted-requires g c = (map located c.as_slice.result.now, c.in-Ok-of.ensures)

pub returns-clause-puts : goal.returns-clause-puts
returns-clause-puts g c =
    let named = map located c.in-Ok.file.records.items in
    let holds = subst (λ (rs : List NamedRecord). HoldsSessions (map located rs) c.in-Ok-of.sessions) c.as_slice.ensures.value c.in-Ok-of.ensures in
    let puts = c.put_sessions-counted.ensures.puts named holds in
    record {
      text = blocks_text c.args.options.now.printing named puts.blocks;
      wrote = subst (λ (telling : Telling). PutsLines c.args.lines.now c.put_sessions-counted.new.lines (blocks_text telling.printing named puts.blocks)) c.of-telling.ensures puts.wrote;
      tells = inl (
        record {
          named = named;
          offset = c.in-Ok.file.offset;
          refusal = c.in-Ok.file.refusal;
          plain = c.in-Ok.file.is_plain;
          has = c.in-Ok.ensures.plain;
          blocks = puts.blocks;
          are = puts.are;
          told = subst (λ (telling : Telling). AllByRecursion (IsBlock telling named) puts.blocks) c.of-telling.ensures puts.told;
          is_text = refl;
          is_tally = puts.tallied;
          are_firsts = puts.added;
          is_fault = c.fault-fault.ensures;
        },
        ap length (c.in_order.ensures ∙ holds.in_order),
      );
      marked = subst (λ (telling : Telling). AddsMarks c.args.marks.now c.put_sessions-counted.new.marks (marks_of telling.printing named puts.blocks)) c.of-telling.ensures puts.marked;
    }
