use Rattle.std.proofs.Common.{◌≡◌, ◌∙◌, ◌+◌, ◌++◌, ◌∷◌, ◌-◌, [], Bool, IsErr, List, ℕ, Result, Ok, Err, length, drop, refl, sym, ap, subst, inr, arith, append-nil, append_assoc, length-append}
use Rattle.std.proofs.lemmas.Grind.{flat_map-append}
use Rattle.bgp_wire.specs.declared.header.Limit.{Limit}
use Rattle.bgp_wire.specs.Header.{header_of}
use Rattle.bgp_wire.specs.Verdict.{AreFaults}
use Rattle.bgp_wire.specs.Framing.{IsFrame, IsShort, IsFaulty, joined}
use Rattle.bgp_wire.specs.Held.{Held}
use Rattle.bgp_text.proofs.EachMessage.{each_message}
use Rattle.mrt.specs.declared.sink.Sink as sinks
use Rattle.bgp_text.specs.Lines.{Writes}
use Rattle.bgp_text.specs.declared.lines.Lines.{Lines}
use Rattle.bgp_text.proofs.Pieces.{Joins, nothing_yet, and_nothing, and_then}
use Rattle.bgp_values.specs.declared.opens.Direction.TheVariants.{Received}
use Rattle.bgp_json.specs.Output.{IsFrameOutput, IsJson, Knows, fault_output, form_of}
use Rattle.bgp_json.specs.declared.output_form.OutputForm.{OutputForm}
use Rattle.bgp_json.specs.declared.output_teller.OutputTeller.{OutputTeller}
use Rattle.bgp_tool.specs.Decoding.{IsLastLine, stream_before}
use Rattle.bgp_tool.specs.Ending.{AreLines, PutsFrames}
use Rattle.bgp_tool.proofs.LinesOfFrames.{no_lines, one_line_more}
use Rattle.bgp_tool.proofs.decoding.put_frames.Goals as goal

-- octets that are taken away leave the rest of the state
kept : (x y z : Held) (o : List ℕ) → y ≡ record x { octets = y.octets } → z ≡ record y { octets = o }
    → z ≡ record x { octets = z.octets }
kept x y z o h k =
    k ∙ ap (λ (v : Held). record v { octets = o }) h
    ∙ ap (λ (p : List ℕ). record x { octets = p }) (sym (ap (λ (v : Held). v.octets) k))

limit_is : (x y : Held) → y ≡ record x { octets = y.octets } → y.limit ≡ x.limit
limit_is x y h = ap (λ (v : Held). v.limit) h

-- what is held stands where the frames so far end
where_it_stands : (before frames : List (List ℕ)) (octets rest : List ℕ) (given offset : ℕ) → octets ≡ joined frames ++ rest
    → given ≡ length (joined before) + length octets → offset ≡ given - length rest → offset ≡ length (joined (before ++ frames))
where_it_stands before frames octets rest given offset split total is =
    omega (
      arith,
      ap length split,
      length-append (joined frames) rest,
      ap length (flat_map-append (λ (f : List ℕ). f) before frames),
      length-append (joined before) (joined frames),
      total,
      is,
    )

-- memory was refused for a line
refused_at : {E W : Type 0} {sink : sinks.Ghosts W} (lines lines' : Lines W sink) (given : ℕ) (before : List (List ℕ)) (held left : Held)
    (old new : OutputTeller) (r : Result Bool E) → IsErr r
    → ((frames : List (List ℕ)) × (rest text : List ℕ) × AreLines held.limit (form_of old) before frames held.octets rest text
    × IsJson (form_of old) × Writes lines lines' text) → PutsFrames lines lines' given before held left old new r
refused_at lines lines' given before held left old new (Ok b) is so_far = absurd (cc)
refused_at lines lines' given before held left old new (Err e) is so_far = so_far

-- a header with faults is the last line, by the offset at which it stands
fault_is_last : (form : OutputForm) (offset : ℕ) (limit own : Limit) (rest header : List ℕ) (faults : _) → limit ≡ own → IsFaulty limit rest
    → header ≡ header_of rest → AreFaults limit header faults → IsLastLine own form offset rest (fault_output form offset faults header) 3
fault_is_last form offset limit own rest header faults same faulty front are = inr (inr (
  subst (λ (l : Limit). IsFaulty l rest) same faulty,
  refl,
  (
    faults,
    subst (λ (l : Limit). AreFaults l (header_of rest) faults) same (subst (λ (h : List ℕ). AreFaults limit h faults) front are),
    ap (fault_output form offset faults) front,
  ),
))

-- before the first frame nothing is written
pub loop-kind-init : goal.loop-kind-init
loop-kind-init g c =
    record {
      state = refl;
      fewer = omega arith;
      form = refl;
      written = λ before total knows. (
        [],
        [],
        no_lines c.args.frames.now.limit (form_of c.args.teller.now) before c.args.frames.now.octets,
        subst (λ (b : List (List ℕ)). Knows c.args.teller.now (stream_before b)) (sym (append-nil before)) knows,
        nothing_yet g.W.Sink g.met.W.Sink.nothing c.args.lines.now.outlet c.args.lines.now.held.items,
      );
    }

-- each frame says something
pub put_frame-requires-clause-says : goal.put_frame-requires-clause-says
put_frame-requires-clause-says g c form =
    let limit = limit_is c.args.frames.now c.loop-kind.frames c.loop-kind.invariant.state in
    each_message form c.args.frames.now.limit c.in-Frame.frame.now (subst (λ (l : Limit). IsFrame l c.in-Frame.frame.now) limit c.in-Frame.ensures.first.0)

pub loop-kind-preserved : goal.loop-kind-preserved
loop-kind-preserved g c =
    let law : Joins g.W.Sink = record { joined = g.met.W.Sink.joined } in
    let now = rw c.in-Frame.is at c.next.follows.holds-at-none in
    let state = c.loop-kind.invariant.state in
    let own = form_of c.args.teller.now in
    let frame = c.in-Frame.frame.now in
    let held = c.loop-kind.frames.octets in
    let behind = drop (length frame) held in
    let limit = limit_is c.args.frames.now c.loop-kind.frames state in
    let whole = subst (λ (l : Limit). IsFrame l frame) limit c.in-Frame.ensures.first.0 in
    let same : c.next.follows.lender-at-none.octets ≡ behind = ap (λ (v : Held). v.octets) now in
    let count : length c.next.follows.lender-at-none.octets ≡ length behind = ap length same in
    let split : length held ≡ length frame + length behind = ap length c.in-Frame.ensures.first.2 ∙ length-append frame behind in
    let offset : c.offset_of_held-offset.result ≡ c.args.given - length held = omega (arith, c.offset_of_held-offset.ensures, c.len.ensures) in
    record {
      state = kept c.args.frames.now c.loop-kind.frames c.next.follows.lender-at-none behind state now;
      fewer = omega (arith, count, split, c.loop-kind.invariant.fewer);
      form = c.put_frame.ensures.form ∙ c.loop-kind.invariant.form;
      written = λ before total knows.
          let so_far = c.loop-kind.invariant.written before total knows in
          let line = c.in_ok-put_frame-in-Frame.ensures.line (stream_before (before ++ so_far.0)) so_far.3 in
          let stands = where_it_stands before so_far.0 c.args.frames.now.octets held c.args.given c.offset_of_held-offset.result so_far.2.split total offset in
          let told = subst (λ (n : ℕ). IsFrameOutput own (stream_before (before ++ so_far.0)) Received n frame line.0) stands
          (subst (λ (f : OutputForm). IsFrameOutput f (stream_before (before ++ so_far.0)) Received c.offset_of_held-offset.result frame line.0)
          c.loop-kind.invariant.form line.1)
          in
          let lines = one_line_more before so_far.0 c.args.frames.now.octets held behind so_far.1 frame line.0 so_far.2 whole c.in-Frame.ensures.first.2 told in (
            so_far.0 ++ frame ∷ [],
            so_far.1 ++ line.0,
            subst (λ (o : List ℕ). AreLines c.args.frames.now.limit own before (so_far.0 ++ frame ∷ []) c.args.frames.now.octets o (so_far.1 ++ line.0)) (sym same) lines,
            subst (λ (b : List (List ℕ)). Knows c.put_frame.new.self (stream_before b)) (append_assoc before so_far.0 (frame ∷ []))
                (c.put_frame.ensures.knows (stream_before (before ++ so_far.0)) so_far.3),
            and_then law so_far.4 line.2.0,
          );
    }

-- memory was refused for the line of a frame
pub returns-in_err-put_frame-in-Frame : goal.returns-in_err-put_frame-in-Frame
returns-in_err-put_frame-in-Frame g c before total knows =
    let law : Joins g.W.Sink = record { joined = g.met.W.Sink.joined } in
    let so_far = c.loop-kind.invariant.written before total knows in
    let line = c.in_err-put_frame-in-Frame.ensures.line (stream_before (before ++ so_far.0)) so_far.3 in
    refused_at c.args.lines.now c.put_frame.new.lines c.args.given before c.args.frames.now c.next.follows.lender-at-none c.args.teller.now c.put_frame.new.self
    c.from_residual.result c.from_residual.ensures.0 (
      so_far.0,
      c.loop-kind.frames.octets,
      so_far.1,
      so_far.2,
      subst IsJson c.loop-kind.invariant.form line.2.1,
      and_nothing law so_far.4 line.2.0,
    )

pub returns-in-More : goal.returns-in-More
returns-in-More g c before total knows =
    let now = rw c.in-More.is at c.next.follows.holds-at-none in
    let state = c.loop-kind.invariant.state in
    let own = form_of c.args.teller.now in
    let so_far = c.loop-kind.invariant.written before total knows in
    let limit = limit_is c.args.frames.now c.loop-kind.frames state in
    let same : c.next.follows.lender-at-none.octets ≡ c.loop-kind.frames.octets = ap (λ (v : Held). v.octets) now in
    let short = subst (λ (l : Limit). IsShort l c.loop-kind.frames.octets) limit c.in-More.ensures.first in (
      so_far.0,
      so_far.1,
      subst (λ (o : List ℕ). AreLines c.args.frames.now.limit own before so_far.0 c.args.frames.now.octets o so_far.1) (sym same) so_far.2,
      subst (λ (o : List ℕ). IsShort c.args.frames.now.limit o) (sym same) short,
      kept c.args.frames.now c.loop-kind.frames c.next.follows.lender-at-none c.loop-kind.frames.octets state now,
      c.loop-kind.invariant.form,
      so_far.3,
      so_far.4,
    )

-- memory was refused for the line of a header with faults
pub returns-in_err-put_fault-in-Fault : goal.returns-in_err-put_fault-in-Fault
returns-in_err-put_fault-in-Fault g c before total knows =
    let law : Joins g.W.Sink = record { joined = g.met.W.Sink.joined } in
    let so_far = c.loop-kind.invariant.written before total knows in
    let put = c.in_err-put_fault-in-Fault.ensures in
    refused_at c.args.lines.now c.put_fault.new.lines c.args.given before c.args.frames.now c.next.follows.lender-at-none c.args.teller.now c.loop-kind.teller
    c.from_residual-in_err-put_fault-in-Fault.result c.from_residual-in_err-put_fault-in-Fault.ensures.0 (
      so_far.0,
      c.loop-kind.frames.octets,
      so_far.1,
      so_far.2,
      subst IsJson c.loop-kind.invariant.form put.1,
      and_nothing law so_far.4 put.0,
    )

pub returns-in-Fault : goal.returns-in-Fault
returns-in-Fault g c before total knows =
    let law : Joins g.W.Sink = record { joined = g.met.W.Sink.joined } in
    let own = form_of c.args.teller.now in
    let so_far = c.loop-kind.invariant.written before total knows in
    let rest = c.loop-kind.frames.octets in
    let given = c.args.given in
    let offset : c.offset_of_held-offset.result ≡ given - length rest = omega (arith, c.offset_of_held-offset.ensures, c.len.ensures) in
    let header = c.in-Fault.header.now in
    let last = fault_output own c.offset_of_held-offset.result c.in-Fault.faults header in
    let limit = limit_is c.args.frames.now c.loop-kind.frames c.loop-kind.invariant.state in
    let front = c.in-Fault.ensures.first in
    let is_last = subst (λ (n : ℕ). IsLastLine c.args.frames.now.limit own n rest last 3) offset
    (fault_is_last own c.offset_of_held-offset.result _ c.args.frames.now.limit rest header c.in-Fault.faults limit front.0 front.1 front.2)
    in (
      so_far.0,
      rest,
      so_far.1,
      last,
      so_far.2,
      is_last,
      and_then law {ys = last} so_far.4 (rw c.loop-kind.invariant.form at c.in_ok-put_fault-in-Fault.ensures).0,
    )
