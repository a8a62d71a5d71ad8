use Rattle.std.proofs.Common.{◌≡◌, ◌∙◌, ◌+◌, ◌++◌, [], List, ℕ, length, take, false, inl, refl, sym, ap, subst, arith, length-append, append-nil, append_assoc, ◌-◌}
use Rattle.std.proofs.lemmas.List.{length-take-le}
use Rattle.bgp_wire.specs.declared.header.Limit.{Limit}
use Rattle.bgp_wire.specs.Framing.{IsShort, joined}
use Rattle.bgp_wire.specs.Held.{Held, after_feed}
use Rattle.bgp_tool.specs.declared.decoding.End.TheVariants as ends
use Rattle.bgp_json.specs.Output.{form_of}
use Rattle.bgp_json.specs.declared.output_form.OutputForm.{OutputForm}
use Rattle.bgp_tool.specs.Decoding.{IsLastLine, IsDecoded}
use Rattle.bgp_tool.specs.Ending.{AreLines}
use Rattle.bgp_tool.proofs.LinesOfFrames.{no_lines, lines_fed, more_lines}
use Rattle.bgp_tool.proofs.Decoded.{decoded, beginning, so_far}
use Rattle.bgp_text.proofs.Pieces.{Joins, nothing_yet, and_then, and_nothing}
use Rattle.bgp_tool.proofs.Reached.{finished, ended}
use Rattle.bgp_tool.proofs.decoding.decode.Goals as goal

-- octets that are held, where no fault was answered
nothing_but : Limit → List ℕ → Held
nothing_but limit octets = record { limit = limit; octets = octets; is_closed = false }

-- a piece behind what is held, where no fault was answered
fed_by : (limit : Limit) (held : Held) (piece : List ℕ) → held ≡ record { limit = limit; octets = held.octets; is_closed = false }
    → after_feed held piece ≡ record { limit = limit; octets = held.octets ++ piece; is_closed = false }
fed_by limit held piece state = ap (λ (h : Held). after_feed h piece) state

-- what holds of what is held holds of its limit and its octets
by_fields : (P : Limit → List ℕ → Type 0) (held : Held) (limit : Limit) (octets : List ℕ)
    → held ≡ record { limit = limit; octets = octets; is_closed = false } → P held.limit held.octets → P limit octets
by_fields P held limit octets is holds = subst (λ (h : Held). P h.limit h.octets) is holds

-- the total counts the piece too
total_of : (stream piece : List ℕ) (given count : ℕ) → given ≡ length stream → length piece ≡ count
    → given + count ≡ length (stream ++ piece)
total_of stream piece given count before more = omega (arith, length-append stream piece)

-- what was given is the frames that were read, and what is held
total_fed : (frames : List (List ℕ)) (stream held piece : List ℕ) (own : Held) (limit : Limit) (given count : ℕ) → stream ≡ joined frames ++ held
    → given ≡ length stream → length piece ≡ count → own ≡ record { limit = limit; octets = held ++ piece; is_closed = false }
    → given + count ≡ length (joined frames) + length own.octets
total_fed frames stream held piece own limit given count split before more is =
    omega (
      arith,
      ap length split,
      length-append (joined frames) held,
      before,
      more,
      ap (λ (h : Held). length h.octets) is,
      length-append held piece,
    )

-- before the first read nothing is given and nothing written
pub reads-init : goal.reads-init
unfolding nothing_but
reads-init g c =
    let options = c.args.options in
    let octets : c.new-frames.result.octets ≡ [] = ap (λ (h : Held). h.octets) c.new-frames.ensures in
    record {
      state = c.new-frames.ensures ∙ ap (λ (o : List ℕ). nothing_but options.limit o) (sym octets);
      short = inl (omega (arith, ap length octets));
      form = c.new-teller.ensures.form;
      failures = refl;
      so_far = (
        [],
        [],
        g.met.R.Source.nothing c.args.source.now,
        refl,
        (
          [],
          subst (λ (o : List ℕ). AreLines options.limit options.form [] [] [] o []) (sym octets) (no_lines options.limit options.form [] []),
          c.new-teller.ensures.knows,
        ),
        nothing_yet g.W.Sink g.met.W.Sink.nothing c.args.lines.now.outlet c.args.lines.now.held.items,
      );
    }

-- the sink failed
pub returns-in-Err-clause-reaches : goal.returns-in-Err-clause-reaches
returns-in-Err-clause-reaches g c =
    let law : Joins g.W.Sink = record { joined = g.met.W.Sink.joined } in
    let now = c.reads.invariant.so_far in
    record {
      given = now.0;
      text = now.1;
      gave = now.2;
      wrote = and_nothing law now.5 c.in-Err.ensures.writes;
      has_text = beginning c.args.options now.4.0 now.0 c.reads.frames.octets now.1 now.4.1;
      handed_over = c.in-Err.ensures.none;
      told = c.in-Err.ensures.err;
    }

-- the source failed
pub returns-in-Err-read-clause-reaches : goal.returns-in-Err-read-clause-reaches
returns-in-Err-read-clause-reaches g c =
    let law : Joins g.W.Sink = record { joined = g.met.W.Sink.joined } in
    let now = c.reads.invariant.so_far in
    record {
      given = now.0;
      text = now.1;
      gave = rw append-nil at (g.met.R.Source.joined c.args.source.now c.reads.source c.read.new.self now.0 [] now.2 c.in-Err-read.ensures.err);
      wrote = and_nothing law now.5 c.in-Ok.ensures.writes;
      has_text = so_far c.args.options now.4.0 now.0 c.reads.frames.octets now.1 now.4.1 c.reads.invariant.short;
      handed_over = c.in-Ok.ensures.none;
      told = c.in-Ok.ensures.ok;
    }

-- the stream ended
pub returns-then-count-eq0-clause-reaches : goal.returns-then-count-eq0-clause-reaches
returns-then-count-eq0-clause-reaches g c =
    let law : Joins g.W.Sink = record { joined = g.met.W.Sink.joined } in
    let now = c.reads.invariant.so_far in
    let nothing = rw c.if-count-eq0.true at c.in-Ok-read.ensures.ok in
    let gave = rw append-nil at (g.met.R.Source.joined c.args.source.now c.reads.source c.read.new.self now.0 [] now.2 nothing) in
    let puts = rw (c.held.ensures, c.reads.invariant.form, now.3) at c.put_rest-end.ensures in
    ended c.args.options law g.R.Source.gives c.args.source.now c.read.new.self c.args.lines.now c.hand_over.new.self c.put_rest-end.new.lines
    c.hand_over-then-count-eq0.new.lines now.4.0 now.0 c.reads.frames.octets now.1 gave now.4.1 c.reads.invariant.short
    (and_nothing law now.5 c.in-Ok.ensures.writes) c.put_rest-end.result c.hand_over-then-count-eq0.result puts c.hand_over-then-count-eq0.ensures

-- memory was refused
pub returns-in-Err-feed-clause-reaches : goal.returns-in-Err-feed-clause-reaches
returns-in-Err-feed-clause-reaches g c =
    let law : Joins g.W.Sink = record { joined = g.met.W.Sink.joined } in
    let now = c.reads.invariant.so_far in
    let piece = take c.in-Ok-read.count c.read.new.buffer in
    record {
      given = now.0 ++ piece;
      text = now.1;
      gave = g.met.R.Source.joined c.args.source.now c.reads.source c.read.new.self now.0 piece now.2 c.in-Ok-read.ensures.ok;
      wrote = and_nothing law now.5 c.in-Ok.ensures.writes;
      has_text = beginning c.args.options now.4.0 (now.0 ++ piece) (c.reads.frames.octets ++ piece) now.1
          (lines_fed [] now.4.0 now.0 c.reads.frames.octets now.1 piece now.4.1);
      handed_over = c.in-Ok.ensures.none;
      told = c.in-Ok.ensures.ok;
    }

-- a header with faults came
pub returns-in-Ok-true-clause-reaches : goal.returns-in-Ok-true-clause-reaches
returns-in-Ok-true-clause-reaches g c =
    let law : Joins g.W.Sink = record { joined = g.met.W.Sink.joined } in
    let options = c.args.options in
    let now = c.reads.invariant.so_far in
    let form = c.reads.invariant.form in
    let held = c.reads.frames.octets in
    let piece = take c.in-Ok-read.count c.read.new.buffer in
    let stream = now.0 ++ piece in
    let fed = c.in-Ok-feed.ensures.ok ∙ fed_by options.limit c.reads.frames piece c.reads.invariant.state in
    let count = total_of now.0 piece c.reads.given c.in-Ok-read.count now.3 (length-take-le c.in-Ok-read.count c.read.new.buffer c.in-Ok-read.ensures.bound) in
    let total = total_fed now.4.0 now.0 held piece _ options.limit c.reads.given c.in-Ok-read.count now.4.1.split now.3
    (length-take-le c.in-Ok-read.count c.read.new.buffer c.in-Ok-read.ensures.bound) fed
    in
    let puts = rw c.in-Ok-true.field-0-test at (c.in-Ok-true.ensures now.4.0 total now.4.2) in
    let rest = puts.1 in
    let new_lines = subst (λ (f : OutputForm). AreLines options.limit f now.4.0 puts.0 (held ++ piece) rest puts.2) form
    (by_fields (λ (l : Limit) (o : List ℕ). AreLines l (form_of c.reads.teller) now.4.0 puts.0 o rest puts.2) _ options.limit (held ++ piece) fed puts.4)
    in
    let all = more_lines [] now.4.0 puts.0 stream (held ++ piece) rest now.1 puts.2 (lines_fed [] now.4.0 now.0 held now.1 piece now.4.1) new_lines in
    let last = subst (λ (n : ℕ). IsLastLine options.limit options.form (n - length rest) rest puts.3 3) count
    (subst (λ (f : OutputForm). IsLastLine options.limit f ((c.reads.given + c.in-Ok-read.count) - length rest) rest puts.3 3) form
    (by_fields (λ (l : Limit) (o : List ℕ). IsLastLine l (form_of c.reads.teller) ((c.reads.given + c.in-Ok-read.count) - length rest) rest puts.3 3) _ options.limit (held ++ piece) fed puts.5))
    in
    finished options law g.R.Source.gives c.args.source.now c.read.new.self c.args.lines.now c.put_frames.new.lines
    c.hand_over-in-Ok-true.new.lines stream (now.1 ++ (puts.2 ++ puts.3)) ends.AtFault c.hand_over-in-Ok-true.result
    (g.met.R.Source.joined c.args.source.now c.reads.source c.read.new.self now.0 piece now.2 c.in-Ok-read.ensures.ok)
    (and_then law (and_nothing law now.5 c.in-Ok.ensures.writes) puts.6)
    (subst (λ (text : List ℕ). IsDecoded options stream text 3) (append_assoc now.1 puts.2 puts.3)
    (decoded options (now.4.0 ++ puts.0) stream rest (now.1 ++ puts.2) puts.3 3 all last))
    refl c.hand_over-in-Ok-true.ensures

-- memory was refused for a line
pub returns-in-Err-put_frames-clause-reaches : goal.returns-in-Err-put_frames-clause-reaches
returns-in-Err-put_frames-clause-reaches g c =
    let law : Joins g.W.Sink = record { joined = g.met.W.Sink.joined } in
    let options = c.args.options in
    let now = c.reads.invariant.so_far in
    let form = c.reads.invariant.form in
    let held = c.reads.frames.octets in
    let piece = take c.in-Ok-read.count c.read.new.buffer in
    let stream = now.0 ++ piece in
    let fed = c.in-Ok-feed.ensures.ok ∙ fed_by options.limit c.reads.frames piece c.reads.invariant.state in
    let total = total_fed now.4.0 now.0 held piece _ options.limit c.reads.given c.in-Ok-read.count now.4.1.split now.3
    (length-take-le c.in-Ok-read.count c.read.new.buffer c.in-Ok-read.ensures.bound) fed
    in
    let puts = c.in-Err-put_frames.ensures now.4.0 total now.4.2 in
    let rest = puts.1 in
    let new_lines = subst (λ (f : OutputForm). AreLines options.limit f now.4.0 puts.0 (held ++ piece) rest puts.2) form
    (by_fields (λ (l : Limit) (o : List ℕ). AreLines l (form_of c.reads.teller) now.4.0 puts.0 o rest puts.2) _ options.limit (held ++ piece) fed puts.3)
    in
    let all = more_lines [] now.4.0 puts.0 stream (held ++ piece) rest now.1 puts.2 (lines_fed [] now.4.0 now.0 held now.1 piece now.4.1) new_lines in
    finished options law g.R.Source.gives c.args.source.now c.read.new.self c.args.lines.now c.put_frames.new.lines
    c.hand_over-in-Err-put_frames.new.lines stream (now.1 ++ puts.2) ends.OutOfMemory c.hand_over-in-Err-put_frames.result
    (g.met.R.Source.joined c.args.source.now c.reads.source c.read.new.self now.0 piece now.2 c.in-Ok-read.ensures.ok)
    (and_then law (and_nothing law now.5 c.in-Ok.ensures.writes) puts.5)
    (beginning options (now.4.0 ++ puts.0) stream rest (now.1 ++ puts.2) all)
    refl c.hand_over-in-Err-put_frames.ensures

pub reads-preserved : goal.reads-preserved
reads-preserved g c =
    let law : Joins g.W.Sink = record { joined = g.met.W.Sink.joined } in
    let options = c.args.options in
    let now = c.reads.invariant.so_far in
    let form = c.reads.invariant.form in
    let held = c.reads.frames.octets in
    let piece = take c.in-Ok-read.count c.read.new.buffer in
    let fed = c.in-Ok-feed.ensures.ok ∙ fed_by options.limit c.reads.frames piece c.reads.invariant.state in
    let total = total_fed now.4.0 now.0 held piece _ options.limit c.reads.given c.in-Ok-read.count now.4.1.split now.3
    (length-take-le c.in-Ok-read.count c.read.new.buffer c.in-Ok-read.ensures.bound) fed
    in
    let puts = rw c.in-Ok-false.field-0-test at (c.in-Ok-false.ensures now.4.0 total now.4.2) in
    let left = c.put_frames.new.frames.octets in
    let new_lines = subst (λ (f : OutputForm). AreLines options.limit f now.4.0 puts.0 (held ++ piece) left puts.1) form
    (by_fields (λ (l : Limit) (o : List ℕ). AreLines l (form_of c.reads.teller) now.4.0 puts.0 o left puts.1) _ options.limit (held ++ piece) fed puts.2)
    in
    record {
      state = puts.4 ∙ ap (λ (h : Held). record h { octets = left }) fed;
      short = subst (λ (l : Limit). IsShort l left) (ap (λ (h : Held). h.limit) fed) puts.3;
      form = puts.5 ∙ form;
      failures = c.in-Ok-read.ensures.failures ∙ c.reads.invariant.failures;
      so_far = (
        now.0 ++ piece,
        now.1 ++ puts.1,
        g.met.R.Source.joined c.args.source.now c.reads.source c.read.new.self now.0 piece now.2 c.in-Ok-read.ensures.ok,
        total_of now.0 piece c.reads.given c.in-Ok-read.count now.3 (length-take-le c.in-Ok-read.count c.read.new.buffer c.in-Ok-read.ensures.bound),
        (
          now.4.0 ++ puts.0,
          more_lines [] now.4.0 puts.0 (now.0 ++ piece) (held ++ piece) left now.1 puts.1 (lines_fed [] now.4.0 now.0 held now.1 piece now.4.1) new_lines,
          puts.6,
        ),
        and_then law (and_nothing law now.5 c.in-Ok.ensures.writes) puts.7,
      );
    }
