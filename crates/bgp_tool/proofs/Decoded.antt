-- What was written is the text of what was given, or a beginning of it.
use Rattle.std.proofs.Common.{◌≡◌, ◌⊎◌, ◌∙◌, ◌++◌, ◌∷◌, ◌-◌, [], ℕ, List, length, refl, sym, ap, subst, inl, inr, append_assoc, append-nil, arith, length-append}
use Rattle.bgp_wire.specs.declared.header.Limit.{Limit}
use Rattle.bgp_wire.specs.Header.{header_of}
use Rattle.bgp_wire.specs.Framing.{IsShort, IsFaulty, joined}
use Rattle.bgp_wire.proofs.EachFraming.{each_faults, each_framing}
use Rattle.bgp_json.specs.Output.{fault_output, rest_output}
use Rattle.bgp_json.specs.declared.output_form.OutputForm.{OutputForm}
use Rattle.bgp_tool.specs.declared.decoding.End.{End}
use Rattle.bgp_tool.specs.declared.decoding.End.TheVariants as ends
use Rattle.bgp_tool.specs.declared.stream_options.StreamOptions.{StreamOptions}
use Rattle.bgp_tool.specs.Decoding.{IsLastLine, IsDecoded, IsSoFar, IsBeginning}
use Rattle.bgp_tool.specs.Ending.{AreLines, HasText}
use Rattle.bgp_tool.proofs.LinesOfFrames.{each_told, no_lines, more_lines}

-- where the last frame ends
behind_frames : {limit : Limit} {form : OutputForm} {before : List (List ℕ)} (frames : List (List ℕ)) (stream rest lines : List ℕ)
    → (so_far : AreLines limit form before frames stream rest lines) → length stream - length rest ≡ length (joined frames)
behind_frames frames stream rest lines so_far =
    omega (arith, ap length so_far.split, length-append (joined frames) rest)

-- what a last line is of is short or faulty
rest_of_last : (limit : Limit) (form : OutputForm) (offset : ℕ) (rest last : List ℕ) (status : ℕ) → IsLastLine limit form offset rest last status
    → IsShort limit rest ⊎ IsFaulty limit rest
rest_of_last limit form offset rest last status is_last = elim is_last [
  | inl none ↦ let empty : length rest ≡ 0 = ap length none.0 in inl (inl (omega arith))
  | inr some ↦ elim some [ inl short ↦ inl short.1 | inr faulty ↦ inr faulty.0 ]
]

-- the lines of all frames, and the last line
pub decoded : (options : StreamOptions) (frames : List (List ℕ)) (stream rest lines last : List ℕ) (status : ℕ)
    → AreLines options.limit options.form [] frames stream rest lines
    → IsLastLine options.limit options.form (length stream - length rest) rest last status → IsDecoded options stream (lines ++ last) status
decoded options frames stream rest lines last status so_far is_last = record {
  frames = frames;
  rest = rest;
  framing = record {
    whole = so_far.split;
    each = so_far.each;
    last = rest_of_last options.limit options.form (length stream - length rest) rest last status is_last;
  };
  lines = lines;
  told = so_far.told;
  last = last;
  ending = subst (λ (n : ℕ). IsLastLine options.limit options.form n rest last status) (behind_frames frames stream rest lines so_far) is_last;
  text = refl;
}

-- each rest has a last line
last_line : (limit : Limit) (form : OutputForm) (offset : ℕ) (rest : List ℕ) → (IsShort limit rest ⊎ IsFaulty limit rest)
    → (last : List ℕ) × (status : ℕ) × IsLastLine limit form offset rest last status
last_line limit form offset [] (inl short) = ([], 0, inl (refl, refl, refl))
last_line limit form offset (o ∷ os) (inl short) =
    (rest_output form offset (o ∷ os), 2, inr (inl (λ e. absurd (cc), short, refl, refl)))
last_line limit form offset rest (inr faulty) =
    let faults = each_faults limit (header_of rest) in
    (fault_output form offset faults.0 (header_of rest), 3, inr (inr (faulty, refl, (faults.0, faults.1, refl))))

-- the lines of frames at the front are a beginning
pub beginning : (options : StreamOptions) (frames : List (List ℕ)) (stream rest lines : List ℕ)
    → AreLines options.limit options.form [] frames stream rest lines → IsBeginning options stream lines
beginning options frames stream rest lines are_lines =
    let behind = each_framing options.limit rest in
    let more = each_told options.form options.limit frames behind.0 behind.2.each in
    let others : AreLines options.limit options.form frames behind.0 rest behind.1 more.0 =
    record { split = behind.2.whole; each = behind.2.each; told = more.1 }
    in
    let all = more_lines [] frames behind.0 stream rest behind.1 lines more.0 are_lines others in
    let last = last_line options.limit options.form (length stream - length behind.1) behind.1 behind.2.last in (
      (lines ++ more.0) ++ last.0,
      last.1,
      decoded options (frames ++ behind.0) stream behind.1 (lines ++ more.0) last.0 last.1 all last.2,
      (more.0 ++ last.0, append_assoc lines more.0 last.0),
    )

-- the lines so far, where nothing but an incomplete frame is behind them
pub so_far : (options : StreamOptions) (frames : List (List ℕ)) (stream rest lines : List ℕ)
    → AreLines options.limit options.form [] frames stream rest lines → IsShort options.limit rest → IsSoFar options stream lines
so_far options frames stream rest lines are_lines short = record {
  frames = frames;
  rest = rest;
  framing = record { whole = are_lines.split; each = are_lines.each; last = inl short };
  told = are_lines.told;
  short = short;
}

-- each stream has a text
pub each_text : (options : StreamOptions) (stream : List ℕ) → (text : List ℕ) × (status : ℕ) × IsDecoded options stream text status
each_text options stream =
    let whole = beginning options [] stream stream [] (no_lines options.limit options.form [] stream) in
    (whole.0, whole.1, whole.2)

-- a whole text is a beginning of itself
all_of_it : (options : StreamOptions) (given text : List ℕ) (status : ℕ) → IsDecoded options given text status → IsBeginning options given text
all_of_it options given text status is = (text, status, is, ([], sym (append-nil text)))

-- the lines so far are a beginning
front_of_it : (options : StreamOptions) (given text : List ℕ) → IsSoFar options given text → IsBeginning options given text
front_of_it options given text so_far =
    let lines : AreLines options.limit options.form [] so_far.frames given so_far.rest text =
    record { split = so_far.framing.whole; each = so_far.framing.each; told = so_far.told }
    in
    beginning options so_far.frames given so_far.rest text lines

-- however a decoding ends, the text is a beginning
pub begins : (options : StreamOptions) (given text : List ℕ) (end : End) → HasText options given text end → IsBeginning options given text
begins options given text ends.BetweenMessages has = all_of_it options given text 0 has
begins options given text ends.InsideMessage has = all_of_it options given text 2 has
begins options given text ends.AtFault has = all_of_it options given text 3 has
begins options given text ends.SourceFailed has = front_of_it options given text has
begins options given text ends.OutOfMemory has = has
begins options given text ends.SinkFailed has = has

-- and so is what the sink took of it
pub taken_begins : {options : StreamOptions} (given text taken left : List ℕ) → text ≡ taken ++ left → IsBeginning options given text
    → IsBeginning options given taken
taken_begins given text taken left whole begun = (
  begun.0,
  begun.1,
  begun.2,
  (
    left ++ begun.3.0,
    begun.3.1 ∙ ap (λ (xs : List ℕ). xs ++ begun.3.0) whole ∙ append_assoc taken left begun.3.0,
  ),
)
