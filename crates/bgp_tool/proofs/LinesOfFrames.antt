-- The lines of frames that come one after another.
use Rattle.std.proofs.Common.{◌≡◌, ◌∙◌, ◌++◌, ◌∷◌, [], All, ℕ, List, length, refl, sym, ap, subst, append_assoc, append-nil}
use Rattle.std.proofs.lemmas.List.{flat_map_more}
use Rattle.std.proofs.lemmas.List.Elements.{All-nil, All-push, All-append, All-head, All-tail}
use Rattle.std.proofs.lemmas.Grind.{flat_map-append}
use Rattle.bgp_wire.specs.declared.header.Limit.{Limit}
use Rattle.bgp_wire.specs.Framing.{IsFrame, joined}
use Rattle.bgp_text.specs.Message.{Message, Say}
use Rattle.bgp_text.specs.Text.{line_of}
use Rattle.bgp_values.specs.declared.opens.Direction.TheVariants.{Received}
use Rattle.bgp_json.specs.LineForm.TheVariants.{Plain}
use Rattle.bgp_json.specs.Output.{IsFrameOutput}
use Rattle.bgp_json.specs.declared.output_form.OutputForm.{OutputForm}
use Rattle.bgp_json.specs.declared.output_form.OutputForm.TheVariants.{Text}
use Rattle.bgp_json.proofs.OneOutput.{each_output, one_output}
use Rattle.bgp_tool.specs.Decoding.{AreFrameLines, lines_of, stream_before}
use Rattle.bgp_tool.specs.Ending.{AreLines}

-- the lines of frames, and of more frames behind them
pub told_more : (form : OutputForm) (before frames others : List (List ℕ)) (text more : List ℕ) → AreFrameLines form before frames text
    → AreFrameLines form (before ++ frames) others more → AreFrameLines form before (frames ++ others) (text ++ more)
told_more form before [] others text more told then' =
    subst (λ (t : List ℕ). AreFrameLines form before others (t ++ more)) (sym told)
    (subst (λ (b : List (List ℕ)). AreFrameLines form b others more) (append-nil before) then')
told_more form before (f ∷ fs) others text more told then' =
    let behind = subst (λ (b : List (List ℕ)). AreFrameLines form b others more) (sym (append_assoc before (f ∷ []) fs)) then' in (
      told.0,
      told.1 ++ more,
      told.2,
      told_more form (before ++ f ∷ []) fs others told.1 more told.3 behind,
      ap (λ (t : List ℕ). t ++ more) told.4 ∙ append_assoc told.0 told.1 more,
    )

-- the lines of frames, and of one more
told_one_more : (form : OutputForm) (before frames : List (List ℕ)) (text frame line : List ℕ) → AreFrameLines form before frames text
    → IsFrameOutput form (stream_before (before ++ frames)) Received (length (joined (before ++ frames))) frame line → AreFrameLines form before (frames ++ frame ∷ []) (text ++ line)
told_one_more form before frames text frame line told is =
    told_more form before frames (frame ∷ []) text line told (line, [], is, refl, sym (append-nil line))

-- each list of frames has its lines
pub each_told : (form : OutputForm) (limit : Limit) (before frames : List (List ℕ)) → All (IsFrame limit) frames
    → (text : List ℕ) × AreFrameLines form before frames text
each_told form limit before [] each = ([], refl)
each_told form limit before (frame ∷ frames) each =
    let line = each_output form (stream_before before) Received (length (joined before)) limit frame (All-head (IsFrame limit) frame frames each) in
    let others = each_told form limit (before ++ frame ∷ []) frames (All-tail (IsFrame limit) frame frames each) in
    (line.0 ++ others.0, (line.0, others.0, line.1, others.1, refl))

-- and no others
pub one_told : (form : OutputForm) (before frames : List (List ℕ)) (text other : List ℕ) → AreFrameLines form before frames text
    → AreFrameLines form before frames other → text ≡ other
one_told form before [] text other h k = h ∙ sym k
one_told form before (frame ∷ frames) text other h k =
    let line = one_output form (stream_before before) Received (length (joined before)) frame h.0 k.0 h.2 k.2 in
    let others = one_told form (before ++ frame ∷ []) frames h.1 k.1 h.3 k.3 in
    h.4 ∙ ap (λ (t : List ℕ). t ++ h.1) line ∙ ap (λ (t : List ℕ). k.0 ++ t) others ∙ sym k.4

-- in the plain form the lines are those of what the frames say
pub plain_lines : (before frames : List (List ℕ)) (text : List ℕ) → AreFrameLines (Text Plain) before frames text
    → (messages : List Message) × Say frames messages × (text ≡ lines_of messages)
plain_lines before [] text told = ([], tt, told)
plain_lines before (frame ∷ frames) text told =
    let others = plain_lines (before ++ frame ∷ []) frames told.1 told.3 in (
      told.2.0 ∷ others.0,
      (told.2.1, others.1),
      told.4 ∙ ap (λ (t : List ℕ). t ++ told.1) told.2.2 ∙ ap (λ (t : List ℕ). line_of told.2.0 ++ t) others.2,
    )

-- before the first frame
pub no_lines : (limit : Limit) (form : OutputForm) (before : List (List ℕ)) (octets : List ℕ) → AreLines limit form before [] octets octets []
no_lines limit form before octets = record { split = refl; each = All-nil (IsFrame limit); told = refl }

-- one frame more
pub one_line_more : {limit : Limit} {form : OutputForm} (before frames : List (List ℕ)) (octets rest behind lines frame line : List ℕ)
    → AreLines limit form before frames octets rest lines → IsFrame limit frame → rest ≡ frame ++ behind
    → IsFrameOutput form (stream_before (before ++ frames)) Received (length (joined (before ++ frames))) frame line
    → AreLines limit form before (frames ++ frame ∷ []) octets behind (lines ++ line)
one_line_more {limit} {form} before frames octets rest behind lines frame line so_far whole is told = record {
  split =
      so_far.split ∙ ap (λ (xs : List ℕ). joined frames ++ xs) is
      ∙ sym (append_assoc (joined frames) frame behind)
      ∙ ap (λ (xs : List ℕ). xs ++ behind) (flat_map_more (λ (f : List ℕ). f) [] frames frame);
  each = All-push (IsFrame limit) frames frame so_far.each whole;
  told = told_one_more form before frames lines frame line so_far.told told;
}

-- more frames
pub more_lines : {limit : Limit} {form : OutputForm} (before frames others : List (List ℕ)) (octets rest behind lines more : List ℕ)
    → AreLines limit form before frames octets rest lines → AreLines limit form (before ++ frames) others rest behind more
    → AreLines limit form before (frames ++ others) octets behind (lines ++ more)
more_lines {limit} {form} before frames others octets rest behind lines more front back = record {
  split =
      front.split ∙ ap (λ (xs : List ℕ). joined frames ++ xs) back.split
      ∙ sym (append_assoc (joined frames) (joined others) behind)
      ∙ ap (λ (xs : List ℕ). xs ++ behind) (sym (flat_map-append (λ (f : List ℕ). f) frames others));
  each = All-append (IsFrame limit) frames others front.each back.each;
  told = told_more form before frames others lines more front.told back.told;
}

-- more octets come behind the rest
pub lines_fed : {limit : Limit} {form : OutputForm} (before frames : List (List ℕ)) (octets rest lines piece : List ℕ)
    → AreLines limit form before frames octets rest lines → AreLines limit form before frames (octets ++ piece) (rest ++ piece) lines
lines_fed before frames octets rest lines piece so_far = record {
  split = ap (λ (xs : List ℕ). xs ++ piece) so_far.split ∙ append_assoc (joined frames) rest piece;
  each = so_far.each;
  told = so_far.told;
}
