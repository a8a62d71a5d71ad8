-- Each end of a decoding, from what was read and put so far and what its last call did.
use Rattle.std.proofs.Common.{◌≡◌, ◌∙◌, ◌++◌, ◌-◌, [], ℕ, List, length, false, refl, sym, ap, subst, inl, inr, append-nil}
use Rattle.mrt.specs.declared.sink.Sink as sinks
use Rattle.bgp_wire.specs.Framing.{IsShort}
use Rattle.bgp_tool.specs.declared.decoding.End.{End}
use Rattle.bgp_tool.specs.declared.decoding.End.TheVariants as ends
use Rattle.bgp_tool.specs.declared.stream_options.StreamOptions.{StreamOptions}
use Rattle.bgp_text.specs.declared.lines.Lines.{Lines}
use Rattle.bgp_text.specs.Lines.{Writes}
use Rattle.bgp_json.specs.Output.{rest_output}
use Rattle.bgp_tool.specs.Decoding.{IsBeginning}
use Rattle.bgp_tool.specs.Ending.{AreLines, HasText, has_sink_failed, HandsOver, PutsRest, Reaches}
use Rattle.bgp_tool.proofs.Decoded.{beginning, begins, decoded}
use Rattle.bgp_text.proofs.Pieces.{Joins, and_then, and_nothing}

module _ {R W : Type 0} {sink : sinks.Ghosts W} (options : StreamOptions) (law : Joins sink) (gives : R → R → List ℕ → Type 0)
    (source after : R) (start before now : Lines W sink) where
  -- the text is handed over
  pub finished : (given text : List ℕ) (end end' : End) → gives source after given → Writes start before text → HasText options given text end
      → has_sink_failed end ≡ false → HandsOver before now end end' → Reaches options gives source after start now end'
  finished given text end end' gave wrote has calm handed = elim handed.told [
    | inl calmly ↦ record {
      given = given;
      text = text;
      gave = gave;
      wrote = and_nothing law wrote handed.wrote;
      has_text = subst (λ (e : End). HasText options given text e) (sym calmly.1) has;
      handed_over = handed.handed_over;
      told = calmly.0 ∙ sym calm ∙ sym (ap has_sink_failed calmly.1);
    }
    | inr failed ↦ record {
      given = given;
      text = text;
      gave = gave;
      wrote = and_nothing law wrote handed.wrote;
      has_text = subst (λ (e : End). HasText options given text e) (sym failed.1) (begins options given text end has);
      handed_over = handed.handed_over;
      told = failed.0 ∙ sym (ap has_sink_failed failed.1);
    }
  ]

-- the stream ended
module _ {R W : Type 0} {sink : sinks.Ghosts W} (options : StreamOptions) (law : Joins sink) (gives : R → R → List ℕ → Type 0)
    (source after : R) (start before mid now : Lines W sink) where
  pub ended : (frames : List (List ℕ)) (given held text : List ℕ) → gives source after given
      → AreLines options.limit options.form [] frames given held text → IsShort options.limit held
      → Writes start before text → (end end' : End)
      → PutsRest before mid options.form (length given - length held) held end → HandsOver mid now end end' → Reaches options gives source after start now end'
  ended frames given held text gave lines short wrote ends.BetweenMessages end' puts handed =
      finished options law gives source after start mid now given (text ++ []) ends.BetweenMessages end' gave (and_then law wrote puts.1)
      (decoded options frames given held text [] 0 lines (inl (puts.0, refl, refl))) refl handed
  ended frames given held text gave lines short wrote ends.InsideMessage end' puts handed =
      let line = rest_output options.form (length given - length held) held in
      finished options law gives source after start mid now given (text ++ line) ends.InsideMessage end' gave (and_then law wrote puts.1)
      (decoded options frames given held text line 2 lines (inr (inl (puts.0, short, refl, refl)))) refl handed
  ended frames given held text gave lines short wrote ends.AtFault end' puts handed = absurd puts
  ended frames given held text gave lines short wrote ends.OutOfMemory end' puts handed =
      finished options law gives source after start mid now given (text ++ []) ends.OutOfMemory end' gave (and_then law wrote puts.1)
      (subst (λ (t : List ℕ). IsBeginning options given t) (sym (append-nil text)) (beginning options frames given held text lines)) refl handed
  ended frames given held text gave lines short wrote ends.SourceFailed end' puts handed = absurd puts
  ended frames given held text gave lines short wrote ends.SinkFailed end' puts handed = absurd puts
