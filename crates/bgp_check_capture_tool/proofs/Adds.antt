-- What is put of a session, piece by piece.
use Rattle.std.proofs.Common.{◌≡◌, ◌∙◌, ◌++◌, ◌||◌, ℕ, Bool, true, false, List, [], ◌∷◌, Some, if◌then◌else◌, refl, ap, not, subst, append_assoc, length}
use Rattle.mrt.specs.declared.sink.Sink as sinks
use Rattle.bgp_text.proofs.Pieces.{Joins}
use Rattle.bgp_check_lines.specs.Lines.{PutsLines}
use Rattle.bgp_check_lines.specs.declared.check_lines.CheckLines.{CheckLines}
use Rattle.bgp_check_lines.proofs.Puts.{then_lines}
use Rattle.bgp_check_capture_tool.specs.Putting.{Adds, is_some_text}
use Rattle.bgp_prefix.specs.declared.address.Address.{Address}
use Rattle.bgp_judge.specs.Verdict.{No, Unfinished, VerdictValue, Yes}
use Rattle.mrt.specs.declared.fault.CaptureFault.{CaptureFault}
use Rattle.bgp_check_lines.specs.Sessions.{fault_text, refused_text}
use Rattle.bgp_check.specs.Answered.{AnswerValue, JudgedAs, Unjudged}
use Rattle.bgp_check.specs.declared.peer_as.PeerAs.{PeerAs}
use Rattle.bgp_check_lines.specs.Text.{no_line, not_judged_line, unfinished_line, yes_line}
use Rattle.bgp_check_lines.specs.Printing.{Printing}
use Rattle.bgp_prefix.specs.Shown.{ShownRecord}
use Rattle.bgp_check_capture_tool.specs.Ends.{Silent, Staying, Stretch, front_ends, silent_ends}
use Rattle.bgp_check_capture_tool.specs.StretchEnd.{StretchEnd}
use Rattle.bgp_check_capture_tool.specs.Text.{answer_text, end_text, ends_text, headed, session_text, verdict_text}

some_more : (xs ys : List ℕ) → is_some_text (xs ++ ys) ≡ is_some_text xs || is_some_text ys
some_more [] ys = refl
some_more (x ∷ xs) ys = refl

-- nothing
pub nothing_added : {Y T : Type 0} {sink : sinks.Ghosts T} (heading : List ℕ) (lines lines' : CheckLines Y T sink) (put : Bool) → PutsLines lines lines' [] → Adds heading lines lines' put put []
nothing_added heading lines lines' true wrote = record { wrote = wrote; is_headed = refl }
nothing_added heading lines lines' false wrote = record { wrote = wrote; is_headed = refl }

-- one piece behind another
pub adds_then : {Y T : Type 0} {sink : sinks.Ghosts T} → Joins sink → (heading : List ℕ) (lines middle lines' : CheckLines Y T sink) (x y z : Bool) (one other : List ℕ) → Adds heading lines middle x y one
    → Adds heading middle lines' y z other → Adds heading lines lines' x z (one ++ other)
adds_then {Y} {T} {sink} law heading lines middle lines' true y z one other first second = record {
  wrote = then_lines law first.wrote (subst (λ (h : Bool). PutsLines middle lines' (if h then other else headed heading other)) first.is_headed second.wrote);
  is_headed = second.is_headed ∙ ap (λ (h : Bool). h || is_some_text other) first.is_headed;
}
adds_then {Y} {T} {sink} law heading lines middle lines' false y z [] other first second = record {
  wrote = then_lines law first.wrote (subst (λ (h : Bool). PutsLines middle lines' (if h then other else headed heading other)) first.is_headed second.wrote);
  is_headed = second.is_headed ∙ ap (λ (h : Bool). h || is_some_text other) first.is_headed;
}
adds_then {Y} {T} {sink} law heading lines middle lines' false y z (o ∷ rest) other first second = record {
  wrote = subst (λ (text : List ℕ). PutsLines lines lines' text) (append_assoc heading (o ∷ rest) other)
      (then_lines law first.wrote (subst (λ (h : Bool). PutsLines middle lines' (if h then other else headed heading other)) first.is_headed second.wrote));
  is_headed = second.is_headed ∙ ap (λ (h : Bool). h || is_some_text other) first.is_headed;
}

-- all of a session, whose own line was put before, unless what is well is left out
pub session_put : {Y T : Type 0} {sink : sinks.Ghosts T} → Joins sink → (heading : List ℕ) (lines middle lines' : CheckLines Y T sink) (quiet after : Bool) (text : List ℕ)
    → PutsLines lines middle (if quiet then [] else heading) → Adds heading middle lines' (not quiet) after text → PutsLines lines lines' (session_text quiet heading text)
session_put law heading lines middle lines' true after text first adds = then_lines law first adds.wrote
session_put law heading lines middle lines' false after text first adds = then_lines law first adds.wrote

-- a text that is there, behind the session's own line, unless that was put before
pub told_added : {Y T : Type 0} {sink : sinks.Ghosts T} → Joins sink → (heading : List ℕ) (lines middle lines' : CheckLines Y T sink) (put : Bool) (text : List ℕ) → is_some_text text ≡ true
    → PutsLines lines middle (if put then [] else heading) → PutsLines middle lines' text → Adds heading lines lines' put true text
told_added law heading lines middle lines' true text some first second = record { wrote = then_lines law first second; is_headed = refl }
told_added law heading lines middle lines' false [] some first second = let k : ⊥ = cc in absurd k
told_added law heading lines middle lines' false (o ∷ rest) some first second = record { wrote = then_lines law first second; is_headed = refl }

-- nothing of the first records, where what isn't judged is left out
pub silent_left_out : (printing : Printing) (local : Address) (records : List ShownRecord) → printing.quiet ≡ true → ends_text printing local (silent_ends records) ≡ []
silent_left_out printing local [] quiet = refl
silent_left_out printing local (first ∷ records) quiet = ap (λ (b : Bool). (if b then [] else end_text printing.routes local (Silent (length (first ∷ records)))) ++ []) quiet

pub front_left_out : (printing : Printing) (local : Address) (records : List ShownRecord) → printing.quiet ≡ true → ends_text printing local (front_ends records) ≡ []
front_left_out printing local [] quiet = refl
front_left_out printing local (first ∷ records) quiet = ap (λ (b : Bool). (if b then [] else end_text printing.routes local (Staying (length (first ∷ records)))) ++ []) quiet

-- an end's text is there
by_verdict : (routes : Bool) (end : StretchEnd) (peer : PeerAs) (verdict : VerdictValue) → is_some_text (verdict_text routes end peer verdict) ≡ true
unfolding yes_line no_line unfinished_line
by_verdict routes end peer (Yes ends) = refl
by_verdict routes end peer (No count) = refl
by_verdict routes end peer Unfinished = refl

by_answer : (routes : Bool) (end : StretchEnd) (answer : AnswerValue) → is_some_text (answer_text routes end answer) ≡ true
unfolding not_judged_line
by_answer routes end (Unjudged why) = refl
by_answer routes end (JudgedAs number peer under verdict) = by_verdict routes end peer verdict

pub end_is_some : (routes : Bool) (local : Address) (end : StretchEnd) → is_some_text (end_text routes local (Stretch end)) ≡ true
end_is_some routes local end = by_answer routes end end.told.answer

-- no refusal, or one
pub none_added : {Y T : Type 0} {sink : sinks.Ghosts T} (heading : List ℕ) (lines lines' : CheckLines Y T sink) (put : Bool) → PutsLines lines lines' [] → Adds heading lines lines' put (put || false) []
none_added heading lines lines' true wrote = record { wrote = wrote; is_headed = refl }
none_added heading lines lines' false wrote = record { wrote = wrote; is_headed = refl }

fault_is_some : (fault : CaptureFault) → is_some_text (fault_text (Some fault)) ≡ true
unfolding refused_text
fault_is_some fault = refl

pub fault_added : {Y T : Type 0} {sink : sinks.Ghosts T} → Joins sink → (heading : List ℕ) (lines middle lines' : CheckLines Y T sink) (put : Bool) (fault : CaptureFault)
    → PutsLines lines middle (if put then [] else heading) → PutsLines middle lines' (fault_text (Some fault)) → Adds heading lines lines' put (put || true) (fault_text (Some fault))
fault_added law heading lines middle lines' true fault first second = told_added law heading lines middle lines' true _ (fault_is_some fault) first second
fault_added law heading lines middle lines' false fault first second = told_added law heading lines middle lines' false _ (fault_is_some fault) first second
