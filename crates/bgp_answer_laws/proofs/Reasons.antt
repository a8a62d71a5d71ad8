-- The lines on why a verdict is a no or unfinished begin no answer.
use Rattle.std.proofs.Common.{◌≡◌, ◌+◌, ◌++◌, ℕ, Bool, List, [], ◌∷◌, Option, None, Some, All, length, subst, sym, take, inl, inr}
use Rattle.std.proofs.lemmas.List.Elements.{All-head, All-tail, All-take}
use Rattle.bgp_prefix.specs.Shown.{ShownRecord}
use Rattle.bgp_prefix.specs.declared.session.Session.{Session}
use Rattle.bgp_wire.specs.declared.header.Limit.{Limit}
use Rattle.bgp_open.specs.declared.config.Config.{Config}
use Rattle.bgp_judge.specs.Verdict.{VerdictValue, Yes, No, Unfinished}
use Rattle.bgp_check.specs.Answered.{AnswerValue, JudgedAs, Unjudged}
use Rattle.bgp_check.specs.declared.peer_as.PeerAs.{PeerAs}
use Rattle.bgp_why.specs.declared.endpoint.Endpoint.{Endpoint}
use Rattle.bgp_why.specs.declared.other_orders.OtherOrders.{OtherOrders}
use Rattle.bgp_why.specs.declared.place.Place.{Place}
use Rattle.bgp_why.specs.declared.style.Style.{Style}
use Rattle.bgp_explain.specs.Records.{SaysLines}
use Rattle.bgp_check_text.specs.Reason.{IsExplained, IsReasonOf, IsReasonTo, IsSaid, another_of, style_of}
use Rattle.bgp_check_text.specs.Shown.{session_at}
use Rattle.bgp_visible_laws.specs.Laws.{HasOctets}
use Rattle.bgp_why_laws.proofs.JsonLines.{all_front}
use Rattle.bgp_answer_laws.specs.Answers.{Says, possible_lines}
use Rattle.bgp_answer_laws.specs.Reasons.{ReasonsAreLines}
use Rattle.bgp_answer_laws.proofs.Lines.{possible_are, says_nothing}
use Rattle.bgp_answer_laws.proofs.Whys.{whys_say}

-- some of them, if any, say what could have come
abbrev AreAside : List ℕ → Type 0
AreAside text = (possible : List ℕ) × Says text possible

no_lines : (text : List ℕ) → text ≡ [] → AreAside text
no_lines text is = subst AreAside (sym is) ([], says_nothing)

all_back : {X : Type 0} (P : X → Type 0) (xs ys : List X) → All P (xs ++ ys) → All P ys
all_back P [] ys all = all
all_back P (x ∷ xs) ys all = all_back P xs ys (All-tail P x (xs ++ ys) all)

of_lines : (config : Config) (style : Style) (session : Session) (another : Option ℕ) (places : ℕ → ℕ → Place) (records : List ShownRecord) (verdict : VerdictValue) (text : List ℕ)
    → All HasOctets records → SaysLines config style session another places records verdict text → AreAside text
of_lines config style session another places records (Yes ends) text all says = no_lines text says
of_lines config style session another places records (No count) text all says =
    let before = take count records in
    let those : All HasOctets (before ++ says.shown ∷ []) = subst (All HasOctets) says.next (All-take HasOctets (count + 1) records all) in (
      _,
      whys_say config style session another places before (Some (length before + 1, says.shown)) text (all_front HasOctets before (says.shown ∷ []) those)
          (All-head HasOctets says.shown [] (all_back HasOctets before (says.shown ∷ []) those)) says.why,
    )
of_lines config style session another places records Unfinished text all says = (_, whys_say config style session another places records None text all tt says)

of_said : (config : Config) (style : Style) (sent : Limit) (peer : Endpoint) (another : Option ℕ) (places : ℕ → ℕ → Place) (records : List ShownRecord)
    (verdict : VerdictValue) (deed lines : List ℕ) → All HasOctets records → IsSaid config style sent peer another places records verdict deed lines → AreAside lines
of_said config style sent peer another places records verdict deed lines all (inl so) =
    of_lines config style (session_at config.parts.session sent records verdict) another places records verdict lines all so.1.1
of_said config style sent peer another places records verdict deed lines all (inr none) = no_lines lines none.2

module _ (session : Session) (sent : Limit) (first : ℕ) (is_recording : Bool) (peer : Endpoint) (places : ℕ → ℕ → Place) (instead : OtherOrders)
    (records : List ShownRecord) (all : All HasOctets records) where
  explained : (its : PeerAs) (config : Config) (verdict : VerdictValue) (deed lines : List ℕ)
      → IsExplained session sent first is_recording peer places instead records its config verdict deed lines → AreAside lines
  explained its config verdict deed lines is =
      of_said config (style_of first is_recording its is.faults instead) sent peer (another_of its) places records verdict deed lines all is.is_said

  of_verdict : (its : PeerAs) (config : Config) (verdict : VerdictValue) (deed lines : List ℕ)
      → IsReasonOf session sent first is_recording peer places instead records its config verdict deed lines → AreAside lines
  of_verdict its config (Yes ends) deed lines is = no_lines lines is.1
  of_verdict its config (No count) deed lines is = explained its config (No count) deed lines is
  of_verdict its config Unfinished deed lines is = explained its config Unfinished deed lines is

  of_answer : (answer : AnswerValue) (deed lines : List ℕ) → IsReasonTo session sent first is_recording peer places instead records answer deed lines → AreAside lines
  of_answer (Unjudged why) deed lines is = no_lines lines is.1
  of_answer (JudgedAs number its config verdict) deed lines is = of_verdict its config verdict deed lines is

its_own : (text : List ℕ) → AreAside text → Says text (possible_lines text)
its_own text are = subst (λ (p : List ℕ). Says text p) (possible_are text are.0 are.1) are.1

pub reasons_are_lines : ReasonsAreLines
reasons_are_lines session sent first is_recording peer places instead records answer deed lines all is =
    its_own lines (of_answer session sent first is_recording peer places instead records all answer deed lines is)
