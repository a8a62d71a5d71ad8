-- The lines of a session.
use Rattle.std.specs.Prelude.{◌++◌, Bool, ℕ, List, [], ◌∷◌, Some, codes, if◌then◌else◌}
use Rattle.std.specs.List.{flat_map}
use Rattle.bgp_prefix.specs.declared.address.Address.{Address}
use Rattle.bgp_judge.specs.Verdict.{No, Unfinished, VerdictValue, Yes}
use Rattle.bgp_check.specs.Answered.{AnswerValue, JudgedAs, Unjudged}
use Rattle.bgp_check.specs.declared.not_judged.NotJudged.TheVariants.{NothingSent}
use Rattle.bgp_check.specs.declared.peer_as.PeerAs.{PeerAs}
use Rattle.bgp_check_lines.specs.Text.{no_line, not_judged_line, unfinished_line, why_text}
use Rattle.bgp_check_lines.specs.Text.{yes_lines}
use Rattle.bgp_check_lines.specs.Quiet.{is_left_out}
use Rattle.bgp_check_lines.specs.Unshown.{passed_notes}
use Rattle.bgp_check_lines.specs.Values.{unnamed_line}
use Rattle.bgp_check_lines.specs.Printing.{Printing}
use Rattle.bgp_check_capture_tool.specs.Ends.{End, Silent, Staying, Stretch}
use Rattle.bgp_check_capture_tool.specs.StretchEnd.{StretchEnd}
use Rattle.bgp_check_capture_tool.specs.Judging.{judge_text}
use Rattle.bgp_check_capture_tool.specs.Naming.{endpoint_of}
use Rattle.bgp_check_capture_tool.specs.ToldEnd.{is_over, told_end_line}

-- the line of the first records of a session, so many, that aren't judged
abbrev pub unjudged_line : Address → ℕ → List ℕ → List ℕ
unjudged_line local count why = unnamed_line (endpoint_of local) (Some (1, count)) why

-- ---- a stretch

-- the notes behind a verdict and its reason
abbrev pub notes_text : StretchEnd → List ℕ
notes_text end = passed_notes end.told.received end.told.sent ++ judge_text end.judge

abbrev pub verdict_text : Bool → StretchEnd → PeerAs → VerdictValue → List ℕ
verdict_text routes end peer (Yes ends) =
    yes_lines routes end.name peer end.reached ends
    ++ (told_end_line (is_over ends) end.ended ++ notes_text end)
verdict_text routes end peer (No count) =
    no_line end.place end.name end.deed ++ (end.reason ++ notes_text end)
verdict_text routes end peer Unfinished =
    unfinished_line end.place end.name ++ (end.reason ++ notes_text end)

abbrev pub answer_text : Bool → StretchEnd → AnswerValue → List ℕ
answer_text routes end (Unjudged why) = not_judged_line end.name why
answer_text routes end (JudgedAs number peer under verdict) =
    verdict_text routes end peer verdict

-- ---- an end

abbrev pub end_text : Bool → Address → End → List ℕ
end_text routes local (Silent count) = unjudged_line local count (why_text NothingSent)
end_text routes local (Staying count) =
    unjudged_line local count (codes "these records do not begin with a change from Idle")
end_text routes local (Stretch end) = answer_text routes end end.told.answer

-- an end is left out, where those are that are well or not judged
abbrev pub is_end_left_out : Bool → End → Bool
is_end_left_out quiet (Silent count) = quiet
is_end_left_out quiet (Staying count) = quiet
is_end_left_out quiet (Stretch end) = is_left_out quiet end.told.answer

-- the lines of an end that is told, and none of one that is left out
abbrev pub kept_text : Printing → Address → End → List ℕ
kept_text printing local end =
    if is_end_left_out printing.quiet end then [] else end_text printing.routes local end

abbrev pub ends_text : Printing → Address → List End → List ℕ
ends_text printing local ends = flat_map (kept_text printing local) ends

-- ---- a session

-- a line stands before some others, and nowhere where there are none
abbrev pub headed : List ℕ → List ℕ → List ℕ
headed heading [] = []
headed heading (octet ∷ rest) = heading ++ (octet ∷ rest)

-- a session's own line stands before the others; alone only if what is well isn't left out
abbrev pub session_text : Bool → List ℕ → List ℕ → List ℕ
session_text quiet heading rest = if quiet then headed heading rest else heading ++ rest
