-- What is left out where only what isn't well is told.
use Rattle.std.specs.Prelude.{◌&&◌, Bool, true, not}
use Rattle.bgp_check.specs.Answered.{AnswerValue, JudgedAs, Unjudged}
use Rattle.bgp_check_text.specs.Settings.{is_no_yes}

-- an end is a yes, or isn't judged
abbrev pub is_well : AnswerValue → Bool
is_well (Unjudged why) = true
is_well (JudgedAs number peer under verdict) = not (is_no_yes verdict)

-- its lines are left out, where those of all that is well are
abbrev pub is_left_out : Bool → AnswerValue → Bool
is_left_out quiet answer = quiet && is_well answer
