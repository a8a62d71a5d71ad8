-- How many ends there are of each verdict, and how many refusals; and the exit status over them.
use Rattle.std.specs.Prelude.{◌++◌, ◌+◌, ◌-◌, ◌^◌, ◌==◌, ◌&&◌, ◌||◌, ℕ, Bool, true, false, List}
use Rattle.std.specs.Prelude.{[], codes, if◌then◌else◌, min, nat_lt, not}
use Rattle.std.specs.Fmt.{decimal}
use Rattle.bgp_judge.specs.Verdict.{No, Unfinished, VerdictValue, Yes}
use Rattle.bgp_check.specs.Answered.{AnswerValue, JudgedAs, Unjudged}
use Rattle.bgp_check.specs.declared.not_judged.NotJudged.{NotJudged}
use Rattle.bgp_check.specs.declared.not_judged.NotJudged.TheVariants.{Confederations}
use Rattle.bgp_check.specs.declared.not_judged.NotJudged.TheVariants.{DynamicCapabilities}
use Rattle.bgp_check.specs.declared.not_judged.NotJudged.TheVariants.{ExtendedParameters, NoFamily}
use Rattle.bgp_check.specs.declared.not_judged.NotJudged.TheVariants.{NothingSent}
use Rattle.bgp_check_text.specs.declared.tally.Tally.{Tally}

-- one more, up to the greatest number that is told
abbrev pub one_more : ℕ → ℕ
one_more count = min (count + 1) (2 ^ 64 - 1)

abbrev pub with_verdict : Tally → VerdictValue → Tally
with_verdict tally (Yes ends) = record tally { yes = one_more tally.yes }
with_verdict tally (No count) = record tally { no = one_more tally.no }
with_verdict tally Unfinished = record tally { unfinished = one_more tally.unfinished }

-- an end that isn't judged for this could be, if more were recorded of it
abbrev pub is_for_lack : NotJudged → Bool
is_for_lack NothingSent = true
is_for_lack ExtendedParameters = false
is_for_lack NoFamily = false
is_for_lack DynamicCapabilities = false
is_for_lack Confederations = false

-- with an end more that isn't judged, and that could be or not, if more were recorded of it
abbrev pub with_unjudged : Tally → Bool → Tally
with_unjudged tally lacks = record tally {
  not_judged = one_more tally.not_judged;
  incomplete = tally.incomplete || lacks;
}

abbrev pub with_end : Tally → AnswerValue → Tally
with_end tally (Unjudged why) = with_unjudged tally (is_for_lack why)
with_end tally (JudgedAs number peer under verdict) = with_verdict tally verdict

-- with a refusal more whose exit status by itself is this
abbrev pub with_refusal : Tally → ℕ → Tally
with_refusal tally status = record tally {
  refused = one_more tally.refused;
  incomplete = true;
  memory = tally.memory || (status == 4);
  device = tally.device || (status == 5);
}

abbrev pub no_tally : Tally
no_tally = record {
  yes = 0;
  no = 0;
  unfinished = 0;
  not_judged = 0;
  refused = 0;
  incomplete = false;
  memory = false;
  device = false;
}

-- The exit status: the first of 5, 4, 1, 3, 2, 0 for which there is something; 3 where nothing was
-- judged. Where a device or memory failed, not all was judged; then a no is told, whatever is told
-- of other ends.
abbrev pub status_of : Tally → ℕ
status_of tally =
    if tally.device then 5
    else if tally.memory then 4
    else if nat_lt 0 tally.no then 1
    else if nat_lt 0 tally.refused then 3
    else if nat_lt 0 tally.unfinished then 2
    else if nat_lt 0 tally.yes then 0
    else 3

-- an end is judged
abbrev pub has_verdict : Tally → Bool
has_verdict tally =
    nat_lt 0 tally.yes || (nat_lt 0 tally.no || nat_lt 0 tally.unfinished)

-- nothing is counted
abbrev pub is_empty : Tally → Bool
is_empty tally =
    (tally.yes + tally.no + tally.unfinished + tally.not_judged == 0) && (tally.refused == 0)

-- more could be judged, if more were recorded: something is refused, of some end or part what has
-- to be there isn't recorded, or there is nothing at all
abbrev pub is_incomplete : Tally → Bool
is_incomplete tally = tally.incomplete || is_empty tally

-- something is told where what is well is left out: a no, what is unfinished, a refusal, or that
-- there is nothing
abbrev pub has_trouble : Tally → Bool
has_trouble tally =
    nat_lt 0 tally.no
    || (nat_lt 0 tally.unfinished || (nat_lt 0 tally.refused || is_empty tally))

-- the last line
unfoldable pub tally_line : Tally → List ℕ
tally_line tally =
    codes "ends " ++ (decimal (tally.yes + tally.no + tally.unfinished + tally.not_judged)
    ++ (codes ": " ++ (decimal tally.yes ++ (codes " yes, " ++ (decimal tally.no
    ++ (codes " no, " ++ (decimal tally.unfinished ++ (codes " unfinished, "
    ++ (decimal tally.not_judged ++ (codes " not judged; refused "
    ++ (decimal tally.refused ++ codes "\n")))))))))))

-- it is left out with all that is well, where it would stand alone
abbrev pub last_text : Bool → Tally → List ℕ
last_text quiet tally = if quiet && not (has_trouble tally) then [] else tally_line tally
