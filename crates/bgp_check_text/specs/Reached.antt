-- How far a session came before its end: the highest state that its records tell, and the routes
-- that stood before it left Established.
use Rattle.std.specs.Prelude.{◌≡◌, ◌≢◌, ◌⊎◌, ◌==◌, ◌<◌, ◌≤◌, ◌++◌, ℕ, Bool, true, false, not}
use Rattle.std.specs.Prelude.{List, [], ◌∷◌, Option, IsTrue, length, map, nat_lt, take}
use Rattle.std.specs.List.{filter, list_any}
use Rattle.bgp_prefix.specs.Shown.{ShownRecord}
use Rattle.bgp_open.specs.declared.config.Config.{Config}
use Rattle.bgp_machine.specs.Lists.{Each}
use Rattle.bgp_machine.specs.Run.{End}
use Rattle.bgp_machine.specs.State.{number_of}
use Rattle.bgp_machine.specs.declared.fsm.Fsm.TheVariants as fsms
use Rattle.bgp_judge.specs.Ends.{ListsEnds, end_value}
use Rattle.bgp_judge.specs.Verdict.{No, Unfinished, VerdictValue, Yes}
use Rattle.bgp_watch.specs.Front.{EndsEstablished, FrontValue, IsWatched}
use Rattle.bgp_check.specs.Answered.{AnswerValue, JudgedAs, Unjudged}
use Rattle.bgp_check.specs.StretchTold.{with_leaving}
use Rattle.bgp_check.specs.WatchedEnd.{IsWatchedFor}
use Rattle.bgp_check_text.specs.Highest.{highest_state}
use Rattle.bgp_check_text.specs.Refused.{IsUpToRefusal}
use Rattle.bgp_check_text.specs.declared.reached.Reached.{Reached}

-- ---- the ends before

-- Of all fronts of the records with such a run, one is the longest. These are all ends of the runs
-- that show just that one.
pub record AreOfLongestFront (config : Config) (records : List ShownRecord) (ends : List End)
    : Type 0 where
  pub count : ℕ
  pub is_front : count ≤ length records
  pub has_some : ends ≢ []
  pub lists : ListsEnds config (take count records) ends
  pub are_established : Each (λ e. e.fsm ≡ fsms.Established) ends
  pub is_longest : (n : ℕ) → count < n → n ≤ length records
      → ¬ EndsEstablished config (take n records)

-- or no front has such a run
abbrev pub NoFrontEndsEstablished : Config → List ShownRecord → Type 0
NoFrontEndsEstablished config records =
    (n : ℕ) → n ≤ length records → ¬ EndsEstablished config (take n records)

abbrev pub AreBefore : Config → List ShownRecord → List End → Type 0
AreBefore config records before =
    AreOfLongestFront config records before
    ⊎ ((before ≡ []) × NoFrontEndsEstablished config records)

-- ---- where they are told

-- a possible end is in a lower state than Established (RFC 6396, 4.4.1: 6)
abbrev pub has_lower : List End → Bool
has_lower ends = list_any (λ e. not (number_of e.fsm == 6)) ends

-- They are told of the records before the UPDATE that the local system refused, if it refused one:
-- nothing of it was applied (RFC 4271, 6.3).
abbrev pub AreBeforeRefusal : Config → List ShownRecord → List End → Type 0
AreBeforeRefusal config records before =
    (count : ℕ) × IsUpToRefusal records count × AreBefore config (take count records) before

abbrev pub AreBeforeIf : Bool → Config → List ShownRecord → List End → Type 0
AreBeforeIf true config records before = AreBeforeRefusal config records before
AreBeforeIf false config records before = before ≡ []

abbrev pub AreBeforeOf : Config → List ShownRecord → VerdictValue → List End → Type 0
AreBeforeOf config records (Yes ends) before =
    AreBeforeIf (has_lower ends) config records before
AreBeforeOf config records (No count) before = before ≡ []
AreBeforeOf config records Unfinished before = before ≡ []

-- under the configuration under which the verdict is told
abbrev pub AreBeforeTo : List ShownRecord → AnswerValue → List End → Type 0
AreBeforeTo records (Unjudged why) before = before ≡ []
AreBeforeTo records (JudgedAs number peer under verdict) before =
    AreBeforeOf under records verdict before

-- ---- where they are known, and where they may be sought

-- It is known of these records, or of these and one behind them, that this front is the longest
-- that has an end in Established; or nothing is known.
abbrev pub IsKnown : Config → List ShownRecord → Option FrontValue → Type 0
IsKnown config records front =
    (leaving : Option ShownRecord) × IsWatched config (with_leaving records leaving) front

-- of what is answered
abbrev pub IsKnownFor : List ShownRecord → AnswerValue → Option FrontValue → Type 0
IsKnownFor records answer front =
    (leaving : Option ShownRecord) × IsWatchedFor (with_leaving records leaving) answer front

abbrev pub IsNoYes : VerdictValue → Type 0
IsNoYes (Yes ends) = ⊥
IsNoYes (No count) = Unit {0}
IsNoYes Unfinished = Unit {0}

-- a yes with a possible end in a lower state
abbrev pub IsLowerYes : VerdictValue → Type 0
IsLowerYes (Yes ends) = IsTrue (has_lower ends)
IsLowerYes (No count) = ⊥
IsLowerYes Unfinished = ⊥

abbrev pub IsLowerTo : AnswerValue → Type 0
IsLowerTo (Unjudged why) = ⊥
IsLowerTo (JudgedAs number peer under verdict) = IsLowerYes verdict

-- ---- how many routes they have

-- a count among others that ascend: those below it, itself, and those above it
abbrev pub with_count : ℕ → List ℕ → List ℕ
with_count count others =
    filter (λ other. nat_lt other count) others
    ++ count ∷ filter (λ other. nat_lt count other) others

-- the counts of the ends, each once, ascending
abbrev pub counts_of : List End → List ℕ
counts_of [] = []
counts_of (e ∷ ends) = with_count (length e.routes.entries) (counts_of ends)

-- ---- all of it

pub record ReachedValue : Type 0 where
  -- the number of the highest state
  pub highest : ℕ
  -- the ends before
  pub before : List End
  -- how many routes they have
  pub counts : List ℕ

abbrev pub reached_value : {X : Type 0} → Reached X → ReachedValue
reached_value reached = record {
  highest = reached.highest;
  before = map end_value reached.before.items;
  counts = reached.counts.items;
}

-- so far a session came of which this is answered, by these records
pub record IsReached (records : List ShownRecord) (answer : AnswerValue) (reached : ReachedValue)
    : Type 0 where
  pub is_highest : reached.highest ≡ highest_state records
  pub are_before : AreBeforeTo records answer reached.before
  pub are_counts : reached.counts ≡ counts_of reached.before
