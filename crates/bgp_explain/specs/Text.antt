-- The text of what is explained: the verdict's own text, and then that of its reason.
use Rattle.std.specs.Prelude.{◌≡◌, ◌++◌, ℕ, Bool, true, false, List, [], Option, None, Some}
use Rattle.std.specs.Prelude.{Result, Ok, Err, codes}
use Rattle.bgp_prefix.specs.Shown.{ShownRecord, second_of}
use Rattle.bgp_prefix.specs.declared.session.Session.{Session}
use Rattle.bgp_open.specs.declared.config.Config.{Config}
use Rattle.mrt.specs.Written.{IsAllowed}
use Rattle.mrt.specs.declared.fault.CaptureFault.{CaptureFault}
use Rattle.bgp_judge.specs.declared.verdict.Verdict.{Verdict}
use Rattle.bgp_judge.specs.declared.verdict.Verdict.TheVariants.{Yes}
use Rattle.bgp_why.specs.declared.place.Place.{Place}
use Rattle.bgp_why.specs.declared.style.Style.{Style}
use Rattle.bgp_why.specs.Style.{plain}
use Rattle.bgp_tool.specs.Answer.{answer_text}
use Rattle.bgp_explain.specs.declared.explained.Explained.{Explained}
use Rattle.bgp_explain.specs.declared.explained.Impossible.{Impossible}
use Rattle.bgp_explain.specs.declared.explained.Reason.{Reason}
use Rattle.bgp_explain.specs.declared.explained.Totals.{Totals}
use Rattle.bgp_explain.specs.Deed.{IsFirstLine}
use Rattle.bgp_explain.specs.Details.{AreLacksOf, next_in}
use Rattle.bgp_explain.specs.Kept.{shown_by}
use Rattle.bgp_explain.specs.Lacked.{Lacked}
use Rattle.bgp_explain.specs.Places.{kept_places}
use Rattle.bgp_explain.specs.Tally.{yes_lines}
use Rattle.bgp_explain.specs.Why.{IsWhy, IsWhyWith}
use Rattle.bgp_explain.specs.declared.why.Why.{Why}

-- ---- of a reason

-- why the first impossible record is so, or what may follow
abbrev pub IsWhyOf : {X : Type 0} → Config → Style → Session → Option ℕ → (ℕ → ℕ → Place)
    → Reason X → List ℕ → Type 0
IsWhyOf config style session another places reason text =
    IsWhy config style session another places reason.told reason.moments reason.link
    reason.left_out reason.last_message.items reason.possible (next_in reason.impossible) text

abbrev pub IsWhyOfWith : {X : Type 0} → Config → Style → Session → Option ℕ → Reason X → Why
    → List ℕ → Type 0
IsWhyOfWith config style session another reason why text =
    IsWhyWith config style session another reason.told reason.link reason.last_message.items
    reason.possible (next_in reason.impossible) why text

-- the line of the first impossible record, where there is one, as of a capture of this session; and
-- then why it is so
pub record IsReasonText {X : Type 0} (config : Config) (style : Style) (session : Session)
    (places : ℕ → ℕ → Place) (reason : Reason X) (text : List ℕ) : Type 0 where
  pub lacked : Lacked
  pub are_lacks : AreLacksOf config reason.link reason.possible (next_in reason.impossible) lacked
  pub first : List ℕ
  pub rest : List ℕ
  pub is_first : IsFirstLine style session places reason.link reason.possible lacked
      (next_in reason.impossible) first
  pub why : IsWhyOf config style session None places reason rest
  pub whole : text ≡ first ++ rest

-- ---- of what is explained

-- what is told in place of a reason where memory was refused for it
abbrev pub no_memory_line : List ℕ
no_memory_line = codes "  note: out of memory for the reason\n"

-- the reason, where there is one and its details are there, or that memory was refused for it
abbrev pub IsMoreBy : {X : Type 0} → Config → Style → Session → (ℕ → ℕ → Place)
    → Option (Reason X) → Bool → List ℕ → Type 0
IsMoreBy config style session places (Some reason) true more =
    IsReasonText config style session places reason more
IsMoreBy config style session places reason detailed more = more ≡ no_memory_line

-- the second of the first record: of the next one if it is the first, 0 if there is none
abbrev pub first_by : Option ℕ → Option (ℕ × ShownRecord) → ℕ
first_by None None = 0
first_by None (Some next) = second_of next.1
first_by (Some second) next = second

abbrev pub first_in : {X : Type 0} → Option (Reason X) → ℕ
first_in None = 0
first_in (Some reason) = first_by reason.moments.first (next_in reason.impossible)

-- after a yes what its records are, after a fault nothing, and else the reason
abbrev pub IsMoreOf : {X Y : Type 0} → Config → Result (Verdict X) CaptureFault → Option (Reason Y)
    → Bool → Totals → List ℕ → Type 0
IsMoreOf config (Ok (Yes ends)) reason detailed totals more =
    more ≡ yes_lines totals.tally (Some totals.skipped) totals.seen.left_idle
IsMoreOf config (Ok verdict) reason detailed totals more =
    IsMoreBy config (plain (first_in reason) false) config.parts.session
    (kept_places totals.fractions) reason detailed more
IsMoreOf config (Err fault) reason detailed totals more = more ≡ []

-- the verdict's own text, and then what comes after it
pub record IsExplainedText {X : Type 0} (config : Config) (explained : Explained X)
    (detailed : Bool) (text : List ℕ) : Type 0 where
  pub more : List ℕ
  pub is_more : IsMoreOf config explained.answer explained.reason detailed explained.totals more
  pub whole : text ≡ answer_text explained.answer ++ more

-- ---- what can be put

-- a capture of the session can hold the first impossible record
abbrev pub CanBePut : {X : Type 0} → Session → Option (Impossible X) → Type 0
CanBePut session None = Unit {0}
CanBePut session (Some impossible) =
    (last : Option ℕ) × IsAllowed session last (shown_by impossible.«record»)

abbrev pub CanBePutOf : {X : Type 0} → Session → Option (Reason X) → Type 0
CanBePutOf session None = Unit {0}
CanBePutOf session (Some reason) = CanBePut session reason.impossible
