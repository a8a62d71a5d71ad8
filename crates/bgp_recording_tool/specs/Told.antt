-- What is answered of a connection in a recording, its text and its exit status.
use Rattle.std.specs.Prelude.{ℕ, ◌≡◌, ◌||◌, ◌++◌, List, [], ◌∷◌, Bool, true, false, cond, nat_eq}
use Rattle.std.specs.Prelude.{Option, None, Some, codes}
use Rattle.std.specs.Fmt.{decimal}
use Rattle.bgp_machine.specs.Run.{End}
use Rattle.bgp_judge.specs.Verdict.{VerdictValue, Yes, No, Unfinished}
use Rattle.bgp_tool.specs.VerdictText.{yes_text, no_line, unfinished_line}
use Rattle.bgp_import.specs.Refusals.{refusal_line, cause_of}
use Rattle.bgp_import.specs.declared.refusal.Cause.{Cause}
use Rattle.bgp_import.specs.declared.refusal.Cause.TheVariants as causes
use Rattle.bgp_import.specs.declared.refusal.Refusal.{Refusal}
use Rattle.bgp_orders.specs.declared.connection.Unexplained.{Unexplained}
use Rattle.bgp_recording_tool.specs.Found.{Found, Nothing, TooMany, ByNone, ByAnother, ByAll}

pub data Told : Type 0 where
  -- the verdict on the records that are made of it, and what stands after it
  Judged : VerdictValue → List ℕ → Told
  -- That verdict is a no, and this sent message is the first that no order explains that the
  -- packets allow. And what stands after it.
  NoOrder : Unexplained → List ℕ → Told
  -- That verdict isn't a yes, and another order that the packets allow is one, with these ends.
  -- And what stands after it.
  InAnotherOrder : List End → List ℕ → Told
  -- That verdict is a no, some order that the packets allow explains all that was sent, and none is
  -- a yes. And what stands after it.
  UnfinishedOverAll : List ℕ → Told
  -- why none are made or judged
  Refused : Refusal → Told

-- what is told of a verdict, and of the sent message that no order explains, if one is known
abbrev pub told_of : VerdictValue → Option Unexplained → List ℕ → Told
told_of verdict None more = Judged verdict more
told_of verdict (Some u) more = NoOrder u more

-- what is told of a verdict on the made order, and of what is found over all orders
abbrev pub told_with : VerdictValue → Found → List ℕ → Told
told_with verdict Nothing more = told_of verdict None more
told_with verdict TooMany more = told_of verdict None more
told_with verdict (ByNone u instead) more = told_of verdict (Some u) more
told_with verdict (ByAnother ends) more = InAnotherOrder ends more
told_with verdict ByAll more = UnfinishedOverAll more

-- ---- its text

abbrev pub value_text : VerdictValue → List ℕ
value_text (Yes ends) = yes_text ends
value_text (No count) = no_line count
value_text Unfinished = unfinished_line

-- a no over all orders: the packet of the message that none explains
unfoldable pub no_order_line : ℕ → List ℕ
no_order_line packet = codes "no at packet " ++ (decimal packet ++ codes "\n")

abbrev pub told_text : Told → List ℕ
told_text (Judged verdict more) = value_text verdict ++ more
told_text (NoOrder u more) = no_order_line u.packet ++ more
told_text (InAnotherOrder ends more) = yes_text ends ++ more
told_text (UnfinishedOverAll more) = unfinished_line ++ more
told_text (Refused refusal) = refusal_line refusal

-- ---- its exit status

abbrev pub value_status : VerdictValue → ℕ
value_status (Yes ends) = 0
value_status (No count) = 1
value_status Unfinished = 2

abbrev pub cause_status : Cause → ℕ
cause_status causes.Recording = 3
cause_status causes.Memory = 4
cause_status causes.Device = 5

-- of a recording that is refused
abbrev pub refused_status : Refusal → ℕ
refused_status refusal = cause_status (cause_of refusal)

abbrev pub told_status : Told → ℕ
told_status (Judged verdict more) = value_status verdict
told_status (NoOrder u more) = 1
told_status (InAnotherOrder ends more) = 0
told_status (UnfinishedOverAll more) = 2
told_status (Refused refusal) = refused_status refusal

-- ---- the exit status over several connections

-- one of these statuses is this one
abbrev pub has_status : List ℕ → ℕ → Bool
has_status [] status = false
has_status (s ∷ statuses) status = nat_eq s status || has_status statuses status

-- the first of some statuses that is among others; 0 where none is
abbrev pub first_among : List ℕ → List ℕ → ℕ
first_among [] others = 0
first_among (status ∷ more) others =
    cond (has_status others status) status (first_among more others)

-- The first of 5, 4, 1, 3, 2, 0 that one of the connections has. Where a device or memory failed,
-- not all was judged; then a no is told, whatever is told of the others.
abbrev pub status_over : List ℕ → ℕ
status_over statuses = first_among (5 ∷ 4 ∷ 1 ∷ 3 ∷ 2 ∷ 0 ∷ []) statuses

-- some connection is told no, and no device and no memory failed
pub record IsNoAmong (statuses : List ℕ) : Type 0 where
  pub no : has_status statuses 1 ≡ true
  pub device : has_status statuses 5 ≡ false
  pub memory : has_status statuses 4 ≡ false

-- 1 is told exactly where some connection is told no, and no device and no memory failed
abbrev pub NoIsTold : Type 0
NoIsTold = (statuses : List ℕ) →
    ((status_over statuses ≡ 1) → IsNoAmong statuses)
    × (IsNoAmong statuses → status_over statuses ≡ 1)
