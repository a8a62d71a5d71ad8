-- What the search of all orders finds that stands in place of the verdict on the made one.
use Rattle.std.specs.Prelude.{◌≡◌, ◌≢◌, ℕ, List, []}
use Rattle.bgp_open.specs.declared.config.Config.{Config}
use Rattle.bgp_machine.specs.Run.{End}
use Rattle.bgp_judge.specs.Verdict.{VerdictValue, Yes, No, Unfinished, verdict_value}
use Rattle.bgp_recording.specs.Captured.{records_of}
use Rattle.bgp_recording.specs.declared.entry.Entry.{Entry}
use Rattle.bgp_orders.specs.declared.connection.Unexplained.{Unexplained}
use Rattle.bgp_explain.specs.Records.{AreExplained}
use Rattle.bgp_why.specs.declared.other_orders.OtherOrders.{OtherOrders}
use Rattle.bgp_recording_tool.specs.declared.orders.Searched.{Searched}
use Rattle.bgp_recording_tool.specs.declared.orders.Searched.TheVariants as searches

pub data Found : Type 0 where
  -- nothing in its place: that verdict is the one over all orders
  Nothing : Found
  -- it isn't known what all orders say, for too many nodes: that verdict stands, which is no yes
  TooMany : Found
  -- that verdict is a no, and no order explains this sent message; and what its reason says of
  -- other orders
  ByNone : Unexplained → OtherOrders → Found
  -- that verdict isn't a yes, and another order is one, with these ends
  ByAnother : List End → Found
  -- that verdict is a no, some order explains all that was sent, and none is a yes
  ByAll : Found

-- ---- verdicts

-- the verdict is a no
abbrev pub IsNo : VerdictValue → Type 0
IsNo verdict = (count : ℕ) × (verdict ≡ No count)

-- it isn't a yes
abbrev pub IsNoYes : VerdictValue → Type 0
IsNoYes verdict = (ends : List End) → verdict ≢ Yes ends

-- the ends that it lists
abbrev pub ends_of : VerdictValue → List End
ends_of (Yes ends) = ends
ends_of (No count) = []
ends_of Unfinished = []

-- it is a yes
abbrev pub IsYes : VerdictValue → Type 0
IsYes verdict = verdict ≡ Yes (ends_of verdict)

-- ---- what is found

abbrev pub found_of : {X : Type 0} → Searched X → Found
found_of searches.Nothing = Nothing
found_of searches.TooMany = TooMany
found_of (searches.NoOrder u instead) = ByNone u instead
found_of (searches.Another another) =
    ByAnother (ends_of (verdict_value another.explained.verdict))
found_of searches.Unfinished = ByAll

-- the entries of the other order, if one is a yes
abbrev pub entries_of : {X : Type 0} → Searched X → List Entry
entries_of searches.Nothing = []
entries_of searches.TooMany = []
entries_of (searches.NoOrder u instead) = []
entries_of (searches.Another another) = another.recording.entries.items
entries_of searches.Unfinished = []

-- That it is unfinished over all orders is found where this verdict is a no. Of another order the
-- verdict on its records is kept, with its reason, and is a yes.
abbrev pub IsSought : {X : Type 0} → Config → VerdictValue → Searched X → Type 0
IsSought config verdict searches.Nothing = Unit {0}
IsSought config verdict searches.TooMany = Unit {0}
IsSought config verdict (searches.NoOrder u instead) = Unit {0}
IsSought config verdict (searches.Another another) =
    AreExplained config (records_of another.recording.entries.items) another.explained
    × IsYes (verdict_value another.explained.verdict)
IsSought config verdict searches.Unfinished = IsNo verdict
