-- What is told of an end in another order than the made one, or over all of them.
use Rattle.std.specs.Prelude.{◌≡◌, ℕ, List, Option, None, map}
use Rattle.bgp_prefix.specs.declared.session.Session.{Session}
use Rattle.mrt.specs.Reader.{shown_of}
use Rattle.streams.specs.declared.connection.Connection.{Connection}
use Rattle.bgp_judge.specs.Verdict.{No, Unfinished, Yes}
use Rattle.bgp_recording.specs.Captured.{records_of}
use Rattle.bgp_recording.specs.Recorded.{IsRecorded}
use Rattle.bgp_recording.specs.declared.entry.Entry.{Entry}
use Rattle.bgp_recording.specs.declared.framing.Framings.{Framings}
use Rattle.bgp_recording.specs.declared.framing.Unshown.{Unshown}
use Rattle.bgp_orders.specs.WholeWays.{AreOfAWayOver}
use Rattle.bgp_check.specs.Answered.{AnswerValue, IsAnswerTo, JudgedAs, Unjudged, answer_value}
use Rattle.bgp_check_tool.specs.declared.another.Searched.{Searched}
use Rattle.bgp_check_tool.specs.declared.another.Searched.TheVariants as searches
use Rattle.bgp_check_tool.specs.declared.orders.TooLong.{TooLong}
use Rattle.bgp_check_tool.specs.Orders.{AreKnown, IsTooLongOver, IsUnexplained, IsUnfinished}

-- ---- answers

-- the end is judged, with a yes
abbrev pub IsYes : AnswerValue → Type 0
IsYes (Unjudged why) = ⊥
IsYes (JudgedAs number peer under (Yes ends)) = Unit {0}
IsYes (JudgedAs number peer under (No count)) = ⊥
IsYes (JudgedAs number peer under Unfinished) = ⊥

-- with a no
abbrev pub IsNo : AnswerValue → Type 0
IsNo (Unjudged why) = ⊥
IsNo (JudgedAs number peer under (Yes ends)) = ⊥
IsNo (JudgedAs number peer under (No count)) = Unit {0}
IsNo (JudgedAs number peer under Unfinished) = ⊥

-- it is judged, and unfinished
abbrev pub IsLeft : AnswerValue → Type 0
IsLeft (Unjudged why) = ⊥
IsLeft (JudgedAs number peer under (Yes ends)) = ⊥
IsLeft (JudgedAs number peer under (No count)) = ⊥
IsLeft (JudgedAs number peer under Unfinished) = Unit {0}

-- it is judged, and that is no yes
abbrev pub IsNoYes : AnswerValue → Type 0
IsNoYes (Unjudged why) = ⊥
IsNoYes (JudgedAs number peer under (Yes ends)) = ⊥
IsNoYes (JudgedAs number peer under (No count)) = Unit {0}
IsNoYes (JudgedAs number peer under Unfinished) = Unit {0}

-- the AS number that its OPEN tells, if it is judged and sent one
abbrev pub number_in : AnswerValue → Option ℕ
number_in (Unjudged why) = None
number_in (JudgedAs number peer under verdict) = number

-- ---- what is found over all orders, where this is answered of the made one

-- A message that no order explains is found of a no. That some order explains all is found of a no,
-- and of what is unfinished. Of another order the answer on its records is kept, and is a yes.
abbrev pub IsSought : {X : Type 0} → Session → AnswerValue → Searched X → Type 0
IsSought session answer searches.Nothing = Unit {0}
IsSought session answer searches.NoMemory = IsNoYes answer
IsSought session answer (searches.TooLong its) = IsNoYes answer
IsSought session answer (searches.NoOrder found) = IsNo answer
IsSought session answer (searches.Unfinished its) = IsNo answer
IsSought session answer (searches.AsMade its) = IsLeft answer
IsSought session answer (searches.Another another) =
    IsNoYes answer
    × (map shown_of another.recording.records.items ≡ records_of another.recording.entries.items)
    × IsAnswerTo session (records_of another.recording.entries.items)
    (answer_value another.answer)
    × IsYes (answer_value another.answer)

-- this is answered of the end's records in an order that the packets allow, as the made one is
pub record IsOfAnOrder (session : Session) (within : ℕ) (framings : Framings)
    (connection : Connection) (answer : AnswerValue) : Type 0 where
  pub entries : List Entry
  pub received_unshown : Unshown
  pub sent_unshown : Unshown
  pub recorded : IsRecorded framings within connection entries received_unshown sent_unshown
  pub answers : IsAnswerTo session (records_of entries) answer

-- Where this is answered of the made order, nothing is asked of the others if that is a yes, or no
-- judgement; and nothing is found if memory is refused for the search, or if it is too long under
-- these configurations, if what was known of them is so. The other order is one that the packets
-- allow.
abbrev pub IsFound : {X : Type 0} → Session → ℕ → Framings → Connection → TooLong → AnswerValue
    → Searched X → Type 0
IsFound session within framings connection known answer searches.Nothing =
    ¬ IsNoYes answer
IsFound session within framings connection known answer searches.NoMemory = Unit {0}
IsFound session within framings connection known answer (searches.TooLong its) =
    AreKnown session within framings connection known
    → IsTooLongOver session within framings connection its
IsFound session within framings connection known answer (searches.NoOrder found) =
    IsUnexplained session within framings connection found
IsFound session within framings connection known answer (searches.Unfinished its) =
    IsUnfinished session within framings connection its.peer_as its.under
IsFound session within framings connection known answer (searches.AsMade its) =
    IsUnfinished session within framings connection its.peer_as its.under
IsFound session within framings connection known answer (searches.Another another) =
    AreOfAWayOver framings within connection another.recording.entries.items
    another.recording.received another.recording.sent
