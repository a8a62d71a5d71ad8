-- What a verdict on an end that isn't a yes becomes, where each message may be handled as late as
-- it can be said: it is judged once more, of records that are made so, and over all orders.
use Rattle.std.specs.Prelude.{◌≡◌, ◌⊎◌, ℕ, Bool, true, false, List, [], Option, None, Some}
use Rattle.bgp_prefix.specs.declared.session.Session.{Session}
use Rattle.streams.specs.declared.connection.Connection.{Connection}
use Rattle.bgp_open.specs.declared.config.Config.{Config}
use Rattle.bgp_judge.specs.Verdict.{No, Unfinished, VerdictValue, Yes}
use Rattle.bgp_recording.specs.Captured.{records_of}
use Rattle.bgp_recording.specs.declared.entry.Entry.{Entry}
use Rattle.bgp_recording.specs.declared.framing.Framings.{Framings}
use Rattle.bgp_recording.specs.declared.framing.Unshown.{Unshown}
use Rattle.bgp_orders.specs.WholeWays.{AreOfAWayOver}
use Rattle.bgp_check.specs.Answered.{AnswerValue, IsAnswerTo, JudgedAs, Unjudged}
use Rattle.bgp_check.specs.declared.peer_as.PeerAs.{PeerAs}
use Rattle.bgp_check_tool.specs.Another.{IsLeft, IsNo, IsNoYes, IsYes, number_in}
use Rattle.bgp_check_lines.specs.Values.{late_line}
use Rattle.bgp_check_tool.specs.declared.late.Late.{Late}
use Rattle.bgp_check_tool.specs.declared.late.Late.TheVariants as lates
use Rattle.bgp_check_tool.specs.Made.{IsMade}
use Rattle.bgp_check_tool.specs.Orders.{AreKnown, AreTooManyOver, IsUnexplained, IsUnfinished}
use Rattle.bgp_check_tool.specs.declared.orders.NoOrder.{NoOrder}
use Rattle.bgp_check_tool.specs.declared.orders.TooLong.{TooLong}

-- ---- what it becomes

-- of a no that a router is judged yes or unfinished, of an unfinished that it is judged yes
abbrev pub late_over : VerdictValue → VerdictValue → Option Late
late_over (Yes ends) later = None
late_over (No count) (Yes ends) = Some lates.Yes
late_over (No count) (No other) = None
late_over (No count) Unfinished = Some lates.Unfinished
late_over Unfinished (Yes ends) = Some lates.Yes
late_over Unfinished (No count) = None
late_over Unfinished Unfinished = None

abbrev pub late_by : VerdictValue → AnswerValue → Option Late
late_by verdict (Unjudged why) = None
late_by verdict (JudgedAs number peer under later) = late_over verdict later

-- Of the end of this session that has the connection so.
module _ (session : Session) (connection : Connection) where
  -- Of the made order, framed so, this is answered. It is no yes, and another order is: that is
  -- answered of its records.
  pub record IsAnsweredByAnother (framings : Framings) (of_made answer : AnswerValue) : Type 0
    where
      pub no_yes : IsNoYes of_made
      pub entries : List Entry
      pub received_unshown : Unshown
      pub sent_unshown : Unshown
      pub way : AreOfAWayOver framings 65535 connection entries received_unshown sent_unshown
      pub answers : IsAnswerTo session (records_of entries) answer
      pub is_yes : IsYes answer

  -- it is a no, and over all orders it is unfinished, under this configuration
  pub record IsAnsweredByAll (framings : Framings) (of_made answer : AnswerValue) : Type 0 where
    pub is_no : IsNo of_made
    pub peer : PeerAs
    pub under : Config
    pub over : IsUnfinished session 65535 framings connection peer under
    pub is : answer ≡ JudgedAs (number_in of_made) peer under Unfinished

  -- What is answered of the made order is left for a cause. It is a yes, or no judgement. Or it is a
  -- no, and over all orders no order explains some sent message; or unfinished, and so it is over all
  -- orders. Or the search over them is too long: then no order is whole under a widest configuration
  -- under which it isn't.
  abbrev pub IsLeftAsMade : Framings → AnswerValue → Type 0
  IsLeftAsMade framings of_made =
      (¬ IsNoYes of_made)
      ⊎ (IsNo of_made
      × ((found : NoOrder) × IsUnexplained session 65535 framings connection found))
      ⊎ (IsLeft of_made × ((peer : PeerAs) × (under : Config)
      × IsUnfinished session 65535 framings connection peer under))
      ⊎ AreTooManyOver session 65535 framings connection

  -- This is answered over all orders, if that is answered of the made one. Where memory is refused
  -- for the search over them, that is left.
  abbrev pub IsAnsweredOver : Framings → AnswerValue → Bool → AnswerValue → Type 0
  IsAnsweredOver framings of_made true answer = answer ≡ of_made
  IsAnsweredOver framings of_made false answer =
      ((answer ≡ of_made) × IsLeftAsMade framings of_made)
      ⊎ IsAnsweredByAnother framings of_made answer ⊎ IsAnsweredByAll framings of_made answer

  -- A message may be handled up to 65535 seconds after it came: this is answered then, over all
  -- orders or of the made one. Or memory is refused for the search over them.
  pub record IsAnsweredLater (lacks_memory : Bool) (answer : AnswerValue) : Type 0 where
    pub entries : List Entry
    pub received_unshown : Unshown
    pub sent_unshown : Unshown
    pub framings : Framings
    pub made : IsMade 65535 connection framings entries received_unshown sent_unshown
    pub of_made : AnswerValue
    pub answers : IsAnswerTo session (records_of entries) of_made
    pub over : IsAnsweredOver framings of_made lacks_memory answer

  -- so that the verdict becomes this, or stays
  pub record IsLateOf (verdict : VerdictValue) (late : Option Late) (lacks_memory : Bool) : Type 0
    where
      pub later : AnswerValue
      pub is_later : IsAnsweredLater lacks_memory later
      pub is : late ≡ late_by verdict later

  -- a yes is judged once
  abbrev pub IsLateFor : VerdictValue → Option Late → Bool → Type 0
  IsLateFor (Yes ends) late lacks_memory = (late ≡ None) × (lacks_memory ≡ false)
  IsLateFor (No count) late lacks_memory = IsLateOf (No count) late lacks_memory
  IsLateFor Unfinished late lacks_memory = IsLateOf Unfinished late lacks_memory

  abbrev pub IsLate : AnswerValue → Option Late → Bool → Type 0
  IsLate (Unjudged why) late lacks_memory = (late ≡ None) × (lacks_memory ≡ false)
  IsLate (JudgedAs number peer under verdict) late lacks_memory =
      IsLateFor verdict late lacks_memory

  -- The connection is framed so that the search over all its orders, within so many seconds, is too
  -- long under these of the end's widest configurations.
  pub record AreKnownFor (within : ℕ) (known : TooLong) : Type 0 where
    pub entries : List Entry
    pub received_unshown : Unshown
    pub sent_unshown : Unshown
    pub framings : Framings
    pub made : IsMade within connection framings entries received_unshown sent_unshown
    pub are : AreKnown session within framings connection known

-- ---- how it is told

abbrev pub is_late_yes : Late → Bool
is_late_yes lates.Yes = true
is_late_yes lates.Unfinished = false

-- in an answer by records whose messages are handled within so many seconds
abbrev pub late_text : ℕ → Option Late → List ℕ
late_text within None = []
late_text within (Some late) = late_line within (is_late_yes late)
