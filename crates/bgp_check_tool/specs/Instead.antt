-- What the reason of an answer on the made order says of other orders.
use Rattle.std.specs.Prelude.{◌≡◌, ℕ, List, Option, None, Some}
use Rattle.streams.specs.declared.connection.Connection.{Connection}
use Rattle.bgp_open.specs.declared.config.Config.{Config}
use Rattle.bgp_judge.specs.Verdict.{No, Unfinished, VerdictValue, Yes}
use Rattle.bgp_recording.specs.declared.entry.Entry.{Entry}
use Rattle.bgp_recording.specs.declared.framing.Framings.{Framings}
use Rattle.bgp_check.specs.Answered.{AnswerValue, JudgedAs, Unjudged}
use Rattle.bgp_instead.specs.OtherOrders.{AreOtherOrders}
use Rattle.bgp_why.specs.declared.other_orders.OtherOrders.{OtherOrders}
use Rattle.bgp_why.specs.declared.other_orders.OtherOrders.TheVariants.{Unasked}
use Rattle.bgp_check_tool.specs.declared.orders.NoOrder.{NoOrder}

-- These are the entries of the made order of a connection that is framed so, and a received message
-- is handled within so many seconds after it came.
module _ (within : ℕ) (framings : Framings) (connection : Connection) (entries : List Entry) where
  -- of a no under this configuration, where no order explains the sent message behind so many
  abbrev pub AreInsteadFor : Config → VerdictValue → ℕ → OtherOrders → Type 0
  AreInsteadFor under (Yes ends) before instead = instead ≡ Unasked
  AreInsteadFor under (No count) before instead =
      AreOtherOrders under within framings connection before entries count instead
  AreInsteadFor under Unfinished before instead = instead ≡ Unasked

  abbrev pub AreInsteadTo : AnswerValue → ℕ → OtherOrders → Type 0
  AreInsteadTo (Unjudged why) before instead = instead ≡ Unasked
  AreInsteadTo (JudgedAs number peer under verdict) before instead =
      AreInsteadFor under verdict before instead

  -- such a message is this one, if one is known
  abbrev pub AreInstead : AnswerValue → Option NoOrder → OtherOrders → Type 0
  AreInstead answer None instead = instead ≡ Unasked
  AreInstead answer (Some found) instead =
      AreInsteadTo answer found.unexplained.before instead
