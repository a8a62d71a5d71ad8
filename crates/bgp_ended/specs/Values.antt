-- How a session ended, and what is known of a connection, wherever the octets lie.
use Rattle.std.specs.Prelude.{ℕ, Option, option_map}
use Rattle.streams.specs.declared.connection.Closing.{Closing}
use Rattle.streams.specs.declared.passed.Side.{Side}
use Rattle.bgp_recording.specs.declared.pending.Moment.{Moment}
use Rattle.bgp_values.specs.ErrorData.{ErrorFields, error_of}
use Rattle.bgp_ended.specs.declared.ended.Ended.{Ended}
use Rattle.bgp_ended.specs.declared.ended.How.{How}
use Rattle.bgp_ended.specs.declared.ended.How.TheVariants as hows
use Rattle.bgp_ended.specs.declared.ended.Outline.{Outline}

-- by a NOTIFICATION that says this error; by a FIN or a RST; by a change from this state to Idle
pub data HowValue : Type 0 where
  Notified : ErrorFields → HowValue
  Closed : Closing → HowValue
  Fallen : ℕ → HowValue

abbrev pub how_value : How → HowValue
how_value (hows.Notified notification) = Notified (error_of notification)
how_value (hows.Closed closing) = Closed closing
how_value (hows.Fallen state) = Fallen state

-- the fields are those of an Ended
pub record EndedValue : Type 0 where
  pub moment : Moment
  pub by : Side
  pub how : HowValue

abbrev pub ended_value : Ended → EndedValue
ended_value ended =
    record { moment = ended.moment; by = ended.by; how = how_value ended.how }

-- and those of an Outline
pub record OutlineValue : Type 0 where
  pub local_as : Option ℕ
  pub peer_as : Option ℕ
  pub ended : Option EndedValue

abbrev pub outline_value : Outline → OutlineValue
outline_value outline = record {
  local_as = outline.local_as;
  peer_as = outline.peer_as;
  ended = option_map ended_value outline.ended;
}
