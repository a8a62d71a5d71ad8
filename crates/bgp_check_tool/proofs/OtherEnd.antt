-- A connection as its other end has it goes by the same clock.
use Rattle.std.proofs.Common.{◌≡◌, ℕ, Option, None, Some, IfSome, option_map}
use Rattle.streams.specs.declared.connection.Connection.{Connection}
use Rattle.streams.specs.declared.connection.End.{End}
use Rattle.streams.specs.declared.passed.Side.{Side}
use Rattle.streams.specs.declared.passed.Side.TheVariants.{Local, Peer}
use Rattle.bgp_recording.specs.Gathered.{GoesFrom, IsClocked, IsCovered}
use Rattle.bgp_check_tool.specs.Seen.{other_end, seen_from}

pub covered : (side : Side) (connection : Connection) → IsCovered connection.received → IsCovered connection.sent
    → IsCovered (seen_from side connection).received × IsCovered (seen_from side connection).sent
covered Local connection received sent = (received, sent)
covered Peer connection received sent = (sent, received)

ended : (clock : ℕ → ℕ) (first : ℕ) (end : Option End) → IfSome end (λ e. GoesFrom clock first e.packet e.second)
    → IfSome (option_map other_end end) (λ e. GoesFrom clock first e.packet e.second)
ended clock first None goes = goes
ended clock first (Some end) goes = goes

fraction_ended : (fraction : ℕ → Option ℕ) (end : Option End) → IfSome end (λ e. e.micro ≡ fraction e.packet)
    → IfSome (option_map other_end end) (λ e. e.micro ≡ fraction e.packet)
fraction_ended fraction None is = is
fraction_ended fraction (Some end) is = is

pub clocked : (side : Side) (connection : Connection) → IsClocked connection → IsClocked (seen_from side connection)
clocked Local connection clock = clock
clocked Peer connection clock = record {
  clock = clock.clock;
  rises = clock.rises;
  begins = clock.begins;
  received = clock.sent;
  sent = clock.received;
  ends = ended clock.clock connection.packet connection.end clock.ends;
  fractions = record {
    fraction = clock.fractions.fraction;
    begins = clock.fractions.begins;
    received = clock.fractions.sent;
    sent = clock.fractions.received;
    ends = fraction_ended clock.fractions.fraction connection.end clock.fractions.ends;
  };
}
