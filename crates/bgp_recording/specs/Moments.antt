-- The packets of what packets tell, each with its time: its second, and the microseconds of that
-- second's fraction, where the recording has one.
use Rattle.streams.specs.declared.connection.Connection.{Connection}
use Rattle.streams.specs.declared.connection.End.{End}
use Rattle.streams.specs.declared.connection.Run.{Run}
use Rattle.bgp_recording.specs.declared.entry.Entry.{Entry}
use Rattle.bgp_recording.specs.declared.message.Message.{Message}
use Rattle.bgp_recording.specs.declared.ordering.Exchange.{Exchange}
use Rattle.bgp_recording.specs.declared.pending.Moment.{Moment}

-- of the octets of a run
abbrev pub moment_of : Run → Moment
moment_of run = record { packet = run.packet; second = run.second; micro = run.micro }

-- of a message
abbrev pub moment_in : Message → Moment
moment_in message =
    record { packet = message.packet; second = message.second; micro = message.micro }

-- of an end
abbrev pub end_moment : End → Moment
end_moment end = record { packet = end.packet; second = end.second; micro = end.micro }

-- the first of a connection
abbrev pub first_moment : Connection → Moment
first_moment connection =
    record { packet = connection.packet; second = connection.second; micro = connection.micro }

-- and as an exchange tells it
abbrev pub opening_moment : Exchange → Moment
opening_moment exchange =
    record { packet = exchange.packet; second = exchange.second; micro = exchange.micro }

-- that which shows an entry's record
abbrev pub entry_moment : Entry → Moment
entry_moment entry = record { packet = entry.packet; second = entry.second; micro = entry.micro }
