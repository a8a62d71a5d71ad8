-- What a session's records show of what the local system did: whether it left Idle (RFC 4271,
-- 8.2.2), and whether it sent a message.
use Rattle.std.specs.Prelude.{◌==◌, ◌&&◌, ◌||◌, ℕ, Bool, true, false, List}
use Rattle.std.specs.Prelude.{Option, None, Some, if◌then◌else◌, not}
use Rattle.std.specs.List.{list_any}
use Rattle.bgp_prefix.specs.Shown.{ShownRecord, Received, Sent, Changed}
use Rattle.bgp_tool.specs.declared.seen.Seen.{Seen}

-- a change from Idle, which has the number 1 (RFC 6396, 4.4.1), to another state
abbrev pub leaves_idle : ShownRecord → Bool
leaves_idle (Received second octets) = false
leaves_idle (Sent second octets) = false
leaves_idle (Changed second old new) = (old == 1) && not (new == 1)

-- a message that the local system sent
abbrev pub is_sent : ShownRecord → Bool
is_sent (Received second octets) = false
is_sent (Sent second octets) = true
is_sent (Changed second old new) = false

abbrev pub seen_in : List ShownRecord → Seen
seen_in records =
    record { left_idle = list_any leaves_idle records; sent = list_any is_sent records }

-- with one record more
abbrev pub seen_with : Seen → ShownRecord → Seen
seen_with seen shown = record {
  left_idle = seen.left_idle || leaves_idle shown;
  sent = seen.sent || is_sent shown;
}

-- What is lacking in the records of a capture that is judged yes: they show no change that leaves
-- Idle, or no message that was sent.
abbrev pub lacking_by : Bool → Seen → Option Seen
lacking_by false seen = None
lacking_by true seen = if seen.left_idle && seen.sent then None else Some seen

abbrev pub lacking_in : ℕ → List ShownRecord → Option Seen
lacking_in status records = lacking_by (status == 0) (seen_in records)
