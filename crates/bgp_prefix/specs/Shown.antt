-- What a record of a capture shows of a session (RFC 6396, 4.4), and a step of the session machine
-- shows too: a message received or sent, or a change of state, each with its second.
use Rattle.std.specs.Prelude.{ℕ, List}

pub data ShownRecord : Type 0 where
  -- the second, and the message's octets
  Received : ℕ → List ℕ → ShownRecord
  Sent : ℕ → List ℕ → ShownRecord
  -- the second, the old state and the new one, by their numbers
  Changed : ℕ → ℕ → ℕ → ShownRecord

-- its second
abbrev pub second_of : ShownRecord → ℕ
second_of (Received second octets) = second
second_of (Sent second octets) = second
second_of (Changed second old new) = second
