-- What a place of a recording is judged to be.
use Rattle.std.specs.Prelude.{◌<◌, ℕ}
use Rattle.packets.specs.declared.fault.FaultKind.{FaultKind}
use Rattle.packets.specs.Packet.{Recorded}
use Rattle.packets.specs.Context.{Context}

-- the end; a fault; so many octets that are passed over, and how what follows is read; so many
-- octets that are a packet
pub data Judgement : Type 0 where
  End : Judgement
  Refused : FaultKind → Judgement
  Passed : ℕ → Context → Judgement
  Told : ℕ → Recorded → Judgement

-- what stands there has more octets than so many
abbrev pub IsLonger : ℕ → Judgement → Type 0
IsLonger count End = Unit {0}
IsLonger count (Refused kind) = Unit {0}
IsLonger count (Passed len after) = count < len
IsLonger count (Told len packet) = count < len
