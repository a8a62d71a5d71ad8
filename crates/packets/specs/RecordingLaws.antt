-- Laws of recordings: what stands above the definitions.
use Rattle.std.specs.Prelude.{◌≡◌, ℕ, List}
use Rattle.packets.specs.Context.{Context}
use Rattle.packets.specs.Packet.{Recorded}
use Rattle.packets.specs.Recording.{Ending, IsRead}

-- octets are some list of packets and some ending
abbrev pub SomeReading : Type 0
SomeReading =
    (context : Context) (octets : List ℕ) →
    (packets : List Recorded) × (ending : Ending) × IsRead context octets packets ending

-- and no other
abbrev pub OneReading : Type 0
OneReading =
    (context : Context) (octets : List ℕ) (packets also : List Recorded) (ending other : Ending) →
    IsRead context octets packets ending → IsRead context octets also other →
    (packets ≡ also) × (ending ≡ other)
