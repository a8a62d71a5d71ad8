-- When other rules of framing find the same messages in a stream.
use Rattle.std.specs.Prelude.{◌≡◌, ◌⊎◌, ◌<◌, ◌≤◌, List, false, length}
use Rattle.std.specs.List.{AllByRecursion}
use Rattle.bgp_wire.specs.declared.header.Limit.TheVariants.{Extended, Plain}
use Rattle.bgp_recording.specs.declared.framing.Framing.{Framing}
use Rattle.bgp_recording.specs.declared.framing.Rest.{Rest}
use Rattle.bgp_recording.specs.declared.framing.Rest.TheVariants.{BehindFault, Short}
use Rattle.bgp_recording.specs.declared.framing.Unshown.{Unshown}
use Rattle.bgp_recording.specs.declared.message.Message.{Message}

-- none of the messages is longer than one that nobody offered to extend (RFC 4271, 4.1)
abbrev pub AreShort : List Message → Type 0
AreShort messages = AllByRecursion (λ message. length message.octets.now ≤ 4096) messages

-- no header stands in what is left, but one that is at fault
abbrev pub HasNoHeader : Rest → Type 0
HasNoHeader (Short count) = count < 19
HasNoHeader (BehindFault place count is_refresh) = Unit {0}

-- by the limit: that is the same, or the lesser one, where no message is longer
abbrev pub IsSameLimit : Type 0 → Framing → Framing → Type 0
IsSameLimit are_few old new =
    (new.limit ≡ old.limit) ⊎ ((old.limit ≡ Extended) × (new.limit ≡ Plain) × are_few)

-- by what is passed over: that is the same, or nothing, where nothing was
abbrev pub IsSameRefresh : Framing → Framing → Unshown → Type 0
IsSameRefresh old new unshown =
    (new.skips_refresh ≡ old.skips_refresh)
    ⊎ ((new.skips_refresh ≡ false) × (unshown.passed_over ≡ 0))

-- By the old rules the stream has messages that are short, if they are, and this of it is in none.
-- Then the new ones find the same in it: they are the old ones, or they differ only in what doesn't
-- occur.
abbrev pub FindsTheSame : Type 0 → Framing → Framing → Unshown → Type 0
FindsTheSame are_few old new unshown =
    (new ≡ old)
    ⊎ (IsSameLimit are_few old new × IsSameRefresh old new unshown × HasNoHeader unshown.rest)
