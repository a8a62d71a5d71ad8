-- Why a message that was sent is no whole one, and its line (RFC 4271, 4.1 and 6.1).
use Rattle.std.specs.Prelude.{◌≡◌, ◌≢◌, ◌≤◌, ◌<◌, ◌++◌, ℕ, List, [], Option, None, Some, length}
use Rattle.std.specs.Prelude.{codes}
use Rattle.bgp_prefix.specs.Shown.{ShownRecord, Received, Sent, Changed}
use Rattle.bgp_wire.specs.declared.header.Limit.{Limit}
use Rattle.bgp_wire.specs.Framing.{IsFaulty, IsFrame}
use Rattle.bgp_wire.specs.Header.{IsSound, header_of, length_of}
use Rattle.bgp_wire.specs.Verdict.{AreEachFault}
use Rattle.bgp_open.specs.declared.link.Link.{Link}
use Rattle.bgp_machine.specs.Want.{limit_on}
use Rattle.bgp_why.specs.declared.whole.NotWhole.{NotWhole}
use Rattle.bgp_why.specs.declared.whole.NotWhole.TheVariants.{Faulty, BelowHeader, OtherCount}
use Rattle.bgp_why.specs.Style.{line}

-- a header without a fault, and another count of octets than its Length says
abbrev pub IsOtherCount : Limit → List ℕ → Type 0
IsOtherCount limit octets =
    (19 ≤ length octets) × IsSound limit (header_of octets)
    × (length octets ≢ length_of (header_of octets))

-- they are no whole message for this, where messages may be so long; or they are one
abbrev pub IsWhyNot : Limit → List ℕ → Option NotWhole → Type 0
IsWhyNot limit octets None = IsFrame limit octets
IsWhyNot limit octets (Some (Faulty errors)) =
    IsFaulty limit octets × AreEachFault limit (header_of octets) errors
IsWhyNot limit octets (Some BelowHeader) = length octets < 19
IsWhyNot limit octets (Some OtherCount) = IsOtherCount limit octets

-- a message that was sent is none for this; there is no such reason for other records
abbrev pub IsWhyNotSent : Option Link → ShownRecord → Option NotWhole → Type 0
IsWhyNotSent link (Received second octets) why = why ≡ None
IsWhyNotSent link (Sent second octets) why = IsWhyNot (limit_on link) octets why
IsWhyNotSent link (Changed second old new) why = why ≡ None

-- why the octets don't fit; the message's name has the faults of a header
abbrev pub unfit_text : NotWhole → List ℕ
unfit_text (Faulty errors) = []
unfit_text BelowHeader = codes "fewer octets than a header has"
unfit_text OtherCount = codes "another count of octets than its Length says"

abbrev pub unfit_line : NotWhole → List ℕ
unfit_line why = line (codes "not a whole message: " ++ unfit_text why)

-- the line, if there is one
abbrev pub not_whole_line : Option NotWhole → List ℕ
not_whole_line None = []
not_whole_line (Some (Faulty errors)) = []
not_whole_line (Some BelowHeader) = unfit_line BelowHeader
not_whole_line (Some OtherCount) = unfit_line OtherCount
