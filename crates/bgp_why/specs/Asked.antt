-- What the message that was received last asks for, and its line.
use Rattle.std.specs.Prelude.{◌≤◌, ◌++◌, ◌⊎◌, ℕ, Bool, List, [], length, if◌then◌else◌, codes}
use Rattle.std.specs.Prelude.{◌||◌}
use Rattle.std.specs.Fmt.{decimal}
use Rattle.bgp_wire.specs.declared.header.HeaderFaults.{HeaderFaults}
use Rattle.bgp_open.specs.declared.config.Config.{Config}
use Rattle.bgp_open.specs.declared.families.Families.{Families}
use Rattle.bgp_open.specs.declared.link.Link.{Link}
use Rattle.bgp_open.specs.declared.subcodes.OpenSubcodes.{OpenSubcodes}
use Rattle.bgp_machine.specs.declared.fsm.Fsm.{Fsm}
use Rattle.bgp_machine.specs.declared.fsm.Fsm.TheVariants as states
use Rattle.bgp_machine.specs.declared.hearing.Heard.TheVariants as heard
use Rattle.bgp_machine.specs.Heard.{Hears}
use Rattle.bgp_machine.specs.State.{number_of}
use Rattle.bgp_why_parts.specs.Families.{families_name}
use Rattle.bgp_why_parts.specs.NamesStates.{state_name}
use Rattle.bgp_why.specs.declared.asked.Received.{Received}
use Rattle.bgp_why.specs.declared.asked.Received.TheVariants.{FaultyHeader, ValidOpen}
use Rattle.bgp_why.specs.declared.asked.Received.TheVariants.{InvalidOpen, Update}
use Rattle.bgp_why.specs.declared.asked.Received.TheVariants.{Keepalive, Notification}
use Rattle.bgp_why.specs.declared.asked.Asked.{Asked}
use Rattle.bgp_why.specs.declared.place.Place.{Place}
use Rattle.bgp_why.specs.declared.style.Style.{Style}
use Rattle.bgp_why.specs.declared.message.MessageName.{MessageName}
use Rattle.bgp_why.specs.Message.{name_text}
use Rattle.bgp_why.specs.Place.{place_at}
use Rattle.bgp_why.specs.Refusal.{AreReasons}
use Rattle.bgp_why.specs.Reasons.{reasons_text}

-- the octets of a message are this, as the session machine's rows tell messages apart
abbrev pub Asks : Config → List ℕ → Received → Type 0
Asks config octets FaultyHeader =
    (faults : HeaderFaults) × Hears config octets (heard.FaultyHeader faults)
Asks config octets (ValidOpen link) =
    (subcodes : OpenSubcodes) × Hears config octets (heard.ValidOpen link subcodes)
Asks config octets (InvalidOpen reasons) =
    (errors : OpenSubcodes) × Hears config octets (heard.InvalidOpen errors)
    × AreReasons config octets reasons
Asks config octets Update = Hears config octets heard.Update
Asks config octets Keepalive = Hears config octets heard.Keepalive
Asks config octets Notification =
    Hears config octets heard.BadVersion ⊎ Hears config octets heard.Notification

-- ---- the text

-- how many octets AS numbers have (RFC 6793, 4.1)
abbrev pub width_text : Bool → List ℕ
width_text as4 =
    if as4 then codes ", AS numbers of 4 octets, " else codes ", AS numbers of 2 octets, "

-- the families that are in use
abbrev pub in_use_text : Families → List ℕ
in_use_text families =
    if families.v4 || families.v6 then families_name families else codes "no address family"

-- what both OPENs settle: the Hold Time, the width of AS numbers, and the families in use
unfoldable pub link_text : Link → List ℕ
link_text link =
    codes ": valid; the session then has Hold Time " ++ (decimal link.hold
    ++ (width_text link.as4 ++ in_use_text link.families))

-- a message that only some states take
abbrev pub unexpected_text : Fsm → List ℕ
unexpected_text state = codes ": unexpected in " ++ state_name (number_of state)

-- a KEEPALIVE is for OpenConfirm and Established
abbrev pub keepalive_text : Fsm → List ℕ
keepalive_text states.OpenConfirm = []
keepalive_text states.Established = []
keepalive_text state = unexpected_text state

abbrev pub update_text : Fsm → List ℕ
update_text states.Established = []
update_text state = unexpected_text state

-- what it asks for, where the peer's AS number may be free
abbrev pub asked_text : Bool → Fsm → Received → List ℕ
asked_text is_free state FaultyHeader = []
asked_text is_free state (ValidOpen link) = link_text link
asked_text is_free state (InvalidOpen reasons) =
    codes ": invalid; it has " ++ reasons_text is_free reasons
asked_text is_free state Update = update_text state
asked_text is_free state Keepalive = keepalive_text state
asked_text is_free state Notification = codes ": ends the session"

-- where it stands, and its name
unfoldable pub received_text : ℕ → Place → MessageName → List ℕ
received_text first place name =
    codes "last received: " ++ (place_at first place ++ (codes ", " ++ name_text name))

-- and what it asks for
unfoldable pub last_received_line : Style → Place → Asked → List ℕ
last_received_line style place asked =
    codes "  " ++ (received_text style.first place asked.name
    ++ (asked_text style.peer_as_is_free asked.state asked.message ++ codes "\n"))
