-- What is an octet on the wire is one: in an item that may come, and in what a message lacks.
use Rattle.std.specs.Prelude.{◌<◌, ⊤, ℕ, Option, None, Some, All, map}
use Rattle.bgp_wire.specs.Octets.{AreOctets}
use Rattle.bgp_parts.specs.UpdateParts.{Faulty, Part, shown_part}
use Rattle.bgp_parts.specs.declared.notification.NotificationPart.{NotificationPart}
use Rattle.bgp_parts.specs.declared.notification.NotificationPart.TheVariants as parts
use Rattle.bgp_why.specs.declared.items.Item.{Item}
use Rattle.bgp_why.specs.declared.items.Item.TheVariants.{HeaderErrors}
use Rattle.bgp_why.specs.declared.lacks.Lacks as declared
use Rattle.bgp_why.specs.declared.lacks.Lacks.TheVariants.{Nothing, Open, Update}
use Rattle.bgp_why.specs.declared.lacks.Lacks.TheVariants.{Notification}

abbrev pub IsOctetIfAny : Option ℕ → Type 0
IsOctetIfAny None = ⊤
IsOctetIfAny (Some octet) = octet < 256

-- the type of a header at fault
abbrev pub IsItem : Item → Type 0
IsItem (HeaderErrors errors) = IsOctetIfAny errors.kind
IsItem item = ⊤

-- the value of an attribute at fault
abbrev pub HasOctets : Part → Type 0
HasOctets (Faulty a fault) = AreOctets a.value
HasOctets part = ⊤

-- data of a NOTIFICATION
abbrev pub IsWord : Option NotificationPart → Type 0
IsWord None = ⊤
IsWord (Some (parts.Subcode subcode)) = ⊤
IsWord (Some (parts.Data octets)) = AreOctets octets.now

abbrev pub AreLacks : {X : Type 0} → declared.Lacks X → Type 0
AreLacks Nothing = ⊤
AreLacks (Open parts) = ⊤
AreLacks (Update parts) = All HasOctets (map shown_part parts.items)
AreLacks (Notification code parts) = IsWord parts.part
