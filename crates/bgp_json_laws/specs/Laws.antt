-- What the laws of objects say: equal objects are of equal octets.
use Rattle.std.specs.Prelude.{◌≡◌, ◌<◌, ℕ, List}
use Rattle.json.specs.Json.{Json}
use Rattle.bgp_wire.specs.Octets.{AreOctets}
use Rattle.bgp_wire.specs.declared.header.Limit.{Limit}
use Rattle.bgp_open.specs.Triplet.{Triplet}
use Rattle.bgp_attr.specs.Field.{Attribute}
use Rattle.bgp_text.specs.Message.{Message, Says}
use Rattle.bgp_values.specs.declared.opens.Reading.{Reading}
use Rattle.bgp_json_values.specs.AttributeJson.{attribute_json}
use Rattle.bgp_json_values.specs.CapabilityJson.{capability_json}
use Rattle.bgp_json.specs.MessageJson.{message_json}
use Rattle.bgp_json.specs.RecordJson.{IsMessageJson}
use Rattle.bgp_json.specs.declared.place.Place.{Place}

-- a capability has a code and a value of octets
pub record IsTriplet (c : Triplet) : Type 0 where
  pub code : c.code < 256
  pub value : AreOctets c.value

-- an attribute has flags, a type and a value of octets
pub record IsAttribute (a : Attribute) : Type 0 where
  pub flags : a.flags < 256
  pub kind : a.kind < 256
  pub value : AreOctets a.value

-- two capabilities with one object are one
abbrev pub CapabilitiesDiffer : Type 0
CapabilitiesDiffer =
    (c d : Triplet) → IsTriplet c → IsTriplet d → capability_json c ≡ capability_json d → c ≡ d

-- two attributes with one object are one, however each is read
abbrev pub AttributesDiffer : Type 0
AttributesDiffer =
    (reading other : Reading) (a b : Attribute) → IsAttribute a → IsAttribute b
    → attribute_json reading a ≡ attribute_json other b → a ≡ b

-- octets with one object are the same, however they are read and wherever they stand
abbrev pub MessagesDiffer : Type 0
MessagesDiffer =
    (reading other : Reading) (place also : Place) (octets others : List ℕ)
    (message another : Message) → AreOctets octets → AreOctets others
    → Says reading.form octets message → Says other.form others another
    → message_json reading place octets message ≡ message_json other also others another
    → octets ≡ others

-- octets with one object are the same, whether it is a message's or that of a header with faults
abbrev pub ObjectsDiffer : Type 0
ObjectsDiffer =
    (reading other : Reading) (limit also : Limit) (place elsewhere : Place)
    (octets others : List ℕ) (value : Json) → AreOctets octets → AreOctets others
    → IsMessageJson reading limit place octets value
    → IsMessageJson other also elsewhere others value → octets ≡ others
