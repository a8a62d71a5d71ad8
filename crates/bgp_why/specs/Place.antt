-- Where a record stands, and its time.
use Rattle.std.specs.Prelude.{◌++◌, ℕ, List, [], Option, None, Some, codes}
use Rattle.std.specs.Fmt.{decimal}
use Rattle.bgp_clock.specs.When.{short_text, when_text}
use Rattle.bgp_why.specs.declared.place.Place.{Place}

-- the packet that shows it, or its number in the session
abbrev pub place_by : ℕ → Option ℕ → List ℕ
place_by number None = codes "record " ++ decimal number
place_by number (Some packet) = codes "packet " ++ decimal packet

abbrev pub place_text : Place → List ℕ
place_text place = place_by place.number place.packet

-- and its time, without the date if the day is that of this second
unfoldable pub place_at : ℕ → Place → List ℕ
place_at first place =
    place_text place ++ (codes ", " ++ short_text first place.second place.micro)

-- the packet, if there is one
abbrev pub packet_text : Option ℕ → List ℕ
packet_text None = []
packet_text (Some packet) = codes ", packet " ++ decimal packet

-- the number, the packet if there is one, and the time with its date, in UTC
unfoldable pub record_text : Place → List ℕ
record_text place =
    codes "record " ++ (decimal place.number ++ (packet_text place.packet
    ++ (codes ", " ++ (when_text place.second place.micro ++ codes " UTC: "))))
