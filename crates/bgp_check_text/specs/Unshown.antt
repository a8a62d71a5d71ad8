-- What of the octets of a connection is in no message that is judged, and the notes on it.
use Rattle.std.specs.Prelude.{◌++◌, ℕ, Bool, List, [], codes, if◌then◌else◌, nat_lt}
use Rattle.std.specs.Fmt.{decimal}
use Rattle.bgp_recording.specs.declared.framing.Rest.{Rest}
use Rattle.bgp_recording.specs.declared.framing.Rest.TheVariants.{BehindFault, Short}
use Rattle.bgp_recording.specs.declared.framing.Unshown.{Unshown}

-- so many ROUTE-REFRESHes (RFC 2918) of a direction aren't judged, if some aren't
unfoldable pub passed_note : List ℕ → ℕ → List ℕ
passed_note way count =
    if nat_lt 0 count
    then codes "  note: ROUTE-REFRESH messages " ++ (way ++ (codes ", not judged: "
    ++ (decimal count ++ codes "\n")))
    else []

-- of those that were received, and of those that were sent
abbrev pub passed_notes : ℕ → ℕ → List ℕ
passed_notes received sent =
    passed_note (codes "received") received ++ passed_note (codes "sent") sent

-- so many octets at the end of a direction are no whole message, if some are
unfoldable pub short_note : List ℕ → ℕ → List ℕ
short_note way count =
    if nat_lt 0 count
    then codes "  note: octets " ++ (way ++ (codes " of an incomplete last message: "
    ++ (decimal count ++ codes "\n")))
    else []

-- what ends the messages
abbrev pub end_name : Bool → List ℕ
end_name is_refresh =
    if is_refresh then codes "ROUTE-REFRESH" else codes "faulty header"

-- or so many octets after that aren't read, which stands at this place
unfoldable pub behind_note : List ℕ → ℕ → ℕ → Bool → List ℕ
behind_note way place count is_refresh =
    if nat_lt 0 count
    then codes "  note: octets " ++ (way ++ (codes " after the " ++ (end_name is_refresh
    ++ (codes " at octet " ++ (decimal place ++ (codes ", not read: "
    ++ (decimal count ++ codes "\n")))))))
    else []

-- what is left of its octets, if something is
abbrev pub rest_note : List ℕ → Rest → List ℕ
rest_note way (Short count) = short_note way count
rest_note way (BehindFault place count is_refresh) = behind_note way place count is_refresh

-- of both directions what isn't judged, and then what is left
abbrev pub unshown_notes : Unshown → Unshown → List ℕ
unshown_notes received sent =
    passed_notes received.passed_over sent.passed_over
    ++ (rest_note (codes "received") received.rest ++ rest_note (codes "sent") sent.rest)
