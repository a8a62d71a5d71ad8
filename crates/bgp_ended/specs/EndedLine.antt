-- The line that tells how a session ended.
use Rattle.std.specs.Prelude.{◌++◌, ℕ, List, [], Option, codes}
use Rattle.std.specs.Fmt.{decimal}
use Rattle.bgp_clock.specs.When.{short_text}
use Rattle.bgp_why.specs.Endpoint.{endpoint_text}
use Rattle.bgp_why.specs.declared.endpoint.Endpoint.{Endpoint}
use Rattle.bgp_ended.specs.HowText.{how_text}
use Rattle.bgp_ended.specs.Stretch.{EndedStretchValue}
use Rattle.bgp_ended.specs.Values.{EndedValue, HowValue, Notified, Closed, Fallen}

-- who ended it: a change to Idle is the local system's, and that isn't said
abbrev pub who_text : HowValue → Endpoint → List ℕ
who_text (Notified error) by = codes ", by " ++ endpoint_text by
who_text (Closed closing) by = codes ", by " ++ endpoint_text by
who_text (Fallen state) by = []

unfoldable pub who_and_how_text : HowValue → Endpoint → List ℕ
who_and_how_text how by = who_text how by ++ (codes ": " ++ (how_text how ++ codes "\n"))

-- the line of a connection, whose first packet has this second: a time of the same day stands
-- without its date
unfoldable pub ended_line : ℕ → Endpoint → EndedValue → List ℕ
ended_line first by ended =
    codes "  ended at packet " ++ (decimal ended.moment.packet ++ (codes ", "
    ++ (short_text first ended.moment.second ended.moment.micro
    ++ who_and_how_text ended.how by)))

-- that of a stretch, by the number of the record in its session, whose first record has this second,
-- and by the fraction of the record's second
unfoldable pub ended_stretch_line : ℕ → ℕ → Option ℕ → Endpoint → EndedStretchValue → List ℕ
ended_stretch_line first number micro by ended =
    codes "  ended at record " ++ (decimal number ++ (codes ", "
    ++ (short_text first ended.second micro ++ who_and_how_text ended.how by)))
