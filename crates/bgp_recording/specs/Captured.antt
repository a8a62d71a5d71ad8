-- The made records as a capture.
use Rattle.std.specs.Prelude.{◌≡◌, ℕ, List, map}
use Rattle.std.specs.List.{AllByRecursion}
use Rattle.bgp_prefix.specs.Address.{family_of, IsAddress}
use Rattle.bgp_prefix.specs.Shown.{ShownRecord, Received, Sent, Changed}
use Rattle.bgp_prefix.specs.declared.session.RouteRefresh.TheVariants.{Refused}
use Rattle.bgp_prefix.specs.declared.session.Session.{Session}
use Rattle.mrt.specs.Capture.{Spells}
use Rattle.mrt.specs.Reader.{shown_of}
use Rattle.mrt.specs.Rules.{IsRouteRefresh}
use Rattle.mrt.specs.Written.{capture_octets}
use Rattle.streams.specs.declared.connection.Connection.{Connection}
use Rattle.bgp_recording.specs.declared.entry.Entry.{Entry}
use Rattle.bgp_recording.specs.declared.framing.Unshown.{Unshown}
use Rattle.bgp_recording.specs.Pieces.{framings_of}
use Rattle.bgp_recording.specs.Recorded.{IsRecorded}

abbrev pub records_of : List Entry → List ShownRecord
records_of entries = map (λ entry. shown_of entry.record) entries

-- its message isn't a ROUTE-REFRESH
abbrev pub IsNoRefresh : ShownRecord → Type 0
IsNoRefresh (Received second octets) = ¬ IsRouteRefresh octets
IsNoRefresh (Sent second octets) = ¬ IsRouteRefresh octets
IsNoRefresh (Changed second old new) = Unit {0}

-- Both addresses are of one family, and the numbers fit their fields.
pub record CanBeNamed (session : Session) : Type 0 where
  pub family : family_of session.peer ≡ family_of session.local
  pub peer : IsAddress session.peer
  pub local : IsAddress session.local

-- The records that tell a connection, its messages framed by the session's rules, read back as just
-- these, by whatever AS numbers they are written; unless the session refuses a ROUTE-REFRESH, and
-- there is one. Where it passes over such messages, the reader has none to pass over.
abbrev pub MadeRecordsAreRead : Type 0
MadeRecordsAreRead =
    (session : Session) (peer_as local_as within : ℕ) (connection : Connection)
    (entries : List Entry) (received sent : Unshown) →
    CanBeNamed session →
    IsRecorded (framings_of session) within connection entries received sent →
    (session.refresh ≡ Refused → AllByRecursion IsNoRefresh (records_of entries)) →
    Spells session (capture_octets session peer_as local_as (records_of entries))
    (records_of entries)
