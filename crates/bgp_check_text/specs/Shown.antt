-- Whether a capture can hold records, and as of which session each is told.
use Rattle.std.specs.Prelude.{Bool, true, false, ℕ, List, Option, None, Some, slice_get}
use Rattle.bgp_prefix.specs.Shown.{Sent, ShownRecord}
use Rattle.bgp_prefix.specs.declared.session.RouteRefresh.{RouteRefresh}
use Rattle.bgp_prefix.specs.declared.session.RouteRefresh.TheVariants.{NotOffered, PassedOver}
use Rattle.bgp_prefix.specs.declared.session.RouteRefresh.TheVariants.{Refused}
use Rattle.bgp_prefix.specs.declared.session.Session.{Session}
use Rattle.bgp_wire.specs.declared.header.Limit.{Limit}
use Rattle.bgp_wire.specs.declared.header.Limit.TheVariants.{Extended, Plain}
use Rattle.mrt.specs.Rules.{IsRouteRefresh, IsWholeRefresh}
use Rattle.mrt.specs.Written.{IsAllowed}
use Rattle.bgp_judge.specs.Verdict.{No, Unfinished, VerdictValue, Yes}

-- a ROUTE-REFRESH that no capture of a session holds, by what is said of these
abbrev pub IsNotHeld : RouteRefresh → List ℕ → Type 0
IsNotHeld NotOffered octets = ⊥
IsNotHeld Refused octets = IsRouteRefresh octets
IsNotHeld PassedOver octets = IsWholeRefresh octets

-- ---- a message is as long as its receiver allows (RFC 8654, 4)

abbrev pub is_extended : Limit → Bool
is_extended Plain = false
is_extended Extended = true

-- what was received by the limit of the session, and what was sent by this one
abbrev pub session_for : Session → Limit → ShownRecord → Session
session_for session sent (Sent second octets) = record session { extended = is_extended sent }
session_for session sent shown = session

-- the capture of that session can hold it
abbrev pub CanBeTold : Session → Limit → ShownRecord → Type 0
CanBeTold session sent shown = IsAllowed (session_for session sent shown) None shown

-- of a no that of its record
abbrev pub session_by : Session → Limit → Option ShownRecord → Session
session_by session sent None = session
session_by session sent (Some shown) = session_for session sent shown

abbrev pub session_at : Session → Limit → List ShownRecord → VerdictValue → Session
session_at session sent records (Yes ends) = session
session_at session sent records (No count) = session_by session sent (slice_get records count)
session_at session sent records Unfinished = session
