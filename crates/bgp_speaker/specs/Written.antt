-- What a core shows can be written as a capture of its session (RFC 6396, 4.4).
use Rattle.std.specs.Prelude.{◌≡◌, ◌<◌, ◌^◌, ℕ, List}
use Rattle.std.specs.List.{AllByRecursion}
use Rattle.bgp_prefix.specs.Address.{family_of, IsAddress}
use Rattle.bgp_prefix.specs.Shown.{ShownRecord}
use Rattle.bgp_prefix.specs.declared.session.Session.{Session}
use Rattle.bgp_prefix.specs.declared.session.RouteRefresh.TheVariants as refreshes
use Rattle.mrt.specs.Written.{CanBeCaptured, AreInOrder}
use Rattle.bgp_speaker.specs.declared.speaker.Speaker.{Speaker}
use Rattle.bgp_speaker.specs.Choosing.{Drives}
use Rattle.bgp_speaker.specs.Core.{CoreState, InputValue, fresh_core}

-- A session whose captures can have all that a core shows: both addresses are of one family, and no
-- ROUTE-REFRESH is refused or passed over, since the peer may send one all the same.
pub record TakesAll (session : Session) : Type 0 where
  pub family : family_of session.peer ≡ family_of session.local
  pub peer : IsAddress session.peer
  pub local : IsAddress session.local
  pub refresh : session.refresh ≡ refreshes.NotOffered

-- each record can be written, where the seconds of the inputs fit their field, and a message may be
-- as long in the session's captures as the core hears one (RFC 8654, 4)
abbrev pub EachRecordCanBeWritten : Type 0
EachRecordCanBeWritten =
    (session : Session) (speaker : Speaker) (e : CoreState) (inputs : List (ℕ × InputValue))
    (records : List ShownRecord)
    → TakesAll session → session.extended ≡ speaker.config.parts.session.extended
    → AllByRecursion (λ x. x.0 < 2 ^ 32) inputs
    → Drives (fresh_core speaker) inputs records e
    → AllByRecursion (CanBeCaptured session) records

-- the seconds of the records begin at the last input's before them, and don't go back
abbrev pub SecondsStayInOrder : Type 0
SecondsStayInOrder =
    (s e : CoreState) (inputs : List (ℕ × InputValue)) (records : List ShownRecord)
    → Drives s inputs records e
    → AreInOrder s.second records
