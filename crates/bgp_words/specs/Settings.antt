-- What `judge` and `speak` are told of a session and of its local system.
use Rattle.std.specs.Prelude.{◌≡◌, not, List, codes}
use Rattle.clap.specs.Words.{Row}
use Rattle.bgp_prefix.specs.Address.{family_of}
use Rattle.bgp_prefix.specs.Notation.{IsAddressText}
use Rattle.bgp_prefix.specs.declared.session.Session.{Session}
use Rattle.bgp_prefix.specs.declared.session.RouteRefresh.{RouteRefresh}
use Rattle.bgp_open.specs.declared.config.ConfigParts.{ConfigParts}
use Rattle.bgp_words.specs.Values.{IsValue, IsPositiveText, IsHoldText, IsIdentifierText}
use Rattle.bgp_words.specs.Values.{IsFamiliesText, is_given}
use Rattle.bgp_words.specs.Offers.{IsOffered}

-- The session between two addresses, where the local system offers route refresh so, or not;
-- `--extended`: it offers extended messages
pub record IsSession (session : Session) (offers : RouteRefresh) (rows : List Row) : Type 0 where
  pub peer : IsValue IsAddressText (codes "peer") rows session.peer
  pub local : IsValue IsAddressText (codes "local") rows session.local
  pub refresh : session.refresh ≡ offers
  pub extended : session.extended ≡ is_given (codes "extended") rows

-- both addresses are of one family
abbrev pub IsOfOneFamily : Session → Type 0
IsOfOneFamily session = family_of session.peer ≡ family_of session.local

-- the parts of a configuration; `--as2`: four-octet AS numbers aren't offered; `--offers`, which
-- `judge` alone has: what the OPEN offers about routes
pub record AreParts (parts : ConfigParts) (refresh : RouteRefresh) (rows : List Row) : Type 0 where
  pub local_as : IsValue IsPositiveText (codes "local-as") rows parts.local_as
  pub peer_as : IsValue IsPositiveText (codes "peer-as") rows parts.peer_as
  pub local_id : IsValue IsIdentifierText (codes "local-id") rows parts.local_id
  pub hold : IsValue IsHoldText (codes "hold") rows parts.hold
  pub families : IsValue IsFamiliesText (codes "families") rows parts.families
  pub as4 : parts.as4 ≡ not (is_given (codes "as2") rows)
  pub delay_open : parts.delay_open ≡ is_given (codes "delay-open") rows
  pub large_hold : IsValue IsPositiveText (codes "large-hold") rows parts.large_hold
  pub session : IsSession parts.session refresh rows
  pub offers : IsOffered (codes "offers") rows parts.offers
