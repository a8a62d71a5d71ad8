-- The link on which the local system sends, and what both OPENs offer about routes, by what is kept
-- record by record.
use Rattle.std.specs.Prelude.{◌≡◌, ℕ, List, Option, None, Some}
use Rattle.bgp_prefix.specs.Shown.{ShownRecord}
use Rattle.bgp_open.specs.declared.config.Config.{Config}
use Rattle.bgp_open.specs.declared.link.Link.{Link}
use Rattle.bgp_open.specs.Link.{link_of}
use Rattle.bgp_open.specs.Open.{open_of}
use Rattle.bgp_machine.specs.declared.fsm.Fsm.{Fsm}
use Rattle.bgp_machine.specs.declared.fsm.Fsm.TheVariants as fsms
use Rattle.bgp_judge.specs.Told.{told}
use Rattle.bgp_reason.specs.Sending.{sending_link}
use Rattle.bgp_explain.specs.declared.sending.Sending.{Sending}
use Rattle.bgp_explain.specs.Offers.{AreOffersAt, no_offers}
use Rattle.bgp_explain.specs.Settled.{IsGoodOpen}

-- before the first record
abbrev pub nothing_sending : Sending
nothing_sending = record { offered = None; link = None; offers = no_offers }

-- what a message settles, where it is an OPEN that need not be refused
abbrev pub IsOffered : Config → List ℕ → Option Link → Type 0
IsOffered config octets None = ¬ IsGoodOpen config octets
IsOffered config octets (Some link) = link ≡ link_of config (open_of octets)

-- In OpenConfirm and Established it is what was offered, in Idle what stood before, since the
-- NOTIFICATION that ends a session may be shown after its change of state.
abbrev pub link_by : Fsm → Option Link → Option Link → Option Link
link_by fsms.Idle before offered = before
link_by fsms.Connect before offered = None
link_by fsms.Active before offered = None
link_by fsms.OpenSent before offered = None
link_by fsms.OpenConfirm before offered = offered
link_by fsms.Established before offered = offered

-- what the records tell
pub record IsSendingAt (config : Config) (records : List ShownRecord) (sending : Sending)
    : Type 0 where
  pub offered : IsOffered config (told records).peer_open sending.offered
  pub link : sending.link ≡ sending_link config records
  pub offers : AreOffersAt records sending.offers
