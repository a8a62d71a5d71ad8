-- The link on which the local system sends, as a session's records tell it.
use Rattle.std.specs.Prelude.{List, [], ◌∷◌, Option, None, Some}
use Rattle.bgp_prefix.specs.Shown.{ShownRecord}
use Rattle.bgp_open.specs.declared.config.Config.{Config}
use Rattle.bgp_open.specs.declared.link.Link.{Link}
use Rattle.bgp_machine.specs.declared.fsm.Fsm.{Fsm}
use Rattle.bgp_machine.specs.declared.fsm.Fsm.TheVariants as fsms
use Rattle.bgp_judge.specs.Told.{Told, fresh_told, link_told, told_next}

-- What both OPENs settled, in OpenConfirm and Established. In Idle it is what stood before, since
-- the NOTIFICATION that ends a session may be shown after its change of state.
abbrev pub link_in : Fsm → Option Link → Link → Option Link
link_in fsms.Idle before link = before
link_in fsms.Connect before link = None
link_in fsms.Active before link = None
link_in fsms.OpenSent before link = None
link_in fsms.OpenConfirm before link = Some link
link_in fsms.Established before link = Some link

abbrev pub link_next : Config → Told → Option Link → Option Link
link_next config t before = link_in t.fsm before (link_told config t)

-- record after record
abbrev pub link_from : Config → Told → Option Link → List ShownRecord → Option Link
link_from config t before [] = before
link_from config t before (shown ∷ records) =
    link_from config (told_next t shown) (link_next config (told_next t shown) before) records

-- the link on which a message is sent that follows the records
abbrev pub sending_link : Config → List ShownRecord → Option Link
sending_link config records = link_from config fresh_told None records
