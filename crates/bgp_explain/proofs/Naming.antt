-- What the impossible record lacks is named.
use Rattle.std.proofs.Common.{List, ℕ, Option, None, Some, inl, inr, subst}
use Rattle.bgp_prefix.specs.Shown.{Received, Sent, Changed}
use Rattle.bgp_open.specs.declared.config.Config.{Config}
use Rattle.bgp_open.specs.declared.link.Link.{Link}
use Rattle.bgp_wire.specs.Framing.{IsFrame}
use Rattle.bgp_machine.specs.Want.{limit_on}
use Rattle.bgp_reason.specs.declared.kinds.Possible.{Possible}
use Rattle.bgp_reason.specs.Possible.{IsAmong}
use Rattle.bgp_reason.specs.Sending.{sending_link}
use Rattle.bgp_parts.specs.NotificationParts.{PossibleLacksNothing}
use Rattle.bgp_parts.specs.OwnOpenParts.{OwnOpenLacksNothing}
use Rattle.bgp_parts.specs.UpdateParts.{CleanLacksNothing}
use Rattle.bgp_explain.specs.Lacked.{Lacked, Nothing, Open, Update, Notification, SentLacks}
use Rattle.bgp_explain.specs.Laws.{IsItemThere, NamesNothing, NamesWhatLacks}

module _ (own : OwnOpenLacksNothing) (like : PossibleLacksNothing) (clean : CleanLacksNothing) (config : Config) (possible : Possible)
    (second : ℕ) (octets : List ℕ) where
  among : (link : Option Link) (lacked : Lacked) → IsFrame (limit_on link) octets → SentLacks config link possible second octets lacked
      → IsItemThere possible lacked → NamesNothing lacked → IsAmong config link possible (Sent second octets)
  among link Nothing frame lacks there none = absurd there
  among link (Open parts) frame lacks there none = (frame, inl (there, (own config octets parts lacks.1).0 none))
  among None (Update parts) frame lacks there none = absurd lacks.1
  among (Some l) (Update parts) frame lacks there none = (frame, inr (inr (inl (there, (clean.frame l octets parts lacks.1 frame).0 none))))
  among link (Notification code parts) frame lacks there none = (frame, inr (inr (inr ((like.parts possible second octets parts lacks.2.1).0 none))))

pub names_what_lacks : OwnOpenLacksNothing → PossibleLacksNothing → CleanLacksNothing → NamesWhatLacks
names_what_lacks own like clean config records possible (Received second octets) lacked are can stops whole lacks there none =
    subst (λ (v : Lacked). IsItemThere possible v) lacks there
names_what_lacks own like clean config records possible (Sent second octets) lacked are can stops whole lacks there none =
    stops ((are (Sent second octets) can).1 (among own like clean config possible second octets (sending_link config records) lacked whole lacks there none))
names_what_lacks own like clean config records possible (Changed second old new) lacked are can stops whole lacks there none =
    subst (λ (v : Lacked). IsItemThere possible v) lacks there
