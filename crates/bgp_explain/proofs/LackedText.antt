-- What a record lacks, and an UPDATE asks for, is what is told of it.
use Rattle.std.proofs.Common.{◌≡◌, ◌++◌, List, ℕ, refl, ap}
use Rattle.std.specs.Prelude.{Option}
use Rattle.bgp_prefix.specs.Shown.{ShownRecord, Received, Sent, Changed}
use Rattle.bgp_open.specs.declared.config.Config.{Config}
use Rattle.bgp_open.specs.declared.link.Link.{Link}
use Rattle.bgp_reason.specs.declared.kinds.Possible.{Possible}
use Rattle.bgp_why_parts.specs.declared.own_faults.OwnFaults.{OwnFaults}
use Rattle.bgp_why.specs.declared.applying.AskedUpdate.{AskedUpdate}
use Rattle.bgp_why.specs.declared.lacks.Lacks.{Lacks}
use Rattle.bgp_why.specs.declared.lacks.Lacks.TheVariants as lacks
use Rattle.bgp_why.specs.declared.message.MessageName.{MessageName}
use Rattle.bgp_why.specs.declared.place.Place.{Place}
use Rattle.bgp_why.specs.declared.style.Style.{Style}
use Rattle.bgp_why.specs.Applying.{last_update_line}
use Rattle.bgp_why.specs.Deed.{cause_text}
use Rattle.bgp_why.specs.Lacks.{AreLacks, AreSentLacks}
use Rattle.bgp_why.specs.Possible.{other_lines, possible_but_lines}
use Rattle.bgp_explain.specs.Lacked.{RecordLacks, SentLacks, following_lines, lacked_cause, lacked_of}
use Rattle.bgp_explain.specs.Updates.{asking_of, update_line}

pub same_lines : {X : Type 0} (style : Style) (p : Possible) (v : Lacks X)
    → possible_but_lines style p v ≡ following_lines style p (lacked_of v) ++ other_lines style.first p style.other_orders
same_lines style p lacks.Nothing = refl
same_lines style p (lacks.Open parts) = refl
same_lines style p (lacks.Update parts) = refl
same_lines style p (lacks.Notification code parts) = refl

pub same_cause : {X : Type 0} (faults : Option OwnFaults) (p : Possible) (v : Lacks X) → cause_text faults p v ≡ lacked_cause faults p (lacked_of v)
same_cause faults p lacks.Nothing = refl
same_cause faults p (lacks.Open parts) = refl
same_cause faults p (lacks.Update parts) = refl
same_cause faults p (lacks.Notification code parts) = refl

same_sent : {X : Type 0} (config : Config) (link : Option Link) (possible : Possible) (second : ℕ) (octets : List ℕ) (v : Lacks X)
    → AreSentLacks config link possible second octets v → SentLacks config link possible second octets (lacked_of v)
same_sent config link possible second octets lacks.Nothing is = is
same_sent config link possible second octets (lacks.Open parts) is = is
same_sent config link possible second octets (lacks.Update parts) is = is
same_sent config link possible second octets (lacks.Notification code parts) is = is

pub same_lacks : {X : Type 0} (config : Config) (link : Option Link) (possible : Possible) (shown : ShownRecord) (v : Lacks X)
    → AreLacks config link possible shown v → RecordLacks config link possible shown (lacked_of v)
same_lacks config link possible (Received second octets) v is = ap lacked_of is
same_lacks config link possible (Sent second octets) v is = same_sent config link possible second octets v is
same_lacks config link possible (Changed second old new) v is = ap lacked_of is

pub same_line : {X : Type 0} (style : Style) (place : Place) (name : MessageName) (asked : AskedUpdate X)
    → last_update_line style place name asked ≡ update_line style place name (asking_of asked)
unfolding last_update_line update_line
same_line style place name asked = refl
