use Rattle.std.proofs.Common.{ap, sym}
use Rattle.bgp_text.specs.Message.{notification_message}
use Rattle.bgp_text.proofs.OneMessage.{one_message}
use Rattle.bgp_why.specs.Message.{name_of}
use Rattle.bgp_why.proofs.Named.{no_notification}
use Rattle.bgp_why.proofs.message.notification_name.Goals as goal

pub returns-in-Some : goal.returns-in-Some
returns-in-Some c form message says =
    ap name_of (sym (one_message form c.args.frame.now message (notification_message c.in-Some.message.code c.in-Some.message.subcode c.in-Some.message.detail.now) says (c.requires, c.in-Some.ensures.some)))

pub returns-in-None : goal.returns-in-None
returns-in-None c form message says = absurd (no_notification form c.args.frame.now message says c.requires c.in-None.ensures.none)
