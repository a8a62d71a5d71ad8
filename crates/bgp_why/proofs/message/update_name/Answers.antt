use Rattle.std.proofs.Common.{ap, sym}
use Rattle.bgp_text.specs.Message.{malformed_update_message, update_message}
use Rattle.bgp_text.proofs.OneMessage.{one_message}
use Rattle.bgp_update.specs.Parts.{parts_of}
use Rattle.bgp_why.specs.Message.{name_of}
use Rattle.bgp_why.proofs.message.update_name.Goals as goal

pub returns-in-Some : goal.returns-in-Some
returns-in-Some c message says =
    ap name_of (sym (one_message c.args.form c.args.frame.now message (update_message (parts_of c.in-Some.field-0)) says (c.requires, c.in-Some.ensures.some)))

pub returns-in-None : goal.returns-in-None
returns-in-None c message says =
    ap name_of (sym (one_message c.args.form c.args.frame.now message malformed_update_message says (c.requires, c.in-None.ensures.none)))
