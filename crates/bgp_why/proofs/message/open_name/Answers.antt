use Rattle.std.proofs.Common.{ap, refl, sym}
use Rattle.bgp_open.specs.Open.{open_of}
use Rattle.bgp_text.specs.Message.{malformed_open_message, open_message}
use Rattle.bgp_text.proofs.OneMessage.{one_message}
use Rattle.bgp_why.specs.Message.{name_of}
use Rattle.bgp_why.proofs.message.open_name.Goals as goal

pub returns-in-Ok : goal.returns-in-Ok
returns-in-Ok c form message says =
    ap name_of (sym (one_message form c.args.frame.now message (open_message (open_of c.args.frame.now)) says (c.requires, c.in-Ok.ensures.ok, refl)))

pub returns-in-Err : goal.returns-in-Err
returns-in-Err c form message says =
    ap name_of (sym (one_message form c.args.frame.now message (malformed_open_message c.in-Err.field-0) says (c.requires, c.in-Err.ensures.err)))
