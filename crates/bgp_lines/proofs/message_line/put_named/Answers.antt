use Rattle.std.proofs.Common.{◌≡◌, sym}
use Rattle.bgp_wire.specs.Header.{header_of, type_of}
use Rattle.bgp_text.specs.Parts.{parts_of}
use Rattle.bgp_text.specs.Message.{malformed_open_message, update_message, malformed_update_message}
use Rattle.bgp_text.proofs.OneMessage.{one_message}
use Rattle.bgp_lines.proofs.message_line.put_named.Goals as goal

pub returns-in-Err : goal.returns-in-Err
returns-in-Err g c message says =
    let one : type_of (header_of c.args.frame.now) ≡ 1 = sym (rw c.in-Open.is at c.requires.kind) in
    rw (one_message c.args.reading.form c.args.frame.now message (malformed_open_message c.in-Err.fault) says (one, c.in-Err.ensures.err), sym c.body_of.ensures) c.put_malformed_open.ensures

pub returns-in-Some : goal.returns-in-Some
returns-in-Some g c message says =
    let two : type_of (header_of c.args.frame.now) ≡ 2 = sym (rw c.in-Update.is at c.requires.kind) in
    rw (one_message c.args.reading.form c.args.frame.now message (update_message (parts_of c.in-Some.parts)) says (two, c.in-Some.ensures.some)) c.put_update.ensures

pub returns-in-None : goal.returns-in-None
returns-in-None g c message says =
    let two : type_of (header_of c.args.frame.now) ≡ 2 = sym (rw c.in-Update.is at c.requires.kind) in
    rw (one_message c.args.reading.form c.args.frame.now message malformed_update_message says (two, c.in-None.ensures.none), sym c.body_of-in-None.ensures) c.put_malformed_update.ensures
