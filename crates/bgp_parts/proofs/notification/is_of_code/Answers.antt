use Rattle.std.proofs.Common.{◌∙◌, ap, sym}
use Rattle.bgp_wire.specs.ErrorCode.{error_code}
use Rattle.bgp_parts.proofs.PossibleNotifications.{has_header_errors, has_open_errors, has_update_errors}
use Rattle.bgp_parts.proofs.notification.is_of_code.Goals as goal

pub returns-in-Some-MessageHeader : goal.returns-in-Some-MessageHeader
returns-in-Some-MessageHeader c =
    has_header_errors c.args.possible.now c.args.code c.is_empty.result
    (sym c.in-Some-MessageHeader.ensures.known ∙ ap error_code c.in-Some-MessageHeader.field-0-is) c.is_empty.ensures

pub returns-in-Some-OpenMessage : goal.returns-in-Some-OpenMessage
returns-in-Some-OpenMessage c =
    has_open_errors c.args.possible.now c.args.code c.is_empty-in-Some-OpenMessage.result
    (sym c.in-Some-OpenMessage.ensures.known ∙ ap error_code c.in-Some-OpenMessage.field-0-is) c.is_empty-in-Some-OpenMessage.ensures

pub returns-in-Some-UpdateMessage : goal.returns-in-Some-UpdateMessage
returns-in-Some-UpdateMessage c =
    has_update_errors c.args.possible.now c.args.code c.is_empty-in-Some-UpdateMessage.result
    (sym c.in-Some-UpdateMessage.ensures.known ∙ ap error_code c.in-Some-UpdateMessage.field-0-is) c.is_empty-in-Some-UpdateMessage.ensures
