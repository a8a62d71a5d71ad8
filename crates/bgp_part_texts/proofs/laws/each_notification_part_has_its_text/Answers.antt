use Rattle.bgp_part_texts.specs.Notifications.{HasWord, said}
use Rattle.bgp_why_parts.specs.Notifications.{notification_parts_text}
use Rattle.bgp_part_texts.proofs.NotificationParts.{notification_ascii, one_notification}
use Rattle.bgp_part_texts.proofs.Shown.{as_shown}
use Rattle.bgp_part_texts.proofs.laws.each_notification_part_has_its_text.Goals as goal

pub returns : goal.returns
returns c =
    let whole = one_notification c.each_code_has_its_text.ensures.short in
    record {
      whole = whole;
      shown = λ code small. as_shown HasWord (notification_parts_text code) said (notification_ascii code small) (whole code small);
    }
