use Rattle.bgp_update_writer.specs.Applied.{changes_of_update}
use Rattle.bgp_update_writer.specs.Update.{update_value}
use Rattle.bgp_update_writer.specs.Written.{update_octets}
use Rattle.bgp_speaker.proofs.ToldPrefix.{says_all}
use Rattle.bgp_speaker.proofs.saying.written.Goals as goal

pub returns-in-Ok : goal.returns-in-Ok
returns-in-Ok g c =
    says_all c.args.link.now (changes_of_update (update_value c.args.update.now)) c.new-octets.result.items c.write_update.new.out.items
    (update_octets c.args.link.now (update_value c.args.update.now)) c.new-octets.ensures.items c.in-Ok.ensures.ok c.requires.short
    c.in-Ok.ensures.frame c.in-Ok.ensures.clean c.in-Ok.ensures.outcome
