use Rattle.clap.specs.Words.{found_of, rows_of}
use Rattle.bgp_words.proofs.SameParts.{config_read}
use Rattle.bgp_words.proofs.settings.config_of.Goals as goal

pub returns : goal.returns
returns c =
    config_read (rows_of (found_of c.args.matches.now)) c.args.refresh c.in_ok-parts.parts c.in_ok-parts.ensures c.new.result
    c.new.ensures.some c.new.ensures.none _ c.ok_or.result c.ok_or.ensures.value
