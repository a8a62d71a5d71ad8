use Rattle.std.proofs.Common.{arith}
use Rattle.bgp_update.specs.Fields.{sections_of}
use Rattle.bgp_update.specs.Surveyed.{found_by}
use Rattle.bgp_update.proofs.CleanWords.{clean_by}
use Rattle.bgp_update.proofs.clean.is_clean.Goals as goal

pub returns : goal.returns
returns c =
    record { clean = clean_by c.args.link.now c.args.octets.now (omega (arith, c.most_octets.ensures)) (sections_of c.in-Some.fields) (found_by c.survey_of.result) c.is_clean.result c.in-Some.ensures.some c.survey_of.ensures.found c.is_clean.ensures }
