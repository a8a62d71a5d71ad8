use Rattle.std.proofs.Common.{◌<◌, ◌^◌, length, rules}
use Rattle.std.proofs.lemmas.List.{length-map}
use Rattle.std.proofs.lemmas.List.Elements.{All-map}
use Rattle.bgp_judge.specs.Ends.{end_value}
use Rattle.bgp_check_laws.specs.Ranges.{IsEnding}
use Rattle.bgp_check_laws.proofs.fits.endings_are.Goals as goal

pub returns : goal.returns
returns g c =
    let few : length c.args.ends.now < 2 ^ 64 = search rules in
    record { count = rw length-map few; each = All-map IsEnding end_value c.args.ends.now c.each_ending_is.ensures }
