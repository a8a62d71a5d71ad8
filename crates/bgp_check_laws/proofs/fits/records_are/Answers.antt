use Rattle.std.proofs.Common.{◌<◌, ◌^◌, length, rules}
use Rattle.std.proofs.lemmas.List.{length-map}
use Rattle.std.proofs.lemmas.List.Elements.{All-map}
use Rattle.mrt_sessions.specs.Located.{located}
use Rattle.bgp_check_laws.specs.Ranges.{IsRecord}
use Rattle.bgp_check_laws.proofs.fits.records_are.Goals as goal

pub returns : goal.returns
returns c =
    let few : length c.args.records.now < 2 ^ 64 = search rules in
    record { each = All-map IsRecord located c.args.records.now c.each_record_is.ensures; count = rw length-map few }
