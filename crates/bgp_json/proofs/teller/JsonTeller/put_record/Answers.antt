use Rattle.std.proofs.Common.{refl}
use Rattle.bgp_json.specs.Object.{json_line}
use Rattle.bgp_json.proofs.ShownAt.{shown_at}
use Rattle.bgp_json.proofs.teller.JsonTeller.put_record.Goals as goal

pub returns-clause-line : goal.returns-clause-line
returns-clause-line g c = λ before known.
    let (value, shows, wrote) = c.put_shown.ensures in
    (json_line value, (value, shown_at c.args.session.now before c.args.self.now.opens _ _ _ _ value known shows, refl), wrote)

pub returns-clause-knows : goal.returns-clause-knows
returns-clause-knows g c = λ before known. c.take_record.ensures before known
