use Rattle.std.proofs.Common.{◌++◌, codes, refl}
use Rattle.bgp_text.proofs.Pieces.{Joins, and_then}
use Rattle.bgp_lines.proofs.TellerForms.{named_at}
use Rattle.bgp_lines.proofs.teller.Teller.put_record.Goals as goal

pub returns-in-Plain-clause-line : goal.returns-in-Plain-clause-line
returns-in-Plain-clause-line g c = λ before known. rw c.in-Plain.is c.put_record.ensures

pub returns-in-Plain-clause-knows : goal.returns-in-Plain-clause-knows
returns-in-Plain-clause-knows g c = λ before known. rw c.in-Plain.is tt

pub returns-in-Names-clause-line : goal.returns-in-Names-clause-line
returns-in-Names-clause-line g c = λ before known.
    let law : Joins g.W.Sink = record { joined = g.met.W.Sink.joined } in
    let (text, names, wrote) = c.put_named_record.ensures in
    rw c.in-Names.is (
      text ++ codes "\n",
      (text, named_at c.args.session.now before c.args.self.now.opens _ _ _ text (rw c.in-Names.is at known) names, refl),
      and_then law wrote c.put.ensures,
    )

pub returns-in-Names-clause-knows : goal.returns-in-Names-clause-knows
returns-in-Names-clause-knows g c = λ before known.
    rw c.in-Names.is (c.take_record.ensures before (rw c.in-Names.is at known))
