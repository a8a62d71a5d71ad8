-- What could have stood in the place of the first impossible record.
use Rattle.std.proofs.Common.{List, take, subst, sym}
use Rattle.bgp_prefix.specs.Shown.{ShownRecord}
use Rattle.bgp_machine.specs.Run.{Begins}
use Rattle.bgp_reason.specs.Reasons.{SomethingMayFollow}
use Rattle.bgp_explain.specs.Laws.{CouldHaveStood}

pub could_have_stood : SomethingMayFollow → CouldHaveStood
could_have_stood something config records count possible verdict are =
    let before = take count records in
    let other = something config before verdict.1 in record {
      each = λ shown can. ((are shown can).1, (are shown can).0);
      not_this = λ shown can this among. verdict.2 (subst (λ (v : List ShownRecord). Begins config v) (sym this) ((are shown can).1 among));
      some = (other.0, other.1, (are other.0 other.1).0 other.2);
    }
