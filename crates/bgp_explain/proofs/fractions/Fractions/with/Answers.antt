use Rattle.std.proofs.Common.{◌++◌, ◌∷◌, [], subst, sym}
use Rattle.bgp_explain.specs.declared.fractions.NumberedRecord.{NumberedRecord}
use Rattle.bgp_explain.specs.Fractions.{IsKept}
use Rattle.bgp_explain.proofs.FractionsKept.{kept_more}
use Rattle.bgp_explain.proofs.fractions.Fractions.with.Goals as goal

pub returns : goal.returns
returns c = λ micros before number after are.
    let names = c.args.names in
    let all = micros ++ c.args.micro ∷ [] in record {
      told_by = subst (λ (k : NumberedRecord). IsKept all names.told_by k) (sym c.kept_after.ensures)
          (kept_more micros c.args.micro c.args.number number before.told_by names.told_by c.args.self.told_by after.told_by are.told_by);
      last_received = subst (λ (k : NumberedRecord). IsKept all names.last_received k) (sym c.kept_after-2.ensures)
          (kept_more micros c.args.micro c.args.number number before.last_received names.last_received c.args.self.last_received after.last_received are.last_received);
      notification = subst (λ (k : NumberedRecord). IsKept all names.notification k) (sym c.kept_after-3.ensures)
          (kept_more micros c.args.micro c.args.number number before.notification names.notification c.args.self.notification after.notification are.notification);
      impossible = subst (λ (k : NumberedRecord). IsKept all names.impossible k) (sym c.kept_after-4.ensures)
          (kept_more micros c.args.micro c.args.number number before.impossible names.impossible c.args.self.impossible after.impossible are.impossible);
    }
