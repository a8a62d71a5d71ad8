use Rattle.std.proofs.Common.{◌≡◌, sym, append-nil, rules}
use Rattle.bgp_prefix.specs.declared.family.Family.TheVariants.{V4}
use Rattle.bgp_update_writer.specs.Update.{Withdraws, update_value}
use Rattle.bgp_update_writer.proofs.writing.put_attributes.Goals as goal

pub returns-in-Withdraw-V4-default-clause-items : goal.returns-in-Withdraw-V4-default-clause-items
returns-in-Withdraw-V4-default-clause-items g c =
    let is : update_value c.args.update.now ≡ Withdraws V4 c.in-Withdraw-V4-default.prefixes.now = search rules in
    rw is (sym (append-nil c.args.out.now.items))
