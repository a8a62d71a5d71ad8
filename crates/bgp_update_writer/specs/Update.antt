-- What an UPDATE is to say: prefixes of one family are reachable by a path, or no more.
use Rattle.std.specs.Prelude.{List}
use Rattle.bgp_prefix.specs.declared.family.Family.{Family}
use Rattle.bgp_prefix.specs.Prefix.{PrefixBits}
use Rattle.bgp_path.specs.Path.{PathValue}
use Rattle.bgp_update_writer.specs.declared.update.Update.{Update}
use Rattle.bgp_update_writer.specs.declared.update.Update.TheVariants.{Announce, Withdraw}

pub data UpdateValue : Type 0 where
  Announces : Family → List PrefixBits → PathValue → UpdateValue
  Withdraws : Family → List PrefixBits → UpdateValue

-- what the code's `Update` says, which borrows
abbrev pub update_value : {X : Type 0} → Update X → UpdateValue
update_value (Announce family prefixes path) = Announces family prefixes.now path.now
update_value (Withdraw family prefixes) = Withdraws family prefixes.now

abbrev pub family_of_update : UpdateValue → Family
family_of_update (Announces family prefixes path) = family
family_of_update (Withdraws family prefixes) = family
