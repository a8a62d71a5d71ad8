use Rattle.std.proofs.Common.{codes, refl}
use Rattle.bgp_names.specs.Errors.{code_names}
use Rattle.bgp_names.specs.States.{state_names}
use Rattle.bgp_names.specs.Families.{afi_names}
use Rattle.bgp_names.specs.Capabilities.{capability_names}
use Rattle.bgp_names.specs.Attributes.{attribute_names, attribute_words}
use Rattle.bgp_names.proofs.PlainNames.{named_plain, subcode_plain, error_plain, short_plain, family_plain, type_plain}
use Rattle.bgp_names.proofs.laws.each_name_is_plain.Goals as goal

pub returns : goal.returns
returns c = record {
  codes = named_plain (codes "code ") code_names refl refl;
  subcodes = subcode_plain;
  errors = error_plain;
  short_errors = short_plain;
  states = named_plain (codes "state ") state_names refl refl;
  families = family_plain;
  afis = named_plain (codes "afi ") afi_names refl refl;
  capabilities = named_plain (codes "capability ") capability_names refl refl;
  attributes = named_plain (codes "attribute ") attribute_names refl refl;
  words = named_plain (codes "attribute ") attribute_words refl refl;
  types = type_plain;
}
