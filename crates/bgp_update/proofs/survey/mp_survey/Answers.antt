use Rattle.std.proofs.Common.{◌∙◌, ap, ℕ, Option, option_map}
use Rattle.bgp_attr.specs.declared.types.AttrType.{AttrType}
use Rattle.bgp_attr.specs.Field.{Attribute, attribute_of}
use Rattle.bgp_attr.specs.First.{first_by_type}
use Rattle.bgp_attr.specs.Split.{attributes_of}
use Rattle.bgp_attr.specs.Types.{type_number}
use Rattle.bgp_update.specs.Found.{is_repeated}
use Rattle.bgp_update.specs.MpShown.{contents_read, state_of, type_of_mp}
use Rattle.bgp_update.proofs.Routes.{is_found}
use Rattle.bgp_update.proofs.survey.mp_survey.Goals as goal

pub returns : goal.returns
returns c =
    let attributes = attributes_of c.args.field.now in
    let same = c.attr_type-attr_type.ensures in
    is_found c.args.link.now (contents_read c.args.form c.args.mp_type) (type_of_mp c.args.mp_type) attributes (option_map attribute_of c.get-attr.result) (state_of c.mp_state.result) c.has_other_bits.result c.repeats_in.result
    (c.get-attr.ensures.first ∙ ap (λ (f : AttrType → Option Attribute). f c.attr_type-attr_type.result) c.requires.first ∙ ap (first_by_type attributes) same)
    c.mp_state.ensures c.has_other_bits.ensures
    (c.repeats_in.ensures ∙ ap (λ (n : ℕ). is_repeated n attributes) (c.row.ensures.number ∙ ap type_number same))
