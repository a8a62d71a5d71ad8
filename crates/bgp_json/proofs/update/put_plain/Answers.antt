use Rattle.std.proofs.Common.{◌∙◌, ◌++◌, ◌&&◌, Bool, bytes_eq, subst, sym}
use Rattle.bgp_update.specs.Fields.{sections_of}
use Rattle.bgp_update.specs.Parts.{parts_of}
use Rattle.bgp_json_values.specs.Adding.{Adds}
use Rattle.bgp_json_values.specs.Objects.{members_tokens}
use Rattle.bgp_json_values.specs.RoutesJson.{spelled_destinations}
use Rattle.bgp_json_values.proofs.Chains.{adding}
use Rattle.bgp_json_values.proofs.Members.{then_members}
use Rattle.bgp_json.specs.MessageJson.{are_lists_spelled, octets_unless, paths_members, said_members}
use Rattle.bgp_json.proofs.UpdateFields.{lists}
use Rattle.bgp_json.proofs.update.put_plain.Goals as goal

pub returns : goal.returns
returns g c =
    let parts = parts_of c.args.parts in
    let octets = c.args.octets.now in
    let fields = lists octets (sections_of c.in-Some.fields) c.in-Some.ensures.some in
    let checked = c.in_ok-is_spelled.ensures in
    let said = said_members c.args.reading parts in
    let hidden = octets_unless (are_lists_spelled parts.withdrawn parts.nlri octets) octets in
    let same = checked.spelled
    ∙ (λ i. bytes_eq (spelled_destinations parts.withdrawn) (sym fields.0 i) && bytes_eq (spelled_destinations parts.nlri) (sym fields.1 i)) in
    let put_hidden = rw same at c.put_unless.ensures in
    subst (λ (identified : Bool). Adds c.put_unless.result c.args.writer.now c.put_unless.new.writer (members_tokens (said ++ (paths_members identified parts.withdrawn parts.nlri ++ hidden)))) (sym c.requires.form)
    (then_members said hidden (adding checked.tokens checked.before) put_hidden)
