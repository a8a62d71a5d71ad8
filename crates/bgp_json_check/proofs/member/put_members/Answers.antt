use Rattle.std.specs.List.{flat_map}
use Rattle.std.proofs.Common.{◌+◌, drop, ◌∙◌, ◌++◌, List, ap, refl}
use Rattle.std.proofs.Math.ListN.{drop_of_length-le}
use Rattle.json.specs.Token.{Token}
use Rattle.bgp_json_check.proofs.InParts.{all_tokens, member_tokens, none_left, one_more_at}
use Rattle.bgp_json_check.proofs.member.put_members.Goals as goal

pub loop-member-init : goal.loop-member-init
loop-member-init g c = (refl, ap (λ (ts : List Token). c.args.writer.now.tokens ++ ts) (all_tokens c.args.members.now))

pub loop-member-preserved : goal.loop-member-preserved
loop-member-preserved g c =
    let so_far = c.loop-member.invariant in
    let i = c.loop-member.member-index in
    let put = c.in_ok-put_member.ensures in (
      put.before ∙ so_far.0,
      ap (λ (ts : List Token). ts ++ flat_map member_tokens (drop (i + 1) c.args.members.now)) put.ok
          ∙ one_more_at member_tokens c.loop-member.writer.tokens _ c.args.members.now i _ c.loop-member-test.true so_far.1,
    )

pub returns : goal.returns
returns g c =
    let so_far = c.loop-member.invariant in
    record {
      ok = none_left member_tokens c.loop-member.writer.tokens _ c.args.members.now c.loop-member.member-index (drop_of_length-le c.args.members.now c.loop-member-test.false) so_far.1;
      before = so_far.0;
    }
