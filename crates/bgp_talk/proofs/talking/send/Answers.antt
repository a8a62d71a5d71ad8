use Rattle.std.proofs.Common.{rules, ◌≡◌, ℕ, ◌<◌, [], ◌∷◌, ◌++◌, subst, take, length, arith, refl}
use Rattle.std.proofs.lemmas.List.{take-append-drop, length-take-le}
use Rattle.bgp_talk.specs.Account.{Wrote}
use Rattle.bgp_talk.proofs.Accounts.{no_octets}
use Rattle.bgp_talk.proofs.Joining.{nothing_sent, sent_more, sent_whole, sent_part}
use Rattle.bgp_talk.proofs.talking.send.Goals as goal

pub loop-rest-init : goal.loop-rest-init
loop-rest-init g c = record {
  told = ([], g.met.W.Wire.nothing c.args.wire.now, nothing_sent c.args.octets.now);
  stands = c.requires.stands;
  calm = refl;
}

pub loop-rest-preserved : goal.loop-rest-preserved
loop-rest-preserved g c =
    let so_far = c.loop-rest.invariant.told in
    let n = c.in-Ok.count in
    let front = take n c.loop-rest.rest.now in
    let is : c.loop-rest.rest.now ≡ front ++ c.split_at.result.1.now = search (rules, take-append-drop) in
    let long = length-take-le n c.loop-rest.rest.now c.in-Ok.ensures.bound in
    let some : 0 < length front = omega (arith, long) in
    record {
      told = (
        so_far.0 ++ Wrote (length c.loop-rest.rest.now) front ∷ [],
        g.met.W.Wire.joined _ _ _ _ _ so_far.1 c.in-Ok.ensures.ok,
        sent_more _ _ _ _ _ so_far.2 is some,
      );
      stands = search rules;
      calm = search rules;
    }

pub returns-in-Ok-eq0-clause-told : goal.returns-in-Ok-eq0-clause-told
returns-in-Ok-eq0-clause-told g c =
    let so_far = c.loop-rest.invariant.told in (
      so_far.0 ++ Wrote (length c.loop-rest.rest.now) [] ∷ [],
      g.met.W.Wire.joined _ _ _ _ _ so_far.1 (let zero : c.in-Ok-eq0.field-0 ≡ 0 = search rules in subst (λ (n : ℕ). g.W.Wire.tells c.loop-rest.wire c.write.new.self (Wrote (length c.loop-rest.rest.now) (take n c.loop-rest.rest.now) ∷ [])) zero c.in-Ok-eq0.ensures.ok),
      (let some : 0 < length c.loop-rest.rest.now = search rules in sent_part so_far.0 c.args.octets.now c.loop-rest.rest.now so_far.2 some),
    )

pub returns-in-Err-clause-told : goal.returns-in-Err-clause-told
returns-in-Err-clause-told g c =
    let so_far = c.loop-rest.invariant.told in (
      so_far.0 ++ Wrote (length c.loop-rest.rest.now) [] ∷ [],
      g.met.W.Wire.joined _ _ _ _ _ so_far.1 c.in-Err.ensures.err,
      (let some : 0 < length c.loop-rest.rest.now = search rules in sent_part so_far.0 c.args.octets.now c.loop-rest.rest.now so_far.2 some),
    )

pub returns-clause-told : goal.returns-clause-told
returns-clause-told g c =
    let so_far = c.loop-rest.invariant.told in
    let zero : length c.loop-rest.rest.now ≡ 0 = search rules in
    (so_far.0, so_far.1, sent_whole so_far.0 c.args.octets.now c.loop-rest.rest.now so_far.2 (no_octets _ zero))
