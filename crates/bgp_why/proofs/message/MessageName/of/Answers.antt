use Rattle.std.proofs.Common.{List, ℕ, inl, inr, refl, sym, subst}
use Rattle.bgp_wire.specs.Header.{IsSound, header_of}
use Rattle.bgp_wire.specs.Verdict.{AreEachFault}
use Rattle.bgp_text.proofs.EachMessage.{each_message}
use Rattle.bgp_why.proofs.Named.{faulty_named, long_enough, whole_named}
use Rattle.bgp_why.proofs.message.MessageName.of.Goals as goal

pub returns-in_default : goal.returns-in_default
returns-in_default c = λ either. absurd (let some = c.in_default.ensures.whole.1 (long_enough c.args.limit c.args.octets.now either) in cc)

pub returns-in-Whole : goal.returns-in-Whole
returns-in-Whole c = λ either.
    let (sound, count, is_type) = c.in-Whole.ensures.verdict in
    whole_named c.args.form c.args.limit c.args.octets.now c.frame_name.result (subst (λ (o : List ℕ). IsSound c.args.limit o) c.in-Some.ensures.some sound) either c.frame_name.ensures

pub returns-in-Faulty : goal.returns-in-Faulty
returns-in-Faulty c = λ either.
    faulty_named c.args.form c.args.limit c.args.octets.now c.in-Faulty.faults
    (λ sound. c.in-Faulty.ensures.verdict.0 (subst (λ (o : List ℕ). IsSound c.args.limit o) (sym c.in-Some.ensures.some) sound))
    (subst (λ (o : List ℕ). AreEachFault c.args.limit o c.in-Faulty.faults) c.in-Some.ensures.some c.in-Faulty.ensures.each) either
