use Rattle.std.proofs.Common.{List, ℕ, sym, subst, refl, inl, inr}
use Rattle.bgp_wire.specs.Header.{IsSound}
use Rattle.bgp_wire.specs.Verdict.{AreFaults}
use Rattle.bgp_text.proofs.EachMessage.{each_message}
use Rattle.bgp_text.proofs.CaptureMessages.{is_frame}
use Rattle.bgp_json.specs.MessageJson.{message_json}
use Rattle.bgp_json.specs.Others.{header_json}
use Rattle.bgp_wire.specs.Header.{header_of}
use Rattle.bgp_json.proofs.record.put_json_message.Goals as goal

pub put_json_frame-requires-clause-says : goal.put_json_frame-requires-clause-says
put_json_frame-requires-clause-says g c =
    let sound = subst (λ (o : List ℕ). IsSound c.args.limit o) c.in-Some.ensures.some c.in-Whole.ensures.verdict.0 in
    each_message c.args.reading.form c.args.limit c.args.octets.now (is_frame c.args.limit c.args.octets.now c.requires.long c.requires.whole sound)

pub returns-in-Whole : goal.returns-in-Whole
returns-in-Whole g c =
    let sound = subst (λ (o : List ℕ). IsSound c.args.limit o) c.in-Some.ensures.some c.in-Whole.ensures.verdict.0 in
    let frame = is_frame c.args.limit c.args.octets.now c.requires.long c.requires.whole sound in
    let says = each_message c.args.reading.form c.args.limit c.args.octets.now frame in
    (message_json c.args.reading c.args.place c.args.octets.now says.0, inl (frame, (says.0, says.1, refl)), c.put_json_frame.ensures says.0 says.1)

pub returns-in-Faulty : goal.returns-in-Faulty
returns-in-Faulty g c =
    let faults = subst (λ (o : List ℕ). AreFaults c.args.limit o c.in-Faulty.faults) c.in-Some.ensures.some c.in-Faulty.ensures.verdict.1 in (
      header_json c.args.place c.in-Faulty.faults (header_of c.args.octets.now) c.args.octets.now,
      inr (
        (c.requires.long, λ sound. c.in-Faulty.ensures.verdict.0 (subst (λ (o : List ℕ). IsSound c.args.limit o) (sym c.in-Some.ensures.some) sound)),
        (c.in-Faulty.faults, faults, refl),
      ),
      rw c.in-Some.ensures.some at c.put_json_fault.ensures,
    )
