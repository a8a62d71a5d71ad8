use Rattle.std.proofs.Common.{◌≡◌, ◌∙◌, ◌≤◌, length, ◌<◌, arith, inl, inr, refl, sym, ap}
use Rattle.bgp_wire.specs.Header.{header_of, length_of, type_of, IsSound}
use Rattle.bgp_wire.specs.Verdict.{type_code}
use Rattle.bgp_wire.proofs.Front.{front_is_frame, front_and_rest, header_of-take, sound_length}
use Rattle.bgp_recording.proofs.framing.front_of.Goals as goal

pub faulty_front-requires-clause-faulty : goal.faulty_front-requires-clause-faulty
faulty_front-requires-clause-faulty c =
    let front = c.in_ok-header.ensures.some in
    (c.in_ok-header.ensures.whole.0 refl, rw front at c.in-Faulty.ensures.verdict.0)

pub returns-then-octets-length : goal.returns-then-octets-length
returns-then-octets-length c =
    let front = c.in_ok-header.ensures.some in
    let short : length c.args.octets.now < length_of (header_of c.args.octets.now) =
    omega (arith, c.in-Whole.ensures.verdict.1, ap length_of front)
    in
    inl (inr (c.in_ok-header.ensures.whole.0 refl, rw front at c.in-Whole.ensures.verdict.0, short))

pub returns-else-octets-length : goal.returns-else-octets-length
returns-else-octets-length c =
    let front = c.in_ok-header.ensures.some in
    let octets = c.args.octets.now in
    let n = c.from-length.result in
    let sound : IsSound c.args.framing.limit (header_of octets) = rw front at c.in-Whole.ensures.verdict.0 in
    let is : n ≡ length_of (header_of octets) = omega (arith, c.in-Whole.ensures.verdict.1, ap length_of front) in
    let enough : n ≤ length octets = omega arith in
    let long : 19 ≤ n = omega (arith, sound_length c.args.framing.limit (header_of octets) sound) in
    let kind : type_code c.in-Whole.kind ≡ type_of (header_of octets) = rw front at c.in-Whole.ensures.verdict.2 in (
      front_is_frame c.args.framing.limit octets n sound is enough,
      kind ∙ sym (ap type_of (header_of-take n octets long)),
      front_and_rest octets n enough,
    )
