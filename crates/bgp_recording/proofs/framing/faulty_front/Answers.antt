use Rattle.std.proofs.Common.{◌≡◌, ◌∙◌, ◌≤◌, List, ℕ, Bool, true, false, not, IsTrue, length, refl, arith, ap, subst}
use Rattle.bgp_wire.specs.Header.{length_of}
use Rattle.bgp_wire.proofs.Front.{front_and_rest}
use Rattle.bgp_recording.specs.Pieces.{IsRefreshHeader}
use Rattle.bgp_recording.proofs.Pieces.{whole_by}
use Rattle.bgp_recording.proofs.framing.faulty_front.Goals as goal

isnt_not : (b : Bool) → not b ≡ false → IsTrue b
isnt_not true e = refl
isnt_not false e = absurd (let no = e in cc)

pub returns-in-Some-3 : goal.returns-in-Some-3
returns-in-Some-3 c =
    let front = c.requires.header in
    let octets = c.args.octets.now in
    let n = c.in-Some.length in
    let h = c.in-Some.ensures.some in
    let header = subst (λ (os : List ℕ). IsRefreshHeader os) front h.0 in
    let enough : n ≤ length octets = omega (arith, c.if-octets-length.false) in
    (isnt_not c.args.framing.skips_refresh c.if-not-framing.false, whole_by octets n header (h.1 ∙ ap length_of front) enough, front_and_rest octets n enough)
