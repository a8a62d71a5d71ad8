-- How long a body is that is written.
use Rattle.std.proofs.Common.{◌≡◌, ◌∙◌, ℕ, ◌++◌, length, refl, ap, arith, length-append}
use Rattle.bgp_prefix.specs.Shown.{ShownRecord}
use Rattle.bgp_prefix.specs.declared.session.Session.{Session}
use Rattle.mrt.specs.Written.{number_octets, address_octets, afi_for, content_for, behind_numbers, body_octets, body_len}

pub body_is : (session : Session) (pa la : ℕ) (shown : ShownRecord) → body_octets session pa la shown ≡ number_octets pa la (afi_for session.peer) ++ behind_numbers session shown
unfolding body_octets
body_is session pa la shown = refl

length-numbers : (pa la afi : ℕ) → length (number_octets pa la afi) ≡ 12
unfolding number_octets
length-numbers pa la afi = refl

pub length-body : (session : Session) (pa la : ℕ) (shown : ShownRecord)
    → length (body_octets session pa la shown) ≡ body_len session shown
length-body session pa la shown =
    let first = ap length (body_is session pa la shown) ∙ length-append (number_octets pa la (afi_for session.peer)) (behind_numbers session shown) in
    let numbers = length-numbers pa la (afi_for session.peer) in
    let second = length-append (address_octets session.peer) (address_octets session.local ++ content_for shown) in
    let third = length-append (address_octets session.local) (content_for shown) in omega arith
