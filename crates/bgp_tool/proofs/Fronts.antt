-- What is kept of the octets that a source gives.
use Rattle.std.proofs.Common.{◌≡◌, ◌∙◌, ◌++◌, ◌+◌, ℕ, List, length, sym, ap, min, take}
use Rattle.std.proofs.lemmas.List.{take_min}
use Rattle.std.proofs.Math.Seq.{take-append-add}
use Rattle.bgp_tool.specs.Front.{kept}

pub kept_is : (front octets : List ℕ) (room : ℕ) → length front + room ≡ 262
    → front ++ take (min room (length octets)) octets ≡ kept (front ++ octets)
kept_is front octets room all =
    ap (λ more. front ++ more) (take_min room octets) ∙ sym (take-append-add front octets room)
    ∙ ap (λ n. take n (front ++ octets)) all
