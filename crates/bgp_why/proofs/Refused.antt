-- What a field of an OPEN says, told where the OPEN has to be refused for it.
use Rattle.std.proofs.Common.{◌≡◌, ◌↔◌, ℕ, Bool, true, false, List, IsTrue, refl}
use Rattle.std.specs.Bool.{then_some}
use Rattle.bgp_open.specs.declared.config.Config.{Config}
use Rattle.bgp_why.specs.Refusal.{IsRefusedBy, IsToldOf}

pub told_if : (config : Config) (octets : List ℕ) (subcode number said : ℕ) (is_refused : Bool)
    → (IsTrue is_refused ↔ IsRefusedBy config octets subcode) → number ≡ said
    → IsToldOf config octets subcode (then_some is_refused number) said
told_if config octets subcode number said true refused is = (refused.0 refl, is)
told_if config octets subcode number said false refused is = λ by. (let no : false ≡ true = refused.1 by in cc)
