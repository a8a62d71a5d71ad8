-- A reader that is neither ended nor refused, and what it answers where it has no memory.
use Rattle.std.proofs.Common.{◌≡◌, ◌<◌, ℕ, Bool, false, List, [], refl, sym, subst, arith, inl, inr, IsTrue, is_some, Option, None, Some, Result}
use Rattle.packets.specs.declared.packet.Packet.{Packet}
use Rattle.packets.specs.declared.fault.FileFault.{FileFault}
use Rattle.packets.specs.declared.fault.FaultKind.TheVariants as kinds
use Rattle.packets.specs.Reader.{ReaderState, HasRoom, fresh_reader, fault_at, Fails, IsAnswer, NextBy, IsNext}
use Rattle.packets.proofs.Advancing.{read_nothing}

-- one that lacks room, and has found no fault, has read nothing
pub first_call : (len : ℕ) (state : ReaderState) → HasRoom len state → len < 327680 → state.fault ≡ None → state ≡ fresh_reader
first_call len state room short none = elim room [
  | inl full ↦ absurd (omega (arith, full, short))
  | inr others ↦ elim others [
    | inl fresh ↦ fresh
    | inr some ↦ let never : IsTrue false = subst (λ (f : Option FileFault). IsTrue (is_some f)) none some in absurd (cc)
  ]
]

module _ {S : Type 0} (gives : S → S → List ℕ → Type 0) (has_ended : S → Bool) where
  pub open_next : (old new : S) (from after : ReaderState) (answer : Result (Option Packet) FileFault) → from.fault ≡ None → from.is_ended ≡ false
      → IsAnswer gives has_ended old new from after answer → IsNext gives has_ended old new from after answer
  open_next old new from after answer none not_ended is =
      subst (λ (f : Option FileFault). NextBy gives has_ended f from.is_ended old new from after answer) (sym none)
      (subst (λ (b : Bool). NextBy gives has_ended None b old new from after answer) (sym not_ended) is)

  no_memory_as : (source : S) (from : ReaderState) → gives source source [] → from ≡ fresh_reader
      → Fails gives has_ended source source from (record from { fault = Some (fault_at from kinds.Memory) }) (fault_at from kinds.Memory)
  no_memory_as source from nothing fresh = record {
    octets = [];
    rest = [];
    taken = nothing;
    passed = read_nothing from.context;
    cause = inr (inr (refl, inl (refl, fresh)));
    packet = refl;
    stands = refl;
  }

  pub no_memory : (source : S) (from after : ReaderState) (fault : FileFault) → gives source source [] → fault ≡ fault_at from kinds.Memory
      → from ≡ fresh_reader → after ≡ record from { fault = Some fault } → Fails gives has_ended source source from after fault
  no_memory source from after fault nothing is fresh stands =
      subst (λ (s : ReaderState). Fails gives has_ended source source from s fault) (sym stands)
      (subst (λ (f : FileFault). Fails gives has_ended source source from (record from { fault = Some f }) f) (sym is) (no_memory_as source from nothing fresh))
