-- A reader that is neither ended nor refused, and what it answers where it has no memory.
use Rattle.std.proofs.Common.{◌≡◌, ◌∙◌, ◌<◌, ℕ, Bool, false, List, [], refl, sym, ap, subst, arith, inl, inr, IsTrue, is_some, Option, None, Result}
use Rattle.std.proofs.Math.Nat.{add-zero}
use Rattle.bgp_prefix.specs.declared.session.Session.{Session}
use Rattle.mrt.specs.declared.record.Record.{Record}
use Rattle.mrt.specs.declared.fault.CaptureFault.{CaptureFault}
use Rattle.mrt.specs.declared.fault.FaultKind.TheVariants as kinds
use Rattle.mrt.specs.Reader.{ReaderState, HasRoom, fresh_reader, after_pieces, at_fault, Fails, IsAnswer, NextBy, IsNext}
use Rattle.mrt.specs.Progress.{fault_at}
use Rattle.mrt.proofs.Counts.{no_counts}
use Rattle.mrt.proofs.OtherPairs.{no_others}

pub no_pieces : (from : ReaderState) → after_pieces from [] ≡ from
no_pieces from =
    let passed = add-zero from.passed in
    let others = no_others from.others in
    let skipped = no_counts from.skipped in
    λ i. record { passed = passed i; last = from.last; micro = from.micro; place = from.place; is_ended = from.is_ended; fault = from.fault; others = others i; skipped = skipped i }

-- one that lacks room, and has found no fault, has read nothing
pub first_call : (len : ℕ) (state : ReaderState) → HasRoom len state → len < 65583 → state.fault ≡ None → state ≡ fresh_reader
first_call len state room short none = elim room [
  | inl full ↦ absurd (omega (arith, full, short))
  | inr others ↦ elim others [
    | inl fresh ↦ fresh
    | inr some ↦ let never : IsTrue false = subst (λ (f : Option CaptureFault). IsTrue (is_some f)) none some in absurd (cc)
  ]
]

module _ {S : Type 0} (gives : S → S → List ℕ → Type 0) (has_ended : S → Bool) (session : Session) where
  pub open_next : (old new : S) (from after : ReaderState) (answer : Result (Option Record) CaptureFault) → from.fault ≡ None → from.is_ended ≡ false
      → IsAnswer gives has_ended session old new from after answer → IsNext gives has_ended session old new from after answer
  open_next old new from after answer none not_ended is =
      subst (λ (f : Option CaptureFault). NextBy gives has_ended session f from.is_ended old new from after answer) (sym none)
      (subst (λ (b : Bool). NextBy gives has_ended session None b old new from after answer) (sym not_ended) is)

  pub no_memory : (source : S) (from after : ReaderState) (fault : CaptureFault) → gives source source [] → fault ≡ fault_at from kinds.Memory
      → from ≡ fresh_reader → after ≡ at_fault from fault → Fails gives has_ended session source source from after fault
  no_memory source from after fault nothing is fresh stands = record {
    skipped = [];
    rest = [];
    only = refl;
    pieces = tt;
    taken = nothing;
    why = inr (inr (ap (λ (f : CaptureFault). f.kind) is, refl, fresh));
    offset = ap (λ (f : CaptureFault). f.offset) is ∙ sym (ap (λ (s : ReaderState). s.passed) (no_pieces from));
    stands = stands ∙ ap (λ (s : ReaderState). at_fault s fault) (sym (no_pieces from));
  }
