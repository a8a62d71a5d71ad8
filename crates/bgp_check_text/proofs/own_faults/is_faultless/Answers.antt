use Rattle.std.proofs.Common.{◌≡◌, Bool, true, false, not, refl}
use Rattle.bgp_open.specs.Open.{OpenFields, open_of}
use Rattle.bgp_check.specs.Configurations.{own_faults}
use Rattle.bgp_check.specs.declared.own_fault.OwnFault.{OwnFault}
use Rattle.bgp_check.specs.declared.own_fault.OwnFault.TheVariants.{AsNumber, Hold, Identifier}
use Rattle.bgp_check_text.proofs.own_faults.is_faultless.Goals as goal

not_true : (b : Bool) → b ≡ true → b ≡ false → ⊥
not_true true is other = let k : ⊥ = cc in k
not_true false is other = let k : ⊥ = cc in k

not_both : false ≡ true → ⊥
not_both is = cc

not_of : (b : Bool) → b ≡ false → not b ≡ true
not_of true is = let k : ⊥ = cc in absurd k
not_of false is = refl

of_not : (b : Bool) → not b ≡ true → b ≡ false
of_not true is = let k : ⊥ = cc in absurd k
of_not false is = refl

no : (b : Bool) → (b ≡ true → ⊥) → b ≡ false
no true never = absurd (never refl)
no false never = refl

each : (message : OpenFields) → ¬ own_faults message AsNumber → ¬ own_faults message Identifier → ¬ own_faults message Hold
    → (fault : OwnFault) → ¬ own_faults message fault
each message number id hold AsNumber = number
each message number id hold Identifier = id
each message number id hold Hold = hold

pub returns-then-has_own_fault : goal.returns-then-has_own_fault
returns-then-has_own_fault c = (λ is. absurd (not_both is), λ none. absurd (none AsNumber (c.has_own_fault.ensures.0 c.if-has_own_fault.true)))

pub returns-then-has_own_fault-2 : goal.returns-then-has_own_fault-2
returns-then-has_own_fault-2 c = (λ is. absurd (not_both is), λ none. absurd (none Identifier (c.has_own_fault-2.ensures.0 c.if-has_own_fault-2.true)))

pub returns : goal.returns
returns c = (
  λ is. each (open_of c.args.own.now)
      (λ fault. not_true c.has_own_fault.result (c.has_own_fault.ensures.1 fault) c.if-has_own_fault.false)
      (λ fault. not_true c.has_own_fault-2.result (c.has_own_fault-2.ensures.1 fault) c.if-has_own_fault-2.false)
      (λ fault. not_true c.has_own_fault-3.result (c.has_own_fault-3.ensures.1 fault) (of_not c.has_own_fault-3.result is)),
  λ none. not_of c.has_own_fault-3.result (no c.has_own_fault-3.result (λ is. none Hold (c.has_own_fault-3.ensures.0 is))),
)
