use Rattle.std.proofs.Common.{◌≡◌, Bool, true, false, List, ℕ, Option, None, Some, map, refl, subst, sym, rules}
use Rattle.bgp_open.specs.Open.{open_of}
use Rattle.bgp_check.specs.Configurations.{own_faults}
use Rattle.bgp_check.specs.declared.own_fault.OwnFault.{OwnFault}
use Rattle.bgp_parts.proofs.OneOwnOpen.{one_own}
use Rattle.bgp_prefix.specs.Shown.{ShownRecord}
use Rattle.mrt.specs.Reader.{shown_of}
use Rattle.bgp_parts.specs.Opens.{HasOwnOpen}
use Rattle.bgp_open.specs.declared.config.Config.{Config}
use Rattle.bgp_check_text.specs.OwnFaults.{HasFaultlessOpen, IsToldConfiguration}
use Rattle.bgp_check_text.proofs.own_faults.told_configuration.Goals as goal

not_none : (own : List ℕ) → None ≡ Some own → ⊥
not_none own same = cc

same_open : (own other : List ℕ) → Some own ≡ Some other → own ≡ other
same_open own other same = cc

not_true : (b : Bool) → b ≡ true → b ≡ false → ⊥
not_true true is other = let k : ⊥ = cc in k
not_true false is other = let k : ⊥ = cc in k

none_sent : (records : List ShownRecord) → HasOwnOpen records None → ¬ HasFaultlessOpen records
none_sent records has faultless = not_none faultless.0 (one_own records None (Some faultless.0) has faultless.1)

-- whichever is found, it is the first
of_first : (records : List ShownRecord) (own : List ℕ) → HasOwnOpen records (Some own) → HasFaultlessOpen records
    → (fault : OwnFault) → ¬ own_faults (open_of own) fault
of_first records own has faultless =
    let same = same_open faultless.0 own (one_own records (Some faultless.0) (Some own) faultless.1 has) in
    subst (λ (o : List ℕ). (fault : OwnFault) → ¬ own_faults (open_of o) fault) same faultless.2

pub returns-in_err-own : goal.returns-in_err-own
returns-in_err-own g c =
    let none : c.from_residual.result ≡ None = search rules in
    subst (λ (o : Option Config). IsToldConfiguration (map shown_of c.args.records.now) c.args.judged.now.under o) (sym none)
    (none_sent (map shown_of c.args.records.now) c.in_err-own.ensures.first)

pub returns-then-not-is_faultless : goal.returns-then-not-is_faultless
returns-then-not-is_faultless g c = λ faultless.
    not_true c.is_faultless.result (c.is_faultless.ensures.1 (of_first (map shown_of c.args.records.now) c.in_ok-own.own.now c.in_ok-own.ensures.first faultless)) c.if-not-is_faultless.true

pub returns : goal.returns
returns g c = ((c.in_ok-own.own.now, c.in_ok-own.ensures.first, c.is_faultless.ensures.0 c.if-not-is_faultless.false), refl)
