use Rattle.std.proofs.Common.{◌+◌, List, ℕ, Option, None, Some, map, rules, sym, subst, take}
use Rattle.std.proofs.lemmas.List.{take-map}
use Rattle.bgp_open.specs.Open.{open_of}
use Rattle.bgp_check.specs.Configurations.{own_faults}
use Rattle.bgp_parts.specs.Opens.{HasOwnOpen}
use Rattle.bgp_check.specs.declared.own_fault.OwnFault.{OwnFault}
use Rattle.bgp_prefix.specs.Shown.{ShownRecord}
use Rattle.mrt.specs.Reader.{shown_of}
use Rattle.mrt.specs.declared.record.Record.{Record}
use Rattle.bgp_check_text.specs.OwnFaults.{AreOwnFaults}
use Rattle.bgp_check_text.proofs.Reasons.{by_cases, not_both, same_number, says_number}
use Rattle.bgp_check_text.proofs.reason.own_faults_at.Goals as goal

front_has : (records : List Record) (n : ℕ) (own : Option (List ℕ)) → HasOwnOpen (map shown_of (take n records)) own → HasOwnOpen (take n (map shown_of records)) own
front_has records n own has = subst (λ (rs : List ShownRecord). HasOwnOpen rs own) (sym (take-map shown_of n records)) has

pub returns-in_err-own : goal.returns-in_err-own
returns-in_err-own c = (None, front_has c.args.records.now (c.args.count + 1) None c.in_err-own.ensures.first, search rules)

pub returns-in_err-number : goal.returns-in_err-number
returns-in_err-number c =
    let says = says_number (map shown_of c.args.records.now) c.args.number c.args.count c.in_ok-own.own.now c.requires.number
    (front_has c.args.records.now (c.args.count + 1) (Some c.in_ok-own.own.now) c.in_ok-own.ensures.first) in
    absurd (not_both c.args.number _ says c.in_err-number.was)

pub own_faults_of-requires-clause-number : goal.own_faults_of-requires-clause-number
own_faults_of-requires-clause-number c =
    let says = says_number (map shown_of c.args.records.now) c.args.number c.args.count c.in_ok-own.own.now c.requires.number
    (front_has c.args.records.now (c.args.count + 1) (Some c.in_ok-own.own.now) c.in_ok-own.ensures.first) in
    same_number c.args.number c.in_ok-number.field-0 _ c.in_ok-number.was says

pub returns : goal.returns
returns c = (
  Some c.in_ok-own.own.now,
  front_has c.args.records.now (c.args.count + 1) (Some c.in_ok-own.own.now) c.in_ok-own.ensures.first,
  by_cases c.own_faults_of.result ((fault : OwnFault) → ¬ own_faults (open_of c.in_ok-own.own.now) fault) (AreOwnFaults (open_of c.in_ok-own.own.now))
      c.own_faults_of.ensures.some c.own_faults_of.ensures.none,
)
