use Rattle.std.proofs.Common.{refl, sym, ap, subst}
use Rattle.mrt.specs.Reader.{shown_of}
use Rattle.bgp_machine.specs.declared.state.Head.{Head}
use Rattle.bgp_machine.specs.declared.state.Head.TheVariants.{Established}
use Rattle.bgp_judge.specs.Openings.{ListTakesMemory}
use Rattle.bgp_prefix.specs.Shown.{ShownRecord}
use Rattle.bgp_compact.proofs.Applied.{opens_one}
use Rattle.bgp_compact.proofs.applying.applied.Goals as goal

pub returns-in_err-outcomes-clause-memory : goal.returns-in_err-outcomes-clause-memory
returns-in_err-outcomes-clause-memory g c = λ err. (
  record { head = c.args.words.now.head; sets = c.args.words.now.sets },
  c.in-Some.ensures.base,
  subst (λ (v : Head). ListTakesMemory v (shown_of c.args.shown.now)) (sym c.in-Some.ensures.head_is)
      (subst (λ (v : ShownRecord). ListTakesMemory (Established c.in-Some.link c.in-Some.timer) v) (sym (ap shown_of c.in-In.is))
      (λ only. let ok = c.in_err-outcomes.ensures.memory only in let no : ⊥ = cc in no)),
)

pub returns-clause-some : goal.returns-clause-some
returns-clause-some g c = record {
  link = c.in-Some.link;
  timer = c.in-Some.timer;
  free = c.in-Some.ensures;
  second = c.in-In.t;
  octets = c.in-In.octets.now;
  received = ap shown_of c.in-In.is;
  head_is = refl;
  lists = opens_one c.args.config.now c.in-Some.link c.in-Some.timer c.in-In.t c.in-In.octets.now c.in_ok-outcomes.outcomes c.in-Some-only_changes.changes
      c.in-Update.ensures c.in_ok-outcomes.ensures.exact c.in-Some-only_changes.ensures;
}
