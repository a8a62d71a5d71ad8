use Rattle.std.proofs.Common.{ap, map, sym, subst, ◌+◌, ℕ}
use Rattle.mrt.specs.Reader.{shown_of}
use Rattle.bgp_check.specs.BeforeLeaving.{IsBeforeLeaving}
use Rattle.bgp_check.proofs.Lists.{leaves_at, none_at_the_end, none_leaves}
use Rattle.bgp_check.proofs.cutting.before_leaving.Goals as goal

pub loop-shown-preserved : goal.loop-shown-preserved
loop-shown-preserved c = record {
  counted = ap (λ (n : ℕ). n + 1) c.loop-shown.invariant.counted;
  none = none_leaves c.args.records.now c.loop-shown.shown-index _ c.loop-shown-test.true c.loop-shown.invariant.none
      (λ leaves. let k = c.leaves_idle.ensures.1 leaves in let f = c.if-leaves_idle.false in cc);
}

pub returns-then-leaves_idle : goal.returns-then-leaves_idle
returns-then-leaves_idle c =
    subst (λ (n : ℕ). IsBeforeLeaving (map shown_of c.args.records.now) n) (sym c.loop-shown.invariant.counted)
    (leaves_at c.args.records.now c.loop-shown.shown-index _ c.loop-shown-test.true c.loop-shown.invariant.none (c.leaves_idle.ensures.0 c.if-leaves_idle.true))

pub returns : goal.returns
returns c =
    subst (λ (n : ℕ). IsBeforeLeaving (map shown_of c.args.records.now) n) (sym c.loop-shown.invariant.counted)
    (none_at_the_end c.args.records.now c.loop-shown.shown-index c.loop-shown-test.false c.loop-shown.auto.shown-index-end c.loop-shown.invariant.none)
