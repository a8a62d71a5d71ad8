use Rattle.std.proofs.Common.{List, map, refl, subst}
use Rattle.std.specs.List.{AllByRecursion}
use Rattle.std.proofs.lemmas.List.{take_all}
use Rattle.mrt.specs.Reader.{shown_of}
use Rattle.mrt.specs.declared.record.Record.{Record}
use Rattle.bgp_recording.specs.Captured.{IsNoRefresh}
use Rattle.bgp_check_text.proofs.Refreshes.{all_more, at_each}
use Rattle.bgp_check_text.proofs.SameAt.{not_true}
use Rattle.bgp_check_text.proofs.of_capture.has_refresh.Goals as goal

pub loop-shown-preserved : goal.loop-shown-preserved
loop-shown-preserved c =
    all_more IsNoRefresh shown_of c.args.records.now c.loop-shown.shown-index _ c.loop-shown-test.true c.loop-shown.invariant (c.is_refresh.ensures.0 c.if-is_refresh.false)

pub returns-then-is_refresh : goal.returns-then-is_refresh
returns-then-is_refresh c = (
  λ no. let k : ⊥ = cc in absurd k,
  λ all. absurd (not_true c.is_refresh.result c.if-is_refresh.true
      (c.is_refresh.ensures.1 (at_each IsNoRefresh shown_of c.args.records.now c.loop-shown.shown-index _ c.loop-shown-test.true all))),
)

pub returns : goal.returns
returns c = (
  λ no. subst (λ (rs : List Record). AllByRecursion IsNoRefresh (map shown_of rs)) (take_all c.loop-shown.shown-index c.args.records.now c.loop-shown-test.false) c.loop-shown.invariant,
  λ all. refl,
)
