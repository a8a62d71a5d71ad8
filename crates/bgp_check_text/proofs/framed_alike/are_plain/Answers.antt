use Rattle.std.proofs.Common.{List, refl, subst}
use Rattle.std.proofs.lemmas.List.{take_all}
use Rattle.mrt.specs.Reader.{shown_of}
use Rattle.bgp_recording.specs.Captured.{records_of}
use Rattle.bgp_recording.specs.declared.entry.Entry.{Entry}
use Rattle.bgp_check_text.specs.FramedAlike.{ArePlain, IsPlainRecord}
use Rattle.bgp_check_text.proofs.Refreshes.{all_more, at_each}
use Rattle.bgp_check_text.proofs.SameAt.{not_true}
use Rattle.bgp_check_text.proofs.framed_alike.are_plain.Goals as goal

pub loop-one-preserved : goal.loop-one-preserved
loop-one-preserved c =
    all_more IsPlainRecord (λ (entry : Entry). shown_of entry.record) c.args.entries.now c.loop-one.one-index _ c.loop-one-test.true c.loop-one.invariant (c.is_plain.ensures.0 c.if-not-is_plain.false)

pub returns-then-not-is_plain : goal.returns-then-not-is_plain
returns-then-not-is_plain c = (
  λ yes. let k : ⊥ = cc in absurd k,
  λ all. absurd (not_true c.is_plain.result
      (c.is_plain.ensures.1 (at_each IsPlainRecord (λ (entry : Entry). shown_of entry.record) c.args.entries.now c.loop-one.one-index _ c.loop-one-test.true all)) c.if-not-is_plain.true),
)

pub returns : goal.returns
returns c = (
  λ yes. subst (λ (entries : List Entry). ArePlain (records_of entries)) (take_all c.loop-one.one-index c.args.entries.now c.loop-one-test.false) c.loop-one.invariant,
  λ all. refl,
)
