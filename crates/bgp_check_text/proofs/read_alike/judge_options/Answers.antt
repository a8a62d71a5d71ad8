use Rattle.std.proofs.Common.{◌∙◌, ap, subst, sym}
use Rattle.bgp_recording.specs.declared.framing.Framings.{Framings}
use Rattle.bgp_check_text.specs.ReadAlike.{IsReadAlike, framings_by}
use Rattle.bgp_check_text.proofs.SameAt.{not_true}
use Rattle.bgp_check_text.proofs.read_alike.judge_options.Goals as goal

pub returns-then-not-reads : goal.returns-then-not-reads
returns-then-not-reads g c = λ clock recorded alike.
    let so = c.framings_by-rules.ensures ∙ ap (framings_by c.args.config) c.passes_over-skips_refresh.ensures in
    let same = subst (λ (f : Framings). IsReadAlike f c.args.within c.args.connection.now c.args.made.now.entries.items) (sym so) alike in
    not_true c.in_ok-reads.reads ((c.in_ok-reads.ensures clock recorded).1 same) c.if-not-reads.true
