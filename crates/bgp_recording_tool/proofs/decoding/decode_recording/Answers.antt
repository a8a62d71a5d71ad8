use Rattle.std.proofs.Common.{◌≡◌, ◌∙◌, ◌+◌, ℕ, Bool, None, ap, subst, inl, inr, arith, length}
use Rattle.bgp_import.specs.Gathers.{cut_short_by}
use Rattle.bgp_import.specs.declared.importing.Import.{Import}
use Rattle.bgp_recording_tool.specs.Decoding.{DecodesRead, TellsRefusal}
use Rattle.bgp_recording_tool.specs.Options.{IsMisfit}
use Rattle.bgp_recording_tool.proofs.decoding.decode_recording.Goals as goal

same_count : (old new : ℕ) → new ≡ old + 0 → new ≡ old
same_count old new is = omega (arith, is)

pub decode_gathered-requires-clause-holds : goal.decode_gathered-requires-clause-holds
decode_gathered-requires-clause-holds g c =
    let i = c.in-Ok.ensures.gathers in record { packets = i.packets; segments = i.segments; taken = i.all.taken; holds = i.holds }

pub returns-in-Ok : goal.returns-in-Ok
returns-in-Ok g c =
    let meant = c.import_of-import.ensures in
    let i = c.in-Ok.ensures.gathers in
    let failures = rw c.in-Ok.is at c.gather.ensures.failures in
    inr (
      subst (λ (w : Import). IsMisfit w None) meant c.in_default.ensures,
      inl (subst (λ (w : Import). DecodesRead g.R.Source.gives g.R.Source.has_ended g.W.Sink.takes g.R.Source.failures g.W.Sink.failures c.args.options.now.form w c.args.source.now
          c.gather.new.source c.args.sink.now c.decode_gathered.new.sink c.decode_gathered.result.status c.decode_gathered.result.cut_short c.decode_gathered.result.remarks.items) meant record {
            octets = i.octets;
            packets = i.packets;
            segments = i.segments;
            cut = i.cut;
            all = i.all;
            is_cut = (c.decode_gathered.ensures i.packets i.segments i.all.taken i.holds).1 ∙ ap (λ (b : Bool). cut_short_by b (length i.packets)) i.is_cut;
            decodes = (c.decode_gathered.ensures i.packets i.segments i.all.taken i.holds).0;
            counted = same_count (g.R.Source.failures c.args.source.now) (g.R.Source.failures c.gather.new.source) failures;
          }),
    )

pub returns-in-Err : goal.returns-in-Err
returns-in-Err g c =
    let meant = c.import_of-import.ensures in
    inr (
      subst (λ (w : Import). IsMisfit w None) meant c.in_default.ensures,
      inr (subst (λ (w : Import). TellsRefusal g.R.Source.gives g.R.Source.has_ended g.W.Sink.takes g.R.Source.failures g.W.Sink.failures c.args.options.now.form w c.args.source.now
          c.gather.new.source c.args.sink.now c.refused.new.sink c.refused.result.status c.refused.result.cut_short c.refused.result.remarks.items) meant record {
            refusal = c.in-Err.refusal;
            stopped = c.in-Err.ensures.gathers;
            written = c.refused.ensures.written;
            helps = c.refused.ensures.helps;
            uncut = c.refused.ensures.cut;
            counted = c.in-Err.ensures.failures;
          }),
    )
