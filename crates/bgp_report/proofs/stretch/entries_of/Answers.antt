use Rattle.std.proofs.Common.{◌≡◌, ◌<◌, ◌∙◌, List, ap, arith, length, map, sym}
use Rattle.std.proofs.lemmas.List.{get_or-map, length-map}
use Rattle.mrt.specs.Reader.{shown_of}
use Rattle.bgp_prefix.specs.Shown.{second_of}
use Rattle.bgp_recording.specs.declared.entry.Entry.{Entry}
use Rattle.bgp_report.proofs.InStretches.{one_mapped}
use Rattle.bgp_report.specs.Stretches.{numbered_by}
use Rattle.bgp_report.proofs.stretch.entries_of.Goals as goal

pub loop-place-preserved : goal.loop-place-preserved
loop-place-preserved g c =
    let records = c.args.records.now in
    let numbers = c.args.numbers.now in
    let entries = c.loop-place.entries.items in
    let entry = c.entry_of.result in
    let i = c.loop-place.place in
    let within : i < length records = c.loop-place-test.true in
    let (shown, numbered, seconds) = c.loop-place.invariant in
    let as_many = c.if-records-numbers.false in
    let count = length-map records shown_of in
    let within_shown : i < length (map shown_of records) = omega (arith, within, count) in
    let counted = length-map (map shown_of records) second_of in
    let more = c.in_ok-push.ensures.items in (
      ap (λ (es : List Entry). map (λ (e : Entry). shown_of e.record) es) more
          ∙ one_mapped (λ (e : Entry). shown_of e.record) entries entry (map shown_of records) i (shown_of entry.record) within_shown shown
          (c.entry_of.ensures.shown ∙ sym (get_or-map shown_of records i _ (shown_of entry.record) within)),
      ap (λ (es : List Entry). map numbered_by es) more ∙ one_mapped numbered_by entries entry numbers i _ (omega (arith, within, as_many)) numbered c.entry_of.ensures.numbered,
      ap (λ (es : List Entry). map (λ (e : Entry). e.second) es) more
          ∙ one_mapped (λ (e : Entry). e.second) entries entry (map second_of (map shown_of records)) i entry.second (omega (arith, within, count, counted)) seconds
          (c.entry_of.ensures.second ∙ ap second_of (sym (get_or-map shown_of records i _ (shown_of entry.record) within))
          ∙ sym (get_or-map second_of (map shown_of records) i (shown_of entry.record) entry.second within_shown)),
    )
