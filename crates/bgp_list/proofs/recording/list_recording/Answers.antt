use Rattle.std.proofs.Common.{◌≡◌, ◌∙◌, ◌⊎◌, ◌+◌, ℕ, List, [], Option, None, Some, ap, inl, inr, length, refl, subst, sym, rules}
use Rattle.std.specs.List.Sorted.{IsStrictlySortedBy}
use Rattle.std.specs.Map.{keys_of}
use Rattle.std.specs.Ordering.{nat_cmp}
use Rattle.bgp_tool.proofs.CaptureJudged.{is_written}
use Rattle.bgp_text.proofs.Fresh.{IsFresh}
use Rattle.bgp_text.proofs.Pieces.{Joins, and_nothing, and_then}
use Rattle.bgp_import.specs.Reading.{IsMemory, IsReadTo, TakesAll, cut_short_at, failures_of, looked_at}
use Rattle.bgp_import.specs.Talks.{HoldsEach}
use Rattle.bgp_import.specs.declared.refusal.Refusal.{Refusal}
use Rattle.bgp_import.specs.declared.refusal.Refusal.TheVariants as refusals
use Rattle.bgp_list.specs.Firsts.{AreApart, firsts_after, with_first}
use Rattle.bgp_list.specs.Recording.{refusals_in}
use Rattle.bgp_list.proofs.AllListed.{as_many, none_apart, nothing_lacks}
use Rattle.bgp_list.proofs.Texts.{coded_as, told_as}
use Rattle.bgp_list.proofs.PutSoFar.{key_count, without_keys}
use Rattle.bgp_list.proofs.recording.list_recording.Goals as goal

pub take_all-requires-clause-empty : goal.take_all-requires-clause-empty
take_all-requires-clause-empty g c = subst (λ (p : ℕ). HoldsEach p [] c.new-talks.result) (sym c.new-talks.ensures.holds.right.is_port) c.new-talks.ensures.holds

pub put_all-put-requires : goal.put_all-put-requires
put_all-put-requires g c =
    let taken = subst (λ (p : ℕ). TakesAll g.R.Source.gives g.R.Source.has_ended p c.args.source.now c.take_all.new.source c.take_all.new.talks c.take_all.new.reader.number c.take_all.new.reader.is_cut c.take_all.result)
    c.new-talks.ensures.holds.right.is_port c.take_all.ensures.takes in
    record { holds = (taken.packets, taken.some); apart = subst AreApart (sym c.new-refusals.ensures) none_apart }

pub returns : goal.returns
returns g c =
    let law : Joins g.W.Sink = record { joined = g.met.W.Sink.joined } in
    let fresh : IsFresh c.new-lines.result = record { empty = c.new-lines.ensures.empty; calm = c.new-lines.ensures.fresh } in
    let taken = subst (λ (p : ℕ). TakesAll g.R.Source.gives g.R.Source.has_ended p c.args.source.now c.take_all.new.source c.take_all.new.talks c.take_all.new.reader.number c.take_all.new.reader.is_cut c.take_all.result)
    c.new-talks.ensures.holds.right.is_port c.take_all.ensures.takes in
    let all = c.put_all-put.ensures.puts taken.packets taken.some in
    let puts = all.puts in
    let wrote = and_nothing law (and_then law puts.wrote (and_then law c.put_file.ensures.wrote c.put_file-2.ensures.wrote)) c.hand_over-status.ensures.writes in
    let same = c.err-stopped.ensures.value in
    let last = c.number-packets.ensures ∙ taken.many ∙ ap (looked_at taken.packets) (sym same) in
    record {
      packets = taken.packets;
      short = c.take_all.new.reader.is_cut;
      stopped = c.err-stopped.result;
      read = subst (λ (s : Option Refusal). IsReadTo g.R.Source.gives g.R.Source.has_ended c.args.source.now c.take_all.new.source taken.packets c.take_all.new.reader.is_cut s) (sym same) taken.read;
      counted = c.take_all.ensures.failures ∙ ap (λ (s : Option Refusal). g.R.Source.failures c.args.source.now + failures_of s) (sym same);
      lacking = c.err-lacking.result;
      lacks = subst (λ (n : ℕ). (c.err-lacking.result ≡ None) ⊎ (c.err-lacking.result ≡ Some (refusals.Memory n))) last (rw (sym c.err-lacking.ensures.value) at all.lacks);
      lines = puts.put;
      told = as_many c.args.port _ _ taken.packets puts.put last puts.told;
      rise = subst (λ (ks : List ℕ). IsStrictlySortedBy nat_cmp ks) (sym puts.are_places) all.rise;
      none = elim all.none [
        | inl calm ↦ inl (c.err-lacking.ensures.value ∙ calm)
        | inr empty ↦ inr (without_keys puts.put (puts.are_places ∙ empty))
      ];
      all = nothing_lacks c.args.port taken.packets all.places (keys_of puts.put) _ c.err-lacking.result c.err-stopped.result (sym puts.are_places)
          (λ ample. taken.all (subst (λ (s : Option Refusal). ¬ IsMemory s) same ample)) (λ none. all.all (sym c.err-lacking.ensures.value ∙ none));
      is_port = refl;
      are_lines = c.unwrap_or.ensures ∙ all.count ∙ ap length (sym puts.are_places) ∙ key_count puts.put;
      are_packets = last;
      are_wrapped = λ none. taken.wrapped (sym same ∙ none);
      is_cut_short = c.cut_short_at.ensures ∙ (λ i. cut_short_at (last i) (c.is_cut_short.ensures i) c.err-stopped.result);
      is_refusal = c.or.ensures;
      are_refusals = c.add_first-2.ensures.adds
          ∙ ap (λ (f : List (Option Refusal)). with_first f c.err-lacking.result) (c.add_first.ensures.adds
          ∙ ap (λ (f : List (Option Refusal)). with_first f c.err-stopped.result) (puts.added ∙ ap (λ (f : List (Option Refusal)). firsts_after f (refusals_in puts.put)) c.new-refusals.ensures));
      in_form = (puts.in_form, c.put_file.ensures.in_form, c.put_file-2.ensures.in_form);
      written = is_written c.new-lines.result c.hand_over-status.new.lines c.args.sink.now _ fresh c.new-lines.ensures.now (search rules)
          _ _ _ wrote c.hand_over-status.ensures.none (coded_as _ _ _ _ c.code.ensures (told_as _ _ _ _ c.hand_over-status.ensures.told c.status_over.ensures));
    }
