use Rattle.std.proofs.Common.{◌≡◌, ◌∙◌, ◌⊎◌, ◌+◌, ℕ, List, [], Option, None, Some, ap, subst, sym, rules}
use Rattle.std.specs.List.Sorted.{IsStrictlySortedBy}
use Rattle.std.specs.Map.{keys_of}
use Rattle.std.specs.Ordering.{nat_cmp}
use Rattle.bgp_text.proofs.Fresh.{IsFresh}
use Rattle.bgp_text.proofs.Pieces.{Joins}
use Rattle.bgp_check_lines.proofs.Printed.{printed_in}
use Rattle.bgp_check_lines.proofs.Puts.{then_lines}
use Rattle.bgp_check_lines.specs.DeclaredTally.{Tally}
use Rattle.bgp_check_tool.specs.Checking.{PutsAll, refusals_in, tally_from, with_file}
use Rattle.bgp_check_tool.specs.Judging.{options_by}
use Rattle.bgp_check_lines.specs.DeclaredSettings.{Settings}
use Rattle.bgp_list.specs.Firsts.{AreApart, firsts_after, with_first}
use Rattle.bgp_list.proofs.AllListed.{none_apart}
use Rattle.bgp_import.specs.Reading.{IsMemory, IsReadTo, TakesAll, cut_short_at, failures_of, looked_at}
use Rattle.bgp_import.specs.Talks.{HoldsEach, HoldsSome}
use Rattle.bgp_import.specs.declared.refusal.Refusal.{Refusal}
use Rattle.bgp_import.specs.declared.refusal.Refusal.TheVariants as refusals
use Rattle.bgp_check_lines.proofs.SameSink.{same_sink}
use Rattle.bgp_check_tool.proofs.Texts.{coded_as}
use Rattle.bgp_check_tool.proofs.AllTold.{as_many, no_block_lacks, nothing_lacks, some_block_lacks}
use Rattle.bgp_check_tool.proofs.checking.check_recording.Goals as goal

pub take_all-requires-clause-empty : goal.take_all-requires-clause-empty
take_all-requires-clause-empty g c = subst (λ (p : ℕ). HoldsEach p [] c.args.talks.now) (sym c.requires.empty.right.is_port) c.requires.empty

pub put_all-lacking-requires : goal.put_all-lacking-requires
put_all-lacking-requires g c =
    let taken = c.take_all.ensures.takes in record {
      holds = (taken.packets, subst (λ (p : ℕ). HoldsSome p taken.packets c.take_all.new.talks) c.requires.empty.right.is_port taken.some);
      apart = subst AreApart (sym c.new-counted.ensures.refusals) none_apart;
    }

pub returns : goal.returns
returns g c =
    let law : Joins g.W.Sink = record { joined = g.met.W.Sink.joined } in
    let fresh : IsFresh c.new-lines.result.lines = record { empty = c.new-lines.ensures.empty; calm = c.new-lines.ensures.fresh } in
    let taken = subst (λ (p : ℕ). TakesAll g.R.Source.gives g.R.Source.has_ended p c.args.source.now c.take_all.new.source c.take_all.new.talks c.take_all.new.reader.number c.take_all.new.reader.is_cut c.take_all.result)
    c.requires.empty.right.is_port c.take_all.ensures.takes in
    let options = c.args.options.now in
    let same_settings = c.settings_by.ensures in
    let all = subst (λ (s : Settings). PutsAll (record options { settings = s }) taken.packets c.take_all.new.talks c.number-last.result c.new-lines.result c.put_all-lacking.new.lines
    c.new-counted.result.tally c.put_all-lacking.new.counted.tally c.new-counted.result.refusals.items c.put_all-lacking.new.counted.refusals.items c.args.marks.now c.put_all-lacking.new.marks c.put_all-lacking.result)
    same_settings (c.put_all-lacking.ensures.puts taken.packets taken.some) in
    let puts = all.puts in
    let wrote = then_lines law puts.wrote (then_lines law c.put_file.ensures.wrote (then_lines law c.put_file-2.ensures.wrote (then_lines law c.put_cut_short.ensures (then_lines law c.put_nothing.ensures c.put_last.ensures)))) in
    let one = same_sink c.new-lines.result.lines c.put_last.new.lines.lines c.new-lines.result.teller c.put_last.new.lines.teller _ wrote.puts in
    let one_sink = c.finish-status.ensures.writes.same_sink ∙ (one ∙ c.new-lines.ensures.same) in
    let ended = rw c.status.ensures at c.finish-status.ensures.told in
    let same = c.err-stopped.ensures.value in
    let last = c.number-last.ensures ∙ taken.many ∙ ap (looked_at taken.packets) (sym same) in
    let last' = c.number.ensures ∙ taken.many ∙ ap (looked_at taken.packets) (sym same) in
    record {
      checks = record {
        packets = taken.packets;
        short = c.take_all.new.reader.is_cut;
        stopped = c.err-stopped.result;
        read = subst (λ (s : Option Refusal). IsReadTo g.R.Source.gives g.R.Source.has_ended c.args.source.now c.take_all.new.source taken.packets c.take_all.new.reader.is_cut s) (sym same) taken.read;
        counted = c.take_all.ensures.failures ∙ ap (λ (s : Option Refusal). g.R.Source.failures c.args.source.now + failures_of s) (sym same);
        is_cut_short = c.cut_short_at-cut_short.ensures ∙ (λ i. cut_short_at (last' i) (c.is_cut_short.ensures i) c.err-stopped.result);
        lacking = c.put_all-lacking.result;
        lacks = subst (λ (n : ℕ). (c.put_all-lacking.result ≡ None) ⊎ (c.put_all-lacking.result ≡ Some (refusals.Memory n))) last all.lacks;
        is_refusal = c.or-refusal.ensures;
        blocks = puts.blocks;
        told = as_many (options_by c.err-stopped.result options) _ _ taken.packets puts.blocks last puts.told;
        rise = subst (λ (ks : List ℕ). IsStrictlySortedBy nat_cmp ks) (sym puts.are_places) all.rise;
        none = no_block_lacks c.put_all-lacking.result all.places puts.blocks puts.are_places all.none;
        some = some_block_lacks c.args.options.now.port taken.packets all.places (keys_of puts.blocks) c.put_all-lacking.result (sym puts.are_places) all.some;
        all = nothing_lacks c.args.options.now.port taken.packets all.places (keys_of puts.blocks) _ c.put_all-lacking.result c.err-stopped.result (sym puts.are_places)
            (λ ample. taken.all (subst (λ (s : Option Refusal). ¬ IsMemory s) same ample)) all.all;
        tally = c.put_file-2.new.counted.tally;
        counts = c.put_file-2.ensures.tallied
            ∙ ap (λ (t : Tally). with_file t c.put_all-lacking.result) (c.put_file.ensures.tallied ∙ ap (λ (t : Tally). with_file t c.err-stopped.result)
            (puts.tallied ∙ ap (λ (t : Tally). tally_from t puts.blocks) c.new-counted.ensures.tally));
        are_firsts = c.put_file-2.ensures.added
            ∙ ap (λ (f : List (Option Refusal)). with_first f c.put_all-lacking.result) (c.put_file.ensures.added ∙ ap (λ (f : List (Option Refusal)). with_first f c.err-stopped.result)
            (puts.added ∙ ap (λ (f : List (Option Refusal)). firsts_after f (refusals_in puts.blocks)) c.new-counted.ensures.refusals));
        is_nothing = c.nothing_by.ensures;
        written = printed_in law options.form c.new-lines.result c.put_last.new.lines c.finish-status.new.self.lines c.args.sink.now _ _ _ _ fresh c.new-lines.ensures.now (search rules)
            c.new-lines.ensures.starts wrote c.finish-status.ensures.writes c.finish-status.ensures.none (coded_as _ _ _ _ c.code.ensures ended);
      };
      held = taken.some;
      marked = puts.marked;
    }
