use Rattle.std.proofs.Common.{◌≡◌, ◌∙◌, ◌++◌, ℕ, Bool, true, false, List, [], ◌∷◌, refl, sym, ap, subst, arith, inl, inr, Result, Ok, Err, is_ok, if◌then◌else◌, cond, append-nil}
use Rattle.std.specs.Result.{is_err}
use Rattle.packets.specs.declared.blocks.Interface.{Interface}
use Rattle.packets.specs.declared.fault.FaultKind.TheVariants as kinds
use Rattle.packets.specs.declared.fault.FileFault.{FileFault}
use Rattle.packets.specs.declared.progress.Format.{Format}
use Rattle.packets.specs.declared.reading.Read.{Read}
use Rattle.packets.specs.declared.reading.Read.TheVariants as reads
use Rattle.packets.specs.Fault.{device_count}
use Rattle.packets.specs.Context.{Context, Start, Packets, Blocks}
use Rattle.packets.specs.Judgement.{Refused}
use Rattle.packets.specs.Recording.{judgement_at, CutShort, Fault, cut_or, ending_at}
use Rattle.packets.specs.declared.fault.FaultKind.{FaultKind}
use Rattle.packets.specs.declared.progress.Progress.{Progress}
use Rattle.packets.specs.Reading.{context_of, with_interface, IsReadAs, IsBegunAs}
use Rattle.packets.specs.Reader.{state_of}
use Rattle.packets.proofs.Advancing.{Passes, passes_on, ends_there, cut_there, finds_there, fails_there, one_more, stands_with, refused_is_no_device}
use Rattle.packets.proofs.Placing.{no_octets}
use Rattle.packets.proofs.reader.advance.Goals as goal

-- the interfaces are those of the slice that was lent
there_as : (format : Format) (slice items : List Interface) (octets : List ℕ) (ended : Bool) (buffer : List ℕ) (read : Read) → slice ≡ items
    → IsReadAs (judgement_at (context_of format slice)) (context_of format slice) octets ended buffer read
    → IsReadAs (judgement_at (context_of format items)) (context_of format items) octets ended buffer read
there_as format slice items octets ended buffer read same is =
    subst (λ (l : List Interface). IsReadAs (judgement_at (context_of format l)) (context_of format l) octets ended buffer read) same is

-- what was pushed, or wasn't
pushed : {X E : Type 0} (r : Result X E) (b : Bool) (now more items : List Interface) → b ≡ is_err r → b ≡ false → now ≡ (if is_ok r then more else items) → now ≡ more
pushed (Ok x) b now more items is none got = got
pushed (Err e) b now more items is none got = absurd (cc)

not_pushed : {X E : Type 0} (r : Result X E) (b : Bool) (now more items : List Interface) → b ≡ is_err r → b ≡ true → now ≡ (if is_ok r then more else items) → now ≡ items
not_pushed (Ok x) b now more items is some got = absurd (cc)
not_pushed (Err e) b now more items is some got = got

pub returns-in-Ok-End-clause-next : goal.returns-in-Ok-End-clause-next
returns-in-Ok-End-clause-next g c =
    let (octets, given, is, none) = rw c.in-Ok-End.field-0-is at c.in-Ok-End.ensures.ok in
    let there = there_as c.loop-progress.progress.format _ _ octets (g.S.Source.has_ended c.read_item.new.source) c.read_item.new.buffer reads.End c.deref.ensures.value is in
    let state = state_of c.loop-progress.progress c.loop-progress.interfaces.items in
    let empty = no_octets octets none.0 in
    ends_there _ _ g.met.S.Source.joined _ _ _ _ state _ octets c.loop-progress.invariant.passes given empty none.1
    (ap (λ (o : List ℕ). judgement_at state.context (o ++ [])) (sym empty) ∙ there [] (λ e h. refl))
    (ap (λ (p : Progress). state_of p c.loop-progress.interfaces.items) c.end.ensures)

pub returns-then-not-is_cut_by-clause-next : goal.returns-then-not-is_cut_by-clause-next
returns-then-not-is_cut_by-clause-next g c =
    let (octets, given, is, _) = rw c.in-Ok-Refused.field-0-is at c.in-Ok-Refused.ensures.ok in
    let kind = c.in-Ok-Refused.kind in
    let items = c.loop-progress.interfaces.items in
    let there = there_as c.loop-progress.progress.format _ _ octets (g.S.Source.has_ended c.read_item.new.source) c.read_item.new.buffer
    (reads.Refused kind) c.deref.ensures.value is in
    let whole : ending_at (context_of c.loop-progress.progress.format items) kind ≡ Fault kind =
    c.is_cut_by.ensures items ∙ ap (λ (b : Bool). cond b CutShort (Fault kind)) c.if-not-is_cut_by.true in
    fails_there _ _ g.met.S.Source.joined _ _ _ _ (state_of c.loop-progress.progress items) _ octets kind c.refuse.result
    c.loop-progress.invariant.passes given (inl (λ more none. there more (λ e h. none h), whole)) c.refuse.ensures.fault
    (stands_with c.loop-progress.progress c.refuse.new.self c.refuse.result items items c.refuse.ensures.state refl)

pub returns-then-not-is_cut_by-clause-failures : goal.returns-then-not-is_cut_by-clause-failures
returns-then-not-is_cut_by-clause-failures g c =
    let (octets, given, is, _) = rw c.in-Ok-Refused.field-0-is at c.in-Ok-Refused.ensures.ok in
    let there = there_as c.loop-progress.progress.format _ _ octets (g.S.Source.has_ended c.read_item.new.source) c.read_item.new.buffer
    (reads.Refused c.in-Ok-Refused.kind) c.deref.ensures.value is in
    let none =
    refused_is_no_device (context_of c.loop-progress.progress.format c.loop-progress.interfaces.items) octets (g.S.Source.has_ended c.read_item.new.source) c.in-Ok-Refused.kind
    (λ more none. there more (λ e h. none h)) in
    let kind = ap (λ (f : FileFault). device_count f.kind) c.refuse.ensures.fault in
    let calm = c.in-Ok-Refused.ensures.failures in omega (arith, c.loop-progress.invariant.calm)

-- what is cut short is truncated, and nothing else
by_kind : (kind : FaultKind) → cut_or kind ≡ CutShort → kind ≡ kinds.Truncated
by_kind kinds.Truncated is = refl
by_kind kinds.Format is = absurd (cc)
by_kind kinds.TooLong is = absurd (cc)
by_kind kinds.Block is = absurd (cc)
by_kind kinds.Time is = absurd (cc)
by_kind kinds.Device is = absurd (cc)
by_kind kinds.Memory is = absurd (cc)

is_truncated : (context : Context) (kind : FaultKind) → ending_at context kind ≡ CutShort → kind ≡ kinds.Truncated
is_truncated Start kind is = absurd (cc)
is_truncated (Packets magic link_type) kind is = by_kind kind is
is_truncated (Blocks order interfaces) kind is = by_kind kind is

pub returns-in-Ok-Refused-clause-next : goal.returns-in-Ok-Refused-clause-next
returns-in-Ok-Refused-clause-next g c =
    let (octets, given, is, ended) = rw c.in-Ok-Refused.field-0-is at c.in-Ok-Refused.ensures.ok in
    let kind = c.in-Ok-Refused.kind in
    let items = c.loop-progress.interfaces.items in
    let context = context_of c.loop-progress.progress.format items in
    let there = there_as c.loop-progress.progress.format _ _ octets (g.S.Source.has_ended c.read_item.new.source) c.read_item.new.buffer
    (reads.Refused kind) c.deref.ensures.value is in
    let cut : ending_at context kind ≡ CutShort =
    c.is_cut_by.ensures items ∙ ap (λ (b : Bool). cond b CutShort (Fault kind)) c.if-not-is_cut_by.false in
    let judged : judgement_at context octets ≡ Refused kind = ap (λ (o : List ℕ). judgement_at context o) (sym (append-nil octets)) ∙ there [] (λ e h. refl) in
    cut_there _ _ g.met.S.Source.joined _ _ _ _ (state_of c.loop-progress.progress items) _ octets kind c.loop-progress.invariant.passes given
    (ended (is_truncated context kind cut)) judged cut
    (ap (λ (p : Progress). state_of p items) c.end-in-Ok-Refused.ensures)

pub loop-progress-preserved-in-Ok-Opened : goal.loop-progress-preserved-in-Ok-Opened
loop-progress-preserved-in-Ok-Opened g c =
    let (octets, given, is, some) = rw c.in-Ok-Opened.field-0-is at c.in-Ok-Opened.ensures.ok in
    let there = there_as c.loop-progress.progress.format _ _ octets (g.S.Source.has_ended c.read_item.new.source) c.read_item.new.buffer
    (reads.Opened c.in-Ok-Opened.format) c.deref.ensures.value is in
    let counted = g.met.S.Source.counted _ _ octets given in
    let state = state_of c.loop-progress.progress c.loop-progress.interfaces.items in
    let passes = passes_on _ _ g.met.S.Source.joined _ _ _ _ state octets (context_of c.in-Ok-Opened.format []) c.loop-progress.invariant.passes given
    (λ more. there more (λ e h. absurd e)) in record {
      room = c.read_item.ensures.room ∙ c.loop-progress.invariant.room;
      passes = subst (λ (l : List Interface). Passes g.S.Source.gives g.S.Source.has_ended g.met.S.Source.joined c.args.source.now
          (state_of c.args.progress.now c.args.interfaces.now.items) c.read_item.new.source
          (state_of (record c.loop-progress.progress { format = c.in-Ok-Opened.format }) l)) (sym c.clear.ensures.items) passes;
      number = c.loop-progress.invariant.number;
      one_source = omega (arith, c.loop-progress.invariant.one_source);
      calm = cc (c.in-Ok-Opened.ensures.failures);
    }

pub returns-then-is_err-clause-next : goal.returns-then-is_err-clause-next
returns-then-is_err-clause-next g c =
    let (octets, given, is, _) = rw c.in-Ok-Described.field-0-is at c.in-Ok-Described.ensures.ok in
    let there = there_as c.loop-progress.progress.format _ _ octets (g.S.Source.has_ended c.read_item.new.source) c.read_item.new.buffer
    (reads.Described c.in-Ok-Described.interface) c.deref.ensures.value is in
    let kept =
    not_pushed c.push.result c.is_err.result c.push.new.self.items (c.loop-progress.interfaces.items ++ c.in-Ok-Described.interface ∷ []) c.loop-progress.interfaces.items
    c.is_err.ensures.value c.if-is_err.true c.push.ensures.items in
    fails_there _ _ g.met.S.Source.joined _ _ _ _ (state_of c.loop-progress.progress c.loop-progress.interfaces.items) _ octets kinds.Memory c.refuse-then-is_err.result
    c.loop-progress.invariant.passes given (inr (inr (refl, inr (c.in-Ok-Described.interface, λ more. there more (λ e h. absurd e))))) c.refuse-then-is_err.ensures.fault
    (stands_with c.loop-progress.progress c.refuse-then-is_err.new.self c.refuse-then-is_err.result c.loop-progress.interfaces.items c.push.new.self.items
    c.refuse-then-is_err.ensures.state kept)

pub loop-progress-preserved-else-is_err : goal.loop-progress-preserved-else-is_err
loop-progress-preserved-else-is_err g c =
    let (octets, given, is, some) = rw c.in-Ok-Described.field-0-is at c.in-Ok-Described.ensures.ok in
    let there = there_as c.loop-progress.progress.format _ _ octets (g.S.Source.has_ended c.read_item.new.source) c.read_item.new.buffer
    (reads.Described c.in-Ok-Described.interface) c.deref.ensures.value is in
    let counted = g.met.S.Source.counted _ _ octets given in
    let state = state_of c.loop-progress.progress c.loop-progress.interfaces.items in
    let longer =
    pushed c.push.result c.is_err.result c.push.new.self.items (c.loop-progress.interfaces.items ++ c.in-Ok-Described.interface ∷ []) c.loop-progress.interfaces.items
    c.is_err.ensures.value c.if-is_err.false c.push.ensures.items in
    let passes = passes_on _ _ g.met.S.Source.joined _ _ _ _ state octets (with_interface state.context c.in-Ok-Described.interface) c.loop-progress.invariant.passes given
    (λ more. there more (λ e h. absurd e)) in record {
      room = c.read_item.ensures.room ∙ c.loop-progress.invariant.room;
      passes = subst (λ (l : List Interface). Passes g.S.Source.gives g.S.Source.has_ended g.met.S.Source.joined c.args.source.now
          (state_of c.args.progress.now c.args.interfaces.now.items) c.read_item.new.source (state_of c.loop-progress.progress l)) (sym longer)
          (one_more _ _ g.met.S.Source.joined _ _ _ c.loop-progress.progress c.loop-progress.interfaces.items c.in-Ok-Described.interface passes);
      number = c.loop-progress.invariant.number;
      one_source = omega (arith, c.loop-progress.invariant.one_source);
      calm = cc (c.in-Ok-Described.ensures.failures);
    }

pub loop-progress-preserved : goal.loop-progress-preserved
loop-progress-preserved g c =
    let (octets, given, is, some) = rw c.in-Ok-Skipped.field-0-is at c.in-Ok-Skipped.ensures.ok in
    let there = there_as c.loop-progress.progress.format _ _ octets (g.S.Source.has_ended c.read_item.new.source) c.read_item.new.buffer reads.Skipped c.deref.ensures.value is in
    let counted = g.met.S.Source.counted _ _ octets given in
    let state = state_of c.loop-progress.progress c.loop-progress.interfaces.items in record {
      room = c.read_item.ensures.room ∙ c.loop-progress.invariant.room;
      passes = passes_on _ _ g.met.S.Source.joined _ _ _ _ state octets state.context c.loop-progress.invariant.passes given (λ more. there more (λ e h. absurd e));
      number = c.loop-progress.invariant.number;
      one_source = omega (arith, c.loop-progress.invariant.one_source);
      calm = cc (c.in-Ok-Skipped.ensures.failures);
    }

pub returns-in-Ok-Packet-clause-next : goal.returns-in-Ok-Packet-clause-next
returns-in-Ok-Packet-clause-next g c =
    let (octets, given, is, within) = rw c.in-Ok-Packet.field-0-is at c.in-Ok-Packet.ensures.ok in
    let there = there_as c.loop-progress.progress.format _ _ octets (g.S.Source.has_ended c.read_item.new.source) c.read_item.new.buffer
    (reads.Packet c.in-Ok-Packet.found) c.deref.ensures.value is in
    finds_there _ _ g.met.S.Source.joined _ _ _ _ (state_of c.loop-progress.progress c.loop-progress.interfaces.items) octets c.read_item.new.buffer c.in-Ok-Packet.found
    c.loop-progress.invariant.passes given (λ more. there more (λ e h. absurd e)) within.1

pub returns-in-Err-clause-next : goal.returns-in-Err-clause-next
returns-in-Err-clause-next g c =
    let (taken, given, begun) = c.in-Err.ensures.err in
    let there = subst (λ (l : List Interface). IsBegunAs (judgement_at (context_of c.loop-progress.progress.format l)) taken) c.deref.ensures.value begun in
    fails_there _ _ g.met.S.Source.joined _ _ _ _ (state_of c.loop-progress.progress c.loop-progress.interfaces.items) _ taken kinds.Device c.refuse-in-Err.result
    c.loop-progress.invariant.passes given (inr (inl (refl, there))) c.refuse-in-Err.ensures.fault
    (stands_with c.loop-progress.progress c.refuse-in-Err.new.self c.refuse-in-Err.result c.loop-progress.interfaces.items c.loop-progress.interfaces.items c.refuse-in-Err.ensures.state refl)
