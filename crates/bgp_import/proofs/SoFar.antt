-- What was read of a recording, packet by packet, and how it ends.
use Rattle.std.proofs.Common.{◌≡◌, ◌∙◌, ◌<◌, ◌≤◌, ◌+◌, ◌-◌, ◌^◌, ℕ, Bool, false, List, [], ◌∷◌, ◌++◌, length, reverse, Option, None, Some, Result, Ok, Err, is_some, refl, sym, ap, subst, arith, inl, inr, append_assoc, append-nil, length-append, if◌then◌else◌}
use Rattle.packets.specs.Context.{Context, Start}
use Rattle.packets.specs.Judgement.{Judgement}
use Rattle.packets.specs.Packet.{Recorded, recorded_of}
use Rattle.packets.specs.Reader.{ReaderState, fresh_reader, HasRead, Ends, Fails, IsAnswer, NextBy, IsNext}
use Rattle.packets.specs.Fault.{device_count}
use Rattle.packets.specs.Reader as reader
use Rattle.packets.specs.Recording.{Fault, end_by, ending_at, IsRead, IsReadIn, IsReadBy, judgement_at}
use Rattle.packets.specs.Judgement.{Refused}
use Rattle.packets.specs.declared.fault.FaultKind.{FaultKind}
use Rattle.packets.specs.declared.fault.FaultKind.TheVariants as kinds
use Rattle.packets.specs.declared.fault.FileFault.{FileFault}
use Rattle.packets.specs.declared.packet.Packet.{Packet}
use Rattle.streams.specs.Held.{HoldsConnections}
use Rattle.streams.specs.Passed.{Segment}
use Rattle.streams.specs.declared.connections.Connections.{Connections}
use Rattle.bgp_import.specs.Gathers.{IsStopped, failures_by}
use Rattle.bgp_import.specs.Selecting.{AreTaken, HasPart}
use Rattle.bgp_import.specs.Taking.{IsNotTaken, HasTakenAll}
use Rattle.bgp_import.specs.declared.refusal.Refusal.{Refusal}
use Rattle.bgp_import.specs.declared.refusal.Refusal.TheVariants as refusals
use Rattle.bgp_import.specs.declared.selection.Selection.{Selection}
use Rattle.bgp_import.proofs.Taken.{one_more, last_first}

-- what was read, and then more
then_read : (from mid to : Context) (a b : List ℕ) (p q : List Recorded) → HasRead from a p mid → HasRead mid b q to → HasRead from (a ++ b) (p ++ q) to
then_read from mid to a b p q first second more later ending is =
    subst (λ (o : List ℕ). IsRead from o ((p ++ q) ++ later) ending) (sym (append_assoc a b more))
    (subst (λ (l : List Recorded). IsRead from (a ++ (b ++ more)) l ending) (sym (append_assoc p q later))
    (first (b ++ more) (q ++ later) ending (second more later ending is)))

-- and then octets that are no packet
then_passed : (from mid to : Context) (a b : List ℕ) (p : List Recorded) → HasRead from a p mid → HasRead mid b [] to → HasRead from (a ++ b) p to
then_passed from mid to a b p first second =
    subst (λ (l : List Recorded). HasRead from (a ++ b) l to) (append-nil p) (then_read from mid to a b p [] first second)

refused_there : (context : Context) (octets : List ℕ) (kind : FaultKind) → judgement_at context octets ≡ Refused kind → ending_at context kind ≡ Fault kind
    → IsRead context octets [] (Fault kind)
refused_there context octets kind judged whole =
    (1, subst (λ (j : Judgement). IsReadBy (λ after rest later. IsReadIn 0 after rest later (Fault kind)) context octets [] (Fault kind) j) (sym judged) (refl, sym whole))

-- the place behind what was read is refused
read_to_fault : (to : Context) (a rest : List ℕ) (packets : List Recorded) (kind : FaultKind) → HasRead Start a packets to → IsRead to rest [] (Fault kind)
    → IsRead Start (a ++ rest) packets (Fault kind)
read_to_fault to a rest packets kind read there =
    subst (λ (l : List Recorded). IsRead Start (a ++ rest) l (Fault kind)) (append-nil packets) (read rest [] (Fault kind) there)

read_to_end : (to : Context) (a rest : List ℕ) (packets : List Recorded) (cut : Bool) → HasRead Start a packets to → IsRead to rest [] (end_by cut)
    → IsRead Start (a ++ rest) packets (end_by cut)
read_to_end to a rest packets cut read there =
    subst (λ (l : List Recorded). IsRead Start (a ++ rest) l (end_by cut)) (append-nil packets) (read rest [] (end_by cut) there)

file_is : (fault : FileFault) (kind : FaultKind) (number : ℕ) → fault.kind ≡ kind → fault.packet ≡ number → refusals.File fault ≡ refusals.File (record { kind = kind; packet = number })
file_is fault kind number is there = λ i. refusals.File (record { kind = is i; packet = there i })

module _ {S : Type 0} (gives : S → S → List ℕ → Type 0) (has_ended : S → Bool)
    (gives_joined : (a b c : S) (xs ys : List ℕ) → gives a b xs → gives b c ys → gives a c (xs ++ ys))
    (selection : Selection) (source : S) where
  -- what was read from the source, and the connections that are held
  pub record SoFar {Z : Type 0} (now : S) (state : ReaderState) (connections : Connections Z) : Type 0 where
    pub octets : List ℕ
    pub packets : List Recorded
    pub segments : List Segment
    pub gave : gives source now octets
    pub read : HasRead Start octets packets state.context
    pub taken : AreTaken selection 0 packets segments
    pub holds : HoldsConnections (reverse segments) connections
    pub many : state.number ≡ length packets
    pub calm : state.fault ≡ None
    pub going : state.is_ended ≡ false

  pub nothing_read : {Z : Type 0} (state : ReaderState) (connections : Connections Z) → state ≡ fresh_reader → HoldsConnections [] connections → gives source source []
      → SoFar source state connections
  nothing_read state connections fresh empty nothing = record {
    octets = [];
    packets = [];
    segments = [];
    gave = nothing;
    read = subst (λ (k : Context). HasRead Start [] [] k) (sym (ap (λ (s : ReaderState). s.context) fresh)) (λ more later ending is. is);
    taken = refl;
    holds = empty;
    many = ap (λ (s : ReaderState). s.number) fresh;
    calm = ap (λ (s : ReaderState). s.fault) fresh;
    going = ap (λ (s : ReaderState). s.is_ended) fresh;
  }

  pub answer_of : {Z : Type 0} (now next : S) (state after : ReaderState) (connections : Connections Z) (answer : Result (Option Packet) FileFault) → SoFar now state connections
      → IsNext gives has_ended now next state after answer → IsAnswer gives has_ended now next state after answer
  answer_of now next state after connections answer so_far is =
      subst (λ (b : Bool). NextBy gives has_ended None b now next state after answer) so_far.going
      (subst (λ (f : Option FileFault). NextBy gives has_ended f state.is_ended now next state after answer) so_far.calm is)

  -- a packet more
  pub taken_on : {Z : Type 0} (now next : S) (state after : ReaderState) (connections held : Connections Z) (packet : Packet) (part : List Segment)
      → SoFar now state connections → IsAnswer gives has_ended now next state after (Ok (Some packet)) → HasPart selection packet.number (recorded_of packet) part
      → ((before : List Segment) → HoldsConnections before connections → HoldsConnections (part ++ before) held)
      → SoFar next after held
  taken_on now next state after connections held packet part so answer has held_on =
      let number : packet.number ≡ 0 + length so.packets + 1 = omega (arith, answer.1, so.many) in
      let there = subst (λ (n : ℕ). HasPart selection n (recorded_of packet) part) number has in
      let longer = length-append so.packets (recorded_of packet ∷ []) in
      let counted = ap (λ (s : ReaderState). s.number) answer.0.stands in
      record {
        octets = so.octets ++ answer.0.octets;
        packets = so.packets ++ recorded_of packet ∷ [];
        segments = so.segments ++ part;
        gave = gives_joined source now next so.octets answer.0.octets so.gave answer.0.exactly;
        read = then_read Start state.context after.context so.octets answer.0.octets so.packets _ so.read answer.0.told;
        taken = one_more selection 0 so.packets so.segments (recorded_of packet) part so.taken there;
        holds = subst (λ (l : List Segment). HoldsConnections l held) (last_first selection packet.number (recorded_of packet) so.segments part has)
            (held_on (reverse so.segments) so.holds);
        many = omega (arith, longer, counted, so.many);
        calm = ap (λ (s : ReaderState). s.fault) answer.0.stands ∙ so.calm;
        going = ap (λ (s : ReaderState). s.is_ended) answer.0.stands ∙ so.going;
      }

  -- the end
  pub all_taken : {Z : Type 0} (now next : S) (state after : ReaderState) (connections : Connections Z)
      → SoFar now state connections → Ends gives has_ended now next state after → HasTakenAll gives has_ended selection source next connections after.number after.is_cut
  all_taken now next state after connections so ends = record {
    octets = so.octets ++ (ends.octets ++ ends.rest);
    packets = so.packets;
    segments = so.segments;
    all = record {
      exactly = gives_joined source now next so.octets _ so.gave ends.exactly;
      ended = ends.ended;
      spells = subst (λ (o : List ℕ). IsRead Start o so.packets (end_by after.is_cut)) (append_assoc so.octets ends.octets ends.rest)
          (read_to_end after.context (so.octets ++ ends.octets) ends.rest so.packets after.is_cut
          (then_passed Start state.context after.context so.octets ends.octets so.packets so.read ends.passed) ends.ending);
      taken = so.taken;
    };
    holds = so.holds;
    many = ap (λ (s : ReaderState). s.number) ends.stands ∙ so.many;
  }

  -- a fault of the file, or a device that failed, or no memory
  pub file_refused : {Z : Type 0} (now next : S) (state after : ReaderState) (connections : Connections Z) (fault : FileFault)
      → SoFar now state connections → Fails gives has_ended now next state after fault → IsStopped gives has_ended selection source next (refusals.File fault)
  file_refused now next state after connections fault so fails =
      let front = so.octets ++ fails.octets in
      let read = then_passed Start state.context after.context so.octets fails.octets so.packets so.read fails.passed in
      let whole : so.octets ++ (fails.octets ++ fails.rest) ≡ front ++ fails.rest = sym (append_assoc so.octets fails.octets fails.rest) in
      let number : fault.packet ≡ length so.packets + 1 = omega (arith, fails.packet, so.many) in
      let upset : (kind : FaultKind) → fault.kind ≡ kind → refusals.File fault ≡ refusals.File (record { kind = kind; packet = length so.packets + 1 }) = λ kind is. file_is fault kind _ is number in
      record {
        octets = so.octets ++ (fails.octets ++ fails.rest);
        exactly = gives_joined source now next so.octets _ so.gave fails.taken;
        why = elim fails.cause [
          | inl refused ↦ inl (λ more none. inl (record {
            packets = so.packets;
            segments = so.segments;
            kind = fault.kind;
            first = subst (λ (o : List ℕ). IsRead Start o so.packets (Fault fault.kind))
                (sym (append_assoc front fails.rest more) ∙ ap (λ (o : List ℕ). o ++ more) (sym whole))
                (read_to_fault after.context front (fails.rest ++ more) so.packets fault.kind read
                (refused_there after.context (fails.rest ++ more) fault.kind (refused.0 more none) refused.1));
            taken = so.taken;
            is = upset fault.kind refl;
          }))
          | inr other ↦ inr (record {
            front = front;
            rest = fails.rest;
            packets = so.packets;
            segments = so.segments;
            after = after.context;
            whole = whole;
            read = read;
            taken = so.taken;
            upset = elim other [ inl device ↦ inl (upset kinds.Device device.0) | inr memory ↦ inr (inl (upset kinds.Memory memory.0)) ];
          })
        ];
      }

  -- a packet that isn't taken
  pub packet_refused : {Z : Type 0} (now next : S) (state after : ReaderState) (connections : Connections Z) (packet : Packet) (refusal : Refusal)
      → SoFar now state connections → IsAnswer gives has_ended now next state after (Ok (Some packet)) → IsNotTaken selection packet.number (recorded_of packet) refusal
      → IsStopped gives has_ended selection source next refusal
  packet_refused now next state after connections packet refusal so answer not_taken =
      let number : packet.number ≡ length so.packets + 1 = omega (arith, answer.1, so.many) in
      record {
        octets = so.octets ++ answer.0.octets;
        exactly = gives_joined source now next so.octets answer.0.octets so.gave answer.0.exactly;
        why = elim not_taken [
          | inl (fault, refused, is) ↦ inl (λ more none. inr (record {
            front = so.octets ++ answer.0.octets;
            behind = more;
            packets = so.packets;
            segments = so.segments;
            packet = recorded_of packet;
            after = after.context;
            fault = fault;
            whole = refl;
            read = then_read Start state.context after.context so.octets answer.0.octets so.packets _ so.read answer.0.told;
            taken = so.taken;
            refused = refused;
            is = is ∙ ap (λ (n : ℕ). refusals.Packet fault n) number;
          }))
          | inr is ↦ inr (record {
            front = so.octets;
            rest = answer.0.octets;
            packets = so.packets;
            segments = so.segments;
            after = state.context;
            whole = refl;
            read = so.read;
            taken = so.taken;
            upset = inr (inr (is ∙ ap refusals.Memory number));
          })
        ];
      }

-- what isn't taken is no failure
pub no_failure : (selection : Selection) (number : ℕ) (packet : Recorded) (refusal : Refusal) → IsNotTaken selection number packet refusal → failures_by refusal ≡ 0
no_failure selection number packet refusal (inl (fault, refused, is)) = ap failures_by is
no_failure selection number packet refusal (inr is) = ap failures_by is

-- the first failure is counted
pub counted : (state : ReaderState) (fault : FileFault) → state.fault ≡ None → reader.failures_in state (Err fault) ≡ device_count fault.kind
counted state fault calm = ap (λ (f : Option FileFault). if is_some f then 0 else device_count fault.kind) calm

-- there is less left to read
pub less_left : (a b c : ℕ) → b ≡ a + 1 → b ≤ c → c < 2 ^ 63 → 2 ^ 63 - b < 2 ^ 63 - a
less_left a b c more le below = omega (arith, more, le, below)
