-- What was read of a recording, packet by packet, and how that ends.
use Rattle.std.proofs.Common.{◌≡◌, ◌∙◌, ◌+◌, ◌++◌, ℕ, Bool, false, List, [], ◌∷◌, length, Option, None, Some, Result, Ok, Err, refl, sym, ap, subst, arith, inl, inr, append_assoc, append-nil, length-append}
use Rattle.std.specs.List.{AllByRecursion}
use Rattle.packets.specs.Context.{Context, Start}
use Rattle.packets.specs.Judgement.{Judgement, Refused}
use Rattle.packets.specs.Packet.{Recorded, recorded_of}
use Rattle.packets.specs.Reader.{Ends, Fails, HasRead, IsAnswer, IsNext, NextBy, ReaderState, fresh_reader}
use Rattle.packets.specs.Recording.{Fault, IsRead, IsReadBy, IsReadIn, end_by, ending_at, judgement_at}
use Rattle.packets.specs.declared.fault.FaultKind.{FaultKind}
use Rattle.packets.specs.declared.fault.FileFault.{FileFault}
use Rattle.packets.specs.declared.packet.Packet.{Packet}
use Rattle.bgp_import.specs.Gathers.{failures_by}
use Rattle.bgp_import.specs.declared.refusal.Refusal.{Refusal}
use Rattle.bgp_import.specs.declared.refusal.Refusal.TheVariants as refusals
use Rattle.bgp_import.specs.Reading.{AreKnown, TakesAll}
use Rattle.bgp_import.specs.Talks.{HoldsEach, IsLinkKnown, TakesPacket}
use Rattle.bgp_import.specs.Wrapped.{AreCounted}
use Rattle.bgp_import.specs.declared.talks.Talks.{Talks}

all_with : {X : Type 0} (P : X → Type 0) (xs : List X) (one : X) → AllByRecursion P xs → P one → AllByRecursion P (xs ++ one ∷ [])
all_with P [] one all p = (p, tt)
all_with P (x ∷ xs) one all p = (all.0, all_with P xs one all.1 p)

some_none : (r : Refusal) → Some r ≡ None → ⊥
some_none r e = cc

none_counted : (packets : List Recorded) → length packets ≡ 0 → packets ≡ []
none_counted [] none = refl
none_counted (packet ∷ packets) some = absurd (omega (arith, some))

-- what was read, and then more
then_read : (from mid to : Context) (a b : List ℕ) (p q : List Recorded) → HasRead from a p mid → HasRead mid b q to → HasRead from (a ++ b) (p ++ q) to
then_read from mid to a b p q first second more later ending is =
    subst (λ (o : List ℕ). IsRead from o ((p ++ q) ++ later) ending) (sym (append_assoc a b more))
    (subst (λ (l : List Recorded). IsRead from (a ++ (b ++ more)) l ending) (sym (append_assoc p q later))
    (first (b ++ more) (q ++ later) ending (second more later ending is)))

-- and then octets that are no packet
then_passed : (from mid to : Context) (a b : List ℕ) (p : List Recorded) → HasRead from a p mid → HasRead mid b [] to → HasRead from (a ++ b) p to
then_passed from mid to a b p first second =
    subst (λ (l : List Recorded). HasRead from (a ++ b) l to) (append-nil p) (then_read from mid to a b p [] first second)

refused_there : (context : Context) (octets : List ℕ) (kind : FaultKind) → judgement_at context octets ≡ Refused kind → ending_at context kind ≡ Fault kind
    → IsRead context octets [] (Fault kind)
refused_there context octets kind judged whole =
    (1, subst (λ (j : Judgement). IsReadBy (λ after rest later. IsReadIn 0 after rest later (Fault kind)) context octets [] (Fault kind) j) (sym judged) (refl, sym whole))

read_to_fault : (to : Context) (a rest : List ℕ) (packets : List Recorded) (kind : FaultKind) → HasRead Start a packets to → IsRead to rest [] (Fault kind)
    → IsRead Start (a ++ rest) packets (Fault kind)
read_to_fault to a rest packets kind read there =
    subst (λ (l : List Recorded). IsRead Start (a ++ rest) l (Fault kind)) (append-nil packets) (read rest [] (Fault kind) there)

read_to_end : (to : Context) (a rest : List ℕ) (packets : List Recorded) (short : Bool) → HasRead Start a packets to → IsRead to rest [] (end_by short)
    → IsRead Start (a ++ rest) packets (end_by short)
read_to_end to a rest packets short read there =
    subst (λ (l : List Recorded). IsRead Start (a ++ rest) l (end_by short)) (append-nil packets) (read rest [] (end_by short) there)

module _ {S : Type 0} (gives : S → S → List ℕ → Type 0) (has_ended : S → Bool)
    (gives_joined : (a b c : S) (xs ys : List ℕ) → gives a b xs → gives b c ys → gives a c (xs ++ ys))
    (port : ℕ) (source : S) where
  -- what was read from the source, and what is held of it
  pub record SoFar {Z : Type 0} (now : S) (state : ReaderState) (talks : Talks Z) : Type 0 where
    pub octets : List ℕ
    pub packets : List Recorded
    pub gave : gives source now octets
    pub read : HasRead Start octets packets state.context
    pub known : AreKnown packets
    pub held : HoldsEach port packets talks
    pub wrapped : AreCounted packets talks.wrapped
    pub many : state.number ≡ length packets
    pub calm : state.fault ≡ None
    pub going : state.is_ended ≡ false

  pub nothing_read : {Z : Type 0} (state : ReaderState) (talks : Talks Z) → state ≡ fresh_reader → HoldsEach port [] talks → AreCounted [] talks.wrapped → gives source source []
      → SoFar source state talks
  nothing_read state talks fresh empty none nothing = record {
    octets = [];
    packets = [];
    gave = nothing;
    read = subst (λ (k : Context). HasRead Start [] [] k) (sym (ap (λ (s : ReaderState). s.context) fresh)) (λ more later ending is. is);
    known = tt;
    held = empty;
    wrapped = none;
    many = ap (λ (s : ReaderState). s.number) fresh;
    calm = ap (λ (s : ReaderState). s.fault) fresh;
    going = ap (λ (s : ReaderState). s.is_ended) fresh;
  }

  pub answer_of : {Z : Type 0} (now next : S) (state after : ReaderState) (talks : Talks Z) (answer : Result (Option Packet) FileFault) → SoFar now state talks
      → IsNext gives has_ended now next state after answer → IsAnswer gives has_ended now next state after answer
  answer_of now next state after talks answer so_far is =
      subst (λ (b : Bool). NextBy gives has_ended None b now next state after answer) so_far.going
      (subst (λ (f : Option FileFault). NextBy gives has_ended f state.is_ended now next state after answer) so_far.calm is)

  -- the number of a packet more
  pub number_is : {Z : Type 0} (now next : S) (state after : ReaderState) (talks : Talks Z) (packet : Packet) (so : SoFar now state talks)
      → IsAnswer gives has_ended now next state after (Ok (Some packet)) → packet.number ≡ length so.packets + 1
  number_is now next state after talks packet so answer = omega (arith, answer.1, so.many)

  -- a packet more
  pub taken_on : {Z : Type 0} (now next : S) (state after : ReaderState) (talks held : Talks Z) (packet : Packet) (so : SoFar now state talks)
      → IsAnswer gives has_ended now next state after (Ok (Some packet)) → TakesPacket port so.packets (recorded_of packet) (Ok tt) held
      → AreCounted (so.packets ++ recorded_of packet ∷ []) held.wrapped → SoFar next after held
  taken_on now next state after talks held packet so answer (known, holds) counts =
      let longer = length-append so.packets (recorded_of packet ∷ []) in
      let counted = ap (λ (s : ReaderState). s.number) answer.0.stands in
      record {
        octets = so.octets ++ answer.0.octets;
        packets = so.packets ++ recorded_of packet ∷ [];
        gave = gives_joined source now next so.octets answer.0.octets so.gave answer.0.exactly;
        read = then_read Start state.context after.context so.octets answer.0.octets so.packets _ so.read answer.0.told;
        known = all_with IsLinkKnown so.packets (recorded_of packet) so.known known;
        held = holds;
        wrapped = counts;
        many = omega (arith, longer, counted, so.many);
        calm = ap (λ (s : ReaderState). s.fault) answer.0.stands ∙ so.calm;
        going = ap (λ (s : ReaderState). s.is_ended) answer.0.stands ∙ so.going;
      }

  -- the end
  pub all_taken : {Z : Type 0} (now next : S) (state after : ReaderState) (talks : Talks Z)
      → SoFar now state talks → Ends gives has_ended now next state after → TakesAll gives has_ended port source next talks after.number after.is_cut (Ok tt)
  all_taken now next state after talks so ends = record {
    packets = so.packets;
    read = record {
      octets = so.octets ++ (ends.octets ++ ends.rest);
      exactly = gives_joined source now next so.octets _ so.gave ends.exactly;
      is = (
        ends.ended,
        subst (λ (o : List ℕ). IsRead Start o so.packets (end_by after.is_cut)) (append_assoc so.octets ends.octets ends.rest)
            (read_to_end after.context (so.octets ++ ends.octets) ends.rest so.packets after.is_cut
            (then_passed Start state.context after.context so.octets ends.octets so.packets so.read ends.passed) ends.ending),
      );
      known = so.known;
    };
    some = so.held.right;
    all = λ ample. so.held;
    many = ap (λ (s : ReaderState). s.number) ends.stands ∙ so.many;
    wrapped = λ none. so.wrapped;
  }

  -- a fault of the file, or a device that failed, or no memory
  pub file_refused : {Z : Type 0} (now next : S) (state after : ReaderState) (talks : Talks Z) (fault : FileFault)
      → SoFar now state talks → Fails gives has_ended now next state after fault → TakesAll gives has_ended port source next talks after.number after.is_cut (Err (refusals.File fault))
  file_refused now next state after talks fault so fails =
      let front = so.octets ++ fails.octets in
      let read = then_passed Start state.context after.context so.octets fails.octets so.packets so.read fails.passed in
      let whole : so.octets ++ (fails.octets ++ fails.rest) ≡ front ++ fails.rest = sym (append_assoc so.octets fails.octets fails.rest) in
      record {
        packets = so.packets;
        read = record {
          octets = so.octets ++ (fails.octets ++ fails.rest);
          exactly = gives_joined source now next so.octets _ so.gave fails.taken;
          is = (
            omega (arith, fails.packet, so.many),
            elim fails.cause [
              | inl refused ↦ inl (λ more none.
                  subst (λ (o : List ℕ). IsRead Start o so.packets (Fault fault.kind))
                  (sym (append_assoc front fails.rest more) ∙ ap (λ (o : List ℕ). o ++ more) (sym whole))
                  (read_to_fault after.context front (fails.rest ++ more) so.packets fault.kind read
                  (refused_there after.context (fails.rest ++ more) fault.kind (refused.0 more none) refused.1)))
              | inr other ↦ inr (elim other [
                | inl device ↦ inl (device.0, record { front = front; rest = fails.rest; after = after.context; whole = whole; read = read; is = device.1 })
                | inr memory ↦ inr (
                  memory.0,
                  record {
                    front = front;
                    rest = fails.rest;
                    after = after.context;
                    whole = whole;
                    read = read;
                    is = elim memory.1 [
                      | inl fresh ↦ inl (none_counted so.packets (sym so.many ∙ ap (λ (s : ReaderState). s.number) fresh.1))
                      | inr describes ↦ inr describes
                    ];
                  },
                )
              ])
            ],
          );
          known = so.known;
        };
        some = so.held.right;
        all = λ ample. so.held;
        many = ap (λ (s : ReaderState). s.number) fails.stands ∙ so.many;
        wrapped = λ none. absurd (some_none (refusals.File fault) none);
      }

  -- a packet that isn't taken
  pub packet_refused : {Z : Type 0} (now next : S) (state after : ReaderState) (talks held : Talks Z) (packet : Packet) (refusal : Refusal) (so : SoFar now state talks)
      → IsAnswer gives has_ended now next state after (Ok (Some packet)) → TakesPacket port so.packets (recorded_of packet) (Err refusal) held
      → TakesAll gives has_ended port source next held after.number after.is_cut (Err refusal)
  packet_refused now next state after talks held packet (refusals.File fault) so answer taken = absurd taken
  packet_refused now next state after talks held packet (refusals.Connection fault) so answer taken = absurd taken
  packet_refused now next state after talks held packet (refusals.RouteRefresh number from place) so answer taken = absurd taken
  packet_refused now next state after talks held packet (refusals.Packet fault number) so answer (link_type, link, is, unknown, holds) = record {
    packets = so.packets;
    read = record {
      octets = so.octets ++ answer.0.octets;
      exactly = gives_joined source now next so.octets answer.0.octets so.gave answer.0.exactly;
      is = (
        is,
        (
          recorded_of packet,
          link_type,
          link,
          unknown,
          record {
            front = so.octets ++ answer.0.octets;
            rest = [];
            after = after.context;
            whole = sym (append-nil (so.octets ++ answer.0.octets));
            read = then_read Start state.context after.context so.octets answer.0.octets so.packets _ so.read answer.0.told;
            is = refl;
          },
        ),
      );
      known = so.known;
    };
    some = holds.right;
    all = λ ample. holds;
    many = ap (λ (s : ReaderState). s.number) answer.0.stands ∙ omega (arith, so.many, is);
    wrapped = λ none. absurd (some_none (refusals.Packet fault number) none);
  }
  packet_refused now next state after talks held packet (refusals.Memory number) so answer (is, holds) = record {
    packets = so.packets;
    read = record {
      octets = so.octets ++ answer.0.octets;
      exactly = gives_joined source now next so.octets answer.0.octets so.gave answer.0.exactly;
      is = (
        is,
        (
          recorded_of packet,
          record {
            front = so.octets ++ answer.0.octets;
            rest = [];
            after = after.context;
            whole = sym (append-nil (so.octets ++ answer.0.octets));
            read = then_read Start state.context after.context so.octets answer.0.octets so.packets _ so.read answer.0.told;
            is = refl;
          },
        ),
      );
      known = so.known;
    };
    some = holds;
    all = λ ample. absurd (ample tt);
    many = ap (λ (s : ReaderState). s.number) answer.0.stands ∙ omega (arith, so.many, is);
    wrapped = λ none. absurd (some_none (refusals.Memory number) none);
  }

-- it is no failure of the source
pub no_failure : {Z : Type 0} (port : ℕ) (packets : List Recorded) (packet : Recorded) (talks : Talks Z) (refusal : Refusal)
    → TakesPacket port packets packet (Err refusal) talks → failures_by refusal ≡ 0
no_failure port packets packet talks (refusals.File fault) taken = absurd taken
no_failure port packets packet talks (refusals.Packet fault number) taken = refl
no_failure port packets packet talks (refusals.Connection fault) taken = refl
no_failure port packets packet talks (refusals.Memory number) taken = refl
no_failure port packets packet talks (refusals.RouteRefresh number from place) taken = refl
