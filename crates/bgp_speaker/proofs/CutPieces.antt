-- Two pieces of octets at one second are heard as one.
use Rattle.std.proofs.Common.{◌≡◌, ◌≤◌, ℕ, List, [], ◌∷◌, ◌++◌, inl, inr, length, max, refl, sym, ap, subst, ◌∙◌, append_assoc, append-nil, length-append, arith}
use Rattle.std.proofs.lemmas.List.{take-append-le}
use Rattle.bgp_prefix.specs.Prefix.{PrefixBits}
use Rattle.bgp_prefix.specs.Shown.{ShownRecord}
use Rattle.bgp_wire.specs.declared.header.Limit.{Limit}
use Rattle.bgp_machine.specs.Heard.{received_limit}
use Rattle.bgp_wire.specs.Framing.{IsFaulty, joined}
use Rattle.bgp_wire.specs.Header.{IsSound, header_of}
use Rattle.bgp_wire.proofs.EachFraming.{each_framing}
use Rattle.bgp_machine.specs.declared.state.Head.{Head}
use Rattle.bgp_speaker.specs.declared.speaker.Speaker.{Speaker}
use Rattle.bgp_speaker.specs.Choosing.{Chooses, HearsBytes, Moves, held_after}
use Rattle.bgp_speaker.specs.Core.{CoreState, IsConnected, Moment, Bytes}
use Rattle.bgp_speaker.specs.Hearing.{PiecesAreJoined}
use Rattle.bgp_speaker.proofs.Answering.{held_off}
use Rattle.bgp_speaker.proofs.FaultEnds.{fault_ends_all, held_on}
use Rattle.bgp_speaker.proofs.HearingAll.{ends_of}
use Rattle.bgp_speaker.proofs.HowCut.{cut_doesnt_matter, stays_deaf}

header_stays : (rest more : List ℕ) → 19 ≤ length rest → header_of (rest ++ more) ≡ header_of rest
header_stays rest more long = take-append-le 19 rest more long

faulty_stays : (limit : Limit) (rest more : List ℕ) → IsFaulty limit rest → IsFaulty limit (rest ++ more)
faulty_stays limit rest more f =
    ((let n = length-append rest more in let l = f.0 in omega arith), λ sound. f.1 (subst (λ (h : List ℕ). IsSound limit h) (header_stays rest more f.0) sound))

-- once the connection has ended, what comes more isn't heard
deaf_to_more : (speaker : Speaker) (kept : List PrefixBits) (t : ℕ) (m e : Moment) (octets more : List ℕ) (records : List ShownRecord) (rest : List ℕ)
    → HearsBytes speaker kept t m octets records e rest → (IsConnected e.session.head → ⊥)
    → (left : List ℕ) × HearsBytes speaker kept t m (octets ++ more) records e left
deaf_to_more speaker kept t m e octets more records rest x off = elim x.heard.ends [
  | inl short ↦
      let next = each_framing (received_limit speaker.config) (rest ++ more) in
      let ends = ends_of (received_limit speaker.config) next.1 next.2.last in (
        next.1,
        subst (λ (r : List ShownRecord). HearsBytes speaker kept t m (octets ++ more) r e next.1) (append-nil records)
            (cut_doesnt_matter speaker kept t m e e octets more rest next.1 records [] x short.0 (record {
              messages = next.0 ++ ends.0;
              heard = record { frames = next.0; last = ends.0; framing = next.2; ends = ends.1; are = refl };
              each = stays_deaf speaker kept t e (next.0 ++ ends.0) off;
            })),
      )
  | inr faulty ↦
      let still : IsFaulty (received_limit speaker.config) (rest ++ more) = faulty_stays (received_limit speaker.config) rest more faulty.0 in (
        rest ++ more,
        record {
          messages = x.messages;
          heard = record {
            frames = x.heard.frames;
            last = x.heard.last;
            framing = record {
              whole = ap (λ (v : List ℕ). v ++ more) x.heard.framing.whole ∙ append_assoc (joined x.heard.frames) rest more;
              each = x.heard.framing.each;
              last = inr still;
            };
            ends = inr (still, faulty.1 ∙ ap (λ (h : List ℕ). h ∷ []) (sym (header_stays rest more faulty.0.0)));
            are = x.heard.are;
          };
          each = x.each;
        },
      )
]

both_off : (head : Head) (rest left : List ℕ) → (IsConnected head → ⊥) → held_after head rest ≡ held_after head left
both_off head rest left off = held_off head rest off ∙ sym (held_off head left off)

later_again : (a b : ℕ) → max (max a b) b ≡ max a b
later_again a b = omega arith

-- the state between two pieces
abbrev after_first : CoreState → ℕ → Moment → List ℕ → CoreState
after_first s t m rest = record {
  speaker = s.speaker;
  moment = m;
  kept = s.kept;
  second = t;
  held = held_after m.session.head rest;
}

-- the moment in which both leave the session, and the octets that are left
record AreJoined (s : CoreState) (octets : List ℕ) (t : ℕ) (records : List ShownRecord) (e : Moment) (rest : List ℕ) : Type 0 where
  left : List ℕ
  moves : Moves s (Bytes octets) t records e left
  held : held_after e.session.head rest ≡ held_after e.session.head left

pieces_moved : (s : CoreState) (m e : Moment) (octets more : List ℕ) (t : ℕ) (first others : List ShownRecord) (rest last : List ℕ)
    → Moves s (Bytes octets) t first m rest → Moves (after_first s t m rest) (Bytes more) t others e last
    → AreJoined s (octets ++ more) t (first ++ others) e last
pieces_moved s m e octets more t first others rest last x y = elim x [
  | inl off ↦
      let off_then : IsConnected m.session.head → ⊥ = λ on. off.0 (subst (λ (v : Moment). IsConnected v.session.head) off.2 on) in
      elim y [
        | inl idle ↦ record {
          left = s.held;
          moves = inl (off.0, ap (λ (r : List ShownRecord). r ++ others) off.1 ∙ idle.1, idle.2 ∙ off.2, refl);
          held = both_off e.session.head last s.held (λ on. off_then (subst (λ (v : Moment). IsConnected v.session.head) idle.2 on));
        }
        | inr on ↦ absurd (off_then on.0)
      ]
  | inr there ↦ elim y [
    | inl idle ↦
        let deaf = deaf_to_more s.speaker s.kept t s.moment m (s.held ++ octets) more first rest there.1 idle.0 in
        let records : first ++ others ≡ first = ap (λ (r : List ShownRecord). first ++ r) idle.1 ∙ append-nil first in
        record {
          left = deaf.0;
          moves = inr (
            there.0,
            subst (λ (r : List ShownRecord). HearsBytes s.speaker s.kept t s.moment (s.held ++ (octets ++ more)) r e deaf.0) (sym records)
                (subst (λ (v : Moment). HearsBytes s.speaker s.kept t s.moment (s.held ++ (octets ++ more)) first v deaf.0) (sym idle.2)
                (subst (λ (o : List ℕ). HearsBytes s.speaker s.kept t s.moment o first m deaf.0) (append_assoc s.held octets more) deaf.1)),
          );
          held = both_off e.session.head last deaf.0 (λ on. idle.0 (subst (λ (v : Moment). IsConnected v.session.head) idle.2 on));
        }
    | inr on ↦
        let short = fault_ends_all s.speaker s.kept t s.moment m (s.held ++ octets) first rest there.1 on.0 in
        let more_heard : HearsBytes s.speaker s.kept t m (rest ++ more) others e last =
        subst (λ (o : List ℕ). HearsBytes s.speaker s.kept t m (o ++ more) others e last) (held_on m.session.head rest on.0) on.1 in
        record {
          left = last;
          moves = inr (
            there.0,
            subst (λ (o : List ℕ). HearsBytes s.speaker s.kept t s.moment o (first ++ others) e last) (append_assoc s.held octets more)
                (cut_doesnt_matter s.speaker s.kept t s.moment m e (s.held ++ octets) more rest last first others there.1 short more_heard),
          );
          held = refl;
        }
  ]
]

pub pieces_are_joined : PiecesAreJoined
pieces_are_joined s m e octets more second first others x y =
    let t = max s.second second in
    let again : max (max s.second second) second ≡ max s.second second = later_again s.second second in
    let z : Chooses (after_first s (max s.second second) x.0 x.1) (Bytes more) second others e = subst (λ (v : CoreState). Chooses v (Bytes more) second others e) x.3 y in
    let both = pieces_moved s x.0 z.0 octets more (max s.second second) first others x.1 z.1 x.2
    (subst (λ (n : ℕ). Moves (after_first s (max s.second second) x.0 x.1) (Bytes more) n others z.0 z.1) again z.2) in (
      z.0,
      both.left,
      both.moves,
      z.3 ∙ (λ i. record {
        speaker = s.speaker;
        moment = z.0;
        kept = s.kept;
        second = again i;
        held = both.held i;
      }),
    )
