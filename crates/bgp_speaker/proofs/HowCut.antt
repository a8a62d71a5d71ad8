-- What is heard doesn't depend on how the octets are cut.
use Rattle.std.proofs.Common.{◌≡◌, ℕ, List, [], ◌∷◌, ◌++◌, inl, inr, refl, sym, ap, subst, ◌∙◌, append_assoc, append-nil, arith}
use Rattle.std.proofs.lemmas.List.Concat.{flat_map-append}
use Rattle.std.proofs.lemmas.List.Elements.{All-cons, All-append}
use Rattle.bgp_prefix.specs.Prefix.{PrefixBits}
use Rattle.bgp_prefix.specs.Shown.{ShownRecord}
use Rattle.bgp_wire.specs.declared.header.Limit.{Limit}
use Rattle.bgp_machine.specs.Heard.{received_limit}
use Rattle.bgp_wire.specs.Framing.{IsFrame, IsFraming, IsShort, joined}
use Rattle.bgp_speaker.specs.declared.speaker.Speaker.{Speaker}
use Rattle.bgp_speaker.specs.Choice.{HearsEach}
use Rattle.bgp_speaker.specs.Choosing.{AreHeard, AreLast}
use Rattle.bgp_speaker.specs.Core.{Moment, IsConnected}
use Rattle.bgp_speaker.specs.Hearing.{FrameFirst, CutDoesntMatter}

framed_first : (limit : Limit) (frame later : List ℕ) (frames : List (List ℕ)) (rest : List ℕ) → IsFrame limit frame → IsFraming limit later frames rest
    → IsFraming limit (frame ++ later) (frame ∷ frames) rest
framed_first limit frame later frames rest is x = record {
  whole = ap (λ (v : List ℕ). frame ++ v) x.whole ∙ sym (append_assoc frame (joined frames) rest);
  each = All-cons (IsFrame limit) frame frames is x.each;
  last = x.last;
}

pub frame_first : FrameFirst
frame_first speaker kept t m between greeted e frame later rest first greeting others is on takes greets x = record {
  messages = frame ∷ x.messages;
  heard = record {
    frames = frame ∷ x.heard.frames;
    last = x.heard.last;
    framing = framed_first (received_limit speaker.config) frame later x.heard.frames rest is x.heard.framing;
    ends = x.heard.ends;
    are = ap (λ (v : List (List ℕ)). frame ∷ v) x.heard.are;
  };
  each = inr (on, first, between, greeting, greeted, others, takes, greets, x.each, refl);
}

-- ---- cuts

framing_joined : (limit : Limit) (octets more : List ℕ) (xs ys : List (List ℕ)) (rest last : List ℕ) → IsFraming limit octets xs rest
    → IsFraming limit (rest ++ more) ys last → IsFraming limit (octets ++ more) (xs ++ ys) last
framing_joined limit octets more xs ys rest last p q = record {
  whole = ap (λ (v : List ℕ). v ++ more) p.whole ∙ (append_assoc (joined xs) rest more ∙ (ap (λ (v : List ℕ). joined xs ++ v) q.whole
      ∙ (sym (append_assoc (joined xs) (joined ys) last) ∙ ap (λ (v : List ℕ). v ++ last) (sym (flat_map-append (λ (f : List ℕ). f) xs ys)))));
  each = All-append (IsFrame limit) xs ys p.each q.each;
  last = q.last;
}

-- a short rest isn't a faulty one
short_or_faulty : (limit : Limit) (rest : List ℕ) (last : List (List ℕ)) → IsShort limit rest → AreLast limit rest last → last ≡ []
short_or_faulty limit rest last short ends = elim ends [
  | inl a ↦ a.1
  | inr b ↦ elim short [ inl few ↦ absurd (omega (arith, few, b.0.0)) | inr sound ↦ absurd (b.0.1 sound.1) ]
]

-- where there is none, nothing is heard
deaf : (speaker : Speaker) (kept : List PrefixBits) (t : ℕ) (m e : Moment) (messages : List (List ℕ)) (records : List ShownRecord)
    → (IsConnected m.session.head → ⊥) → HearsEach speaker kept t m messages records e → (records ≡ []) × (e ≡ m)
deaf speaker kept t m e [] records off x = x
deaf speaker kept t m e (octets ∷ messages) records off x = elim x [ inl idle ↦ (idle.1, idle.2) | inr on ↦ absurd (off on.0) ]

pub stays_deaf : (speaker : Speaker) (kept : List PrefixBits) (t : ℕ) (m : Moment) (messages : List (List ℕ))
    → (IsConnected m.session.head → ⊥) → HearsEach speaker kept t m messages [] m
stays_deaf speaker kept t m [] off = (refl, refl)
stays_deaf speaker kept t m (octets ∷ messages) off = inl (off, refl, refl)

hears_joined : (speaker : Speaker) (kept : List PrefixBits) (t : ℕ) (m between e : Moment) (xs ys : List (List ℕ)) (first others : List ShownRecord)
    → HearsEach speaker kept t m xs first between → HearsEach speaker kept t between ys others e → HearsEach speaker kept t m (xs ++ ys) (first ++ others) e
hears_joined speaker kept t m between e [] ys first others p q =
    subst (λ (r : List ShownRecord). HearsEach speaker kept t m ys (r ++ others) e) (sym p.0)
    (subst (λ (v : Moment). HearsEach speaker kept t v ys others e) p.1 q)
hears_joined speaker kept t m between e (x ∷ xs) ys first others p q = elim p [
  | inl idle ↦
      let same : HearsEach speaker kept t m ys others e = subst (λ (v : Moment). HearsEach speaker kept t v ys others e) idle.2 q in
      let none = deaf speaker kept t m e ys others idle.0 same in
      inl (idle.0, ap (λ (r : List ShownRecord). r ++ others) idle.1 ∙ none.0, none.1)
  | inr on ↦ inr (
    on.0,
    on.1,
    on.2,
    on.3,
    on.4,
    on.5 ++ others,
    on.6,
    on.7,
    hears_joined speaker kept t on.4 between e xs ys on.5 others on.8 q,
    ap (λ (r : List ShownRecord). r ++ others) on.9 ∙ (append_assoc on.1 (on.3 ++ on.5) others ∙ ap (λ (r : List ShownRecord). on.1 ++ r) (append_assoc on.3 on.5 others)),
  )
]

-- the messages of the octets, and then those of what is left of them with more
pub heard_joined : (limit : Limit) (octets more : List ℕ) (xs ys : List (List ℕ)) (rest last : List ℕ) → AreHeard limit octets xs rest → IsShort limit rest
    → AreHeard limit (rest ++ more) ys last → AreHeard limit (octets ++ more) (xs ++ ys) last
heard_joined limit octets more xs ys rest last p short q =
    let none = short_or_faulty limit rest p.last short p.ends in
    let whole : xs ≡ p.frames = p.are ∙ (ap (λ (v : List (List ℕ)). p.frames ++ v) none ∙ append-nil p.frames) in
    record {
      frames = p.frames ++ q.frames;
      last = q.last;
      framing = framing_joined limit octets more p.frames q.frames rest last p.framing q.framing;
      ends = q.ends;
      are = ap (λ (v : List (List ℕ)). v ++ ys) whole ∙ (ap (λ (v : List (List ℕ)). p.frames ++ v) q.are ∙ sym (append_assoc p.frames q.frames q.last));
    }

pub cut_doesnt_matter : CutDoesntMatter
cut_doesnt_matter speaker kept t m between e octets more rest last first others p short q = record {
  messages = p.messages ++ q.messages;
  heard = heard_joined (received_limit speaker.config) octets more p.messages q.messages rest last p.heard short q.heard;
  each = hears_joined speaker kept t m between e p.messages q.messages first others p.each q.each;
}
