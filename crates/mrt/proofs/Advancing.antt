-- How far a reader is behind some pieces, and behind one more.
use Rattle.std.proofs.Common.{◌≡◌, ◌∙◌, ℕ, Bool, ◌+◌, ◌≤◌, List, [], ◌∷◌, ◌++◌, length, drop, refl, sym, ap, subst, arith, inl, inr, append-nil, length-append, Option, Some, IsTrue, ◌⊎◌}
use Rattle.std.proofs.lemmas.Grind.{flat_map-append}
use Rattle.bgp_prefix.specs.Shown.{ShownRecord, second_of}
use Rattle.bgp_prefix.specs.declared.session.Session.{Session}
use Rattle.mrt.specs.declared.fault.FaultKind.{FaultKind}
use Rattle.mrt.specs.declared.fault.FaultKind.TheVariants as kinds
use Rattle.mrt.specs.declared.judging.Found.{Found}
use Rattle.mrt.specs.declared.judging.Shows.{Shows}
use Rattle.mrt.specs.declared.judging.Shows.TheVariants as shows
use Rattle.mrt.specs.Layout.{content_in, header_of, body_of}
use Rattle.mrt.specs.Rules.{Rule, FirstSays, Judgement, judgement_of, Refused}
use Rattle.mrt.specs.Rules as r
use Rattle.mrt.specs.Capture.{Piece, Shown, octets_of, IsPiece, ArePieces, IsBegun, last_after, last_of, joined, shown_by, records_of, others_of, shown_of, micro_of}
use Rattle.mrt.specs.Skipped.{IsSkipOf, piece_for, skipped_in, both_skipped}
use Rattle.mrt.specs.Found.{shown_as}
use Rattle.mrt.specs.Reading.{IsFoundIn, IsRefused}
use Rattle.mrt.specs.Reader.{ReaderState, fresh_reader, after_pieces, at_end, at_fault, at_record, device_count, Ends, Fails}
use Rattle.mrt.specs.Progress.{after_skipped, after_record, fault_at, shown_from, Finds}
use Rattle.mrt.specs.declared.skipped.Skip.{Skip}
use Rattle.mrt.specs.declared.skipped.Skip.TheVariants as whys
use Rattle.mrt.proofs.Counts.{counts_chain, counts_one, counts_shown}
use Rattle.mrt.proofs.OtherPairs.{others_chain, others_shown, others_skipped}

-- ---- one piece more

pub joined_more : (pieces : List Piece) (piece : Piece) → joined (pieces ++ piece ∷ []) ≡ joined pieces ++ octets_of piece
joined_more pieces piece =
    flat_map-append octets_of pieces (piece ∷ []) ∙ ap (λ (o : List ℕ). joined pieces ++ o) (append-nil (octets_of piece))

pub records_more : (pieces : List Piece) (piece : Piece) → records_of (pieces ++ piece ∷ []) ≡ records_of pieces ++ shown_by piece
records_more pieces piece =
    flat_map-append shown_by pieces (piece ∷ []) ∙ ap (λ (o : List ShownRecord). records_of pieces ++ o) (append-nil (shown_by piece))

pub last_more : (last : Option ℕ) (pieces : List Piece) (piece : Piece) → last_of last (pieces ++ piece ∷ []) ≡ last_after (last_of last pieces) piece
last_more last [] piece = refl
last_more last (first ∷ pieces) piece = last_more (last_after last first) pieces piece

pub pieces_more : (session : Session) (last : Option ℕ) (pieces : List Piece) (piece : Piece) → ArePieces session last pieces
    → IsPiece session (last_of last pieces) piece → ArePieces session last (pieces ++ piece ∷ [])
pieces_more session last [] piece are is = (is, tt)
pieces_more session last (first ∷ pieces) piece are is = (are.0, pieces_more session (last_after last first) pieces piece are.1 is)

-- the octets of a skipped record, the second after it, and what it shows
octets_skipped : (skip : Skip) (octets : List ℕ) → octets_of (piece_for skip octets) ≡ octets
octets_skipped whys.OtherKind octets = refl
octets_skipped (whys.OtherSession e) octets = refl
octets_skipped whys.RefreshReceived octets = refl
octets_skipped whys.RefreshSent octets = refl

last_skipped : (last : Option ℕ) (skip : Skip) (octets : List ℕ) → last_after last (piece_for skip octets) ≡ last
last_skipped last whys.OtherKind octets = refl
last_skipped last (whys.OtherSession e) octets = refl
last_skipped last whys.RefreshReceived octets = refl
last_skipped last whys.RefreshSent octets = refl

nothing_shown : (skip : Skip) (octets : List ℕ) → shown_by (piece_for skip octets) ≡ []
nothing_shown whys.OtherKind octets = refl
nothing_shown (whys.OtherSession e) octets = refl
nothing_shown whys.RefreshReceived octets = refl
nothing_shown whys.RefreshSent octets = refl

-- the state behind it
count_more : (from : ReaderState) (pieces : List Piece) (piece : Piece) (count : ℕ) → length (octets_of piece) ≡ count
    → (after_pieces from pieces).passed + count ≡ (after_pieces from (pieces ++ piece ∷ [])).passed
count_more from pieces piece count len =
    let many = ap length (joined_more pieces piece) ∙ length-append (joined pieces) (octets_of piece) in omega arith

skipped_state : (from : ReaderState) (pieces : List Piece) (skip : Skip) (octets : List ℕ) (count : ℕ) → length octets ≡ count
    → IsSkipOf skip (header_of octets) (body_of octets)
    → after_skipped (after_pieces from pieces) skip count ≡ after_pieces from (pieces ++ piece_for skip octets ∷ [])
skipped_state from pieces skip octets count len is =
    let piece = piece_for skip octets in
    let passed = count_more from pieces piece count (ap length (octets_skipped skip octets) ∙ len) in
    let last = sym (last_more from.last pieces piece ∙ last_skipped (last_of from.last pieces) skip octets) in
    let others = sym (others_chain from.others pieces (piece ∷ []) ∙ others_skipped (others_of from.others pieces) skip octets is) in
    let skipped = sym (counts_chain from.skipped pieces (piece ∷ []) ∙ counts_one (both_skipped from.skipped (skipped_in pieces)) skip octets is) in
    λ i. record { passed = passed i; last = last i; micro = from.micro; place = from.place; is_ended = from.is_ended; fault = from.fault; others = others i; skipped = skipped i }

record_state : (from : ReaderState) (pieces : List Piece) (octets : List ℕ) (second count : ℕ) (micro : Option ℕ) → length octets ≡ count
    → second ≡ second_of (shown_of octets) → micro ≡ micro_of octets
    → after_record (after_pieces from pieces) second micro count ≡ at_record (after_pieces from pieces) (after_pieces from (pieces ++ Shown octets ∷ [])) octets
record_state from pieces octets second count micro len same fraction =
    let passed = count_more from pieces (Shown octets) count len in
    let last = ap (λ (s : ℕ). let o : Option ℕ = Some s in o) same ∙ sym (last_more from.last pieces (Shown octets)) in
    let others = sym (others_chain from.others pieces (Shown octets ∷ []) ∙ others_shown (others_of from.others pieces) octets) in
    let skipped = sym (counts_chain from.skipped pieces (Shown octets ∷ []) ∙ counts_shown (both_skipped from.skipped (skipped_in pieces)) octets) in
    λ i. record { passed = passed i; last = last i; micro = fraction i; place = (after_pieces from pieces).passed; is_ended = from.is_ended; fault = from.fault; others = others i; skipped = skipped i }

-- ---- what was found

second_as : (second : ℕ) (shows : Shows) (content : List ℕ) → second_of (shown_as second shows content) ≡ second
second_as second shows.Received content = refl
second_as second shows.Sent content = refl
second_as second (shows.Changed old new) content = refl

found_second : (octets buffer : List ℕ) (found : Found) → IsFoundIn octets buffer found → found.second ≡ second_of (shown_of octets)
found_second octets buffer found is =
    sym (second_as found.second found.shows (content_in (header_of octets) (body_of octets))) ∙ ap second_of is.shown

found_shown : (octets buffer : List ℕ) (found : Found) → IsFoundIn octets buffer found → shown_of octets ≡ shown_from found buffer
found_shown octets buffer found is =
    sym is.shown
    ∙ ap (λ (n : ℕ). shown_as found.second found.shows (drop n (body_of octets))) (sym is.content_at)
    ∙ ap (λ (b : List ℕ). shown_as found.second found.shows (drop found.content_at b)) (sym is.body)

-- a record that is skipped has octets
pub skipped_some : (session : Session) (last : Option ℕ) (skip : Skip) (octets : List ℕ) → IsPiece session last (piece_for skip octets) → 12 ≤ length octets
skipped_some session last skip octets is = subst (λ (o : List ℕ). 12 ≤ length o) (octets_skipped skip octets) is.whole.header

-- ---- a device is no fault of the octets

first_rule : (Holds : Rule → Type 0) (rules : List Rule) (judgement : Judgement) → FirstSays Holds rules judgement → (rule : Rule) × (judgement ≡ judgement_of rule)
first_rule Holds [] judgement h = absurd h
first_rule Holds (rule ∷ later) judgement (inl h) = (rule, h.1)
first_rule Holds (rule ∷ later) judgement (inr h) = first_rule Holds later judgement h.1

no_device : (rule : Rule) (kind : FaultKind) → Refused kind ≡ judgement_of rule → device_count kind ≡ 0
no_device r.Nothing kind e = absurd (cc)
no_device r.CutHeader kind e = let k : kind ≡ kinds.Truncated = cc in rw k refl
no_device r.OtherTypeCut kind e = let k : kind ≡ kinds.Truncated = cc in rw k refl
no_device r.OtherType kind e = absurd (cc)
no_device r.LongBody kind e = let k : kind ≡ kinds.TooLong = cc in rw k refl
no_device r.CutBody kind e = let k : kind ≡ kinds.Truncated = cc in rw k refl
no_device r.OtherSubtype kind e = absurd (cc)
no_device r.NoFields kind e = let k : kind ≡ kinds.Body = cc in rw k refl
no_device r.OtherSession kind e = absurd (cc)
no_device r.WithAddPath kind e = let k : kind ≡ kinds.AddPath = cc in rw k refl
no_device r.NoStates kind e = let k : kind ≡ kinds.Body = cc in rw k refl
no_device r.BadStates kind e = let k : kind ≡ kinds.BadState = cc in rw k refl
no_device r.CutMessage kind e = let k : kind ≡ kinds.NotAMessage = cc in rw k refl
no_device r.Refresh kind e = let k : kind ≡ kinds.RouteRefresh = cc in rw k refl
no_device r.WholeRefresh kind e = absurd (cc)
no_device r.OtherLength kind e = let k : kind ≡ kinds.NotAMessage = cc in rw k refl
no_device r.Back kind e = let k : kind ≡ kinds.TimeBack = cc in rw k refl
no_device r.Allowed kind e = absurd (cc)

pub refused_is_no_device : (session : Session) (last : Option ℕ) (octets : List ℕ) (ended : Bool) (kind : FaultKind)
    → IsRefused session last octets ended kind → device_count kind ≡ 0
refused_is_no_device session last octets ended kind refused =
    let rule = first_rule (r.Holds session last (r.place_of (octets ++ []))) r.rules (Refused kind) (refused [] (λ e. refl)) in no_device rule.0 kind rule.1

-- ---- a reader on its way

module _ {S : Type 0} (gives : S → S → List ℕ → Type 0) (has_ended : S → Bool)
    (gives_joined : (a b c : S) (xs ys : List ℕ) → gives a b xs → gives b c ys → gives a c (xs ++ ys))
    (session : Session) (source : S) (from : ReaderState) where
  -- from its start on it has passed skipped records alone
  pub record Passes (now : S) (state : ReaderState) : Type 0 where
    pub skipped : List Piece
    pub only : records_of skipped ≡ []
    pub pieces : ArePieces session from.last skipped
    pub gave : gives source now (joined skipped)
    pub is : state ≡ after_pieces from skipped

  last_is : (state : ReaderState) (pieces : List Piece) → state ≡ after_pieces from pieces → state.last ≡ last_of from.last pieces
  last_is state pieces is = ap (λ (s : ReaderState). s.last) is

  more_given : (now next : S) (pieces : List Piece) (piece : Piece) → gives source now (joined pieces) → gives now next (octets_of piece)
      → gives source next (joined (pieces ++ piece ∷ []))
  more_given now next pieces piece gave given =
      subst (λ (o : List ℕ). gives source next o) (sym (joined_more pieces piece)) (gives_joined source now next (joined pieces) (octets_of piece) gave given)

  pub skips : (now next : S) (state after : ReaderState) (octets : List ℕ) (skip : Skip) (count : ℕ) → Passes now state → gives now next octets
      → IsPiece session state.last (piece_for skip octets) → IsSkipOf skip (header_of octets) (body_of octets) → length octets ≡ count
      → after ≡ after_skipped state skip count → Passes next after
  skips now next state after octets skip count so_far given piece told len is = record {
    skipped = so_far.skipped ++ piece_for skip octets ∷ [];
    only =
        records_more so_far.skipped (piece_for skip octets) ∙ ap (λ (r : List ShownRecord). records_of so_far.skipped ++ r) (nothing_shown skip octets)
        ∙ append-nil (records_of so_far.skipped) ∙ so_far.only;
    pieces = pieces_more session from.last so_far.skipped (piece_for skip octets) so_far.pieces
        (subst (λ (l : Option ℕ). IsPiece session l (piece_for skip octets)) (last_is state so_far.skipped so_far.is) piece);
    gave = more_given now next so_far.skipped (piece_for skip octets) so_far.gave (subst (λ (o : List ℕ). gives now next o) (sym (octets_skipped skip octets)) given);
    is = is ∙ ap (λ (s : ReaderState). after_skipped s skip count) so_far.is ∙ skipped_state from so_far.skipped skip octets count len told;
  }

  pub ends_there : (now next : S) (state after : ReaderState) (octets : List ℕ) → Passes now state → gives now next octets → octets ≡ []
      → IsTrue (has_ended next) → after ≡ at_end state → Ends gives has_ended session source next from after
  ends_there now next state after octets so_far given none ended is = record {
    skipped = so_far.skipped;
    only = so_far.only;
    pieces = so_far.pieces;
    exactly = subst (λ (o : List ℕ). gives source next o) (ap (λ (o : List ℕ). joined so_far.skipped ++ o) none ∙ append-nil (joined so_far.skipped))
        (gives_joined source now next (joined so_far.skipped) octets so_far.gave given);
    ended = ended;
    stands = is ∙ ap at_end so_far.is;
  }

  pub finds_there : (now next : S) (state after : ReaderState) (octets buffer : List ℕ) (found : Found) (count : ℕ) → Passes now state → gives now next octets
      → IsPiece session state.last (Shown octets) → IsFoundIn octets buffer found → count ≡ 12 + found.count
      → after ≡ after_record state found.second found.micro count → Finds gives has_ended session source next from after buffer found
  finds_there now next state after octets buffer found count so_far given piece there len is = record {
    answers = record {
      skipped = so_far.skipped;
      octets = octets;
      only = so_far.only;
      pieces = pieces_more session from.last so_far.skipped (Shown octets) so_far.pieces (subst (λ (l : Option ℕ). IsPiece session l (Shown octets)) (last_is state so_far.skipped so_far.is) piece);
      shown = found_shown octets buffer found there;
      exactly = more_given now next so_far.skipped (Shown octets) so_far.gave given;
      stands =
          is ∙ ap (λ (s : ReaderState). after_record s found.second found.micro count) so_far.is
          ∙ record_state from so_far.skipped octets found.second count found.micro (there.count ∙ sym len) (found_second octets buffer found there) there.micro;
    };
    within = there.within;
    fits = there.fits;
  }

  pub fails_there : (now next : S) (state after : ReaderState) (rest : List ℕ) (kind : FaultKind) → Passes now state → gives now next rest
      → (IsRefused session state.last rest (has_ended next) kind ⊎ ((kind ≡ kinds.Device) × IsBegun session rest) ⊎ ((kind ≡ kinds.Memory) × (next ≡ source) × (from ≡ fresh_reader)))
      → after ≡ at_fault state (fault_at state kind) → Fails gives has_ended session source next from after (fault_at state kind)
  fails_there now next state after rest kind so_far given why is = record {
    skipped = so_far.skipped;
    rest = rest;
    only = so_far.only;
    pieces = so_far.pieces;
    taken = gives_joined source now next (joined so_far.skipped) rest so_far.gave given;
    why = elim why [
      | inl refused ↦ inl (subst (λ (l : Option ℕ). IsRefused session l rest (has_ended next) kind) (last_is state so_far.skipped so_far.is) refused)
      | inr others ↦ inr others
    ];
    offset = ap (λ (s : ReaderState). s.passed) so_far.is;
    stands = is ∙ ap (λ (s : ReaderState). at_fault s (fault_at state kind)) so_far.is;
  }
