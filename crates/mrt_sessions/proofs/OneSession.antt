-- A session of a file is that of the file as a capture of the session.
use Rattle.std.proofs.Common.{◌≡◌, ◌∙◌, ◌⊎◌, ℕ, ◌+◌, ◌≤◌, Bool, true, false, IsTrue, cond, List, [], ◌∷◌, ◌++◌, Option, None, Some, length, map, take, drop, refl, sym, ap, subst, inl, inr, arith, append_assoc, append-nil, length-append}
use Rattle.std.specs.List.{AllByRecursion}
use Rattle.bgp_prefix.specs.Shown.{ShownRecord, second_of}
use Rattle.bgp_prefix.specs.declared.session.Session.{Session}
use Rattle.mrt.specs.Capture.{ArePieces, IsPiece, OtherEnds, PassedOver, Piece, Shown, Spells, last_after, shown_by, shown_of}
use Rattle.mrt.specs.Capture as capture
use Rattle.mrt.specs.Layout.{header_of}
use Rattle.mrt.specs.Rules.{IsJudged, Judgement, OfSession, Refused, SkippedRefresh, SkippedSession, body_limit}
use Rattle.mrt.specs.declared.fault.CaptureFault.{CaptureFault}
use Rattle.mrt.specs.declared.fault.FaultKind.{FaultKind}
use Rattle.mrt.specs.Found.{IsJudgedBy}
use Rattle.mrt.proofs.Places.{judged_record}
use Rattle.mrt_sessions.specs.declared.addresses.Addresses.{Addresses}
use Rattle.mrt_sessions.specs.File.{HasRecords, IsPart, Located, Named, NamesSession, Other, Part, addresses_of, joined, named_from}
use Rattle.mrt_sessions.specs.Reading.{AreAllowed, StopsBy, last_of}
use Rattle.mrt_sessions.specs.ReadsAs.{IsJudgedOf, ReadsAs, addresses_in}
use Rattle.mrt_sessions.specs.SessionLaws.{IsCapture, ReadsAreSpelled, SessionsAreCaptures, all_extended, extended_session}
use Rattle.mrt_sessions.specs.Sessions.{are_same, is_between, records_between}
use Rattle.mrt_sessions.proofs.Fronts.{body_is, body_len, head_len, kind_is, parts}
use Rattle.mrt_sessions.proofs.Judged.{as_extended}
use Rattle.mrt_sessions.proofs.Order.{differ}
use Rattle.mrt_sessions.proofs.Readable.{IsReadable, readable, readable_long}

none_is : {X : Type 0} (x : X) → Some x ≡ None → ⊥
none_is x e = cc

left_by : {A B C : Type 0} → (A → B) → A ⊎ C → B ⊎ C
left_by f (inl a) = inl (f a)
left_by f (inr c) = inr c

abbrev shown_at : Located → ShownRecord
shown_at l = shown_of l.octets

-- ---- how records of a session are read, one after another

module _ (session : Session) where
  -- The first of these is passed over, or is shown, or is refused for this fault; and so it is of the next one, unless it is refused.
  abbrev ReadsTo : Option ℕ → List Located → List ShownRecord → Option CaptureFault → Type 0
  ReadsTo last [] records fault = (records ≡ []) × (fault ≡ None)
  ReadsTo last (first ∷ later) records fault =
      (IsJudgedOf session last first.octets SkippedRefresh × ReadsTo last later records fault)
      ⊎ (((others : List ShownRecord) × IsJudgedOf session last first.octets OfSession × (records ≡ shown_at first ∷ others)
      × ReadsTo (Some (second_of (shown_at first))) later others fault)
      ⊎ ((why : CaptureFault) × IsJudgedOf session last first.octets (Refused why.kind) × (why.offset ≡ first.offset) × (fault ≡ Some why) × (records ≡ [])))

  -- without a fault
  reads_to : (last : Option ℕ) (named : List Located) (records : List ShownRecord) → ReadsAs session last named records → ReadsTo last named records None
  reads_to last [] records reads = (reads, refl)
  reads_to last (first ∷ later) records (inl passed) = inl (passed.0, reads_to last later records passed.1)
  reads_to last (first ∷ later) records (inr shown) =
      inr (inl (shown.0, shown.1, shown.2, reads_to (Some (second_of (shown_at first))) later shown.0 shown.3))

-- each by the limit of its direction, where that is the longer one of both
module _ (addresses : Addresses) where
  allowed_to : (last : Option ℕ) (front back : List Located) (records : List ShownRecord) (fault : Option CaptureFault)
      → AreAllowed addresses all_extended last front → records ≡ map shown_at front → StopsBy addresses all_extended (last_of addresses all_extended last front) back fault
      → ReadsTo (extended_session addresses) last (front ++ back) records fault
  allowed_to last [] [] records None are shown stops = (shown, refl)
  allowed_to last [] [] records (Some fault) are shown stops = absurd stops
  allowed_to last [] (next ∷ back) records None are shown stops = absurd stops
  allowed_to last [] (next ∷ back) records (Some fault) are shown stops =
      inr (inr (fault, as_extended addresses last next.octets (Refused fault.kind) stops.0, stops.1, refl, shown))
  allowed_to last (first ∷ front) back records fault are shown stops =
      inr (inl (
        map shown_at front,
        as_extended addresses last first.octets OfSession are.0,
        shown,
        allowed_to (Some (second_of (shown_at first))) front back (map shown_at front) fault are.1 refl stops,
      ))

-- ---- of any session

module _ (session : Session) where
  abbrev addresses : Addresses
  addresses = addresses_in session

  -- ---- one record

  -- the rules on whole records say so of a record that names a session, whatever stands behind it
  judged_behind : (last : Option ℕ) (octets more : List ℕ) (judgement : Judgement) → NamesSession octets → (header_of octets).count ≤ body_limit session
      → IsJudgedOf session last octets judgement → IsJudged session last (octets ++ more) judgement
  judged_behind last octets more judgement is fits says =
      let head = head_len octets is.whole.header in
      subst (λ (o : List ℕ). IsJudged session last (o ++ more) judgement) (parts octets is.whole.header)
      (judged_record session last judgement (take 12 octets) (drop 12 octets) more head (kind_is (header_of octets).kind is.kind) fits (body_len octets is.whole)
      (subst (λ (b : List ℕ). IsJudgedBy session last (header_of octets) b judgement) (body_is octets is.whole) says))

  judged_alone : (last : Option ℕ) (octets : List ℕ) (judgement : Judgement) → NamesSession octets → (header_of octets).count ≤ body_limit session
      → IsJudgedOf session last octets judgement → IsJudged session last octets judgement
  judged_alone last octets judgement is fits says =
      subst (λ (o : List ℕ). IsJudged session last o judgement) (append-nil octets) (judged_behind last octets [] judgement is fits says)

  module _ (last : Option ℕ) (octets : List ℕ) (is : NamesSession octets) (fits : (header_of octets).count ≤ body_limit session) where
    shown_piece : IsJudgedOf session last octets OfSession → IsPiece session last (Shown octets)
    shown_piece says = record { whole = is.whole; judged = judged_alone last octets OfSession is fits says }

    passed_piece : IsJudgedOf session last octets SkippedRefresh → IsPiece session last (PassedOver octets)
    passed_piece says = record { whole = is.whole; judged = judged_alone last octets SkippedRefresh is fits says }

    other_piece : are_same addresses (addresses_of octets) ≡ false → IsPiece session last (OtherEnds octets)
    other_piece apart = record {
      whole = is.whole;
      judged = judged_alone last octets SkippedSession is fits (inr (is.form, inr (is.fields, inl (differ addresses (addresses_of octets) apart, refl))));
    }

  -- ---- records one after another

  abbrev StopsWith : Option CaptureFault → Option ℕ → List ℕ → List ℕ → ℕ → ℕ → ℕ → Type 0
  StopsWith None last left rest at all passed = (left ≡ rest) × (all ≡ passed)
  StopsWith (Some fault) last left rest at all passed = IsJudged session last left (Refused fault.kind) × (fault.offset ≡ at + passed)

  -- the octets are these pieces, up to the first that is refused or to the rest
  record Walked (last : Option ℕ) (octets rest : List ℕ) (at : ℕ) (records : List ShownRecord) (fault : Option CaptureFault) : Type 0 where
    pub pieces : List Piece
    pub left : List ℕ
    pub whole : octets ++ rest ≡ capture.joined pieces ++ left
    pub each : ArePieces session last pieces
    pub shown : records ≡ capture.records_of pieces
    pub stops : StopsWith fault (capture.last_of last pieces) left rest at (length octets) (length (capture.joined pieces))

  further : (fault : Option CaptureFault) (last : Option ℕ) (left rest : List ℕ) (at one all passed : ℕ) (octets joined_octets : List ℕ)
      → all ≡ length octets → passed ≡ length joined_octets → (o : List ℕ) → one ≡ length o
      → StopsWith fault last left rest (at + one) all passed → StopsWith fault last left rest at (length (o ++ octets)) (length (o ++ joined_octets))
  further None last left rest at one all passed octets joined_octets a p o is stops =
      (stops.0, let x = length-append o octets in let y = length-append o joined_octets in let z = stops.1 in omega arith)
  further (Some fault) last left rest at one all passed octets joined_octets a p o is stops =
      (stops.0, let y = length-append o joined_octets in let z = stops.1 in omega arith)

  add : (last : Option ℕ) (piece : Piece) (octets rest : List ℕ) (at : ℕ) (records : List ShownRecord) (fault : Option CaptureFault) → IsPiece session last piece
      → Walked (last_after last piece) octets rest (at + length (capture.octets_of piece)) records fault
      → Walked last (capture.octets_of piece ++ octets) rest at (shown_by piece ++ records) fault
  add last piece octets rest at records fault is w = record {
    pieces = piece ∷ w.pieces;
    left = w.left;
    whole =
        append_assoc (capture.octets_of piece) octets rest ∙ ap (λ (o : List ℕ). capture.octets_of piece ++ o) w.whole
        ∙ sym (append_assoc (capture.octets_of piece) (capture.joined w.pieces) w.left);
    each = (is, w.each);
    shown = ap (λ (rs : List ShownRecord). shown_by piece ++ rs) w.shown;
    stops = further fault _ w.left rest at _ _ _ octets (capture.joined w.pieces) refl refl (capture.octets_of piece) refl w.stops;
  }

  -- how records behind a place are read
  abbrev Reads : List Located → List ℕ → ℕ → Type 0
  Reads named octets at =
      (last : Option ℕ) (records : List ShownRecord) (fault : Option CaptureFault) (rest : List ℕ) → ReadsTo session last (records_between addresses named) records fault
      → Walked last octets rest at records fault

  end_walked : (at : ℕ) → Reads [] [] at
  end_walked at last records None rest to = record { pieces = []; left = rest; whole = refl; each = tt; shown = to.0; stops = (refl, refl) }
  end_walked at last records (Some fault) rest to = absurd (none_is fault to.1)

  -- a record of the session
  module _ (octets : List ℕ) (named : List Located) (later : List ℕ) (at : ℕ) (is : NamesSession octets) (fits : (header_of octets).count ≤ body_limit session)
      (next : Reads named later (at + length octets)) where
    abbrev this : Located
    this = record { offset = at; octets = octets }

    refused_here : (last : Option ℕ) (records : List ShownRecord) (fault : CaptureFault) (rest : List ℕ) → records ≡ [] → IsJudgedOf session last octets (Refused fault.kind)
        → fault.offset ≡ at → Walked last (octets ++ later) rest at records (Some fault)
    refused_here last records fault rest none says place = record {
      pieces = [];
      left = (octets ++ later) ++ rest;
      whole = refl;
      each = tt;
      shown = none;
      stops = (
        subst (λ (o : List ℕ). IsJudged session last o (Refused fault.kind)) (sym (append_assoc octets later rest))
            (judged_behind last octets (later ++ rest) (Refused fault.kind) is fits says),
        omega (arith, place),
      );
    }

    ours : (last : Option ℕ) (records : List ShownRecord) (fault : Option CaptureFault) (rest : List ℕ)
        → ReadsTo session last (this ∷ records_between addresses named) records fault → Walked last (octets ++ later) rest at records fault
    ours last records fault rest (inl passed) =
        add last (PassedOver octets) later rest at records fault (passed_piece last octets is fits passed.0) (next last records fault rest passed.1)
    ours last records fault rest (inr (inl shown)) =
        let walked : Walked (Some (second_of (shown_of octets))) later rest (at + length octets) shown.0 fault =
        next (Some (second_of (shown_of octets))) shown.0 fault rest shown.3 in
        subst (λ (rs : List ShownRecord). Walked last (octets ++ later) rest at rs fault) (sym shown.2)
        (add last (Shown octets) later rest at shown.0 fault (shown_piece last octets is fits shown.1) walked)
    ours last records fault rest (inr (inr refused)) =
        subst (λ (f : Option CaptureFault). Walked last (octets ++ later) rest at records f) (sym refused.3)
        (refused_here last records refused.0 rest refused.4 refused.1 refused.2)

    named_walked : (b : Bool) → is_between addresses this ≡ b
        → (last : Option ℕ) (records : List ShownRecord) (fault : Option CaptureFault) (rest : List ℕ)
        → ReadsTo session last (cond b (this ∷ records_between addresses named) (records_between addresses named)) records fault → Walked last (octets ++ later) rest at records fault
    named_walked true between last records fault rest to = ours last records fault rest to
    named_walked false between last records fault rest to =
        add last (OtherEnds octets) later rest at records fault (other_piece last octets is fits between) (next last records fault rest to)

  walk : (ps : List Part) (at : ℕ) → AllByRecursion IsPart ps → AllByRecursion (IsReadable session) ps → Reads (named_from at ps) (joined ps) at
  walk [] at each reads = end_walked at
  walk (Other octets ∷ ps) at each reads = λ last records fault rest to.
      add last (capture.Other octets) (joined ps) rest at records fault (record { whole = each.0.0; judged = reads.0 last })
      (walk ps (at + length octets) each.1 reads.1 last records fault rest to)
  walk (Named octets ∷ ps) at each reads =
      named_walked octets (named_from (at + length octets) ps) (joined ps) at each.0 reads.0 (walk ps (at + length octets) each.1 reads.1)
      (is_between addresses (record { offset = at; octets = octets })) refl

  -- ---- the capture

  spelled : (octets : List ℕ) (named : List Located) (offset : ℕ) (records : List ShownRecord) (has : HasRecords octets named offset None)
      → Walked None (joined has.parts) has.rest 0 records None → Spells session octets records
  spelled octets named offset records has w = record {
    pieces = w.pieces;
    text = record {
      whole = has.text.whole ∙ w.whole ∙ ap (λ (o : List ℕ). capture.joined w.pieces ++ o) (w.stops.0 ∙ has.text.stops);
      each = w.each;
      last = inl (refl, refl);
      stops = tt;
    };
    shown = w.shown;
  }

  by_fault : IsTrue session.extended → (octets : List ℕ) (named : List Located) (offset : ℕ) (records : List ShownRecord) (fault : Option CaptureFault) (refusal : Option FaultKind)
      → (has : HasRecords octets named offset refusal) → Walked None (joined has.parts) has.rest 0 records fault → IsCapture session octets records fault offset refusal
  by_fault long octets named offset records (Some fault) refusal has w = record {
    pieces = w.pieces;
    rest = w.left;
    text = record { whole = has.text.whole ∙ w.whole; each = w.each; last = w.stops.0; stops = tt };
    shown = w.shown;
    place = let p = w.stops.1 in omega arith;
  }
  by_fault long octets named offset records None (Some kind) has w = record {
    pieces = w.pieces;
    rest = has.rest;
    text = record {
      whole = has.text.whole ∙ w.whole ∙ ap (λ (o : List ℕ). capture.joined w.pieces ++ o) w.stops.0;
      each = w.each;
      last = has.text.stops session (capture.last_of None w.pieces) long;
      stops = tt;
    };
    shown = w.shown;
    place = has.place ∙ w.stops.1;
  }
  by_fault long octets named offset records None None has w = spelled octets named offset records has w

pub sessions_are_captures : SessionsAreCaptures
sessions_are_captures octets named offset refusal addresses records fault has reading =
    let session = extended_session addresses in
    let between : List Located = records_between addresses (named_from 0 has.parts) in
    let same : reading.front ++ reading.rest ≡ between = sym reading.whole ∙ ap (records_between addresses) has.are in
    by_fault session refl octets named offset records fault refusal has
    (walk session has.parts 0 has.text.each (readable_long session refl has.parts has.text.each) None records fault has.rest
    (subst (λ (ls : List Located). ReadsTo session None ls records fault) same
    (allowed_to addresses None reading.front reading.rest records fault reading.each reading.shown reading.stops)))

pub reads_are_spelled : ReadsAreSpelled
reads_are_spelled session octets named offset is_plain records such long reads =
    let has = such.has in
    let all = readable session has.parts has.text.each (left_by such.plain.0 long) in
    spelled session octets named offset records has
    (walk session has.parts 0 has.text.each all None records None has.rest
    (subst (λ (ls : List Located). ReadsTo session None (records_between (addresses_in session) ls) records None) has.are
    (reads_to session None (records_between (addresses_in session) named) records reads)))
