-- Other rules of framing find the same messages.
use Rattle.std.proofs.Common.{◌≡◌, ◌∙◌, ◌⊎◌, ◌<◌, ◌≤◌, ◌+◌, ◌++◌, ℕ, Bool, true, false, IsTrue, List, [], ◌∷◌, Option, None, Some, MatchOption, cond, inl, inr, length, get_or, take, zero, suc, sym, subst, arith}
use Rattle.std.proofs.lemmas.List.{take_more}
use Rattle.std.specs.List.{AllByRecursion}
use Rattle.bgp_wire.specs.Framing.{IsFaulty, IsFrame}
use Rattle.bgp_wire.specs.Header.{HasHeaderFault, IsSound, greatest_length, header_of, length_of, type_of}
use Rattle.bgp_wire.specs.Verdict.{type_code}
use Rattle.bgp_wire.specs.declared.header.Limit.{Limit}
use Rattle.bgp_wire.specs.declared.header.Limit.TheVariants.{Extended, Plain}
use Rattle.bgp_wire.specs.declared.header.MessageType.{MessageType}
use Rattle.streams.specs.declared.connection.End.{End}
use Rattle.streams.specs.declared.connection.Stream.{Stream}
use Rattle.bgp_recording.specs.Framed.{AreFramed, HasKind, IsRest, octets_of}
use Rattle.bgp_recording.specs.Gathered.{IsHeard, IsSaid}
use Rattle.bgp_recording.specs.Pieces.{IsFaultyOf, IsPiece, Kept, PassedOver, Piece, kept, passed_over}
use Rattle.bgp_recording.specs.declared.framing.Framing.{Framing}
use Rattle.bgp_recording.specs.declared.framing.Rest.{Rest}
use Rattle.bgp_recording.specs.declared.framing.Rest.TheVariants.{BehindFault, Short}
use Rattle.bgp_recording.specs.declared.framing.Unshown.{Unshown}
use Rattle.bgp_recording.specs.declared.message.Message.{Message}
use Rattle.bgp_ended.specs.SameMessages.{AreShort, FindsTheSame, HasNoHeader, IsSameLimit, IsSameRefresh}

-- ---- a header by either limit

greater : (kind : ℕ) → 4096 ≤ greatest_length Extended kind
greater kind = by_type _ where
  by_type : (b : Bool) → 4096 ≤ cond b 65535 4096
  by_type true = omega arith
  by_type false = omega arith

-- what is at fault where messages may be long is so where they may not
still_faulty : (header detail : List ℕ) (subcode : ℕ) → HasHeaderFault Extended header subcode detail → HasHeaderFault Plain header subcode detail
still_faulty header detail subcode (inl marker) = inl marker
still_faulty header detail subcode (inr (inl (is, inl few, data_is))) = inr (inl (is, inl few, data_is))
still_faulty header detail subcode (inr (inl (is, inr (inl many), data_is))) =
    let more = greater (type_of header) in inr (inl (is, inr (inl (omega (arith, many, more))), data_is))
still_faulty header detail subcode (inr (inl (is, inr (inr other), data_is))) = inr (inl (is, inr (inr other), data_is))
still_faulty header detail subcode (inr (inr kind)) = inr (inr kind)

-- and but for its length nothing else is
no_more_faulty : (header detail : List ℕ) (subcode : ℕ) → length_of header ≤ 4096 → HasHeaderFault Plain header subcode detail → HasHeaderFault Extended header subcode detail
no_more_faulty header detail subcode few (inl marker) = inl marker
no_more_faulty header detail subcode few (inr (inl (is, inl less, data_is))) = inr (inl (is, inl less, data_is))
no_more_faulty header detail subcode few (inr (inl (is, inr (inl many), data_is))) = absurd (omega (arith, few, many))
no_more_faulty header detail subcode few (inr (inl (is, inr (inr other), data_is))) = inr (inl (is, inr (inr other), data_is))
no_more_faulty header detail subcode few (inr (inr kind)) = inr (inr kind)

sound_where_short : (header : List ℕ) → length_of header ≤ 4096 → IsSound Extended header → IsSound Plain header
sound_where_short header few sound subcode detail fault = sound subcode detail (no_more_faulty header detail subcode few fault)

-- ---- one limit and another

-- a frame of these octets is one, if they are few; and a header at fault stays so
record Narrows (old new : Limit) : Type 0 where
  pub frames : (octets : List ℕ) → (old ≡ new) ⊎ (length octets ≤ 4096) → IsFrame old octets → IsFrame new octets
  pub faults : (octets : List ℕ) → IsFaulty old octets → IsFaulty new octets

same_narrows : (limit : Limit) → Narrows limit limit
same_narrows limit = record { frames = λ octets few frame. frame; faults = λ octets faulty. faulty }

not_same : Extended ≡ Plain → ⊥
not_same e = cc

narrows : Narrows Extended Plain
narrows = record {
  frames = frames;
  faults = λ octets faulty. (faulty.0, λ sound. faulty.1 (λ subcode detail fault. sound subcode detail (still_faulty _ detail subcode fault)));
} where
  frames : (octets : List ℕ) → (Extended ≡ Plain) ⊎ (length octets ≤ 4096) → IsFrame Extended octets → IsFrame Plain octets
  frames octets (inl same) frame = absurd (not_same same)
  frames octets (inr few) frame = record {
    header = frame.header;
    sound = sound_where_short _ (omega (arith, few, frame.whole)) frame.sound;
    whole = frame.whole;
  }

-- ---- a stream

module _ (old new : Framing) (narrow : Narrows old.limit new.limit) where
  abbrev IsFew : List ℕ → Type 0
  IsFew octets = (old.limit ≡ new.limit) ⊎ (length octets ≤ 4096)

  abbrev Skips : Type 0
  Skips = IsTrue new.skips_refresh → IsTrue old.skips_refresh

  abbrev SkipsAll : List Piece → Type 0
  SkipsAll pieces = (IsTrue old.skips_refresh → IsTrue new.skips_refresh) ⊎ (passed_over pieces ≡ 0)

  each_piece : (pieces : List Piece) → SkipsAll pieces → AllByRecursion IsFew (kept pieces) → AllByRecursion (IsPiece old) pieces → AllByRecursion (IsPiece new) pieces
  each_piece [] skips few each = tt
  each_piece (Kept octets ∷ pieces) skips few each = (narrow.frames octets few.0 each.0, each_piece pieces skips few.1 each.1)
  each_piece (PassedOver octets ∷ pieces) (inl skips) few each = ((skips each.0.0, each.0.1), each_piece pieces (inl skips) few each.1)
  each_piece (PassedOver octets ∷ pieces) (inr none) few each = absurd (omega (arith, none))

  faulty_of : Skips → (octets : List ℕ) → IsFaultyOf old octets → IsFaultyOf new octets
  faulty_of skips octets faulty = record { faulty = narrow.faults octets faulty.faulty; stays = λ more. faulty.stays (skips more) }

  rest_of : Skips → (pieces : List Piece) (left : List ℕ) (messages : List Message) (rest : Rest) → HasNoHeader rest → IsRest old pieces left messages rest → IsRest new pieces left messages rest
  rest_of skips pieces left messages (Short count) few is = (is.0, is.1, inl (inl (omega (arith, few, is.1))))
  rest_of skips pieces left messages (BehindFault place count is_refresh) few is = (is.0, is.1, is.2, faulty_of skips left is.3, is.4)

  kind_of : Skips → (octets : List ℕ) (kind : Option MessageType) → IsFew octets
      → MatchOption kind ((length octets ≡ 19) × IsFaultyOf old octets) (λ k. IsFrame old.limit octets × (type_code k ≡ type_of (header_of octets)))
      → MatchOption kind ((length octets ≡ 19) × IsFaultyOf new octets) (λ k. IsFrame new.limit octets × (type_code k ≡ type_of (header_of octets)))
  kind_of skips octets None few is = (is.0, faulty_of skips octets is.1)
  kind_of skips octets (Some kind) few is = (narrow.frames octets few is.0, is.1)

  each_kind : Skips → (messages : List Message) → AllByRecursion IsFew (octets_of messages) → AllByRecursion (HasKind old) messages → AllByRecursion (HasKind new) messages
  each_kind skips [] few each = tt
  each_kind skips (m ∷ messages) few each = (kind_of skips m.octets.now m.kind few.0 each.0, each_kind skips messages few.1 each.1)

  all_front : (xs ys : List (List ℕ)) → AllByRecursion IsFew (xs ++ ys) → AllByRecursion IsFew xs
  all_front [] ys all = tt
  all_front (x ∷ xs) ys all = (all.0, all_front xs ys all.1)

  few_kept : (pieces : List Piece) (left : List ℕ) (messages : List Message) (rest : Rest) → IsRest old pieces left messages rest → AllByRecursion IsFew (octets_of messages) → AllByRecursion IsFew (kept pieces)
  few_kept pieces left messages (Short count) is few = subst (λ (os : List (List ℕ)). AllByRecursion IsFew os) is.0 few
  few_kept pieces left messages (BehindFault place count is_refresh) is few =
      all_front (kept pieces) (header_of left ∷ []) (subst (λ (os : List (List ℕ)). AllByRecursion IsFew os) is.0 few)

  framed_of : (octets : List ℕ) (pieces : List Piece) (messages : List Message) (unshown : Unshown) → Skips → SkipsAll pieces → HasNoHeader unshown.rest → AllByRecursion IsFew (octets_of messages)
      → AreFramed old octets pieces messages unshown → AreFramed new octets pieces messages unshown
  framed_of octets pieces messages unshown skips all none few framed = record {
    left = framed.left;
    whole = framed.whole;
    each = each_piece pieces all (few_kept pieces framed.left messages unshown.rest framed.is few) framed.each;
    passed = framed.passed;
    is = rest_of skips pieces framed.left messages unshown.rest none framed.is;
  }

-- ---- what differs, and doesn't occur

false_true : false ≡ true → ⊥
false_true e = cc

module _ (are_few : Type 0) (old new : Framing) where
  skips_by : (unshown : Unshown) → IsSameRefresh old new unshown → IsTrue new.skips_refresh → IsTrue old.skips_refresh
  skips_by unshown (inl same) skips = sym same ∙ skips
  skips_by unshown (inr none) skips = absurd (false_true (sym none.0 ∙ skips))

  all_by : (unshown : Unshown) (pieces : List Piece) → unshown.passed_over ≡ passed_over pieces → IsSameRefresh old new unshown
      → (IsTrue old.skips_refresh → IsTrue new.skips_refresh) ⊎ (passed_over pieces ≡ 0)
  all_by unshown pieces passed (inl same) = inl (λ skips. same ∙ skips)
  all_by unshown pieces passed (inr none) = inr (sym passed ∙ none.1)

  narrows_by : IsSameLimit are_few old new → Narrows old.limit new.limit
  narrows_by (inl same) = subst (λ (l : Limit). Narrows old.limit l) (sym same) (same_narrows old.limit)
  narrows_by (inr (long, short, plain)) = subst (λ (l : Limit). Narrows l new.limit) (sym long) (subst (λ (l : Limit). Narrows Extended l) (sym short) narrows)

  all_few : (messages : List Message) → IsSameLimit are_few old new → (are_few → AreShort messages) → AllByRecursion (λ octets. (old.limit ≡ new.limit) ⊎ (length octets ≤ 4096)) (octets_of messages)
  all_few messages (inl same) short = by messages where
    by : (ms : List Message) → AllByRecursion (λ octets. (old.limit ≡ new.limit) ⊎ (length octets ≤ 4096)) (octets_of ms)
    by [] = tt
    by (m ∷ ms) = (inl (sym same), by ms)
  all_few messages (inr (long, few, plain)) short = by messages (short plain) where
    by : (ms : List Message) → AreShort ms → AllByRecursion (λ octets. (old.limit ≡ new.limit) ⊎ (length octets ≤ 4096)) (octets_of ms)
    by [] all = tt
    by (m ∷ ms) all = (inr all.0, by ms all.1)

  pub heard : (stream : Stream) (messages : List Message) (unshown : Unshown) → FindsTheSame are_few old new unshown → (are_few → AreShort messages)
      → IsHeard old stream messages unshown → IsHeard new stream messages unshown
  heard stream messages unshown (inl same) short h = subst (λ (f : Framing). IsHeard f stream messages unshown) (sym same) h
  heard stream messages unshown (inr (limit, refresh, none)) short h =
      let narrow = narrows_by limit in
      let few = all_few messages limit short in
      let skips = skips_by unshown refresh in record {
        pieces = h.pieces;
        framed = framed_of old new narrow stream.octets.now h.pieces messages unshown skips (all_by unshown h.pieces h.framed.passed refresh) none few h.framed;
        kinds = each_kind old new narrow skips messages few h.kinds;
        came = h.came;
      }

  pub said : (stream : Stream) (end : Option End) (messages : List Message) (unshown : Unshown) → FindsTheSame are_few old new unshown → (are_few → AreShort messages)
      → IsSaid old stream end messages unshown → IsSaid new stream end messages unshown
  said stream end messages unshown (inl same) short h = subst (λ (f : Framing). IsSaid f stream end messages unshown) (sym same) h
  said stream end messages unshown (inr (limit, refresh, none)) short h =
      let narrow = narrows_by limit in
      let few = all_few messages limit short in
      let skips = skips_by unshown refresh in record {
        pieces = h.pieces;
        framed = framed_of old new narrow stream.octets.now h.pieces messages unshown skips (all_by unshown h.pieces h.framed.passed refresh) none few h.framed;
        kinds = each_kind old new narrow skips messages few h.kinds;
        made = h.made;
      }

-- ---- of messages that are gone through

pub not_true : (b : Bool) → b ≡ true → b ≡ false → ⊥
not_true true is other = let k : ⊥ = cc in k
not_true false is other = let k : ⊥ = cc in k

short_push : (ms : List Message) (m : Message) → AreShort ms → length m.octets.now ≤ 4096 → AreShort (ms ++ m ∷ [])
short_push [] m all is = (is, tt)
short_push (first ∷ ms) m all is = (all.0, short_push ms m all.1 is)

pub one_more : (ms : List Message) (i : ℕ) (d : Message) → i < length ms → AreShort (take i ms) → length (get_or ms i d).octets.now ≤ 4096 → AreShort (take (i + 1) ms)
one_more ms i d within all is = subst AreShort (sym (take_more ms i d within)) (short_push (take i ms) (get_or ms i d) all is)

pub short_at : (ms : List Message) (i : ℕ) (d : Message) → i < length ms → AreShort ms → length (get_or ms i d).octets.now ≤ 4096
short_at [] i d within all = absurd (omega (arith, within))
short_at (first ∷ ms) zero d within all = all.0
short_at (first ∷ ms) (suc i) d within all = short_at ms i d (omega (arith, within)) all.1
