-- A stream split into pieces, one after another.
use Rattle.std.proofs.Common.{◌≡◌, ◌∙◌, ◌≤◌, ◌+◌, ◌-◌, ℕ, Bool, List, [], ◌∷◌, ◌++◌, ◌↔◌, drop, take, length, Option, None, Some, IsTrue, ap, subst, sym, refl, arith, append_assoc, append-nil}
use Rattle.std.proofs.lemmas.List.{length-append, length-drop, length-take}
use Rattle.std.specs.List.{AllByRecursion}
use Rattle.std.specs.Prelude.{MatchOption}
use Rattle.bgp_wire.specs.declared.header.MessageType.{MessageType}
use Rattle.bgp_wire.specs.Framing.{IsFrame}
use Rattle.bgp_wire.specs.Header.{header_of, type_of, IsSound}
use Rattle.bgp_wire.specs.Verdict.{type_code}
use Rattle.bgp_wire.proofs.Front.{header_of-take}
use Rattle.mrt.specs.Rules.{IsWholeRefresh}
use Rattle.streams.specs.declared.connection.Run.{Run}
use Rattle.bgp_recording.specs.declared.framing.Direction.{Direction}
use Rattle.bgp_recording.specs.declared.framing.Framing.{Framing}
use Rattle.bgp_recording.specs.declared.framing.Rest.TheVariants.{Short, BehindFault}
use Rattle.bgp_recording.specs.declared.givers.Cursor.{Cursor}
use Rattle.bgp_recording.specs.declared.message.Message.{Message}
use Rattle.bgp_recording.specs.Framed.{octets_of, AreSplit, Begins, EachAt, HasKind, IsStamped}
use Rattle.bgp_recording.specs.Givers.{IsAt}
use Rattle.bgp_recording.specs.Pieces.{Piece, Kept, PassedOver, stream_of, kept, passed_over, IsPiece, IsRefreshHeader, BeginsRefresh, IsShortOf, IsFaultyOf}
use Rattle.bgp_recording.proofs.Lists.{all_append}
use Rattle.bgp_recording.proofs.Pieces.{kept_on, kept_past, passed_on, passed_past, whole_on, reaches_on}

-- up to a place, with so many passed over: whatever stands from there on is behind these
pub record IsSplit (framing : Framing) (direction : Direction) (givers : List Run) (octets : List ℕ) (place passed : ℕ) (cursor : Cursor) (messages : List Message) : Type 0 where
  pub within : place ≤ length octets
  pub few : passed ≤ place
  pub at : IsAt givers cursor
  pub base : cursor.base ≤ place
  pub kinds : AllByRecursion (HasKind framing) messages
  pub pieces : List Piece
  pub whole : octets ≡ stream_of pieces ++ drop place octets
  pub reaches : length (stream_of pieces) ≡ place
  pub each : AllByRecursion (IsPiece framing) pieces
  pub are_kept : octets_of messages ≡ kept pieces
  pub count : passed ≡ passed_over pieces
  pub stamped : (more : List Piece) (later : List Message) → EachAt (IsStamped direction givers) place more later → EachAt (IsStamped direction givers) 0 (pieces ++ more) (messages ++ later)

pub begins_split : (framing : Framing) (direction : Direction) (givers : List Run) (octets : List ℕ) (cursor : Cursor) → IsAt givers cursor → cursor.base ≤ 0
    → IsSplit framing direction givers octets 0 0 cursor []
begins_split framing direction givers octets cursor at base = record {
  within = omega arith;
  few = omega arith;
  at = at;
  base = base;
  kinds = tt;
  pieces = [];
  whole = refl;
  reaches = refl;
  each = tt;
  are_kept = refl;
  count = refl;
  stamped = λ more later h. h;
}

kinds_push : (framing : Framing) (messages : List Message) (m : Message) → AllByRecursion (HasKind framing) messages → HasKind framing m → AllByRecursion (HasKind framing) (messages ++ m ∷ [])
kinds_push framing messages m h k = all_append (HasKind framing) messages (m ∷ []) h (k, tt)

octets_on : (messages : List Message) (m : Message) → octets_of (messages ++ m ∷ []) ≡ octets_of messages ++ m.octets.now ∷ []
octets_on [] m = refl
octets_on (x ∷ xs) m = ap (λ (os : List (List ℕ)). x.octets.now ∷ os) (octets_on xs m)

by_givers : (givers : List Run) (cursor after : Cursor) → IsAt givers cursor → IsAt cursor.runs.now after → IsAt givers after
by_givers givers cursor after at h = subst (λ (rs : List Run). IsAt rs after) at.0 h

stamped_by : (direction : Direction) (givers : List Run) (place : ℕ) (cursor : Cursor) (m : Message) → IsAt givers cursor → IsStamped direction cursor.runs.now place m
    → IsStamped direction givers place m
stamped_by direction givers place cursor m at h = subst (λ (rs : List Run). IsStamped direction rs place m) at.0 h

-- what stands at the front ends in the stream
pub front_within : (octets left front : List ℕ) (place : ℕ) → place ≤ length octets → left ≡ drop place octets → Begins left front → place + length front ≤ length octets
front_within octets left front place within is whole =
    let a = ap length is in
    let b = length-drop place octets in
    let c = ap length whole in
    let d = length-append front (drop (length front) left) in
    omega (arith, a, b, c, d, within)

begins_there : (octets left front : List ℕ) (place : ℕ) → left ≡ drop place octets → Begins left front → Begins (drop place octets) front
begins_there octets left front place is whole = subst (λ (os : List ℕ). Begins os front) is whole

-- ---- a message

pub frame_kind : (framing : Framing) (m : Message) (front : List ℕ) (kind : MessageType) → m.octets.now ≡ front → m.kind ≡ Some kind → IsFrame framing.limit front
    → type_code kind ≡ type_of (header_of front) → HasKind framing m
frame_kind framing m front kind same is frame code =
    subst (λ (k : Option MessageType).
    MatchOption k ((length m.octets.now ≡ 19) × IsFaultyOf framing m.octets.now) (λ t. IsFrame framing.limit m.octets.now × (type_code t ≡ type_of (header_of m.octets.now))))
    (sym is)
    (subst (λ (os : List ℕ). IsFrame framing.limit os) (sym same) frame, code ∙ ap (λ (os : List ℕ). type_of (header_of os)) (sym same))

pub split_kept : (framing : Framing) (direction : Direction) (givers : List Run) (octets left front : List ℕ) (place passed : ℕ) (cursor after : Cursor) (messages pushed : List Message) (m : Message) (kind : MessageType)
    → IsSplit framing direction givers octets place passed cursor messages → left ≡ drop place octets → IsFrame framing.limit front → type_code kind ≡ type_of (header_of front) → Begins left front
    → m.octets.now ≡ front → m.kind ≡ Some kind → IsStamped direction cursor.runs.now place m
    → IsAt cursor.runs.now after → after.base ≤ place + length front → pushed ≡ messages ++ m ∷ [] → IsSplit framing direction givers octets (place + length front) passed after pushed
split_kept framing direction givers octets left front place passed cursor after messages pushed m kind h is frame code begins same of gave after_at base put =
    let there = begins_there octets left front place is begins in
    subst (λ (ms : List Message). IsSplit framing direction givers octets (place + length front) passed after ms) (sym put) (record {
      within = front_within octets left front place h.within is begins;
      few = omega (arith, h.few);
      at = by_givers givers cursor after h.at after_at;
      base = base;
      kinds = kinds_push framing messages m h.kinds (frame_kind framing m front kind same of frame code);
      pieces = h.pieces ++ Kept front ∷ [];
      whole = whole_on octets h.pieces (Kept front) place h.whole there;
      reaches = reaches_on h.pieces (Kept front) place h.reaches;
      each = all_append (IsPiece framing) h.pieces (Kept front ∷ []) h.each (frame, tt);
      are_kept = octets_on messages m ∙ ap (λ (fs : List (List ℕ)). fs ++ m.octets.now ∷ []) h.are_kept ∙ ap (λ (os : List ℕ). kept h.pieces ++ os ∷ []) same
          ∙ sym (kept_on h.pieces front);
      count = h.count ∙ sym (passed_on h.pieces front);
      stamped = λ more later k.
          let at_m : EachAt (IsStamped direction givers) (place + length m.octets.now) more later =
          subst (λ (os : List ℕ). EachAt (IsStamped direction givers) (place + length os) more later) (sym same) k
          in
          subst (λ (ps : List Piece). EachAt (IsStamped direction givers) 0 ps ((messages ++ m ∷ []) ++ later)) (sym (append_assoc h.pieces (Kept front ∷ []) more))
          (subst (λ (ms : List Message). EachAt (IsStamped direction givers) 0 (h.pieces ++ Kept front ∷ more) ms) (sym (append_assoc messages (m ∷ []) later))
          (h.stamped (Kept front ∷ more) (m ∷ later) (stamped_by direction givers place cursor m h.at gave, at_m)));
    })

-- ---- what is passed over

pub split_passed : (framing : Framing) (direction : Direction) (givers : List Run) (octets left front : List ℕ) (place passed : ℕ) (cursor : Cursor) (messages : List Message)
    → IsSplit framing direction givers octets place passed cursor messages → left ≡ drop place octets → IsTrue framing.skips_refresh → IsWholeRefresh front → Begins left front
    → IsSplit framing direction givers octets (place + length front) (passed + 1) cursor messages
split_passed framing direction givers octets left front place passed cursor messages h is skips whole begins =
    let there = begins_there octets left front place is begins in record {
      within = front_within octets left front place h.within is begins;
      few = omega (arith, h.few, whole.least);
      at = h.at;
      base = omega (arith, h.base);
      kinds = h.kinds;
      pieces = h.pieces ++ PassedOver front ∷ [];
      whole = whole_on octets h.pieces (PassedOver front) place h.whole there;
      reaches = reaches_on h.pieces (PassedOver front) place h.reaches;
      each = all_append (IsPiece framing) h.pieces (PassedOver front ∷ []) h.each ((skips, whole), tt);
      are_kept = h.are_kept ∙ sym (kept_past h.pieces front);
      count = omega (arith, h.count, passed_past h.pieces front);
      stamped = λ more later k.
          subst (λ (ps : List Piece). EachAt (IsStamped direction givers) 0 ps (messages ++ later)) (sym (append_assoc h.pieces (PassedOver front ∷ []) more))
          (h.stamped (PassedOver front ∷ more) later k);
    }

-- ---- the end

pub split_short : (framing : Framing) (direction : Direction) (givers : List Run) (octets left : List ℕ) (place passed count : ℕ) (cursor : Cursor) (messages : List Message)
    → IsSplit framing direction givers octets place passed cursor messages → left ≡ drop place octets → IsShortOf framing left → count ≡ length left
    → AreSplit framing direction givers octets messages record { passed_over = passed; rest = Short count }
split_short framing direction givers octets left place passed count cursor messages h is short counted = record {
  pieces = h.pieces;
  framed = record {
    left = drop place octets;
    whole = h.whole;
    each = h.each;
    passed = h.count;
    is = (h.are_kept, counted ∙ ap length is, subst (λ (os : List ℕ). IsShortOf framing os) is short);
  };
  kinds = h.kinds;
  stamped = subst (λ (ps : List Piece). EachAt (IsStamped direction givers) 0 ps messages) (append-nil h.pieces)
      (subst (λ (ms : List Message). EachAt (IsStamped direction givers) 0 (h.pieces ++ []) ms) (append-nil messages) (h.stamped [] [] tt));
}

-- 19 octets, which are at fault as what they begin
pub faulty_header : (framing : Framing) (left header : List ℕ) → IsFaultyOf framing left → header ≡ header_of left → (length header ≡ 19) × IsFaultyOf framing header
faulty_header framing left header h is =
    let front : header_of header ≡ header_of left = ap (λ (os : List ℕ). header_of os) is ∙ header_of-take 19 left (omega arith) in
    let counted : length header ≡ length (take 19 left) = ap length is in
    let short : length header ≡ 19 = omega (arith, counted, length-take 19 left, h.faulty.0) in (
      short,
      record {
        faulty = (omega (arith, short), subst (λ (os : List ℕ). ¬ IsSound framing.limit os) (sym front) h.faulty.1);
        stays = λ skips. subst (λ (os : List ℕ). ¬ IsRefreshHeader os) (sym front) (h.stays skips);
      },
    )

faulty_kind : (framing : Framing) (m : Message) (left header : List ℕ) → m.octets.now ≡ header → m.kind ≡ None → IsFaultyOf framing left → header ≡ header_of left → HasKind framing m
faulty_kind framing m left header same is faulty front =
    let f = faulty_header framing left m.octets.now faulty (same ∙ front) in
    subst (λ (k : Option MessageType).
    MatchOption k ((length m.octets.now ≡ 19) × IsFaultyOf framing m.octets.now) (λ t. IsFrame framing.limit m.octets.now × (type_code t ≡ type_of (header_of m.octets.now))))
    (sym is) (f.0, f.1)

pub split_fault : (framing : Framing) (direction : Direction) (givers : List Run) (octets left header : List ℕ) (place passed count : ℕ) (is_refresh : Bool) (cursor : Cursor) (messages pushed : List Message)
    (m : Message) → IsSplit framing direction givers octets place passed cursor messages → left ≡ drop place octets → IsFaultyOf framing left → header ≡ header_of left
    → (IsTrue is_refresh ↔ BeginsRefresh left) → m.octets.now ≡ header → m.kind ≡ None → IsStamped direction cursor.runs.now place m → count ≡ length left - length header
    → pushed ≡ messages ++ m ∷ [] → AreSplit framing direction givers octets pushed record { passed_over = passed; rest = BehindFault place count is_refresh }
split_fault framing direction givers octets left header place passed count is_refresh cursor messages pushed m h is faulty front refresh same of gave counted put =
    let long = (faulty_header framing left header faulty front).0 in
    let there : header ≡ header_of (drop place octets) = front ∙ ap (λ (os : List ℕ). header_of os) is in
    subst (λ (ms : List Message). AreSplit framing direction givers octets ms record { passed_over = passed; rest = BehindFault place count is_refresh }) (sym put) (record {
      pieces = h.pieces;
      framed = record {
        left = drop place octets;
        whole = h.whole;
        each = h.each;
        passed = h.count;
        is = (
          octets_on messages m ∙ ap (λ (fs : List (List ℕ)). fs ++ m.octets.now ∷ []) h.are_kept ∙ ap (λ (os : List ℕ). kept h.pieces ++ os ∷ []) (same ∙ there),
          sym h.reaches,
          counted ∙ ap (λ n. length left - n) long ∙ sym (length-drop 19 left) ∙ ap (λ (os : List ℕ). length (drop 19 os)) is,
          subst (λ (os : List ℕ). IsFaultyOf framing os) is faulty,
          subst (λ (os : List ℕ). IsTrue is_refresh ↔ BeginsRefresh os) is refresh,
        );
      };
      kinds = kinds_push framing messages m h.kinds (faulty_kind framing m left header same of faulty front);
      stamped = subst (λ (ps : List Piece). EachAt (IsStamped direction givers) 0 ps (messages ++ m ∷ [])) (append-nil h.pieces)
          (h.stamped [] (m ∷ []) (stamped_by direction givers place cursor m h.at gave, refl));
    })
