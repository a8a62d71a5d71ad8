-- Records that are written one after another are a capture of just these.
use Rattle.std.proofs.Common.{◌≡◌, ◌∙◌, ℕ, ◌≤◌, List, [], ◌∷◌, ◌++◌, map, refl, sym, ap, subst, arith, inl, append-nil, Option, None, Some}
use Rattle.std.specs.List.{AllByRecursion}
use Rattle.bgp_prefix.specs.Shown.{ShownRecord, Received, Sent, Changed, second_of}
use Rattle.bgp_prefix.specs.declared.session.Session.{Session}
use Rattle.mrt.specs.Rules.{IsBefore}
use Rattle.mrt.specs.Capture.{Piece, Shown, ArePieces, joined, records_of, shown_of}
use Rattle.mrt.specs.Written.{IsAllowed, record_octets, capture_octets, CanBeCaptured, AreInOrder}
use Rattle.mrt.specs.CaptureLaws.{CapturesReadBack}
use Rattle.mrt.proofs.WrittenRecord.{reads_back}

-- none of the session's records stands before, or one whose second isn't greater
abbrev NotBefore : Option ℕ → ℕ → Type 0
NotBefore None least = Unit {0}
NotBefore (Some last) least = last ≤ least

not_before : (last : Option ℕ) (least second : ℕ) → NotBefore last least → least ≤ second → ¬ IsBefore second last
not_before None least second before from back = back
not_before (Some last) least second before from back = absurd (omega (arith, back))

-- what may be the first record may stand behind one whose second isn't greater
allowed_there : (session : Session) (last : Option ℕ) (shown : ShownRecord) → (¬ IsBefore (second_of shown) last) → IsAllowed session None shown
    → IsAllowed session last shown
allowed_there session last (Changed second old new) there is = (is.0, is.1, there)
allowed_there session last (Received second octets) there is = (is.0, there)
allowed_there session last (Sent second octets) there is = (is.0, there)

abbrev pub pieces_for : Session → ℕ → ℕ → List ShownRecord → List Piece
pieces_for session pa la records = map (λ shown. Shown (record_octets session pa la shown)) records

pub octets_joined : (session : Session) (pa la : ℕ) (records : List ShownRecord) → capture_octets session pa la records ≡ joined (pieces_for session pa la records)
octets_joined session pa la [] = refl
octets_joined session pa la (shown ∷ later) = ap (λ (o : List ℕ). record_octets session pa la shown ++ o) (octets_joined session pa la later)

pub record WrittenSoFar (session : Session) (pa la : ℕ) (last : Option ℕ) (records : List ShownRecord) : Type 0 where
  pub pieces : ArePieces session last (pieces_for session pa la records)
  pub shown : records ≡ records_of (pieces_for session pa la records)

pub are_read : (session : Session) (pa la : ℕ) (last : Option ℕ) (least : ℕ) (records : List ShownRecord) → NotBefore last least
    → AllByRecursion (CanBeCaptured session) records → AreInOrder least records → WrittenSoFar session pa la last records
are_read session pa la last least [] before can order = record { pieces = tt; shown = refl }
are_read session pa la last least (shown ∷ later) before can order =
    let one = can.0 in
    let there = allowed_there session last shown (not_before last least (second_of shown) before order.0) one.allowed in
    let read = reads_back session pa la shown last one.writable one.fits there in
    let behind = are_read session pa la (Some (second_of (shown_of (record_octets session pa la shown)))) (second_of shown) later
    (subst (λ (r : ShownRecord). second_of r ≤ second_of shown) (sym read.1) (omega arith)) can.1 order.1 in record {
      pieces = (read.0, behind.pieces);
      shown = ap (λ (r : ShownRecord). r ∷ later) (sym read.1) ∙ ap (λ (rs : List ShownRecord). shown_of (record_octets session pa la shown) ∷ rs) behind.shown;
    }

pub captures_read_back : CapturesReadBack
captures_read_back session pa la records can order =
    let read = are_read session pa la None 0 records tt can order in record {
      pieces = pieces_for session pa la records;
      text = record {
        whole = octets_joined session pa la records ∙ sym (append-nil (joined (pieces_for session pa la records)));
        each = read.pieces;
        last = inl (refl, refl);
        stops = tt;
      };
      shown = read.shown;
    }
