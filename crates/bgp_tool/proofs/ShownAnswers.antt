-- What a reader answers over a source whose records are printed as they come is what it answers
-- over the source itself, and the text stays.
use Rattle.std.proofs.Common.{◌≡◌, ℕ, Bool, false, List, ap, sym, subst, inl, inr, Option, Some, None, Result, Ok, Err}
use Rattle.bgp_prefix.specs.Shown.{ShownRecord}
use Rattle.bgp_prefix.specs.declared.session.Session.{Session}
use Rattle.mrt.specs.declared.record.Record.{Record}
use Rattle.mrt.specs.declared.fault.CaptureFault.{CaptureFault}
use Rattle.bgp_tool.specs.declared.session_options.SessionOptions.{SessionOptions}
use Rattle.bgp_tool.specs.CaptureDecoding.{DecodesCapture}
use Rattle.mrt.specs.Reader.{ReaderState, Answers, Ends, Fails, IsAnswer, NextBy, IsNext}

module _ {S R : Type 0} (within : S → R) (gives : S → S → List ℕ → Type 0) (gives' : R → R → List ℕ → Type 0) (has_ended : R → Bool)
    (through : (a b : S) (xs : List ℕ) → gives a b xs → gives' (within a) (within b) xs) (session : Session) where
  abbrev ended : S → Bool
  ended a = has_ended (within a)

  same_answer : (old new : S) (from after : ReaderState) (shown : ShownRecord) → Answers gives ended session old new from after shown
      → Answers gives' has_ended session (within old) (within new) from after shown
  same_answer old new from after shown is = record {
    skipped = is.skipped;
    octets = is.octets;
    only = is.only;
    pieces = is.pieces;
    shown = is.shown;
    exactly = through old new _ is.exactly;
    stands = is.stands;
  }

  same_end : (old new : S) (from after : ReaderState) → Ends gives ended session old new from after
      → Ends gives' has_ended session (within old) (within new) from after
  same_end old new from after is = record {
    skipped = is.skipped;
    only = is.only;
    pieces = is.pieces;
    exactly = through old new _ is.exactly;
    ended = is.ended;
    stands = is.stands;
  }

  same_fault : (old new : S) (from after : ReaderState) (fault : CaptureFault) → Fails gives ended session old new from after fault
      → Fails gives' has_ended session (within old) (within new) from after fault
  same_fault old new from after fault is = record {
    skipped = is.skipped;
    rest = is.rest;
    only = is.only;
    pieces = is.pieces;
    taken = through old new _ is.taken;
    why = elim is.why [
      | inl refused ↦ inl refused
      | inr others ↦ elim others [
        | inl device ↦ inr (inl device)
        | inr memory ↦ inr (inr (memory.0, ap within memory.1, memory.2))
      ]
    ];
    offset = is.offset;
    stands = is.stands;
  }

  both : (old new : S) (from after : ReaderState) (answer : Result (Option Record) CaptureFault) → IsAnswer gives ended session old new from after answer
      → IsAnswer gives' has_ended session (within old) (within new) from after answer × (octets : List ℕ) × gives old new octets
  both old new from after (Ok (Some shown)) is = (same_answer old new from after _ is, _, is.exactly)
  both old new from after (Ok None) is = (same_end old new from after is, _, is.exactly)
  both old new from after (Err fault) is = (same_fault old new from after fault is, _, is.taken)

  -- what is answered of one that has neither ended nor failed
  pub printed_answer : (old new : S) (from after : ReaderState) (answer : Result (Option Record) CaptureFault) → from.fault ≡ None → from.is_ended ≡ false
      → IsNext gives ended session old new from after answer
      → IsAnswer gives' has_ended session (within old) (within new) from after answer × (octets : List ℕ) × gives old new octets
  printed_answer old new from after answer calm going is =
      both old new from after answer
      (subst (λ (b : Bool). NextBy gives ended session None b old new from after answer) going
      (subst (λ (f : Option CaptureFault). NextBy gives ended session f from.is_ended old new from after answer) calm is))

-- What is decoded of a source that is lent is what is decoded of the source itself.
module _ {S R W : Type 0} (within : S → R) (gives : S → S → List ℕ → Type 0) (gives' : R → R → List ℕ → Type 0) (has_ended : R → Bool)
    (takes : W → W → List ℕ → Type 0) (counts : R → ℕ) (failures : W → ℕ)
    (through : (a b : S) (xs : List ℕ) → gives a b xs → gives' (within a) (within b) xs) (options : SessionOptions) where
  of_same : (old new : S) (sink sink' : W) (reader' : ReaderState) (status : ℕ)
      → DecodesCapture gives (λ a. has_ended (within a)) takes (λ a. counts (within a)) failures options old new sink sink' reader' status
      → DecodesCapture gives' has_ended takes counts failures options (within old) (within new) sink sink' reader' status
  of_same old new sink sink' reader' status is = record {
    pieces = is.pieces;
    rest = is.rest;
    knows = is.knows;
    answer = is.answer;
    gave = through old new _ is.gave;
    each = is.each;
    ends = is.ends;
    counted = is.counted;
    lines = is.lines;
    are_lines = is.are_lines;
    written = is.written;
    left = is.left;
    took = is.took;
    begun = is.begun;
    all = is.all;
  }

  pub of_lent : (old new : S) (source source' : R) (sink sink' : W) (reader' : ReaderState) (status : ℕ) → within old ≡ source → source' ≡ within new
      → DecodesCapture gives (λ a. has_ended (within a)) takes (λ a. counts (within a)) failures options old new sink sink' reader' status
      → DecodesCapture gives' has_ended takes counts failures options source source' sink sink' reader' status
  of_lent old new source source' sink sink' reader' status first last is =
      subst (λ (a : R). DecodesCapture gives' has_ended takes counts failures options a source' sink sink' reader' status) first
      (subst (λ (b : R). DecodesCapture gives' has_ended takes counts failures options (within old) b sink sink' reader' status) (sym last)
      (of_same old new sink sink' reader' status is))
