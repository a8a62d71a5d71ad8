-- What explaining a capture reads and answers: the verdict on the session's records with its
-- reason, or why there is none.
use Rattle.std.specs.Prelude.{◌↔◌, ◌≡◌, ℕ, Bool, List, length, IsTrue, Option, None}
use Rattle.std.specs.Prelude.{Result, Ok, Err}
use Rattle.bgp_prefix.specs.Shown.{ShownRecord}
use Rattle.bgp_parts.specs.Confederations.{SomeShowConfederations}
use Rattle.bgp_open.specs.declared.config.Config.{Config}
use Rattle.mrt.specs.Capture.{Piece, ArePieces, Spells, joined, micros_of, records_of}
use Rattle.mrt.specs.Reader.{ReaderState}
use Rattle.mrt.specs.ReadBy.{Knows}
use Rattle.mrt.specs.declared.fault.CaptureFault.{CaptureFault}
use Rattle.bgp_judge.specs.declared.verdict.Verdict.{Verdict}
use Rattle.bgp_judge.specs.Judging.{IsRefusal}
use Rattle.bgp_judge.specs.Verdict.{IsVerdict}
use Rattle.bgp_explain.specs.declared.explained.Explained.{Explained}
use Rattle.bgp_explain.specs.declared.explained.Reason.{Reason}
use Rattle.bgp_explain.specs.declared.explained.Totals.{Totals}
use Rattle.bgp_explain.specs.Fractions.{AreKeptFor}
use Rattle.bgp_explain.specs.LeftOut.{JudgesWithout}
use Rattle.bgp_explain.specs.Reason.{AreSummed, HasReason}
use Rattle.bgp_explain.specs.Skipped.{skipped_of}

-- The source goes from `old` to `new`. The members are the source's.
module _ {S : Type 0} (gives : S → S → List ℕ → Type 0) (has_ended : S → Bool) (config : Config)
    (old new : S) (may_lack : Config → List ShownRecord → ShownRecord → Type 0) where
  -- The source was read to its end. Its octets spell these records, whose verdict this is, for this
  -- reason.
  pub record IsExplained {X Y : Type 0} (answer : Verdict X) (why : Option (Reason Y))
      (totals : Totals) : Type 0 where
    pub octets : List ℕ
    pub records : List ShownRecord
    pub gave : gives old new octets
    pub ended : IsTrue (has_ended new)
    pub spells : Spells config.parts.session octets records
    pub verdict : IsVerdict config records answer
    pub reason : HasReason config records answer why
    pub count : totals.octets ≡ length octets
    pub summed : AreSummed records answer totals.tally totals.seen
    pub confederation : IsTrue totals.confederation ↔ SomeShowConfederations records
    pub left_out : JudgesWithout config records totals.left_out
    pub skips : totals.skipped ≡ skipped_of spells.pieces
    pub fractions : AreKeptFor (micros_of spells.pieces) why totals.fractions

  abbrev pub ExplainsBy : {X Y : Type 0} → Result (Verdict X) CaptureFault → Option (Reason Y)
      → Totals → Type 0
  ExplainsBy (Ok verdict) reason totals = IsExplained verdict reason totals
  ExplainsBy (Err fault) reason totals =
      IsRefusal gives has_ended config old new may_lack fault × (reason ≡ None)

  abbrev pub Explains : {X : Type 0} → Explained X → Type 0
  Explains explained = ExplainsBy explained.answer explained.reason explained.totals

  -- A capture was read to its end by a reader, and this holds of its records and the fractions of
  -- their seconds; or as far as a fault.
  pub record ReadsAll (Holds : List ShownRecord → List (Option ℕ) → Type 0) (reader : ReaderState)
      : Type 0 where
    pub pieces : List Piece
    pub gave : gives old new (joined pieces)
    pub ended : IsTrue (has_ended new)
    pub each : ArePieces config.parts.session None pieces
    pub place : reader.place ≡ length (joined pieces)
    pub knows : Knows reader pieces
    pub holds : Holds (records_of pieces) (micros_of pieces)

  abbrev pub Follows : {X : Type 0} → (X → List ShownRecord → List (Option ℕ) → Type 0)
      → ReaderState → Result X CaptureFault → Type 0
  Follows Holds reader (Ok x) = ReadsAll (Holds x) reader
  Follows Holds reader (Err fault) = IsRefusal gives has_ended config old new may_lack fault
