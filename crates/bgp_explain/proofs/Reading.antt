-- How a capture is read to its end, and what its records are.
use Rattle.std.proofs.Common.{◌↔◌, ◌≡◌, ◌∙◌, ◌+◌, ◌++◌, ℕ, Bool, IsTrue, List, [], Option, None, Some, Result, Ok, Err, refl, sym, ap, subst, inl, inr, append-nil, length, length-append}
use Rattle.bgp_prefix.specs.Shown.{ShownRecord}
use Rattle.bgp_parts.specs.Confederations.{SomeShowConfederations}
use Rattle.bgp_open.specs.declared.config.Config.{Config}
use Rattle.mrt.specs.declared.fault.CaptureFault.{CaptureFault}
use Rattle.mrt.specs.declared.fault.FaultKind.TheVariants as kinds
use Rattle.mrt.specs.declared.record.Endpoints.{Endpoints}
use Rattle.mrt.specs.Capture.{ArePieces, others_of, joined, last_of, micros_of, records_of}
use Rattle.mrt.specs.Reader.{ReaderState, Ends, places_of}
use Rattle.mrt.specs.Skipped.{skipped_in, both_skipped}
use Rattle.mrt.specs.declared.skipped.SkippedRecords.{SkippedRecords}
use Rattle.mrt.proofs.Counts.{chained_counts}
use Rattle.mrt.proofs.OtherPairs.{others_chain}
use Rattle.mrt.proofs.Chains.{joined_chain, last_chain, pieces_chain, records_chain}
use Rattle.bgp_machine.specs.Run.{Begins}
use Rattle.bgp_judge.specs.declared.verdict.Verdict.{Verdict}
use Rattle.bgp_judge.specs.Judging.{IsRefusal, Judges, ReadsWith, fault_in}
use Rattle.bgp_judge.specs.Verdict.{IsVerdict}
use Rattle.bgp_judge.proofs.CaptureEnds.{judged_so}
use Rattle.bgp_judge.proofs.CaptureSoFar.{SoFar}
use Rattle.bgp_explain.specs.declared.explained.Reason.{Reason}
use Rattle.bgp_explain.specs.declared.explained.Totals.{Totals}
use Rattle.bgp_explain.specs.declared.skipped.Skipped.{Skipped}
use Rattle.bgp_explain.specs.Explaining.{ExplainsBy, IsExplained, ReadsAll}
use Rattle.bgp_explain.specs.Fractions.{AreKeptFor}
use Rattle.bgp_explain.specs.LeftOut.{JudgesWithout}
use Rattle.bgp_explain.specs.Reason.{AreSummed, HasReason}
use Rattle.bgp_explain.proofs.FractionsKept.{micros_chain, no_micros}

module _ {S : Type 0} (gives : S → S → List ℕ → Type 0) (has_ended : S → Bool)
    (gives_joined : (a b c : S) (xs ys : List ℕ) → gives a b xs → gives b c ys → gives a c (xs ++ ys))
    (count : S → ℕ) (counted : (a b : S) (xs : List ℕ) → gives a b xs → count b ≡ count a + length xs)
    (config : Config) (source : S) (may_lack : Config → List ShownRecord → ShownRecord → Type 0) where
  -- to the end
  pub reads_all : (now next : S) (state after : ReaderState) (records : List ShownRecord) (Holds : List ShownRecord → List (Option ℕ) → Type 0)
      → (so_far : SoFar gives has_ended gives_joined count counted config source may_lack now state records) → Holds records (micros_of so_far.pieces)
      → Ends gives has_ended config.parts.session now next state after
      → ReadsWith gives config.parts.session source next after None (λ given. ReadsAll given has_ended config source next may_lack Holds after)
  reads_all now next state after records Holds so_far holds ends =
      let pieces = so_far.pieces ++ ends.skipped in
      let chain = joined_chain so_far.pieces ends.skipped in
      let each : ArePieces config.parts.session None pieces =
      pieces_chain config.parts.session None so_far.pieces ends.skipped so_far.each
      (subst (λ (l : Option ℕ). ArePieces config.parts.session l ends.skipped) so_far.last ends.pieces) in
      let last : after.last ≡ last_of None pieces =
      ap (λ (s : ReaderState). s.last) ends.stands ∙ ap (λ (l : Option ℕ). last_of l ends.skipped) so_far.last ∙ sym (last_chain None so_far.pieces ends.skipped) in
      let others : after.others ≡ others_of [] pieces =
      ap (λ (s : ReaderState). s.others) ends.stands ∙ ap (λ (o : List Endpoints). others_of o ends.skipped) so_far.others
      ∙ sym (others_chain [] so_far.pieces ends.skipped) in
      let skipped : after.skipped ≡ skipped_in pieces =
      ap (λ (s : ReaderState). s.skipped) ends.stands ∙ ap (λ (k : SkippedRecords). both_skipped k (skipped_in ends.skipped)) so_far.skipped
      ∙ chained_counts so_far.pieces ends.skipped in
      let gave : gives source next (joined pieces) =
      subst (λ (o : List ℕ). gives source next o) (sym chain) (gives_joined source now next (joined so_far.pieces) (joined ends.skipped) so_far.gave ends.exactly) in
      let many : length (joined pieces) ≡ length (joined so_far.pieces) + length (joined ends.skipped) =
      ap length chain ∙ length-append (joined so_far.pieces) (joined ends.skipped) in
      let place : after.place ≡ length (joined pieces) =
      ap (λ (s : ReaderState). s.place) ends.stands ∙ ap (λ (n : ℕ). n + length (joined ends.skipped)) so_far.passed ∙ sym many in
      let shown : records_of pieces ≡ records =
      records_chain so_far.pieces ends.skipped ∙ ap (λ (r : List ShownRecord). records_of so_far.pieces ++ r) ends.only ∙ append-nil (records_of so_far.pieces)
      ∙ so_far.shown in
      let micros : micros_of pieces ≡ micros_of so_far.pieces =
      micros_chain so_far.pieces ends.skipped ∙ ap (λ (m : List (Option ℕ)). micros_of so_far.pieces ++ m) (no_micros ends.skipped ends.only)
      ∙ append-nil (micros_of so_far.pieces) in (
        record {
          pieces = pieces;
          rest = [];
          knows = (last, others, skipped);
          gave = subst (λ (o : List ℕ). gives source next o) (sym (append-nil (joined pieces))) gave;
          each = each;
          holds = record {
            pieces = pieces;
            gave = sym (append-nil (joined pieces));
            ended = ends.ended;
            each = each;
            place = place;
            knows = (last, others, skipped);
            holds = subst (λ (r : List ShownRecord). Holds r (micros_of pieces)) (sym shown) (subst (λ (m : List (Option ℕ)). Holds records m) (sym micros) holds);
          };
        },
        refl,
      )

module _ {S : Type 0} (gives : S → S → List ℕ → Type 0) (has_ended : S → Bool) (config : Config) (source new : S)
    (may_lack : Config → List ShownRecord → ShownRecord → Type 0) where
  module _ (Holds : List ShownRecord → List (Option ℕ) → Type 0) (reader : ReaderState) (reads : ReadsAll gives has_ended config source new may_lack Holds reader) where
    -- all was read, and there is no memory
    pub unlisted : (fault : CaptureFault) → fault ≡ record { kind = kinds.Memory; offset = reader.place } → Begins config (records_of reads.pieces)
        → IsRefusal gives has_ended config source new may_lack fault
    unlisted fault is begins = inr (inr (record {
      pieces = reads.pieces;
      rest = [];
      gave = subst (λ (o : List ℕ). gives source new o) (sym (append-nil (joined reads.pieces))) reads.gave;
      each = reads.each;
      kind = ap (λ (f : CaptureFault). f.kind) is;
      offset = ap (λ (f : CaptureFault). f.offset) is ∙ reads.place;
      place = inr (inr (refl, reads.ended, begins));
    }))

    -- or all is explained
    pub explained : {X Y : Type 0} (answer : Verdict X) (why : Option (Reason Y)) (totals : Totals) → IsVerdict config (records_of reads.pieces) answer
        → HasReason config (records_of reads.pieces) answer why → AreSummed (records_of reads.pieces) answer totals.tally totals.seen → totals.octets ≡ reader.place
        → totals.skipped ≡ record { counts = reader.skipped; others = places_of reader.others } → (IsTrue totals.confederation ↔ SomeShowConfederations (records_of reads.pieces))
        → JudgesWithout config (records_of reads.pieces) totals.left_out → AreKeptFor (micros_of reads.pieces) why totals.fractions
        → IsExplained gives has_ended config source new may_lack answer why totals
    explained answer why totals is has sums place skips confederation without kept = record {
      fractions = kept;
      confederation = confederation;
      left_out = without;
      skips = skips ∙ ap (λ (k : SkippedRecords). let s : Skipped = record { counts = k; others = places_of reader.others } in s) reads.knows.2
          ∙ ap (λ (o : List Endpoints). let s : Skipped = record { counts = skipped_in reads.pieces; others = places_of o } in s) reads.knows.1;
      count = place ∙ reads.place;
      summed = sums;
      octets = joined reads.pieces;
      records = records_of reads.pieces;
      gave = reads.gave;
      ended = reads.ended;
      spells = record {
        pieces = reads.pieces;
        text = record { whole = sym (append-nil (joined reads.pieces)); each = reads.each; last = inl (refl, refl); stops = tt };
        shown = refl;
      };
      verdict = is;
      reason = has;
    }

  -- what is explained is judged
  pub as_judged : {X Y : Type 0} (answer : Result (Verdict X) CaptureFault) (why : Option (Reason Y)) (totals : Totals) → ExplainsBy gives has_ended config source new may_lack answer why totals
      → Judges gives has_ended config source new may_lack answer
  as_judged (Ok verdict) why totals is = record {
    octets = is.octets;
    records = is.records;
    gave = is.gave;
    ended = is.ended;
    spells = is.spells;
    verdict = is.verdict;
  }
  as_judged (Err fault) why totals is = is.0

module _ {S : Type 0} (gives : S → S → List ℕ → Type 0) (has_ended : S → Bool) (config : Config) (source new : S)
    (may_lack : Config → List ShownRecord → ShownRecord → Type 0) (reader : ReaderState) where
  -- a fault is judged and explained as one
  pub fault_judged : {X : Type 0} (answer : Result (Verdict X) CaptureFault) (fault : CaptureFault) → answer ≡ Err fault
      → ReadsWith gives config.parts.session source new reader (Some fault) (λ given. IsRefusal given has_ended config source new may_lack fault)
      → ReadsWith gives config.parts.session source new reader (fault_in answer) (λ given. Judges given has_ended config source new may_lack answer)
  fault_judged answer fault is reads =
      subst (λ a. ReadsWith gives config.parts.session source new reader (fault_in a) (λ given. Judges given has_ended config source new may_lack a)) (sym is) reads

  pub fault_explained : {X Y : Type 0} (answer : Result (Verdict X) CaptureFault) (why : Option (Reason Y)) (totals : Totals) (fault : CaptureFault) → answer ≡ Err fault → why ≡ None
      → ReadsWith gives config.parts.session source new reader (Some fault) (λ given. IsRefusal given has_ended config source new may_lack fault)
      → ReadsWith gives config.parts.session source new reader (fault_in answer) (λ given. ExplainsBy given has_ended config source new may_lack answer why totals)
  fault_explained answer why totals fault is none reads =
      subst (λ a. ReadsWith gives config.parts.session source new reader (fault_in a) (λ given. ExplainsBy given has_ended config source new may_lack a why totals)) (sym is)
      (judged_so (λ given. IsRefusal given has_ended config source new may_lack fault) (λ given. IsRefusal given has_ended config source new may_lack fault × (why ≡ None))
      (Some fault) (Some fault) (λ pieces rest ends. ends) reads (λ so. (so, none)))

  -- what is explained is judged, of what was read
  pub read_as_judged : {X Y : Type 0} (answer : Result (Verdict X) CaptureFault) (why : Option (Reason Y)) (totals : Totals)
      → ReadsWith gives config.parts.session source new reader (fault_in answer) (λ given. ExplainsBy given has_ended config source new may_lack answer why totals)
      → ReadsWith gives config.parts.session source new reader (fault_in answer) (λ given. Judges given has_ended config source new may_lack answer)
  read_as_judged answer why totals reads =
      judged_so (λ given. ExplainsBy given has_ended config source new may_lack answer why totals) (λ given. Judges given has_ended config source new may_lack answer)
      (fault_in answer) (fault_in answer) (λ pieces rest ends. ends) reads (λ is. as_judged _ has_ended config source new may_lack answer why totals is)
