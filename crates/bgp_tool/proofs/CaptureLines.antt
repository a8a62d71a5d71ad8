-- The records of a capture, read one after another, and their lines.
use Rattle.std.proofs.Common.{◌≡◌, ◌∙◌, ℕ, Bool, false, ◌+◌, ◌-◌, ◌^◌, ◌<◌, List, [], ◌∷◌, ◌++◌, length, refl, sym, ap, subst, arith, inl, inr, append_assoc, append-nil, length-append, Option, None, Result, Ok, Err}
use Rattle.bgp_prefix.specs.Shown.{ShownRecord}
use Rattle.mrt.specs.declared.record.Record.{Record}
use Rattle.mrt.specs.declared.fault.CaptureFault.{CaptureFault}
use Rattle.mrt.specs.declared.record.Endpoints.{Endpoints}
use Rattle.mrt.specs.Capture.{Piece, Shown, ArePieces, last_of, joined, records_of, shown_of, others_of}
use Rattle.mrt.specs.Reading.{IsRefused}
use Rattle.mrt.specs.Reader.{ReaderState, fresh_reader, Answers, Ends, Fails, IsAnswer, NextBy, IsNext}
use Rattle.mrt.specs.ReadBy.{Knows}
use Rattle.mrt.specs.Written.{IsAllowed}
use Rattle.mrt.specs.Skipped.{skipped_in, both_skipped}
use Rattle.mrt.specs.declared.skipped.SkippedRecords.{SkippedRecords}
use Rattle.mrt.proofs.Counts.{chained_counts}
use Rattle.mrt.proofs.OtherPairs.{others_chain}
use Rattle.mrt.proofs.Advancing.{joined_more}
use Rattle.mrt.proofs.AllowedRecord.{each_allowed}
use Rattle.mrt.proofs.Chains.{joined_chain, records_chain, last_chain, pieces_chain, one_record, last_piece, no_pieces_there}
use Rattle.bgp_json.specs.Form.{Before, before_behind, nothing_before}
use Rattle.bgp_json.specs.LinesTelling.{placed_as}
use Rattle.bgp_json.specs.Output.{IsRecordOutput}
use Rattle.bgp_tool.specs.CaptureDecoding.{AreCaptureLines, EndsAt}
use Rattle.bgp_tool.specs.declared.session_options.SessionOptions.{SessionOptions}
use Rattle.bgp_tool.proofs.PlacedLines.{came_before, came_one_more, one_more}

-- what came before the next record, where these pieces were read
abbrev pub came_in : List Piece → Before
came_in pieces = came_before (records_of pieces) nothing_before

no_length : (xs : List ℕ) → length xs ≡ 0 → xs ≡ []
no_length [] none = refl
no_length (x ∷ xs) none = absurd (omega arith)

less_by : (a b n : ℕ) → b ≡ a + n → 0 < n → b < 2 ^ 63 → 2 ^ 63 - b < 2 ^ 63 - a
less_by a b n e some below = omega (arith, e, some, below)

module _ {R : Type 0} (gives : R → R → List ℕ → Type 0) (has_ended : R → Bool)
    (gives_joined : (a b c : R) (xs ys : List ℕ) → gives a b xs → gives b c ys → gives a c (xs ++ ys))
    (count : R → ℕ) (counted : (a b : R) (xs : List ℕ) → gives a b xs → count b ≡ count a + length xs)
    (options : SessionOptions) (source : R) where
  -- what was read from the source, and the lines of its records
  pub record SoFar (now : R) (state : ReaderState) (text : List ℕ) : Type 0 where
    pub pieces : List Piece
    pub each : ArePieces options.session None pieces
    pub gave : gives source now (joined pieces)
    pub passed : state.passed ≡ length (joined pieces)
    pub last : state.last ≡ last_of None pieces
    pub others : state.others ≡ others_of [] pieces
    pub skipped : state.skipped ≡ skipped_in pieces
    pub calm : state.fault ≡ None
    pub going : state.is_ended ≡ false
    pub are_lines : AreCaptureLines options (records_of pieces) text

  pub nothing_read : (state : ReaderState) → state ≡ fresh_reader → gives source source []
      → (so : SoFar source state []) × (came_in so.pieces ≡ nothing_before) × (0 ≡ length (records_of so.pieces))
  nothing_read state fresh nothing = let so : SoFar source state [] = record {
    pieces = [];
    each = tt;
    gave = nothing;
    passed = ap (λ (s : ReaderState). s.passed) fresh;
    last = ap (λ (s : ReaderState). s.last) fresh;
    others = ap (λ (s : ReaderState). s.others) fresh;
    skipped = ap (λ (s : ReaderState). s.skipped) fresh;
    calm = ap (λ (s : ReaderState). s.fault) fresh;
    going = ap (λ (s : ReaderState). s.is_ended) fresh;
    are_lines = refl;
  } in (so, refl, refl)

  pub answer_of : (now next : R) (state after : ReaderState) (answer : Result (Option Record) CaptureFault) → state.fault ≡ None → state.is_ended ≡ false
      → IsNext gives has_ended options.session now next state after answer → IsAnswer gives has_ended options.session now next state after answer
  answer_of now next state after answer calm going is =
      subst (λ (b : Bool). NextBy gives has_ended options.session None b now next state after answer) going
      (subst (λ (f : Option CaptureFault). NextBy gives has_ended options.session f state.is_ended now next state after answer) calm is)

  -- a record of the session is one that a capture may have
  pub allowed_answer : (now next : R) (state after : ReaderState) (shown : ShownRecord) → Answers gives has_ended options.session now next state after shown
      → (last : Option ℕ) × IsAllowed options.session last shown
  allowed_answer now next state after shown answer =
      let piece = last_piece options.session state.last answer.skipped (Shown answer.octets) answer.pieces in (
        last_of state.last answer.skipped,
        subst (λ (r : ShownRecord). IsAllowed options.session (last_of state.last answer.skipped) r) answer.shown
            (each_allowed options.session (last_of state.last answer.skipped) answer.octets piece.0),
      )

  -- it has octets
  pub takes_some : (now next : R) (state after : ReaderState) (shown : ShownRecord) → (answer : Answers gives has_ended options.session now next state after shown)
      → 0 < length (joined (answer.skipped ++ Shown answer.octets ∷ []))
  takes_some now next state after shown answer =
      let piece = last_piece options.session state.last answer.skipped (Shown answer.octets) answer.pieces in
      let long = piece.0.whole.header in
      let many = ap length (joined_more answer.skipped (Shown answer.octets)) ∙ length-append (joined answer.skipped) answer.octets in omega arith

  -- less is left that the source may give
  pub less_left : (now next : R) (state after : ReaderState) (shown : ShownRecord) → Answers gives has_ended options.session now next state after shown
      → count next < 2 ^ 63 → 2 ^ 63 - count next < 2 ^ 63 - count now
  less_left now next state after shown answer below =
      less_by (count now) (count next) (length (joined (answer.skipped ++ Shown answer.octets ∷ [])))
      (counted now next (joined (answer.skipped ++ Shown answer.octets ∷ [])) answer.exactly) (takes_some now next state after shown answer) below

  -- and more was given
  pub more_given : (now next : R) (state after : ReaderState) (shown : ShownRecord) → Answers gives has_ended options.session now next state after shown
      → count now < count next
  more_given now next state after shown answer =
      let some = takes_some now next state after shown answer in
      let all = counted now next (joined (answer.skipped ++ Shown answer.octets ∷ [])) answer.exactly in omega (arith, some, all)

  behind : (now next : R) (state : ReaderState) (text : List ℕ) (so_far : SoFar now state text) (more : List Piece) → ArePieces options.session state.last more
      → ArePieces options.session None (so_far.pieces ++ more)
  behind now next state text so_far more are =
      pieces_chain options.session None so_far.pieces more so_far.each (subst (λ (l : Option ℕ). ArePieces options.session l more) so_far.last are)

  last_behind : (now : R) (state : ReaderState) (text : List ℕ) (so_far : SoFar now state text) (more : List Piece)
      → last_of state.last more ≡ last_of None (so_far.pieces ++ more)
  last_behind now state text so_far more =
      ap (λ (l : Option ℕ). last_of l more) so_far.last ∙ sym (last_chain None so_far.pieces more)

  others_behind : (now : R) (state : ReaderState) (text : List ℕ) (so_far : SoFar now state text) (more : List Piece)
      → others_of state.others more ≡ others_of [] (so_far.pieces ++ more)
  others_behind now state text so_far more =
      ap (λ (o : List Endpoints). others_of o more) so_far.others ∙ sym (others_chain [] so_far.pieces more)

  skipped_behind : (now : R) (state : ReaderState) (text : List ℕ) (so_far : SoFar now state text) (more : List Piece)
      → both_skipped state.skipped (skipped_in more) ≡ skipped_in (so_far.pieces ++ more)
  skipped_behind now state text so_far more =
      ap (λ (k : SkippedRecords). both_skipped k (skipped_in more)) so_far.skipped ∙ chained_counts so_far.pieces more

  given_behind : (now next : R) (state : ReaderState) (text : List ℕ) (so_far : SoFar now state text) (more : List Piece) → gives now next (joined more)
      → gives source next (joined (so_far.pieces ++ more))
  given_behind now next state text so_far more given =
      subst (λ (o : List ℕ). gives source next o) (sym (joined_chain so_far.pieces more))
      (gives_joined source now next (joined so_far.pieces) (joined more) so_far.gave given)

  count_behind : (now : R) (state : ReaderState) (text : List ℕ) (so_far : SoFar now state text) (more : List Piece)
      → state.passed + length (joined more) ≡ length (joined (so_far.pieces ++ more))
  count_behind now state text so_far more =
      let many = ap length (joined_chain so_far.pieces more) ∙ length-append (joined so_far.pieces) (joined more) in
      let before = so_far.passed in omega arith

  -- a record more, its line, what came before the next one, and how many there are
  pub answered : (now next : R) (state after : ReaderState) (number : ℕ) (text line : List ℕ) (shown : ShownRecord) → (so_far : SoFar now state text)
      → Answers gives has_ended options.session now next state after shown → number ≡ 1 + length (records_of so_far.pieces)
      → IsRecordOutput options.form options.session (came_in so_far.pieces) number (placed_as None shown) line
      → (so : SoFar next after (text ++ line)) × (came_in so.pieces ≡ before_behind shown (came_in so_far.pieces))
      × (number ≡ length (records_of so.pieces))
  answered now next state after number text line shown so_far answer counts is =
      let more = answer.skipped ++ Shown answer.octets ∷ [] in
      let records = records_chain so_far.pieces more ∙ ap (λ (r : List ShownRecord). records_of so_far.pieces ++ r) (one_record answer.skipped answer.octets answer.only) in
      let so : SoFar next after (text ++ line) = record {
        pieces = so_far.pieces ++ more;
        each = behind now next state text so_far more answer.pieces;
        gave = given_behind now next state text so_far more answer.exactly;
        passed = ap (λ (s : ReaderState). s.passed) answer.stands ∙ count_behind now state text so_far more;
        last = ap (λ (s : ReaderState). s.last) answer.stands ∙ last_behind now state text so_far more;
        others = ap (λ (s : ReaderState). s.others) answer.stands ∙ others_behind now state text so_far more;
        skipped = ap (λ (s : ReaderState). s.skipped) answer.stands ∙ skipped_behind now state text so_far more;
        calm = ap (λ (s : ReaderState). s.fault) answer.stands ∙ so_far.calm;
        going = ap (λ (s : ReaderState). s.is_ended) answer.stands ∙ so_far.going;
        are_lines = subst (λ (r : List ShownRecord). AreCaptureLines options r (text ++ line)) (sym records)
            (one_more options.form options.session nothing_before 1 number (records_of so_far.pieces) text (shown_of answer.octets) line counts so_far.are_lines
            (subst (λ (r : ShownRecord). IsRecordOutput options.form options.session (came_in so_far.pieces) number (placed_as None r) line) (sym answer.shown) is));
      } in (
        so,
        ap (λ (r : List ShownRecord). came_before r nothing_before) records
            ∙ came_one_more (records_of so_far.pieces) (shown_of answer.octets) nothing_before
            ∙ ap (λ (r : ShownRecord). before_behind r (came_in so_far.pieces)) answer.shown,
        omega (arith, counts, ap length records, length-append (records_of so_far.pieces) (shown_of answer.octets ∷ [])),
      )

  -- skipped records add no line
  lines_behind : (now : R) (state : ReaderState) (text : List ℕ) (so_far : SoFar now state text) (more : List Piece) → records_of more ≡ []
      → AreCaptureLines options (records_of (so_far.pieces ++ more)) text
  lines_behind now state text so_far more only =
      subst (λ (r : List ShownRecord). AreCaptureLines options r text)
      (sym (records_chain so_far.pieces more ∙ ap (λ (r : List ShownRecord). records_of so_far.pieces ++ r) only ∙ append-nil (records_of so_far.pieces))) so_far.are_lines

  -- how it ends
  pub record Stops {X : Type 0} (next : R) (after : ReaderState) (text : List ℕ) (answer : Result X CaptureFault) : Type 0 where
    pub pieces : List Piece
    pub rest : List ℕ
    pub knows : Knows after pieces
    pub gave : gives source next (joined pieces ++ rest)
    pub each : ArePieces options.session None pieces
    pub ends : EndsAt has_ended options.session next pieces rest answer
    pub are_lines : AreCaptureLines options (records_of pieces) text

  pub stops_at_end : {X : Type 0} (x : X) (now next : R) (state after : ReaderState) (text : List ℕ) → SoFar now state text
      → Ends gives has_ended options.session now next state after → Stops next after text (Ok x)
  stops_at_end x now next state after text so_far ends = record {
    pieces = so_far.pieces ++ ends.skipped;
    rest = [];
    knows = (
      ap (λ (s : ReaderState). s.last) ends.stands ∙ last_behind now state text so_far ends.skipped,
      ap (λ (s : ReaderState). s.others) ends.stands ∙ others_behind now state text so_far ends.skipped,
      ap (λ (s : ReaderState). s.skipped) ends.stands ∙ skipped_behind now state text so_far ends.skipped,
    );
    gave = subst (λ (o : List ℕ). gives source next o) (sym (append-nil (joined (so_far.pieces ++ ends.skipped)))) (given_behind now next state text so_far ends.skipped ends.exactly);
    each = behind now next state text so_far ends.skipped ends.pieces;
    ends = (refl, ends.ended);
    are_lines = lines_behind now state text so_far ends.skipped ends.only;
  }

  -- where the source is as before, nothing was given
  same_source : (now next : R) (xs rest : List ℕ) → gives now next (xs ++ rest) → next ≡ now → length xs + length rest ≡ 0
  same_source now next xs rest given same =
      let many = counted now next (xs ++ rest) given in
      let stays = ap count same in
      let long = length-append xs rest in omega arith

  -- nor before the first call
  nothing_given : (now next : R) (state : ReaderState) (text : List ℕ) (so_far : SoFar now state text) (more : List Piece) (rest : List ℕ)
      → ArePieces options.session state.last more → gives now next (joined more ++ rest) → next ≡ now → state ≡ fresh_reader → (so_far.pieces ++ more ≡ []) × (rest ≡ [])
  nothing_given now next state text so_far more rest are given same fresh =
      let none = same_source now next (joined more) rest given same in
      let all = count_behind now state text so_far more in
      let start = ap (λ (s : ReaderState). s.passed) fresh in (
        no_pieces_there options.session None (so_far.pieces ++ more) (behind now next state text so_far more are) (omega (arith, none, all, start)),
        no_length rest (omega (arith, none)),
      )

  pub stops_at_fault : {X : Type 0} (now next : R) (state after : ReaderState) (text : List ℕ) (fault : CaptureFault) → SoFar now state text
      → Fails gives has_ended options.session now next state after fault → Stops {X = X} next after text (Err fault)
  stops_at_fault now next state after text fault so_far fails = record {
    pieces = so_far.pieces ++ fails.skipped;
    rest = fails.rest;
    knows = (
      ap (λ (s : ReaderState). s.last) fails.stands ∙ last_behind now state text so_far fails.skipped,
      ap (λ (s : ReaderState). s.others) fails.stands ∙ others_behind now state text so_far fails.skipped,
      ap (λ (s : ReaderState). s.skipped) fails.stands ∙ skipped_behind now state text so_far fails.skipped,
    );
    gave = subst (λ (o : List ℕ). gives source next o)
        (sym (append_assoc (joined so_far.pieces) (joined fails.skipped) fails.rest) ∙ ap (λ (o : List ℕ). o ++ fails.rest) (sym (joined_chain so_far.pieces fails.skipped)))
        (gives_joined source now next (joined so_far.pieces) (joined fails.skipped ++ fails.rest) so_far.gave fails.taken);
    each = behind now next state text so_far fails.skipped fails.pieces;
    ends = (
      fails.offset ∙ count_behind now state text so_far fails.skipped,
      elim fails.why [
        | inl refused ↦ inl (subst (λ (l : Option ℕ). IsRefused options.session l fails.rest (has_ended next) fault.kind) (last_behind now state text so_far fails.skipped) refused)
        | inr others ↦ elim others [
          | inl device ↦ inr (inl device)
          | inr memory ↦
              let none = nothing_given now next state text so_far fails.skipped fails.rest fails.pieces fails.taken memory.1 memory.2 in inr (inr (memory.0, none.0, none.1))
        ]
      ],
    );
    are_lines = lines_behind now state text so_far fails.skipped fails.only;
  }
