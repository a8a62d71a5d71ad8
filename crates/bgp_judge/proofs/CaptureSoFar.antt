-- What was read of a capture, record by record, and how it ends.
use Rattle.std.proofs.Common.{◌≡◌, ◌∙◌, ℕ, Bool, false, ◌+◌, ◌-◌, ◌^◌, ◌<◌, ◌≤◌, List, [], ◌∷◌, ◌++◌, length, refl, sym, ap, subst, arith, inl, inr, append_assoc, append-nil, length-append, Option, None, Some, Result}
use Rattle.bgp_prefix.specs.Shown.{ShownRecord}
use Rattle.bgp_prefix.specs.declared.session.Session.{Session}
use Rattle.bgp_open.specs.declared.config.Config.{Config}
use Rattle.bgp_machine.specs.Run.{Begins}
use Rattle.mrt.specs.declared.record.Record.{Record}
use Rattle.mrt.specs.declared.fault.CaptureFault.{CaptureFault}
use Rattle.mrt.specs.declared.fault.FaultKind.TheVariants as kinds
use Rattle.mrt.specs.declared.record.Endpoints.{Endpoints}
use Rattle.mrt.specs.Capture.{Piece, Shown, ArePieces, IsPiece, Spells, last_after, last_of, others_of, joined, records_of}
use Rattle.mrt.specs.Reading.{IsRefused}
use Rattle.mrt.specs.Reader.{ReaderState, fresh_reader, Answers, Ends, Fails, IsAnswer, NextBy, IsNext}
use Rattle.mrt.specs.Skipped.{skipped_in, both_skipped}
use Rattle.mrt.specs.declared.skipped.SkippedRecords.{SkippedRecords}
use Rattle.mrt.specs.ReadBy.{Knows}
use Rattle.mrt.proofs.Advancing.{joined_more}
use Rattle.mrt.proofs.Counts.{chained_counts}
use Rattle.mrt.proofs.OtherPairs.{others_chain}
use Rattle.mrt.proofs.Chains.{joined_chain, records_chain, last_chain, pieces_chain, one_record, last_piece, no_pieces_there}
use Rattle.bgp_judge.specs.Judging.{IsAt, IsRefusal, ReadsAll, ReadsWith}

no_length : (xs : List ℕ) → length xs ≡ 0 → xs ≡ []
no_length [] none = refl
no_length (x ∷ xs) none = absurd (omega arith)

less_by : (a b n : ℕ) → b ≡ a + n → 0 < n → b < 2 ^ 63 → 2 ^ 63 - b < 2 ^ 63 - a
less_by a b n e some below = omega (arith, e, some, below)

passes_by : (a b n : ℕ) → b ≡ a + n → 0 < n → a < b
passes_by a b n e some = omega (arith, e, some)

pub one_longer : (records : List ShownRecord) (shown : ShownRecord) (n : ℕ) → length records ≡ n → length (records ++ shown ∷ []) ≡ n + 1
one_longer records shown n e = let many = length-append records (shown ∷ []) in omega (arith, e, many)

pub one_more : (a b c : ℕ) → a ≤ b → b < c → a + 1 ≤ c
one_more a b c le lt = omega (arith, le, lt)

-- those before the last are pieces
first_pieces : (session : Session) (last : Option ℕ) (first : List Piece) (piece : Piece) → ArePieces session last (first ++ piece ∷ []) → ArePieces session last first
first_pieces session last [] piece are = tt
first_pieces session last (one ∷ first) piece are = (are.0, first_pieces session (last_after last one) first piece are.1)

-- pieces up to the end spell their records
pub spelled : (config : Config) (pieces : List Piece) → ArePieces config.parts.session None pieces
    → Spells config.parts.session (joined pieces) (records_of pieces)
spelled config pieces each = record {
  pieces = pieces;
  text = record { whole = sym (append-nil (joined pieces)); each = each; last = inl (refl, refl); stops = tt };
  shown = refl;
}

module _ {S : Type 0} (gives : S → S → List ℕ → Type 0) (has_ended : S → Bool)
    (gives_joined : (a b c : S) (xs ys : List ℕ) → gives a b xs → gives b c ys → gives a c (xs ++ ys))
    (count : S → ℕ) (counted : (a b : S) (xs : List ℕ) → gives a b xs → count b ≡ count a + length xs)
    (config : Config) (source : S)
    (may_lack : Config → List ShownRecord → ShownRecord → Type 0) where
  -- what was read from the source, and its records
  pub record SoFar (now : S) (state : ReaderState) (records : List ShownRecord) : Type 0 where
    pub pieces : List Piece
    pub each : ArePieces config.parts.session None pieces
    pub gave : gives source now (joined pieces)
    pub passed : state.passed ≡ length (joined pieces)
    pub last : state.last ≡ last_of None pieces
    pub others : state.others ≡ others_of [] pieces
    pub skipped : state.skipped ≡ skipped_in pieces
    pub calm : state.fault ≡ None
    pub going : state.is_ended ≡ false
    pub shown : records_of pieces ≡ records

  unfoldable pub nothing_read : (state : ReaderState) → state ≡ fresh_reader → gives source source [] → SoFar source state []
  nothing_read state fresh nothing = record {
    pieces = [];
    each = tt;
    gave = nothing;
    passed = ap (λ (s : ReaderState). s.passed) fresh;
    last = ap (λ (s : ReaderState). s.last) fresh;
    others = ap (λ (s : ReaderState). s.others) fresh;
    skipped = ap (λ (s : ReaderState). s.skipped) fresh;
    calm = ap (λ (s : ReaderState). s.fault) fresh;
    going = ap (λ (s : ReaderState). s.is_ended) fresh;
    shown = refl;
  }

  pub answer_of : (now next : S) (state after : ReaderState) (records : List ShownRecord) (answer : Result (Option Record) CaptureFault) → SoFar now state records
      → IsNext gives has_ended config.parts.session now next state after answer → IsAnswer gives has_ended config.parts.session now next state after answer
  answer_of now next state after records answer so_far is =
      subst (λ (b : Bool). NextBy gives has_ended config.parts.session None b now next state after answer) so_far.going
      (subst (λ (f : Option CaptureFault). NextBy gives has_ended config.parts.session f state.is_ended now next state after answer) so_far.calm is)

  pub behind : (now : S) (state : ReaderState) (records : List ShownRecord) (so_far : SoFar now state records) (more : List Piece)
      → ArePieces config.parts.session state.last more → ArePieces config.parts.session None (so_far.pieces ++ more)
  behind now state records so_far more are =
      pieces_chain config.parts.session None so_far.pieces more so_far.each (subst (λ (l : Option ℕ). ArePieces config.parts.session l more) so_far.last are)

  pub last_behind : (now : S) (state : ReaderState) (records : List ShownRecord) (so_far : SoFar now state records) (more : List Piece)
      → last_of state.last more ≡ last_of None (so_far.pieces ++ more)
  last_behind now state records so_far more =
      ap (λ (l : Option ℕ). last_of l more) so_far.last ∙ sym (last_chain None so_far.pieces more)

  pub others_behind : (now : S) (state : ReaderState) (records : List ShownRecord) (so_far : SoFar now state records) (more : List Piece)
      → others_of state.others more ≡ others_of [] (so_far.pieces ++ more)
  others_behind now state records so_far more =
      ap (λ (o : List Endpoints). others_of o more) so_far.others ∙ sym (others_chain [] so_far.pieces more)

  pub skipped_behind : (now : S) (state : ReaderState) (records : List ShownRecord) (so_far : SoFar now state records) (more : List Piece)
      → both_skipped state.skipped (skipped_in more) ≡ skipped_in (so_far.pieces ++ more)
  skipped_behind now state records so_far more =
      ap (λ (s : SkippedRecords). both_skipped s (skipped_in more)) so_far.skipped ∙ chained_counts so_far.pieces more

  pub given_behind : (now next : S) (state : ReaderState) (records : List ShownRecord) (so_far : SoFar now state records) (more : List Piece) → gives now next (joined more)
      → gives source next (joined (so_far.pieces ++ more))
  given_behind now next state records so_far more given =
      subst (λ (o : List ℕ). gives source next o) (sym (joined_chain so_far.pieces more))
      (gives_joined source now next (joined so_far.pieces) (joined more) so_far.gave given)

  pub count_behind : (now : S) (state : ReaderState) (records : List ShownRecord) (so_far : SoFar now state records) (more : List Piece)
      → state.passed + length (joined more) ≡ length (joined (so_far.pieces ++ more))
  count_behind now state records so_far more =
      let many = ap length (joined_chain so_far.pieces more) ∙ length-append (joined so_far.pieces) (joined more) in
      let before = so_far.passed in omega arith

  -- skipped records show none
  shown_behind : (now : S) (state : ReaderState) (records : List ShownRecord) (so_far : SoFar now state records) (more : List Piece) → records_of more ≡ []
      → records_of (so_far.pieces ++ more) ≡ records
  shown_behind now state records so_far more only =
      records_chain so_far.pieces more ∙ ap (λ (r : List ShownRecord). records_of so_far.pieces ++ r) only ∙ append-nil (records_of so_far.pieces) ∙ so_far.shown

  -- one record more
  unfoldable pub answered : (now next : S) (state after : ReaderState) (records : List ShownRecord) (shown : ShownRecord) → SoFar now state records
      → Answers gives has_ended config.parts.session now next state after shown → SoFar next after (records ++ shown ∷ [])
  answered now next state after records shown so_far answer =
      let more = answer.skipped ++ Shown answer.octets ∷ [] in
      let one = one_record answer.skipped answer.octets answer.only ∙ ap (λ (r : ShownRecord). r ∷ []) answer.shown in
      record {
        pieces = so_far.pieces ++ more;
        each = behind now state records so_far more answer.pieces;
        gave = given_behind now next state records so_far more answer.exactly;
        passed = ap (λ (s : ReaderState). s.passed) answer.stands ∙ count_behind now state records so_far more;
        last = ap (λ (s : ReaderState). s.last) answer.stands ∙ last_behind now state records so_far more;
        others = ap (λ (s : ReaderState). s.others) answer.stands ∙ others_behind now state records so_far more;
        skipped = ap (λ (s : ReaderState). s.skipped) answer.stands ∙ skipped_behind now state records so_far more;
        calm = ap (λ (s : ReaderState). s.fault) answer.stands ∙ so_far.calm;
        going = ap (λ (s : ReaderState). s.is_ended) answer.stands ∙ so_far.going;
        shown = records_chain so_far.pieces more ∙ ap (λ (r : List ShownRecord). r ++ records_of more) so_far.shown
            ∙ ap (λ (r : List ShownRecord). records ++ r) one;
      }

  -- a record has octets
  pub takes_some : (now next : S) (state after : ReaderState) (shown : ShownRecord) → (answer : Answers gives has_ended config.parts.session now next state after shown)
      → 0 < length (joined (answer.skipped ++ Shown answer.octets ∷ []))
  takes_some now next state after shown answer =
      let piece = last_piece config.parts.session state.last answer.skipped (Shown answer.octets) answer.pieces in
      let long = piece.0.whole.header in
      let many = ap length (joined_more answer.skipped (Shown answer.octets)) ∙ length-append (joined answer.skipped) answer.octets in omega arith

  -- so more is passed
  pub passes_more : (now next : S) (state after : ReaderState) (shown : ShownRecord) → Answers gives has_ended config.parts.session now next state after shown
      → state.passed < after.passed
  passes_more now next state after shown answer =
      passes_by state.passed after.passed (length (joined (answer.skipped ++ Shown answer.octets ∷ [])))
      (ap (λ (s : ReaderState). s.passed) answer.stands) (takes_some now next state after shown answer)

  -- less is left that the source may give
  pub less_left : (now next : S) (state after : ReaderState) (shown : ShownRecord) → Answers gives has_ended config.parts.session now next state after shown
      → count next < 2 ^ 63 → 2 ^ 63 - count next < 2 ^ 63 - count now
  less_left now next state after shown answer below =
      less_by (count now) (count next) (length (joined (answer.skipped ++ Shown answer.octets ∷ [])))
      (counted now next (joined (answer.skipped ++ Shown answer.octets ∷ [])) answer.exactly) (takes_some now next state after shown answer) below

  -- the reader knows the pieces
  knows_behind : (now next : S) (state after : ReaderState) (records : List ShownRecord) (so_far : SoFar now state records) (more : List Piece)
      → after.last ≡ last_of state.last more → after.others ≡ others_of state.others more → after.skipped ≡ both_skipped state.skipped (skipped_in more)
      → Knows after (so_far.pieces ++ more)
  knows_behind now next state after records so_far more last others skipped = (
    last ∙ last_behind now state records so_far more,
    others ∙ others_behind now state records so_far more,
    skipped ∙ skipped_behind now state records so_far more,
  )

  -- to the end
  pub reads_all : (now next : S) (state after : ReaderState) (records : List ShownRecord) (stands : Config → List ShownRecord → Type 0) (impossible : Option ℕ)
      → SoFar now state records → IsAt stands config records impossible → Ends gives has_ended config.parts.session now next state after
      → ReadsWith gives config.parts.session source next after None (λ given. ReadsAll given has_ended config source next may_lack stands after.place impossible)
  reads_all now next state after records stands impossible so_far at ends =
      let pieces = so_far.pieces ++ ends.skipped in
      let each = behind now state records so_far ends.skipped ends.pieces in (
        record {
          pieces = pieces;
          rest = [];
          knows = knows_behind now next state after records so_far ends.skipped (ap (λ (s : ReaderState). s.last) ends.stands) (ap (λ (s : ReaderState). s.others) ends.stands) (ap (λ (s : ReaderState). s.skipped) ends.stands);
          gave = subst (λ (o : List ℕ). gives source next o) (sym (append-nil (joined pieces))) (given_behind now next state records so_far ends.skipped ends.exactly);
          each = each;
          holds = record {
            pieces = pieces;
            gave = sym (append-nil (joined pieces));
            ended = ends.ended;
            each = each;
            place = ap (λ (s : ReaderState). s.place) ends.stands ∙ count_behind now state records so_far ends.skipped;
            tracked = subst (λ (r : List ShownRecord). IsAt stands config r impossible) (sym (shown_behind now state records so_far ends.skipped ends.only)) at;
          };
        },
        refl,
      )

  -- where the source is as before, nothing was given
  same_source : (now next : S) (xs rest : List ℕ) → gives now next (xs ++ rest) → next ≡ now → length xs + length rest ≡ 0
  same_source now next xs rest given same =
      let many = counted now next (xs ++ rest) given in
      let stays = ap count same in
      let long = length-append xs rest in omega arith

  -- nor before the first call
  nothing_given : (now next : S) (state : ReaderState) (records : List ShownRecord) (so_far : SoFar now state records) (more : List Piece) (rest : List ℕ)
      → ArePieces config.parts.session state.last more → gives now next (joined more ++ rest) → next ≡ now → state ≡ fresh_reader
      → (so_far.pieces ++ more ≡ []) × (rest ≡ [])
  nothing_given now next state records so_far more rest are given same fresh =
      let none = same_source now next (joined more) rest given same in
      let all = count_behind now state records so_far more in
      let start = ap (λ (s : ReaderState). s.passed) fresh in (
        no_pieces_there config.parts.session None (so_far.pieces ++ more) (behind now state records so_far more are) (omega (arith, none, all, start)),
        no_length rest (omega (arith, none)),
      )

  -- a fault of the reader behind these pieces, of which just these octets were given
  refused_behind : (now next : S) (state after : ReaderState) (records : List ShownRecord) (fault : CaptureFault) (so_far : SoFar now state records)
      → (fails : Fails gives has_ended config.parts.session now next state after fault)
      → IsRefusal (λ from to octets. octets ≡ joined (so_far.pieces ++ fails.skipped) ++ fails.rest) has_ended config source next may_lack fault
  refused_behind now next state after records fault so_far fails =
      let pieces = so_far.pieces ++ fails.skipped in
      let each = behind now state records so_far fails.skipped fails.pieces in
      let offset = fails.offset ∙ count_behind now state records so_far fails.skipped in
      elim fails.why [
        | inl is ↦ inl (record {
          octets = joined pieces ++ fails.rest;
          records = records_of pieces;
          gave = refl;
          first = λ more ended. record {
            pieces = pieces;
            rest = fails.rest ++ more;
            text = record {
              whole = append_assoc (joined pieces) fails.rest more;
              each = each;
              last = subst (λ (l : Option ℕ). IsRefused config.parts.session l fails.rest (has_ended next) fault.kind)
                  (last_behind now state records so_far fails.skipped) is more ended;
              stops = tt;
            };
            shown = refl;
            place = offset;
          };
        })
        | inr others ↦ elim others [
          | inl device ↦ inr (inl (record {
            pieces = pieces;
            rest = fails.rest;
            gave = refl;
            each = each;
            kind = device.0;
            offset = offset;
            begun = device.1;
          }))
          | inr memory ↦ inr (inr (record {
            pieces = pieces;
            rest = fails.rest;
            gave = refl;
            each = each;
            kind = memory.0;
            offset = offset;
            place = inl (nothing_given now next state records so_far fails.skipped fails.rest fails.pieces fails.taken memory.1 memory.2);
          }))
        ]
      ]

  -- to a fault of the reader
  pub refused : (now next : S) (state after : ReaderState) (records : List ShownRecord) (fault : CaptureFault) → SoFar now state records
      → Fails gives has_ended config.parts.session now next state after fault
      → ReadsWith gives config.parts.session source next after (Some fault) (λ given. IsRefusal given has_ended config source next may_lack fault)
  refused now next state after records fault so_far fails = (
    record {
      pieces = so_far.pieces ++ fails.skipped;
      rest = fails.rest;
      knows = knows_behind now next state after records so_far fails.skipped (ap (λ (s : ReaderState). s.last) fails.stands) (ap (λ (s : ReaderState). s.others) fails.stands) (ap (λ (s : ReaderState). s.skipped) fails.stands);
      gave = subst (λ (o : List ℕ). gives source next o)
          (sym (append_assoc (joined so_far.pieces) (joined fails.skipped) fails.rest) ∙ ap (λ (o : List ℕ). o ++ fails.rest) (sym (joined_chain so_far.pieces fails.skipped)))
          (gives_joined source now next (joined so_far.pieces) (joined fails.skipped ++ fails.rest) so_far.gave fails.taken);
      each = behind now state records so_far fails.skipped fails.pieces;
      holds = refused_behind now next state after records fault so_far fails;
    },
    inr (fails.offset ∙ count_behind now state records so_far fails.skipped),
  )

  -- to a record that the tracker has no memory for
  pub untaken : (now next : S) (state after : ReaderState) (records : List ShownRecord) (shown : ShownRecord) (fault : CaptureFault) → SoFar now state records
      → Begins config records → may_lack config records shown → Answers gives has_ended config.parts.session now next state after shown
      → fault ≡ record { kind = kinds.Memory; offset = after.place }
      → ReadsWith gives config.parts.session source next after (Some fault) (λ given. IsRefusal given has_ended config source next may_lack fault)
  untaken now next state after records shown fault so_far begins lacks answer is =
      let pieces = so_far.pieces ++ answer.skipped in
      let more = answer.skipped ++ Shown answer.octets ∷ [] in
      let all = joined_chain so_far.pieces more ∙ ap (λ (o : List ℕ). joined so_far.pieces ++ o) (joined_more answer.skipped (Shown answer.octets))
      ∙ sym (append_assoc (joined so_far.pieces) (joined answer.skipped) answer.octets)
      ∙ ap (λ (o : List ℕ). o ++ answer.octets) (sym (joined_chain so_far.pieces answer.skipped)) in
      let piece = last_piece config.parts.session state.last answer.skipped (Shown answer.octets) answer.pieces in
      let skipped_only = behind now state records so_far answer.skipped (first_pieces config.parts.session state.last answer.skipped (Shown answer.octets) answer.pieces) in (
        record {
          pieces = so_far.pieces ++ more;
          rest = [];
          knows = knows_behind now next state after records so_far more (ap (λ (s : ReaderState). s.last) answer.stands) (ap (λ (s : ReaderState). s.others) answer.stands) (ap (λ (s : ReaderState). s.skipped) answer.stands);
          gave = subst (λ (o : List ℕ). gives source next o) (sym (append-nil (joined (so_far.pieces ++ more)))) (given_behind now next state records so_far more answer.exactly);
          each = behind now state records so_far more answer.pieces;
          holds = inr (inr (record {
            pieces = pieces;
            rest = answer.octets;
            gave = sym (append-nil (joined (so_far.pieces ++ more)) ∙ all);
            each = skipped_only;
            kind = ap (λ (f : CaptureFault). f.kind) is;
            offset = ap (λ (f : CaptureFault). f.offset) is ∙ ap (λ (s : ReaderState). s.place) answer.stands ∙ count_behind now state records so_far answer.skipped;
            place = inr (inl (
              subst (λ (l : Option ℕ). IsPiece config.parts.session l (Shown answer.octets)) (last_behind now state records so_far answer.skipped) piece.0,
              subst (λ (r : List ShownRecord). Begins config r) (sym (shown_behind now state records so_far answer.skipped answer.only)) begins,
              subst (λ (x : ShownRecord). may_lack config (records_of pieces) x) (sym answer.shown)
                  (subst (λ (r : List ShownRecord). may_lack config r shown) (sym (shown_behind now state records so_far answer.skipped answer.only)) lacks),
            ));
          }));
        },
        inl refl,
      )
