-- The ladders of one connection more, and what is no line of them.
use Rattle.std.proofs.Common.{◌≡◌, ◌∙◌, ◌++◌, ◌+◌, ◌-◌, ◌<◌, ◌⊎◌, ◌==◌, ◌||◌, ℕ, Bool, true, false, List, [], ◌∷◌, Option, None, Some, add-one, ap, append-nil, append_assoc, drop, get_or, if◌then◌else◌, inl, inr, length, refl, subst, sym, take}
use Rattle.std.proofs.Math.Seq.{drop-cons}
use Rattle.std.proofs.lemmas.Grind.{flat_map-append}
use Rattle.std.proofs.lemmas.List.{take_more}
use Rattle.std.specs.List.{list_any}
use Rattle.packets.specs.Packet.{Recorded}
use Rattle.streams.specs.declared.connection.Opening.{Opening}
use Rattle.streams.specs.declared.passed.Side.{Side}
use Rattle.bgp_prefix.specs.declared.session.Session.{Session}
use Rattle.bgp_import.specs.ListText.{other_side}
use Rattle.bgp_html.specs.declared.tag.Column.{Column}
use Rattle.bgp_check_tool.specs.declared.another.Order.{Order}
use Rattle.mrt.specs.Reader.{shown_of}
use Rattle.mrt.specs.declared.sink.Sink as sinks
use Rattle.bgp_text.specs.Lines.{Writes}
use Rattle.bgp_text.specs.declared.lines.Lines.{Lines}
use Rattle.bgp_recording.specs.declared.entry.Entry.{Entry}
use Rattle.bgp_html.specs.Pieces.{Piece, html_of, piece_html, piece_lines, printed_of}
use Rattle.bgp_ladder.specs.Ladder.{RowsAreNotPrinted}
use Rattle.bgp_ladder.specs.declared.numbering.Numbering.{Numbering}
use Rattle.bgp_ladder.specs.declared.numbering.Numbering.TheVariants.{Packets}
use Rattle.bgp_ladder.specs.declared.rows.Ladder.{Ladder}
use Rattle.bgp_check_tool.specs.declared.marks.BothMarks.{BothMarks}
use Rattle.bgp_check_tool.specs.declared.marks.EndMark.{EndMark}
use Rattle.bgp_report.specs.Ladders.{AreBehind, AreItsRows, AreLadders, AreOfBoth, IsJudgedEnd, IsOfEnd, behind_both, behind_end, column_of, end_pieces, is_out, ladder_of, order_words, sent_at, side_words, some_judged, start_by, start_pieces, summary_words}

-- ---- the message behind so many that were sent

module _ (entries : List Entry) (i : ℕ) (d : Entry) (within : i < length entries) (left : ℕ) where
  it : drop i entries ≡ get_or entries i d ∷ drop (i + 1) entries
  it = rw add-one (drop-cons entries i d within)

  -- it is this one
  pub this_one : is_out (shown_of (get_or entries i d).record) ≡ true → (left == 0) ≡ true → sent_at i left (drop i entries) ≡ Some i
  this_one out none = ap (λ (es : List Entry). sent_at i left es) it ∙ (rw out (rw none refl))

  -- it is one behind this one, which was sent
  pub a_later_one : is_out (shown_of (get_or entries i d).record) ≡ true → (left == 0) ≡ false
      → sent_at i left (drop i entries) ≡ sent_at (i + 1) (left - 1) (drop (i + 1) entries)
  a_later_one out some = ap (λ (es : List Entry). sent_at i left es) it ∙ (rw out (rw some refl))

  -- or wasn't
  pub another_one : is_out (shown_of (get_or entries i d).record) ≡ false → sent_at i left (drop i entries) ≡ sent_at (i + 1) left (drop (i + 1) entries)
  another_one out = ap (λ (es : List Entry). sent_at i left es) it ∙ (rw out refl)

-- ---- whether an end is judged

module _ (marks : List BothMarks) (i : ℕ) (d : BothMarks) (within : i < length marks) where
  here : drop i marks ≡ get_or marks i d ∷ drop (i + 1) marks
  here = rw add-one (drop-cons marks i d within)

  pub one_judged : some_judged (get_or marks i d) ≡ true → list_any some_judged (drop i marks) ≡ true
  one_judged is = ap (λ (ms : List BothMarks). list_any some_judged ms) here ∙ ap (λ (x : Bool). x || list_any some_judged (drop (i + 1) marks)) is

  pub none_judged : some_judged (get_or marks i d) ≡ false → list_any some_judged (drop i marks) ≡ list_any some_judged (drop (i + 1) marks)
  none_judged is = ap (λ (ms : List BothMarks). list_any some_judged ms) here ∙ ap (λ (x : Bool). x || list_any some_judged (drop (i + 1) marks)) is

-- ---- one connection more

-- how many answers stand before that of the one behind these
abbrev pub behind_all : ℕ → List BothMarks → ℕ
behind_all count [] = count
behind_all count (both ∷ marks) = behind_all (behind_both count both) marks

pub one_behind : (count : ℕ) (marks : List BothMarks) (both : BothMarks) → behind_all count (marks ++ both ∷ []) ≡ behind_both (behind_all count marks) both
one_behind count [] both = refl
one_behind count (first ∷ marks) both = one_behind (behind_both count first) marks both

module _ (port within : ℕ) (packets : List Recorded) (text : List ℕ) where
  pub one_more : (count : ℕ) (marks : List BothMarks) (both : BothMarks) (pieces one : List Piece) → AreLadders port within packets text count marks pieces
      → AreOfBoth port within packets text (behind_all count marks) both one → AreLadders port within packets text count (marks ++ both ∷ []) (pieces ++ one)
  one_more count [] both pieces one are is = (one, [], is, refl, ap (λ (ps : List Piece). ps ++ one) are ∙ sym (append-nil one))
  one_more count (first ∷ marks) both pieces one (its, rest, so, more, whole) is = (
    its,
    rest ++ one,
    so,
    one_more (behind_both count first) marks both rest one more is,
    ap (λ (ps : List Piece). ps ++ one) whole ∙ append_assoc its rest one,
  )

-- the one with this number
module _ (marks : List BothMarks) (i : ℕ) (d : BothMarks) (within : i < length marks) (count : ℕ) (counted : count ≡ behind_all 0 (take i marks)) where
  pub counted_on : (next : ℕ) → next ≡ behind_both count (get_or marks i d) → next ≡ behind_all 0 (take (i + 1) marks)
  counted_on next is =
      is ∙ ap (λ (n : ℕ). behind_both n (get_or marks i d)) counted ∙ sym (one_behind 0 (take i marks) (get_or marks i d))
      ∙ ap (λ (ms : List BothMarks). behind_all 0 ms) (sym (take_more marks i d within))

  pub ladders_on : (port seconds : ℕ) (packets : List Recorded) (text : List ℕ) (pieces one : List Piece) → AreLadders port seconds packets text 0 (take i marks) pieces
      → AreOfBoth port seconds packets text count (get_or marks i d) one → AreLadders port seconds packets text 0 (take (i + 1) marks) (pieces ++ one)
  ladders_on port seconds packets text pieces one are is =
      subst (λ (ms : List BothMarks). AreLadders port seconds packets text 0 ms (pieces ++ one)) (sym (take_more marks i d within))
      (one_more port seconds packets text 0 (take i marks) (get_or marks i d) pieces one are
      (subst (λ (n : ℕ). AreOfBoth port seconds packets text n (get_or marks i d) one) counted is))

-- what is written of two lists, and of three
pub together : {W : Type 0} {sink : sinks.Ghosts W} {old new : Lines W sink} (pieces more : List Piece)
    → Writes old new (html_of pieces ++ html_of more) → Writes old new (html_of (pieces ++ more))
together {old = old} {new = new} pieces more writes =
    subst (λ (t : List ℕ). Writes old new t) (sym (flat_map-append piece_html pieces more)) writes

pub in_turn : {W : Type 0} {sink : sinks.Ghosts W} {old new : Lines W sink} (pieces more rest : List Piece)
    → Writes old new (html_of pieces ++ (html_of more ++ html_of rest)) → Writes old new (html_of (pieces ++ (more ++ rest)))
in_turn {old = old} {new = new} pieces more rest writes =
    together pieces (more ++ rest) (subst (λ (t : List ℕ). Writes old new (html_of pieces ++ t)) (sym (flat_map-append piece_html more rest)) writes)

-- the words before the rows
pub start_is : (is_open : Bool) (order : Order) (session : Session) (opening : Opening) (side : Side) (column : Column) (numbering : Numbering) (words summary left right : List ℕ)
    → column ≡ column_of opening.opened_by side → numbering ≡ Packets → words ≡ order_words order → summary ≡ summary_words session opening side
    → left ≡ side_words session opening opening.opened_by → right ≡ side_words session opening (other_side opening.opened_by)
    → start_by is_open column numbering words summary left right ≡ start_pieces session opening side is_open order
start_is is_open order session opening side column numbering words summary left right in_column numbered ordered in_words is_left is_right =
    let its_column = column_of opening.opened_by side in
    let its_words = summary_words session opening side in
    ap (λ (x : Column). start_by is_open x numbering words summary left right) in_column
    ∙ ap (λ (x : Numbering). start_by is_open its_column x words summary left right) numbered
    ∙ ap (λ (x : List ℕ). start_by is_open its_column Packets x summary left right) ordered
    ∙ ap (λ (x : List ℕ). start_by is_open its_column Packets (order_words order) x left right) in_words
    ∙ ap (λ (x : List ℕ). start_by is_open its_column Packets (order_words order) its_words x right) is_left
    ∙ ap (λ (x : List ℕ). start_by is_open its_column Packets (order_words order) its_words (side_words session opening opening.opened_by) x) is_right

-- ---- no line is printed

pub both_silent : (pieces more : List Piece) → printed_of pieces ≡ [] → printed_of more ≡ [] → printed_of (pieces ++ more) ≡ []
both_silent pieces more none nor = flat_map-append piece_lines pieces more ∙ ap (λ (o : List ℕ). o ++ printed_of more) none ∙ nor

pub end_silent : (is_whole : Bool) → printed_of (end_pieces is_whole) ≡ []
end_silent true = refl
end_silent false = refl

module _ (silent : RowsAreNotPrinted) where
  pub rows_silent : (ladder : Ladder) (possible : List ℕ) (entries : List Entry) (is_whole : Bool) (rows : List Piece) → AreItsRows ladder possible entries is_whole rows
      → printed_of rows ≡ []
  rows_silent ladder possible entries true rows are = (silent ladder possible entries [] rows).1 are
  rows_silent ladder possible entries false rows (front, behind, whole, are) = (silent ladder possible front behind rows).0 are

  module _ (port within : ℕ) (packets : List Recorded) (text : List ℕ) (both : BothMarks) (side : Side) (is_open : Bool) (count : ℕ) where
    judged_silent : (mark : EndMark) (pieces : List Piece) → IsJudgedEnd port within packets text both side is_open count mark pieces → printed_of pieces ≡ []
    judged_silent mark pieces (inl (connection, possible, heard, noted, its)) =
        ap (λ (ps : List Piece). printed_of ps) its.is
        ∙ both_silent (start_pieces both.session both.opening side is_open mark.order) (its.rows ++ end_pieces its.is_whole) refl
        (both_silent its.rows (end_pieces its.is_whole)
        (rows_silent (ladder_of connection its.framings both.opening side mark its.entries) possible its.entries its.is_whole its.rows its.are_rows) (end_silent its.is_whole))
    judged_silent mark pieces (inr lacking) = ap (λ (ps : List Piece). printed_of ps) lacking

    of_end_silent : (mark : Option EndMark) (pieces : List Piece) → IsOfEnd port within packets text both side is_open count mark pieces → printed_of pieces ≡ []
    of_end_silent None pieces is = ap (λ (ps : List Piece). printed_of ps) is
    of_end_silent (Some mark) pieces is = judged_silent mark pieces is

  module _ (port within : ℕ) (packets : List Recorded) (text : List ℕ) where
    of_both_silent : (count : ℕ) (both : BothMarks) (pieces : List Piece) → AreOfBoth port within packets text count both pieces → printed_of pieces ≡ []
    of_both_silent count both pieces (opener, other, its, others, whole) =
        ap (λ (ps : List Piece). printed_of ps) whole
        ∙ both_silent opener other (of_end_silent port within packets text both _ _ count both.opener opener its)
        (of_end_silent port within packets text both _ _ (behind_end count both.opener) both.other other others)

    ladders_silent : (count : ℕ) (marks : List BothMarks) (pieces : List Piece) → AreLadders port within packets text count marks pieces → printed_of pieces ≡ []
    ladders_silent count [] pieces are = ap (λ (ps : List Piece). printed_of ps) are
    ladders_silent count (both ∷ marks) pieces (one, rest, its, more, whole) =
        ap (λ (ps : List Piece). printed_of ps) whole
        ∙ both_silent one rest (of_both_silent count both one its) (ladders_silent (behind_both count both) marks rest more)

    pub behind_silent : (marks : List BothMarks) (behind : List Piece) → AreBehind port within packets text marks behind → printed_of behind ≡ []
    behind_silent marks behind (inl (none, is)) = ap (λ (ps : List Piece). printed_of ps) is
    behind_silent marks behind (inr (inl is)) = ap (λ (ps : List Piece). printed_of ps) is
    behind_silent marks behind (inr (inr (some, ladders, are, is))) =
        ap (λ (ps : List Piece). printed_of ps) is ∙ both_silent ladders _ (ladders_silent 0 marks ladders are) refl
