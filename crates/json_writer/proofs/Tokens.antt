-- What a writer shows, and what one token more does to it.
use Rattle.std.proofs.Common.{◌≡◌, ◌∙◌, ◌++◌, ◌∷◌, [], ◌<◌, ◌^◌, ℕ, Bool, true, false, List, Ok, arith, cond, decimal, fold, refl, sym, ap, subst}
use Rattle.std.specs.Str.{IsUtf8}
use Rattle.std.proofs.lemmas.Bool.{false≢true}
use Rattle.std.proofs.lemmas.Str.{IsUtf8-append}
use Rattle.json.specs.Lex.{tokens}
use Rattle.json.specs.Print.{ArePrintable, IsPrintable, begins, ends, ends_value, print, print_from, separator, token_text}
use Rattle.json.specs.Token.{Token, number, string}
use Rattle.json.specs.Written.{Writes, Written}
use Rattle.json.proofs.Printed.Decimals.{IsNumber-decimal}
use Rattle.json.proofs.Printed.Tokens.{ArePrintable-push, ends_push, print_from-append, print_from_push, tokens-print}
use Rattle.json.proofs.Printed.Utf8.{IsUtf8-are_ascii, IsUtf8-quoted, IsUtf8-separator}
use Rattle.json_writer.specs.Piece.{IsPiece, begins_first}
use Rattle.json_writer.specs.Places.{comma_text}
use Rattle.json_writer.specs.Plain.{ArePlain}
use Rattle.json_writer.specs.Writer.{IsWriter, writer_view}
use Rattle.json_writer.specs.declared.writer.Writer.TheInside.{Inside}
use Rattle.json_writer.proofs.Plain.{decimal_plain, escape_plain, utf8_plain}

-- a comma stands before what begins a value or a member, if one is wanted
comma_before : (after : Bool) (t : Token) → begins t ≡ true → comma_text after ≡ separator after t
comma_before true t begun = ap (λ (b : Bool). cond b (44 ∷ []) []) (sym begun)
comma_before false t begun = refl

no_comma : (after : Bool) (t : Token) → begins t ≡ false → [] ≡ separator after t
no_comma true t closes = ap (λ (b : Bool). cond b (44 ∷ []) []) (sym closes)
no_comma false t closes = refl

piece_print : (after : Bool) (ts : List Token) → begins_first ts ≡ true → comma_text after ++ print ts ≡ print_from after ts
unfolding print_from
piece_print after [] begun = absurd (false≢true begun)
piece_print after (t ∷ ts) begun = ap (λ (comma : List ℕ). comma ++ (token_text t ++ print_from (ends t) ts)) (comma_before after t begun)

-- what ends last doesn't hang on what stood before
ends_last : (after : Bool) (ts : List Token) → begins_first ts ≡ true → fold (λ _ u. ends u) after ts ≡ ends_value ts
ends_last after [] begun = absurd (false≢true begun)
ends_last after (t ∷ ts) begun = refl

ends_append : (after : Bool) (ts us : List Token) → fold (λ _ u. ends u) after (ts ++ us) ≡ fold (λ _ u. ends u) (fold (λ _ u. ends u) after ts) us
ends_append after [] us = refl
ends_append after (t ∷ ts) us = ends_append (ends t) ts us

printable_append : (ts us : List Token) → ArePrintable ts → ArePrintable us → ArePrintable (ts ++ us)
unfolding ArePrintable
printable_append [] us h k = k
printable_append (t ∷ ts) us h k = (h.0, printable_append ts us h.1 k)

comma_utf8 : (after : Bool) → IsUtf8 (comma_text after)
comma_utf8 true = IsUtf8-are_ascii (44 ∷ []) refl
comma_utf8 false = IsUtf8-are_ascii [] refl

-- a piece, a number and another piece are one
module _ (n : ℕ) (fits : n < 2 ^ 64) (ts us : List Token) (front back : List ℕ) (is : IsPiece ts front) (its : IsPiece us back) where
  around_print : print (ts ++ number (decimal n) ∷ us) ≡ front ++ (decimal n ++ 44 ∷ back)
  unfolding print_from
  around_print =
      let behind : print_from true us ≡ 44 ∷ back = sym (piece_print true us its.begun) ∙ ap (λ (text : List ℕ). 44 ∷ text) its.printed in
      print_from-append false ts (number (decimal n) ∷ us)
      ∙ (λ i. is.printed i ++ print_from (is.open_ended i) (number (decimal n) ∷ us))
      ∙ ap (λ (text : List ℕ). front ++ (decimal n ++ text)) behind

  around_begun : (ws : List Token) → begins_first ws ≡ true → begins_first (ws ++ number (decimal n) ∷ us) ≡ true
  around_begun [] begun = absurd (false≢true begun)
  around_begun (w ∷ ws) begun = begun

  pub around_piece : IsPiece (ts ++ number (decimal n) ∷ us) (front ++ (decimal n ++ 44 ∷ back))
  unfolding ArePrintable
  around_piece = record {
    printed = around_print;
    printable = printable_append ts (number (decimal n) ∷ us) is.printable (IsNumber-decimal n fits, its.printable);
    begun = around_begun ts is.begun;
    open_ended = ends_append false ts (number (decimal n) ∷ us) ∙ ends_last true us its.begun ∙ its.open_ended;
  }

  pub around_utf8 : IsUtf8 front → IsUtf8 back → IsUtf8 (front ++ (decimal n ++ 44 ∷ back))
  around_utf8 first second =
      IsUtf8-append front (decimal n ++ 44 ∷ back) first (IsUtf8-append (decimal n) (44 ∷ back) (utf8_plain _ (decimal_plain n fits))
      (IsUtf8-append (44 ∷ []) back (comma_utf8 true) second))

module _ {A : Type 0} where
  pub shows : (w : Inside A) (h : IsWriter w) → (writer_view w).tokens ≡ h.printed
  shows w h = ap tokens h.text ∙ tokens-print h.printed h.printable

  module _ (w v : Inside A) (h : IsWriter w) (t : Token) (printable : IsPrintable t) (utf8 : IsUtf8 (token_text t)) (place : v.after_value ≡ ends t)
      (items : v.out.items ≡ w.out.items ++ (separator w.after_value t ++ token_text t)) where
    pushed : IsWriter v
    pushed = record {
      printed = h.printed ++ t ∷ [];
      printable = ArePrintable-push h.printed t h.printable printable;
      text = items ∙ (λ i. h.text i ++ (separator (h.place i) t ++ token_text t)) ∙ sym (print_from_push false h.printed t);
      place = place ∙ sym (ends_push false h.printed t);
      utf8 = subst IsUtf8 (sym items) (IsUtf8-append _ _ h.utf8 (IsUtf8-append _ _ (IsUtf8-separator w.after_value t) utf8));
    }

    pushed_tokens : (writer_view v).tokens ≡ (writer_view w).tokens ++ t ∷ []
    unfolding pushed
    pushed_tokens = shows v pushed ∙ ap (λ (l : List Token). l ++ t ∷ []) (sym (shows w h))

    pub wrote : IsWriter v × ((writer_view v).tokens ≡ (writer_view w).tokens ++ t ∷ [])
    wrote = (pushed, pushed_tokens)

  -- a token that begins a value or a member was put behind a comma, if one was wanted
  pub began : (w v : Inside A) → IsWriter w → (t : Token) → begins t ≡ true → IsPrintable t → IsUtf8 (token_text t) → v.after_value ≡ ends t
      → v.out.items ≡ w.out.items ++ (comma_text w.after_value ++ token_text t)
      → IsWriter v × ((writer_view v).tokens ≡ (writer_view w).tokens ++ t ∷ [])
  began w v h t begun printable utf8 place items =
      wrote w v h t printable utf8 place (items ∙ ap (λ (comma : List ℕ). w.out.items ++ (comma ++ token_text t)) (comma_before w.after_value t begun))

  -- a bracket that closes was put
  pub closed : (w v : Inside A) → IsWriter w → (t : Token) → begins t ≡ false → IsPrintable t → IsUtf8 (token_text t) → v.after_value ≡ ends t
      → v.out.items ≡ w.out.items ++ token_text t
      → IsWriter v × ((writer_view v).tokens ≡ (writer_view w).tokens ++ t ∷ [])
  closed w v h t closes printable utf8 place items =
      wrote w v h t printable utf8 place (items ∙ ap (λ (comma : List ℕ). w.out.items ++ (comma ++ token_text t)) (no_comma w.after_value t closes))

  -- a text of several tokens was put behind a comma, if one was wanted
  module _ (w v : Inside A) (h : IsWriter w) (ts : List Token) (text : List ℕ) (is : IsPiece ts text) (utf8 : IsUtf8 text) (place : v.after_value ≡ false)
      (items : v.out.items ≡ w.out.items ++ (comma_text w.after_value ++ text)) where
    more : v.out.items ≡ w.out.items ++ print_from w.after_value ts
    more = items ∙ ap (λ (its : List ℕ). w.out.items ++ (comma_text w.after_value ++ its)) (sym is.printed)
        ∙ ap (λ (its : List ℕ). w.out.items ++ its) (piece_print w.after_value ts is.begun)

    pub piece_put : IsWriter v
    piece_put = record {
      printed = h.printed ++ ts;
      printable = printable_append h.printed ts h.printable is.printable;
      text = more ∙ (λ i. h.text i ++ print_from (h.place i) ts) ∙ sym (print_from-append false h.printed ts);
      place = place ∙ sym is.open_ended ∙ sym (ends_last (ends_value h.printed) ts is.begun) ∙ sym (ends_append false h.printed ts);
      utf8 = subst IsUtf8 (sym items) (IsUtf8-append _ _ h.utf8 (IsUtf8-append _ _ (comma_utf8 w.after_value) utf8));
    }

    pub piece_tokens : (writer_view v).tokens ≡ (writer_view w).tokens ++ ts
    unfolding piece_put
    piece_tokens = shows v piece_put ∙ ap (λ (l : List Token). l ++ ts) (sym (shows w h))

  -- nothing was put
  pub same : (w v : Inside A) → IsWriter w → v.out.items ≡ w.out.items → v.after_value ≡ w.after_value → IsWriter v
  same w v h items place = record {
    printed = h.printed;
    printable = h.printable;
    text = items ∙ h.text;
    place = place ∙ h.place;
    utf8 = subst IsUtf8 (sym items) h.utf8;
  }

  -- a token's text was put behind a comma, if one was wanted
  pub value_put : (w v : Inside A) → IsWriter w → (t : Token) → begins t ≡ true → IsPrintable t → v.after_value ≡ ends t → (mid text : List ℕ)
      → mid ≡ w.out.items → v.out.items ≡ mid ++ (comma_text w.after_value ++ text) → text ≡ token_text t → IsUtf8 text
      → IsWriter v × ((writer_view v).tokens ≡ (writer_view w).tokens ++ t ∷ [])
  value_put w v h t begun printable place mid text start items is utf8 =
      began w v h t begun printable (subst IsUtf8 is utf8) place (items ∙ (λ i. start i ++ (comma_text w.after_value ++ is i)))

  -- a number was put
  pub number_put : (w v : Inside A) → IsWriter w → (n : ℕ) → n < 2 ^ 64 → v.after_value ≡ true → (mid : List ℕ)
      → mid ≡ w.out.items → v.out.items ≡ mid ++ (comma_text w.after_value ++ decimal n)
      → IsWriter v × ((writer_view v).tokens ≡ (writer_view w).tokens ++ number (decimal n) ∷ [])
  number_put w v h n fits place mid start items =
      value_put w v h (number (decimal n)) refl (IsNumber-decimal n fits) place mid (decimal n) start items refl (utf8_plain _ (decimal_plain n fits))

  -- a text that needs no escape was put
  pub plain_put : (w v : Inside A) → IsWriter w → (s : List ℕ) → ArePlain s → v.after_value ≡ true → (mid : List ℕ)
      → mid ≡ w.out.items → v.out.items ≡ mid ++ (comma_text w.after_value ++ 34 ∷ (s ++ 34 ∷ []))
      → IsWriter v × ((writer_view v).tokens ≡ (writer_view w).tokens ++ string s ∷ [])
  plain_put w v h s plain place mid start items =
      value_put w v h (string s) refl tt place mid (34 ∷ (s ++ 34 ∷ [])) start items (ap (λ (its : List ℕ). 34 ∷ (its ++ 34 ∷ [])) (sym (escape_plain s plain)))
      (subst (λ (its : List ℕ). IsUtf8 (34 ∷ (its ++ 34 ∷ []))) (escape_plain s plain) (IsUtf8-quoted s (utf8_plain s plain)))

  -- what a method that wrote a token promises
  pub writes : {E : Type 0} (w v : Inside A) (old : Written) (t : Token) → writer_view w ≡ old → (writer_view v).tokens ≡ (writer_view w).tokens ++ t ∷ []
      → Writes {E = E} (Ok tt) old (writer_view v) t
  writes w v old t is more = record {
    ok = more ∙ ap (λ (o : Written). o.tokens ++ t ∷ []) is;
    err = tt;
    room = (ap (λ (o : Written). o.before) is, omega (arith, ap (λ (o : Written). o.spare) is));
  }
