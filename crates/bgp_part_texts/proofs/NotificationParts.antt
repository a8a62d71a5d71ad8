-- Parts of a NOTIFICATION, read back from their text.
use Rattle.std.proofs.Common.{◌≡◌, ◌∙◌, ◌<◌, ◌++◌, ℕ, Bool, true, List, [], ◌∷◌, Option, None, Some, IfSome, codes, refl, sym, ap, ap₂, arith, lit<, is_some, append-nil, append_assoc}
use Rattle.std.specs.Fmt.{decimal}
use Rattle.std.specs.Option.{option_map}
use mathlib.Core.List.{append_cancel_left}
use Rattle.bgp_names.specs.Errors.{short_error_name}
use Rattle.bgp_names.specs.Naming.{NamesOfTwoDiffer}
use Rattle.bgp_names.proofs.Distinct.{decimal_lacks, lacks, lacks_both, one_front, stops}
use Rattle.bgp_parts.specs.declared.notification.NotificationPart as declared
use Rattle.bgp_parts.specs.declared.notification.NotificationPart.TheVariants as parts
use Rattle.bgp_parts.specs.declared.notification.NotificationParts.{NotificationParts}
use Rattle.bgp_text.specs.Text.{hex_text}
use Rattle.bgp_why_parts.specs.Codes.{code_text}
use Rattle.bgp_why_parts.specs.Notifications.{early_piece, notification_parts_text, word_piece, word_text}
use Rattle.bgp_why_parts.specs.Pieces.{listed}
use Rattle.bgp_part_texts.specs.Notifications.{Data, HasWord, IsWord, NotificationPartsDiffer, Subcode, Word, word_of}
use Rattle.bgp_part_texts.proofs.Clear.{both_ascii, both_clear, clear_ascii, clear_lacks, code_clear, hex_clear, is_ascii, is_clear}
use Rattle.bgp_part_texts.proofs.Fields.{differ, hex_lacks, octet_at, one_hex}

-- two pairs of a code and a subcode have two texts
abbrev pub CodesDiffer : Type 0
CodesDiffer = NamesOfTwoDiffer code_text

-- what stands behind the code
abbrev behind_code : ℕ → ℕ → List ℕ
behind_code code subcode = decimal subcode ++ (codes " (" ++ (short_error_name code subcode ++ codes ")"))

-- a code begins no word
code_spread : (code subcode : ℕ) (x : List ℕ) → code_text code subcode ++ x ≡ decimal code ++ (47 ∷ (behind_code code subcode ++ x))
unfolding code_text
code_spread code subcode x = append_assoc (decimal code) (codes "/" ++ behind_code code subcode) x

-- a text without a slash isn't one
no_code : (code subcode : ℕ) (x t : List ℕ) → code < 256 → lacks 47 t ≡ true → code_text code subcode ++ x ≡ t → ⊥
no_code code subcode x t small lack e =
    let split = one_front 47 (decimal code) t (47 ∷ (behind_code code subcode ++ x)) [] (decimal_lacks 47 code (lit< tt) (omega (arith, small))) lack refl refl
    (sym (code_spread code subcode x) ∙ e ∙ sym (append-nil t)) in
    let none : 47 ∷ (behind_code code subcode ++ x) ≡ [] = split.1 in cc

data_lacks : (octets : List ℕ) → lacks 47 (codes "data " ++ hex_text octets) ≡ true
data_lacks octets = lacks_both 47 (codes "data ") (hex_text octets) refl (hex_lacks 47 refl refl refl octets)

word_clear : (code : ℕ) (word : declared.NotificationPart) → code < 256 → IsWord word → is_clear (word_text code word) ≡ true
word_clear code (parts.Subcode subcode) small fits = code_clear code subcode (omega (arith, small)) (omega (arith, fits))
word_clear code (parts.Data octets) small fits = both_clear (codes "data ") (hex_text octets.now) refl (hex_clear octets.now)

abbrev parts_by : ℕ → Option declared.NotificationPart → Option ℕ → List ℕ
parts_by code part early = listed (word_piece code part ∷ early_piece early ∷ [])

-- what stands behind a word
abbrev rest_of : Option ℕ → List ℕ
rest_of None = []
rest_of (Some second) = codes "; too early"

with_rest : (code : ℕ) (word : declared.NotificationPart) (early : Option ℕ) → parts_by code (Some word) early ≡ word_text code word ++ rest_of early
with_rest code word None = refl
with_rest code word (Some second) = refl

rest_stops : (early : Option ℕ) → stops 59 (rest_of early) ≡ true
rest_stops None = refl
rest_stops (Some second) = refl

one_rest : (e f : Option ℕ) → rest_of e ≡ rest_of f → is_some e ≡ is_some f
one_rest None None same = refl
one_rest None (Some s) same = let none : [] ≡ codes "; too early" = same in cc
one_rest (Some s) None same = let none : codes "; too early" ≡ [] = same in cc
one_rest (Some s) (Some t) same = refl

module _ (one_code : CodesDiffer) (code : ℕ) (small : code < 256) where
  one_word : (p q : declared.NotificationPart) → IsWord p → IsWord q → word_text code p ≡ word_text code q → word_of p ≡ word_of q
  one_word (parts.Subcode s) (parts.Subcode t) fp fq e =
      ap Subcode (one_code code s code t (omega (arith, small)) (omega (arith, fp)) (omega (arith, small)) (omega (arith, fq)) e).1
  one_word (parts.Subcode s) (parts.Data ys) fp fq e =
      absurd (no_code code s [] (codes "data " ++ hex_text ys.now) small (data_lacks ys.now) (append-nil (code_text code s) ∙ e))
  one_word (parts.Data xs) (parts.Subcode t) fp fq e =
      absurd (no_code code t [] (codes "data " ++ hex_text xs.now) small (data_lacks xs.now) (append-nil (code_text code t) ∙ sym e))
  one_word (parts.Data xs) (parts.Data ys) fp fq e =
      ap Data (one_hex xs.now ys.now fp fq (append_cancel_left (codes "data ") (hex_text xs.now) (hex_text ys.now) e))

  -- a word isn't nothing, nor `too early`
  no_word : (word : declared.NotificationPart) (x : List ℕ) (early : Option ℕ) → parts_by code None early ≡ word_text code word ++ x → ⊥
  no_word (parts.Subcode s) x None e = no_code code s x [] small refl (sym e)
  no_word (parts.Subcode s) x (Some second) e = no_code code s x (codes "too early") small refl (sym e)
  no_word (parts.Data octets) x None e = differ 0 100 refl (ap (octet_at 0) e)
  no_word (parts.Data octets) x (Some second) e = differ 116 100 refl (ap (octet_at 0) e)

  abbrev Says : Option declared.NotificationPart → Option ℕ → Option Word × Bool
  Says part early = (option_map word_of part, is_some early)

  one_parts : (p q : Option declared.NotificationPart) (e f : Option ℕ) → IfSome p IsWord → IfSome q IsWord → parts_by code p e ≡ parts_by code q f → Says p e ≡ Says q f
  one_parts None None None None fp fq same = refl
  one_parts None None None (Some t) fp fq same = let none : [] ≡ codes "too early" = same in cc
  one_parts None None (Some s) None fp fq same = let none : codes "too early" ≡ [] = same in cc
  one_parts None None (Some s) (Some t) fp fq same = refl
  one_parts None (Some q) e f fp fq same = absurd (no_word q (rest_of f) e (same ∙ with_rest code q f))
  one_parts (Some p) None e f fp fq same = absurd (no_word p (rest_of e) f (sym same ∙ with_rest code p e))
  one_parts (Some p) (Some q) e f fp fq same =
      let split = one_front 59 (word_text code p) (word_text code q) (rest_of e) (rest_of f) (clear_lacks (word_text code p) (word_clear code p small fp))
      (clear_lacks (word_text code q) (word_clear code q small fq)) (rest_stops e) (rest_stops f) (sym (with_rest code p e) ∙ same ∙ with_rest code q f) in
      ap₂ (λ (w : Word) (b : Bool). (Some w, b)) (one_word p q fp fq split.0) (one_rest e f split.1)

pub one_notification : CodesDiffer → NotificationPartsDiffer
one_notification one_code code small p q fp fq e = one_parts one_code code small p.part q.part p.early q.early fp fq e

-- ---- it is of ASCII

rest_ascii : (early : Option ℕ) → is_ascii (rest_of early) ≡ true
rest_ascii None = refl
rest_ascii (Some second) = refl

by_ascii : (code : ℕ) (part : Option declared.NotificationPart) (early : Option ℕ) → code < 256 → IfSome part IsWord → is_ascii (parts_by code part early) ≡ true
by_ascii code None None small fits = refl
by_ascii code None (Some second) small fits = refl
by_ascii code (Some word) early small fits =
    ap is_ascii (with_rest code word early)
    ∙ both_ascii (word_text code word) (rest_of early) (clear_ascii (word_text code word) (word_clear code word small fits)) (rest_ascii early)

pub notification_ascii : (code : ℕ) → code < 256 → (told : NotificationParts) → HasWord told → is_ascii (notification_parts_text code told) ≡ true
notification_ascii code small told fits = by_ascii code told.part told.early small fits
