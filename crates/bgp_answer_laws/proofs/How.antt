-- How a session ended has no line feed in its text, whatever data a NOTIFICATION has.
use Rattle.std.proofs.Common.{◌≡◌, ◌++◌, ◌&&◌, ◌==◌, ℕ, zero, suc, Bool, true, false, List, [], ◌∷◌, Option, None, Some, codes, if◌then◌else◌, length, nat_le, nat_lt, not, refl, take}
use Rattle.std.specs.List.{list_any}
use Rattle.bgp_html.specs.Taking.{HasNoEnd}
use Rattle.streams.specs.declared.connection.Closing.{Closing}
use Rattle.streams.specs.declared.connection.Closing.TheVariants.{Fin, Reset}
use Rattle.bgp_values.specs.ErrorData.{DataValue, ErrorFields, cause_of, data_value}
use Rattle.bgp_values.specs.Readable.{is_readable, text_in}
use Rattle.bgp_lines.specs.Notifications.{bracketed_codes_text, caused_data_text, detail_text, error_data_text, hidden_text, plain_data_text}
use Rattle.bgp_why_parts.specs.Cut.{cut, shown_count}
use Rattle.bgp_why.specs.declared.endpoint.Endpoint.{Endpoint}
use Rattle.bgp_ended.specs.EndedLine.{who_and_how_text, who_text}
use Rattle.bgp_ended.specs.HowText as how
use Rattle.bgp_ended.specs.HowText.{caused_text, closing_text, error_text, how_text, is_control, plain_error_text, raw_by, raw_text, sentence_in, with_data_text}
use Rattle.bgp_ended.specs.Values.{HowValue, Notified, Closed, Fallen}
use Rattle.bgp_visible_laws.proofs.Messages.{SaidBy, data_said, data_visible}
use Rattle.bgp_visible_laws.proofs.Texts.{error_visible, state_visible}
use Rattle.bgp_visible_laws.proofs.Visible.{between_quotes, neither, or_false, readable}
use Rattle.bgp_why_laws.proofs.Parts.{full_code_visible}
use Rattle.bgp_answer_laws.proofs.Lines.{IsPlain, IsWhole, behind, both, ends, if_plain, nothing, word}
use Rattle.bgp_answer_laws.proofs.Plain.{encoded, plain}
use Rattle.bgp_answer_laws.proofs.Times.{end, number}

-- ---- a front of a text

none_taken : (count : ℕ) (octets : List ℕ) → HasNoEnd octets → HasNoEnd (take count octets)
none_taken zero octets none = refl
none_taken (suc count) [] none = refl
none_taken (suc count) (x ∷ xs) none =
    let parts = neither (x == 10) (list_any (λ o. o == 10) xs) none in
    or_false (x == 10) (list_any (λ o. o == 10) (take count xs)) parts.0 (none_taken count xs parts.1)

pub cut_plain : {text : List ℕ} → IsPlain text → IsPlain (cut text)
unfolding cut
cut_plain {text} is =
    if_plain (nat_lt 200 (length text)) (take (shown_count text) text ++ codes " ..") text
    (both record { none = none_taken (shown_count text) text is.none } (word (codes " ..") refl)) is

-- ---- what data say

bracketed : (e : ErrorFields) → IsPlain (bracketed_codes_text e)
unfolding bracketed_codes_text
bracketed e =
    both (number e.code) (both (word (codes "/") refl) (both (number e.subcode) (both (word (codes " (") refl) (both (plain (error_visible e.code e.subcode)) (word (codes ")") refl)))))

plain_data : (found : Option DataValue) (detail : List ℕ) → SaidBy found → IsPlain (plain_data_text found detail)
unfolding plain_data_text
plain_data None detail said = encoded detail
plain_data (Some value) detail said = plain (data_visible value (said value refl))

hidden_plain : (detail : List ℕ) → IsPlain (hidden_text detail)
unfolding hidden_text
hidden_plain [] = nothing
hidden_plain (octet ∷ octets) = both (word (codes ": ") refl) (encoded (octet ∷ octets))

detail_plain : (found : Option DataValue) (detail : List ℕ) → SaidBy found → IsPlain (detail_text found detail)
unfolding detail_text
detail_plain None detail said = hidden_plain detail
detail_plain (Some value) detail said = both (word (codes ": ") refl) (plain (data_visible value (said value refl)))

caused_data : (e : ErrorFields) (cause : Option ErrorFields) → IsPlain (caused_data_text e cause)
unfolding caused_data_text
caused_data e None = plain_data (data_value e) e.detail (data_said e)
caused_data e (Some cause) = both (bracketed cause) (detail_plain (data_value cause) cause.detail (data_said cause))

pub data_plain : (e : ErrorFields) → IsPlain (error_data_text e)
unfolding error_data_text
data_plain e = caused_data e (cause_of e)

-- ---- a sentence, or other data

module _ (detail : List ℕ) where
  -- a text that these are is readable
  IsQuoted : Option (List ℕ) → Type 0
  IsQuoted found = IsPlain (raw_by found detail)

  if_readable : (is : Bool) → is_readable detail ≡ is → IsPlain (raw_by (if is then Some detail else None) detail)
  if_readable true is = plain (between_quotes detail (readable detail is))
  if_readable false is = encoded detail

  if_long : (is : Bool) → IsPlain (raw_by (if is then text_in detail else None) detail)
  if_long true = if_readable (is_readable detail) refl
  if_long false = encoded detail

  raw_plain : IsPlain (raw_text detail)
  unfolding raw_text
  raw_plain = if_long (nat_le 5 (length detail) && not (list_any is_control detail))

with_data_plain : (detail : List ℕ) → IsPlain (with_data_text detail)
unfolding with_data_text
with_data_plain [] = nothing
with_data_plain (octet ∷ octets) = both (word (codes " with data ") refl) (cut_plain (raw_plain (octet ∷ octets)))

its_detail : (found : Option DataValue) (e : ErrorFields) → IsPlain (how.detail_text found e)
unfolding how.detail_text
its_detail None e = with_data_plain e.detail
its_detail (Some value) e = both (word (codes ": ") refl) (cut_plain (data_plain e))

plain_error : (e : ErrorFields) → IsPlain (plain_error_text e)
unfolding plain_error_text
plain_error e = both (plain (full_code_visible e.code e.subcode)) (its_detail (data_value e) e)

caused : (e : ErrorFields) (cause : Option ErrorFields) → IsPlain (caused_text e cause)
unfolding caused_text
caused e None = plain_error e
caused e (Some cause) = both (plain (full_code_visible e.code e.subcode)) (both (word (codes ": ") refl) (plain_error cause))

error_plain : (e : ErrorFields) → IsPlain (error_text e)
unfolding error_text
error_plain e = caused e (cause_of e)

closing_plain : (closing : Closing) → IsPlain (closing_text closing)
closing_plain Fin = word (codes "FIN, no NOTIFICATION") refl
closing_plain Reset = word (codes "RST, no NOTIFICATION") refl

how_plain : (its : HowValue) → IsPlain (how_text its)
unfolding how_text
how_plain (Notified error) = both (word (codes "NOTIFICATION ") refl) (error_plain error)
how_plain (Closed closing) = closing_plain closing
how_plain (Fallen state) = both (plain (state_visible state)) (word (codes " to Idle, no NOTIFICATION") refl)

who_plain : (its : HowValue) (by : Endpoint) → IsPlain (who_text its by)
who_plain (Notified error) by = both (word (codes ", by ") refl) (end by)
who_plain (Closed closing) by = both (word (codes ", by ") refl) (end by)
who_plain (Fallen state) by = nothing

pub who_and_how : (its : HowValue) (by : Endpoint) → IsWhole (who_and_how_text its by)
unfolding who_and_how_text
who_and_how its by = behind (who_plain its by) (behind (word (codes ": ") refl) (ends (how_plain its)))
