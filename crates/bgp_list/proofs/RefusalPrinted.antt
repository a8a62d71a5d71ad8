-- The text of a refusal's object is its tokens, printed; and a reader of JSON reads them back.
use Rattle.std.proofs.Common.{◌≡◌, ◌∙◌, ◌++◌, ◌<◌, ◌^◌, ℕ, Bool, true, false, List, [], ◌∷◌, None, codes, decimal, refl, sym, ap, append_assoc, IsUtf8}
use Rattle.std.proofs.lemmas.Fmt.{IsAscii-decimal}
use Rattle.std.proofs.lemmas.Str.{IsUtf8-append, IsUtf8-from_ascii, IsUtf8-nil}
use Rattle.json.specs.Print.{ArePrintable, ends, escape, escape_byte, print, print_from, token_text}
use Rattle.json.specs.Token.{Token, begin_object, end_object, key, number, string}
use Rattle.json.specs.Tree.{json_tokens}
use Rattle.json.proofs.Printed.Decimals.{IsNumber-decimal}
use Rattle.json.proofs.Printed.Tokens.{tokens-print}
use Rattle.json.proofs.Printed.Utf8.{IsUtf8-are_ascii, IsUtf8-key, IsUtf8-quoted, IsUtf8-separator, are_ascii}
use Rattle.mrt.specs.Fault as capture
use Rattle.mrt.specs.declared.fault.CaptureFault.{CaptureFault}
use Rattle.mrt.specs.declared.fault.FaultKind.{FaultKind as CaptureFaultKind}
use Rattle.mrt.specs.declared.fault.FaultKind.TheVariants as capture_kinds
use Rattle.packets.specs.Fault as file
use Rattle.packets.specs.declared.fault.FaultKind.{FaultKind}
use Rattle.packets.specs.declared.fault.FaultKind.TheVariants as kinds
use Rattle.segments.specs.Fault as packet
use Rattle.segments.specs.declared.fault.PacketFault.{PacketFault}
use Rattle.segments.specs.declared.fault.PacketFault.TheVariants as packet_faults
use Rattle.streams.specs.Fault as connection
use Rattle.streams.specs.declared.fault.Fault.{Fault}
use Rattle.streams.specs.declared.fault.Fault.TheVariants as faults
use Rattle.bgp_import.specs.Refusals.{refusal_name, refusal_number, refusal_packet}
use Rattle.bgp_import.specs.declared.refusal.Refusal.{Refusal}
use Rattle.bgp_import.specs.declared.refusal.Refusal.TheVariants as refusals
use Rattle.bgp_json.specs.Line.{IsOneValue}
use Rattle.bgp_json.specs.Object.{json_line}
use Rattle.bgp_json.specs.Others.{capture_json}
use Rattle.bgp_json.proofs.ReadsBack.{reads_back}
use Rattle.bgp_json.proofs.Shallow.{capture_shallow, recording_shallow}
use Rattle.bgp_list.specs.ConnectionJson.{refused_json}
use Rattle.bgp_list.specs.RefusalLine.{front_text, offset_end, packet_end}

-- ---- names need no escape

abbrev IsPlain : List ℕ → Type 0
IsPlain name = (escape name ≡ name) × (are_ascii name ≡ true)

file_plain : (kind : FaultKind) → IsPlain (file.fault_name kind)
unfolding escape_byte
file_plain kinds.Format = (refl, refl)
file_plain kinds.Truncated = (refl, refl)
file_plain kinds.TooLong = (refl, refl)
file_plain kinds.Block = (refl, refl)
file_plain kinds.Time = (refl, refl)
file_plain kinds.Device = (refl, refl)
file_plain kinds.Memory = (refl, refl)

packet_plain : (fault : PacketFault) → IsPlain (packet.fault_name fault)
unfolding escape_byte
packet_plain (packet_faults.Link link_type) = (refl, refl)
packet_plain packet_faults.Fragment = (refl, refl)
packet_plain packet_faults.Cut = (refl, refl)

connection_plain : (fault : Fault) → IsPlain (connection.fault_name fault)
unfolding escape_byte
connection_plain (faults.Cut at) = (refl, refl)
connection_plain (faults.TimeBack at) = (refl, refl)
connection_plain (faults.NoConnection at) = (refl, refl)
connection_plain (faults.Several at) = (refl, refl)
connection_plain (faults.NoStart at) = (refl, refl)
connection_plain (faults.Conflict at from place) = (refl, refl)
connection_plain (faults.Missing at from place) = (refl, refl)
connection_plain (faults.AfterReset at from place) = (refl, refl)

refusal_plain : (refusal : Refusal) → IsPlain (refusal_name refusal)
unfolding escape_byte
refusal_plain (refusals.File fault) = file_plain fault.kind
refusal_plain (refusals.Packet fault at) = packet_plain fault
refusal_plain (refusals.Connection fault) = connection_plain fault
refusal_plain (refusals.Memory at) = (refl, refl)
refusal_plain (refusals.RouteRefresh at from place) = (refl, refl)

capture_plain : (kind : CaptureFaultKind) → IsPlain (capture.fault_name kind)
unfolding escape_byte
capture_plain capture_kinds.Truncated = (refl, refl)
capture_plain capture_kinds.TooLong = (refl, refl)
capture_plain capture_kinds.Body = (refl, refl)
capture_plain capture_kinds.BadState = (refl, refl)
capture_plain capture_kinds.NotAMessage = (refl, refl)
capture_plain capture_kinds.TimeBack = (refl, refl)
capture_plain capture_kinds.RouteRefresh = (refl, refl)
capture_plain capture_kinds.AddPath = (refl, refl)
capture_plain capture_kinds.Device = (refl, refl)
capture_plain capture_kinds.Memory = (refl, refl)

-- ---- the text

name_part : (name tail rest : List ℕ) → escape name ≡ name → tail ≡ rest ++ codes "\n" → (name ++ 34 ∷ []) ++ tail ≡ ((escape name ++ 34 ∷ []) ++ rest) ++ codes "\n"
name_part name tail rest plain is =
    ap (λ (t : List ℕ). (name ++ 34 ∷ []) ++ t) is
    ∙ ap (λ (e : List ℕ). (e ++ 34 ∷ []) ++ (rest ++ codes "\n")) (sym plain)
    ∙ sym (append_assoc (escape name ++ 34 ∷ []) rest (codes "\n"))

number_part : (digits behind tail rest : List ℕ) → behind ++ tail ≡ rest ++ codes "\n" → (digits ++ behind) ++ tail ≡ (digits ++ rest) ++ codes "\n"
number_part digits behind tail rest is =
    append_assoc digits behind tail ∙ ap (λ (t : List ℕ). digits ++ t) is ∙ sym (append_assoc digits rest (codes "\n"))

-- the tokens, where what is refused is this word
abbrev tokens_of : List ℕ → ℕ → List ℕ → List Token → List Token
tokens_of what n name behind =
    begin_object ∷ key (codes "type") ∷ string (codes "refused") ∷ key (codes "what") ∷ string what ∷ key (codes "number") ∷ number (decimal n) ∷ key (codes "name") ∷ string name ∷ behind

recording_front : (n : ℕ) (name tail : List ℕ) (behind : List Token) → escape name ≡ name → tail ≡ print_from true behind ++ codes "\n"
    → front_text (codes "recording") n name ++ tail ≡ print (tokens_of (codes "recording") n name behind) ++ codes "\n"
unfolding front_text print_from escape_byte
recording_front n name tail behind plain is =
    ap (λ (t : List ℕ). codes "{\"type\":\"refused\",\"what\":\"recording\",\"number\":" ++ t)
    (number_part (decimal n) (codes ",\"name\":\"" ++ (name ++ codes "\"")) tail (print_from true (key (codes "name") ∷ string name ∷ behind))
    (ap (λ (t : List ℕ). codes ",\"name\":\"" ++ t) (name_part name tail (print_from true behind) plain is)))

capture_front : (n : ℕ) (name tail : List ℕ) (behind : List Token) → escape name ≡ name → tail ≡ print_from true behind ++ codes "\n"
    → front_text (codes "capture") n name ++ tail ≡ print (tokens_of (codes "capture") n name behind) ++ codes "\n"
unfolding front_text print_from escape_byte
capture_front n name tail behind plain is =
    ap (λ (t : List ℕ). codes "{\"type\":\"refused\",\"what\":\"capture\",\"number\":" ++ t)
    (number_part (decimal n) (codes ",\"name\":\"" ++ (name ++ codes "\"")) tail (print_from true (key (codes "name") ∷ string name ∷ behind))
    (ap (λ (t : List ℕ). codes ",\"name\":\"" ++ t) (name_part name tail (print_from true behind) plain is)))

packet_tail : (n : ℕ) → packet_end n ≡ print_from true (key (codes "packet") ∷ number (decimal n) ∷ end_object ∷ []) ++ codes "\n"
unfolding packet_end print_from escape_byte
packet_tail n = ap (λ (t : List ℕ). codes ",\"packet\":" ++ t) (sym (append_assoc (decimal n) (125 ∷ []) (codes "\n")))

offset_tail : (n : ℕ) → offset_end n ≡ print_from true (key (codes "at") ∷ number (decimal n) ∷ end_object ∷ []) ++ codes "\n"
unfolding offset_end print_from escape_byte
offset_tail n = ap (λ (t : List ℕ). codes ",\"at\":" ++ t) (sym (append_assoc (decimal n) (125 ∷ []) (codes "\n")))

pub refused_printed : (refusal : Refusal) → front_text (codes "recording") (refusal_number refusal) (refusal_name refusal) ++ packet_end (refusal_packet refusal) ≡ json_line (refused_json refusal)
unfolding json_line
refused_printed refusal =
    recording_front (refusal_number refusal) (refusal_name refusal) _ (key (codes "packet") ∷ number (decimal (refusal_packet refusal)) ∷ end_object ∷ [])
    (refusal_plain refusal).0 (packet_tail (refusal_packet refusal))

pub fault_printed : (fault : CaptureFault) → front_text (codes "capture") (capture.fault_number fault.kind) (capture.fault_name fault.kind) ++ offset_end fault.offset ≡ json_line (capture_json fault)
unfolding json_line
fault_printed fault =
    capture_front (capture.fault_number fault.kind) (capture.fault_name fault.kind) _ (key (codes "at") ∷ number (decimal fault.offset) ∷ end_object ∷ [])
    (capture_plain fault.kind).0 (offset_tail fault.offset)

-- ---- it reads back

AreUtf8 : List Token → Type 0
AreUtf8 [] = Unit {0}
AreUtf8 (t ∷ ts) = IsUtf8 (token_text t) × AreUtf8 ts

printed_utf8 : (after : Bool) (ts : List Token) → AreUtf8 ts → IsUtf8 (print_from after ts)
unfolding print_from AreUtf8
printed_utf8 after [] each = IsUtf8-nil
printed_utf8 after (t ∷ ts) each = IsUtf8-append _ _ (IsUtf8-separator after t) (IsUtf8-append _ _ each.0 (printed_utf8 (ends t) ts each.1))

key_utf8 : (text : List ℕ) → are_ascii text ≡ true → IsUtf8 (token_text (key text))
key_utf8 text plain = IsUtf8-key text (IsUtf8-are_ascii text plain)

text_utf8 : (text : List ℕ) → are_ascii text ≡ true → IsUtf8 (token_text (string text))
text_utf8 text plain = IsUtf8-quoted text (IsUtf8-are_ascii text plain)

number_utf8 : (n : ℕ) → n < 2 ^ 64 → IsUtf8 (token_text (number (decimal n)))
number_utf8 n fits = IsUtf8-from_ascii (decimal n) (IsAscii-decimal n fits)

all_utf8 : (what name place : List ℕ) (n m : ℕ) → are_ascii what ≡ true → are_ascii name ≡ true → are_ascii place ≡ true → n < 2 ^ 64 → m < 2 ^ 64
    → AreUtf8 (tokens_of what n name (key place ∷ number (decimal m) ∷ end_object ∷ []))
unfolding AreUtf8
all_utf8 what name place n m is_what is_name is_place small fits = (
  IsUtf8-are_ascii (123 ∷ []) refl,
  (
    key_utf8 (codes "type") refl,
    (
      text_utf8 (codes "refused") refl,
      (
        key_utf8 (codes "what") refl,
        (
          text_utf8 what is_what,
          (
            key_utf8 (codes "number") refl,
            (
              number_utf8 n small,
              (
                key_utf8 (codes "name") refl,
                (
                  text_utf8 name is_name,
                  (key_utf8 place is_place, (number_utf8 m fits, (IsUtf8-are_ascii (125 ∷ []) refl, tt))),
                ),
              ),
            ),
          ),
        ),
      ),
    ),
  ),
)

all_printable : (what name place : List ℕ) (n m : ℕ) → n < 2 ^ 64 → m < 2 ^ 64 → ArePrintable (tokens_of what n name (key place ∷ number (decimal m) ∷ end_object ∷ []))
unfolding ArePrintable
all_printable what name place n m small fits =
    (tt, (tt, (tt, (tt, (tt, (tt, (IsNumber-decimal n small, (tt, (tt, (tt, (IsNumber-decimal m fits, (tt, tt))))))))))))

pub refused_value : (refusal : Refusal) → refusal_number refusal < 2 ^ 64 → refusal_packet refusal < 2 ^ 64 → IsOneValue (json_line (refused_json refusal))
refused_value refusal small fits =
    let value = refused_json refusal in
    let name = refusal_name refusal in
    let n = refusal_number refusal in
    let m = refusal_packet refusal in
    record {
      value = value;
      is_its = refl;
      reads_back = reads_back value (json_tokens value) refl (tokens-print (json_tokens value) (all_printable (codes "recording") name (codes "packet") n m small fits))
          (recording_shallow n name m None);
      utf8 = printed_utf8 false (json_tokens value) (all_utf8 (codes "recording") name (codes "packet") n m refl (refusal_plain refusal).1 refl small fits);
    }

pub fault_value : (fault : CaptureFault) → capture.fault_number fault.kind < 2 ^ 64 → fault.offset < 2 ^ 64 → IsOneValue (json_line (capture_json fault))
fault_value fault small fits =
    let value = capture_json fault in
    let name = capture.fault_name fault.kind in
    let n = capture.fault_number fault.kind in
    record {
      value = value;
      is_its = refl;
      reads_back = reads_back value (json_tokens value) refl (tokens-print (json_tokens value) (all_printable (codes "capture") name (codes "at") n fault.offset small fits))
          (capture_shallow fault);
      utf8 = printed_utf8 false (json_tokens value) (all_utf8 (codes "capture") name (codes "at") n fault.offset refl (capture_plain fault.kind).1 refl small fits);
    }
