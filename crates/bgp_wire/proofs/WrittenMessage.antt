-- A message that is written is a whole message with the body that it was given.
use Rattle.std.proofs.Common.{◌≡◌, ◌∙◌, ℕ, ◌+◌, ◌<◌, ◌^◌, List, [], ◌∷◌, ◌++◌, length, drop, refl, sym, ap, arith, length-append}
use Rattle.std.proofs.lemmas.List.Elements.{All-replicate}
use Rattle.std.proofs.Math.Seq.{drop-append_seam}
use Rattle.byteorder.specs.Numbers.{big_number-reads_back}
use Rattle.bgp_wire.specs.Header.{header_octets, length_of, type_of}
use Rattle.bgp_wire.specs.Message.{IsMessage, body_of, message_octets}

pub length-header_octets : (kind count : ℕ) → length (header_octets kind count) ≡ 19
unfolding header_octets
length-header_octets kind count = refl

pub length-message_octets : (kind : ℕ) (body : List ℕ) → length (message_octets kind body) ≡ 19 + length body
unfolding message_octets
length-message_octets kind body =
    length-append (header_octets kind (19 + length body)) body
    ∙ ap (λ (n : ℕ). n + length body) (length-header_octets kind (19 + length body))

pub written_message : (kind : ℕ) (body : List ℕ) → 19 + length body < 2 ^ 16 → IsMessage kind (message_octets kind body)
unfolding message_octets header_octets length_of type_of
written_message kind body fits = record {
  header = rw (length-message_octets kind body) (omega arith);
  marker = All-replicate (λ octet. octet ≡ 255) 16 255 refl;
  count = big_number-reads_back 2 (19 + length body) (kind ∷ []) fits ∙ sym (length-message_octets kind body);
  type_field = refl;
}

pub body_of-message_octets : (kind : ℕ) (body : List ℕ) → body_of (message_octets kind body) ≡ body
unfolding message_octets header_octets
body_of-message_octets kind body = refl

-- what was appended stands behind what was there
pub appended : (old new message : List ℕ) → new ≡ old ++ message → drop (length old) new ≡ message
appended old new message is = rw is (drop-append_seam old message)
