-- The texts of lines that tell of both directions.
use Rattle.std.proofs.Common.{◌≡◌, ◌∙◌, ◌++◌, ℕ, List, [], ◌∷◌, ap, append-nil, append_assoc, codes, refl, sym}
use Rattle.std.specs.List.{flat_map}
use Rattle.bgp_recording.specs.declared.framing.Rest.{Rest}
use Rattle.bgp_recording.specs.declared.framing.Rest.TheVariants.{BehindFault, Short}
use Rattle.bgp_recording.specs.declared.framing.Unshown.{Unshown}
use Rattle.bgp_values.specs.declared.opens.Direction.{Direction}
use Rattle.bgp_values.specs.declared.opens.Direction.TheVariants.{Received, Sent}
use Rattle.bgp_json_check.specs.Members.{direction_word}
use Rattle.bgp_check_text.specs.Unshown.{passed_note, passed_notes, rest_note, unshown_notes}
use Rattle.bgp_check_lines.specs.Values.{PassesOver, rest_value, value_text}

passed_same : (direction : Direction) (count : ℕ) → value_text (PassesOver direction count) ≡ passed_note (direction_word direction) count
unfolding value_text
passed_same direction count = refl

rest_same : (direction : Direction) (rest : Rest) → value_text (rest_value direction rest) ≡ rest_note (direction_word direction) rest
unfolding value_text
rest_same direction (Short count) = refl
rest_same direction (BehindFault place count is_refresh) = refl

pub passed_texts : (received sent : ℕ) → flat_map value_text (PassesOver Received received ∷ PassesOver Sent sent ∷ []) ≡ passed_notes received sent
passed_texts received sent =
    ap (λ (t : List ℕ). value_text (PassesOver Received received) ++ t) (append-nil (value_text (PassesOver Sent sent)))
    ∙ ap (λ (t : List ℕ). t ++ value_text (PassesOver Sent sent)) (passed_same Received received)
    ∙ ap (λ (t : List ℕ). passed_note (codes "received") received ++ t) (passed_same Sent sent)

rest_texts : (received sent : Rest) → flat_map value_text (rest_value Received received ∷ rest_value Sent sent ∷ []) ≡ rest_note (codes "received") received ++ rest_note (codes "sent") sent
rest_texts received sent =
    ap (λ (t : List ℕ). value_text (rest_value Received received) ++ t) (append-nil (value_text (rest_value Sent sent)))
    ∙ ap (λ (t : List ℕ). t ++ value_text (rest_value Sent sent)) (rest_same Received received)
    ∙ ap (λ (t : List ℕ). rest_note (codes "received") received ++ t) (rest_same Sent sent)

pub unshown_texts : (received sent : Unshown)
    → flat_map value_text (PassesOver Received received.passed_over ∷ PassesOver Sent sent.passed_over ∷ rest_value Received received.rest ∷ rest_value Sent sent.rest ∷ [])
    ≡ unshown_notes received sent
unshown_texts received sent =
    let r = value_text (PassesOver Received received.passed_over) in
    let s = value_text (PassesOver Sent sent.passed_over) in
    let rest = flat_map value_text (rest_value Received received.rest ∷ rest_value Sent sent.rest ∷ []) in
    sym (append_assoc r s rest)
    ∙ ap (λ (t : List ℕ). t ++ rest) (ap (λ (t : List ℕ). r ++ t) (sym (append-nil s)) ∙ passed_texts received.passed_over sent.passed_over)
    ∙ ap (λ (t : List ℕ). passed_notes received.passed_over sent.passed_over ++ t) (rest_texts received.rest sent.rest)
