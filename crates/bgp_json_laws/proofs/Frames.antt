-- Frames of streams with one line are the same.
use Rattle.std.proofs.Common.{◌≡◌, ◌∙◌, ◌++◌, ◌<◌, ◌^◌, ℕ, Bool, List, [], ap, refl, subst, sym}
use Rattle.json.specs.Json.{Json}
use Rattle.bgp_wire.specs.Octets.{AreOctets}
use Rattle.bgp_values.specs.declared.opens.Direction.{Direction}
use Rattle.bgp_lines.specs.Form.{Before}
use Rattle.bgp_json.specs.Object.{json_line}
use Rattle.bgp_json.specs.RecordJson.{IsFrameJson, IsFrameLine}
use Rattle.bgp_json.specs.declared.place.Place.TheVariants.{InStream}
use Rattle.bgp_json_laws.proofs.Objects.{frame_printed, same_frame}
use Rattle.bgp_json_laws.proofs.Printing.{same_first_line}

-- two lines in front of anything
pub first_frame : (before earlier : Before) (as2 also : Bool) (direction other : Direction) (offset place : ℕ) (frame another line next rest others : List ℕ)
    → offset < 2 ^ 64 → place < 2 ^ 64 → AreOctets frame → AreOctets another
    → IsFrameLine before as2 direction offset frame line → IsFrameLine earlier also other place another next → line ++ rest ≡ next ++ others
    → (frame ≡ another) × (rest ≡ others)
first_frame before earlier as2 also direction other offset place frame another line next rest others small fits are too h k e =
    let v = h.2.0 in
    let w = k.2.0 in
    let lines : json_line v ++ rest ≡ json_line w ++ others = sym (ap (λ (l : List ℕ). l ++ rest) h.2.2) ∙ e ∙ ap (λ (l : List ℕ). l ++ others) k.2.2 in
    let same = same_first_line v w rest others (frame_printed h.0 (InStream offset) frame v small are h.2.1) (frame_printed k.0 (InStream place) another w fits too k.2.1) lines in (
      same_frame h.0 k.0 (InStream offset) (InStream place) frame another v are too h.2.1
          (subst (λ (j : Json). IsFrameJson k.0 (InStream place) another j) (sym same.0) k.2.1),
      same.1,
    )

pub same_frame_line : (before earlier : Before) (as2 also : Bool) (direction other : Direction) (offset place : ℕ) (frame another line : List ℕ)
    → offset < 2 ^ 64 → place < 2 ^ 64 → AreOctets frame → AreOctets another
    → IsFrameLine before as2 direction offset frame line → IsFrameLine earlier also other place another line → frame ≡ another
same_frame_line before earlier as2 also direction other offset place frame another line small fits are too h k =
    (first_frame before earlier as2 also direction other offset place frame another line line [] [] small fits are too h k refl).0
