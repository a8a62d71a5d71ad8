-- A frame says one thing.
use Rattle.std.proofs.Common.{◌≡◌, ◌∙◌, ◌∷◌, [], ℕ, List, refl, sym, ap, arith}
use Rattle.bgp_update.proofs.LeastFault as open_faults
use Rattle.bgp_update.specs.DeclaredRouteForm.{RouteForm}
use Rattle.bgp_update.specs.RouteForm.{plain_form}
use Rattle.bgp_update.proofs.OneParts.{one_parts}
use Rattle.bgp_text.specs.Message.{Message, Says, Say}
use Rattle.bgp_text.specs.Message.{open_message, malformed_open_message, update_message, malformed_update_message, notification_message, keepalive_message}

pub one_message : (form : RouteForm) (frame : List ℕ) (message other : Message) → Says form frame message → Says form frame other → message ≡ other
one_message form frame (open_message f) (open_message f') h k = ap open_message (h.2 ∙ sym k.2)
one_message form frame (open_message f) (malformed_open_message f') h k = absurd (open_faults.none_if_well_formed frame f' h.1 k.1)
one_message form frame (open_message f) (update_message p') h k = absurd (omega (arith, h.0, k.0))
one_message form frame (open_message f) malformed_update_message h k = absurd (omega (arith, h.0, k.0))
one_message form frame (open_message f) (notification_message c' s' d') h k = absurd (omega (arith, h.0, k.0))
one_message form frame (open_message f) keepalive_message h k = absurd (omega (arith, h.0, k.0))
one_message form frame (malformed_open_message f) (open_message f') h k = absurd (open_faults.none_if_well_formed frame f k.1 h.1)
one_message form frame (malformed_open_message f) (malformed_open_message f') h k = ap malformed_open_message (open_faults.one_fault frame f f' h.1 k.1)
one_message form frame (malformed_open_message f) (update_message p') h k = absurd (omega (arith, h.0, k.0))
one_message form frame (malformed_open_message f) malformed_update_message h k = absurd (omega (arith, h.0, k.0))
one_message form frame (malformed_open_message f) (notification_message c' s' d') h k = absurd (omega (arith, h.0, k.0))
one_message form frame (malformed_open_message f) keepalive_message h k = absurd (omega (arith, h.0, k.0))
one_message form frame (update_message p) (open_message f') h k = absurd (omega (arith, h.0, k.0))
one_message form frame (update_message p) (malformed_open_message f') h k = absurd (omega (arith, h.0, k.0))
one_message form frame (update_message p) (update_message p') h k = ap update_message (one_parts form frame p p' h.1 k.1)
one_message form frame (update_message p) malformed_update_message h k = absurd (k.1 p h.1)
one_message form frame (update_message p) (notification_message c' s' d') h k = absurd (omega (arith, h.0, k.0))
one_message form frame (update_message p) keepalive_message h k = absurd (omega (arith, h.0, k.0))
one_message form frame malformed_update_message (open_message f') h k = absurd (omega (arith, h.0, k.0))
one_message form frame malformed_update_message (malformed_open_message f') h k = absurd (omega (arith, h.0, k.0))
one_message form frame malformed_update_message (update_message p') h k = absurd (h.1 p' k.1)
one_message form frame malformed_update_message malformed_update_message h k = refl
one_message form frame malformed_update_message (notification_message c' s' d') h k = absurd (omega (arith, h.0, k.0))
one_message form frame malformed_update_message keepalive_message h k = absurd (omega (arith, h.0, k.0))
one_message form frame (notification_message c s d) (open_message f') h k = absurd (omega (arith, h.0, k.0))
one_message form frame (notification_message c s d) (malformed_open_message f') h k = absurd (omega (arith, h.0, k.0))
one_message form frame (notification_message c s d) (update_message p') h k = absurd (omega (arith, h.0, k.0))
one_message form frame (notification_message c s d) malformed_update_message h k = absurd (omega (arith, h.0, k.0))
one_message form frame (notification_message c s d) (notification_message c' s' d') h k = let same : c ∷ s ∷ d ≡ c' ∷ s' ∷ d' = sym h.1.body ∙ k.1.body in cc
one_message form frame (notification_message c s d) keepalive_message h k = absurd (omega (arith, h.0, k.0))
one_message form frame keepalive_message (open_message f') h k = absurd (omega (arith, h.0, k.0))
one_message form frame keepalive_message (malformed_open_message f') h k = absurd (omega (arith, h.0, k.0))
one_message form frame keepalive_message (update_message p') h k = absurd (omega (arith, h.0, k.0))
one_message form frame keepalive_message malformed_update_message h k = absurd (omega (arith, h.0, k.0))
one_message form frame keepalive_message (notification_message c' s' d') h k = absurd (omega (arith, h.0, k.0))
one_message form frame keepalive_message keepalive_message h k = refl

-- the same of frames in a row
pub one_reading : (frames : List (List ℕ)) (messages others : List Message) → Say frames messages → Say frames others
    → messages ≡ others
one_reading [] [] [] h k = refl
one_reading [] [] (o ∷ os) h k = absurd k
one_reading [] (m ∷ ms) others h k = absurd h
one_reading (f ∷ fs) [] others h k = absurd h
one_reading (f ∷ fs) (m ∷ ms) [] h k = absurd k
one_reading (f ∷ fs) (m ∷ ms) (o ∷ os) h k =
    ap (λ (x : Message). x ∷ ms) (one_message plain_form f m o h.0 k.0) ∙ ap (λ (xs : List Message). o ∷ xs) (one_reading fs ms os h.1 k.1)
