-- Octets are one list of packets and one ending.
use Rattle.std.proofs.Common.{◌≡◌, ◌∙◌, ℕ, zero, suc, List, ◌∷◌, drop, sym, ap}
use Rattle.packets.specs.Context.{Context}
use Rattle.packets.specs.Judgement.{Judgement, End, Refused, Passed, Told}
use Rattle.packets.specs.Packet.{Recorded}
use Rattle.packets.specs.Recording.{judgement_at, Ending, IsReadBy, IsReadIn}
use Rattle.packets.specs.RecordingLaws.{OneReading}

-- what is read of a place is read of it in one way, where that holds of what stands behind it
one_by : (Behind Also : Context → List ℕ → List Recorded → Type 0) (context : Context) (octets : List ℕ) (packets also : List Recorded)
    (ending other : Ending) (judgement : Judgement)
    → ((after : Context) (rest : List ℕ) (these those : List Recorded) → Behind after rest these → Also after rest those → (these ≡ those) × (ending ≡ other))
    → IsReadBy Behind context octets packets ending judgement → IsReadBy Also context octets also other judgement
    → (packets ≡ also) × (ending ≡ other)
one_by Behind Also context octets packets also ending other End behind is there = (is.0 ∙ sym there.0, is.1 ∙ sym there.1)
one_by Behind Also context octets packets also ending other (Refused kind) behind is there = (is.0 ∙ sym there.0, is.1 ∙ sym there.1)
one_by Behind Also context octets packets also ending other (Passed len after) behind is there = behind after (drop len octets) packets also is there
one_by Behind Also context octets packets also ending other (Told len packet) behind is there =
    let same = behind context (drop len octets) is.0 there.0 is.2 there.2 in
    (is.1 ∙ ap (λ (l : List Recorded). packet ∷ l) same.0 ∙ sym there.1, same.1)

one_in : (items others : ℕ) (context : Context) (octets : List ℕ) (packets also : List Recorded) (ending other : Ending)
    → IsReadIn items context octets packets ending → IsReadIn others context octets also other → (packets ≡ also) × (ending ≡ other)
one_in zero others context octets packets also ending other is there = absurd is
one_in (suc items) zero context octets packets also ending other is there = absurd there
one_in (suc items) (suc others) context octets packets also ending other is there =
    one_by (λ after rest later. IsReadIn items after rest later ending) (λ after rest later. IsReadIn others after rest later other)
    context octets packets also ending other (judgement_at context octets)
    (λ after rest these those. one_in items others after rest these those ending other) is there

pub one_reading : OneReading
one_reading context octets packets also ending other is there = one_in is.0 there.0 context octets packets also ending other is.1 there.1
