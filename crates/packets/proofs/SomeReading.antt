-- Octets are some list of packets and some ending.
use Rattle.std.proofs.Common.{◌≡◌, ◌<◌, ℕ, zero, suc, List, [], ◌∷◌, length, drop, refl, sym, subst, arith, length-drop}
use Rattle.packets.specs.Context.{Context, Start, Packets, Blocks}
use Rattle.packets.specs.Judgement.{Judgement, End, Refused, Passed, Told, IsLonger}
use Rattle.packets.specs.Packet.{Recorded}
use Rattle.packets.specs.Recording.{judgement_at, Ending, Whole, ending_at, IsReadBy, IsReadIn}
use Rattle.packets.specs.RecordingLaws.{SomeReading}
use Rattle.packets.proofs.Longer.{longer}
use Rattle.packets.proofs.StartPlaces.{judgement_holds}

-- nothing is behind it
abbrev Stops : Judgement → Type 0
Stops End = Unit {0}
Stops (Refused kind) = Unit {0}
Stops (Passed len after) = ⊥
Stops (Told len packet) = ⊥

stops_at_none : (context : Context) → Stops (judgement_at context [])
unfolding judgement_at
stops_at_none Start = tt
stops_at_none (Packets magic link_type) = tt
stops_at_none (Blocks order interfaces) = tt

some_octets : (context : Context) (octets : List ℕ) → (Stops (judgement_at context octets) → ⊥) → 0 < length octets
some_octets context [] goes = absurd (goes (stops_at_none context))
some_octets context (x ∷ octets) goes = omega arith

abbrev ReadIn : ℕ → Context → List ℕ → Type 0
ReadIn items context octets = (packets : List Recorded) × (ending : Ending) × IsReadIn items context octets packets ending

-- what is behind an item has fewer octets
left_behind : (context : Context) (octets : List ℕ) (len : ℕ) → 0 < len → (Stops (judgement_at context octets) → ⊥) → length (drop len octets) < length octets
left_behind context octets len some goes =
    let left = length-drop len octets in
    let there = some_octets context octets goes in omega arith

by_judgement : (items : ℕ) (context : Context) (octets : List ℕ) (judgement : Judgement) → judgement_at context octets ≡ judgement → IsLonger 0 judgement
    → ((after : Context) (rest : List ℕ) → length rest < length octets → ReadIn items after rest) → ReadIn (suc items) context octets
by_judgement items context octets End is some behind =
    ([], Whole, subst (λ (j : Judgement). IsReadBy (λ to rest these. IsReadIn items to rest these Whole) context octets [] Whole j) (sym is) (refl, refl))
by_judgement items context octets (Refused kind) is some behind =
    let ending = ending_at context kind in
    ([], ending, subst (λ (j : Judgement). IsReadBy (λ to rest these. IsReadIn items to rest these ending) context octets [] ending j) (sym is) (refl, refl))
by_judgement items context octets (Passed len after) is some behind =
    let (packets, ending, held) = behind after (drop len octets) (left_behind context octets len some (λ stops. subst Stops is stops)) in
    (packets, ending, subst (λ (j : Judgement). IsReadBy (λ to rest these. IsReadIn items to rest these ending) context octets packets ending j) (sym is) held)
by_judgement items context octets (Told len packet) is some behind =
    let (packets, ending, held) = behind context (drop len octets) (left_behind context octets len some (λ stops. subst Stops is stops)) in (
      packet ∷ packets,
      ending,
      subst (λ (j : Judgement). IsReadBy (λ to rest these. IsReadIn items to rest these ending) context octets (packet ∷ packets) ending j) (sym is) (packets, refl, held),
    )

some_in : (items : ℕ) (context : Context) (octets : List ℕ) → length octets < items → ReadIn items context octets
some_in zero context octets few = absurd (omega (arith, few))
some_in (suc items) context octets few =
    by_judgement items context octets (judgement_at context octets) refl
    (judgement_holds (λ (j : Judgement). IsLonger 0 j) context octets (λ len least. longer 0 len (omega arith)))
    (λ after rest fewer. some_in items after rest (omega arith))

pub some_reading : SomeReading
some_reading context octets =
    let (packets, ending, held) = some_in (suc (length octets)) context octets (omega arith) in
    (packets, ending, (suc (length octets), held))
