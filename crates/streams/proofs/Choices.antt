-- Which connection is asked for, by those that are held.
use Rattle.std.proofs.Common.{◌≡◌, ◌<◌, ◌≤◌, ◌-◌, ◌∙◌, ℕ, Some, None, Option, List, [], ◌∷◌, refl, sym, ap, arith, zero, suc, inl, inr, length, get_or, Ok, Err, subst}
use Rattle.std.specs.List.{slice_get}
use Rattle.std.specs.Option.{unwrap_or}
use Rattle.std.proofs.lemmas.Bool.{lt-ltb, le-leb, lt-leb}
use Rattle.streams.specs.declared.fault.Fault.{Fault}
use Rattle.streams.specs.declared.fault.Fault.TheVariants as faults
use Rattle.streams.specs.declared.gathering.Gathering.{Gathering}
use Rattle.streams.specs.Passed.{Segment}
use Rattle.streams.specs.Held.{IsOne, AreEach}
use Rattle.streams.specs.declared.connection.Connection.{Connection}
use Rattle.streams.specs.Gatherings.{refusal_in, Shows}
use Rattle.streams.specs.Choice.{chosen_of, first_packet, numbered_one, refusal_of, IsAnswered, IsRefused, Tells}
use Rattle.streams.proofs.Choosing.{refused_is, told_is}

-- a connection that is held at a place is told by the segments at that place
pub held_at : {Z : Type 0} (cs : List (List Segment)) (gs : List (Gathering Z)) (i : ℕ) (g : Gathering Z) → AreEach cs gs → Some g ≡ slice_get gs i → IsOne (get_or cs i []) g × (i < length cs)
held_at [] [] i g each h = absurd (grind arith)
held_at [] (x ∷ gs) i g each h = absurd each
held_at (c ∷ cs) [] i g each h = absurd each
held_at (c ∷ cs) (x ∷ gs) zero g each h =
    let e : x ≡ g = cc in
    (subst (IsOne c) e each.0, omega arith)
held_at (c ∷ cs) (x ∷ gs) (suc i) g each h =
    let rest = held_at cs gs i g each.1 h in
    (rest.0, omega (arith, rest.1))

pub held_none : {Z : Type 0} (cs : List (List Segment)) (gs : List (Gathering Z)) (i : ℕ) → AreEach cs gs → None ≡ slice_get gs i → length cs ≤ i
held_none [] [] i each h = omega arith
held_none [] (x ∷ gs) i each h = absurd each
held_none (c ∷ cs) [] i each h = absurd each
held_none (c ∷ cs) (x ∷ gs) zero each h = absurd (grind arith)
held_none (c ∷ cs) (x ∷ gs) (suc i) each h = omega (arith, held_none cs gs i each.1 h)

number_chosen : (n last : ℕ) (cs : List (List Segment)) → 0 < n → n - 1 < length cs → chosen_of (Some n) last cs ≡ Ok n
number_chosen n last cs some within = rw (lt-ltb 0 n some, le-leb n (length cs) (omega arith))

number_missing : (n last : ℕ) (cs : List (List Segment)) → 0 < n → length cs ≤ n - 1 → chosen_of (Some n) last cs ≡ Err (faults.NoConnection last)
number_missing n last cs some past = rw (lt-ltb 0 n some, lt-leb n (length cs) (omega arith))

only_chosen : (last : ℕ) (cs : List (List Segment)) → 0 < length cs → length cs ≤ 1 → chosen_of None last cs ≡ Ok 1
only_chosen last [] some one = absurd (omega arith)
only_chosen last (c ∷ []) some one = refl
only_chosen last (c ∷ d ∷ cs) some one = absurd (omega arith)

none_chosen : (last : ℕ) (cs : List (List Segment)) → length cs ≤ 0 → chosen_of None last cs ≡ Err (faults.NoConnection last)
none_chosen last [] h = refl
none_chosen last (c ∷ cs) h = absurd (omega arith)

packet_is : {Z : Type 0} (segments : List Segment) (g : Gathering Z) → IsOne segments g → first_packet segments ≡ g.packet
packet_is [] g one = absurd one
packet_is (s ∷ before) g one = sym one.0.packet

several_chosen : {Z : Type 0} (last : ℕ) (cs : List (List Segment)) (gs : List (Gathering Z)) (g : Gathering Z) → AreEach cs gs → Some g ≡ slice_get gs 1 → chosen_of None last cs ≡ Err (faults.Several g.packet)
several_chosen last [] [] g each h = absurd (grind arith)
several_chosen last [] (x ∷ gs) g each h = absurd each
several_chosen last (c ∷ cs) [] g each h = absurd each
several_chosen last (c ∷ []) (x ∷ []) g each h = absurd (grind arith)
several_chosen last (c ∷ []) (x ∷ y ∷ gs) g each h = absurd each.1
several_chosen last (c ∷ d ∷ cs) (x ∷ []) g each h = absurd each.1
several_chosen last (c ∷ d ∷ cs) (x ∷ y ∷ gs) g each h =
    let e : y ≡ g = cc in
    ap (λ (p : ℕ). Err (faults.Several p)) (packet_is d g (subst (IsOne d) e each.1.0))

chosen_some : (number : Option ℕ) (wanted last : ℕ) (cs : List (List Segment)) → wanted ≡ unwrap_or number 1 → (wanted ≡ 0 → ⊥) → wanted - 1 < length cs → (number ≡ None → length cs ≤ 1) → chosen_of number last cs ≡ Ok wanted
chosen_some None wanted last cs e some within one = only_chosen last cs (omega arith) (one refl) ∙ ap (λ (k : ℕ). Ok k) (sym e)
chosen_some (Some n) wanted last cs e some within one = number_chosen n last cs (omega (arith, e, some)) (omega (arith, e, within)) ∙ ap (λ (k : ℕ). Ok k) (sym e)

chosen_none : (number : Option ℕ) (wanted last : ℕ) (cs : List (List Segment)) → wanted ≡ unwrap_or number 1 → (wanted ≡ 0 → ⊥) → length cs ≤ wanted - 1 → chosen_of number last cs ≡ Err (faults.NoConnection last)
chosen_none None wanted last cs e some past = none_chosen last cs (omega (arith, e, past))
chosen_none (Some n) wanted last cs e some past = number_missing n last cs (omega (arith, e, some)) (omega (arith, e, past))

-- the connection asked for, where it is the only one or is named
taken : {Z : Type 0} (number : Option ℕ) (wanted last : ℕ) (cs : List (List Segment)) (gs : List (Gathering Z)) (g : Gathering Z) → AreEach cs gs
    → wanted ≡ unwrap_or number 1 → (wanted ≡ 0 → ⊥) → Some g ≡ slice_get gs (wanted - 1) → (number ≡ None → None ≡ slice_get gs 1)
    → chosen_of number last cs ≡ Ok wanted
taken number wanted last cs gs g each e some found one =
    chosen_some number wanted last cs e some (held_at cs gs (wanted - 1) g each found).1 (λ none. held_none cs gs 1 each (one none))

-- it is told
pub answered : {Z : Type 0} (number : Option ℕ) (wanted last : ℕ) (cs : List (List Segment)) (gs : List (Gathering Z)) (g : Gathering Z) (connection : Connection) → AreEach cs gs
    → wanted ≡ unwrap_or number 1 → (wanted ≡ 0 → ⊥) → Some g ≡ slice_get gs (wanted - 1) → (number ≡ None → None ≡ slice_get gs 1)
    → None ≡ refusal_in g → Shows wanted g connection → IsAnswered number last cs connection
answered number wanted last cs gs g connection each e some found one fine shows =
    let held = held_at cs gs (wanted - 1) g each found in
    let at : connection.number ≡ wanted = shows.number in
    record {
      chosen = taken number wanted last cs gs g each e some found one ∙ ap (λ (n : ℕ). Ok n) (sym at);
      fine = ap (λ (n : ℕ). refusal_of (numbered_one cs n)) at ∙ sym (refused_is (numbered_one cs wanted) g held.0) ∙ sym fine;
      tells = subst (λ (n : ℕ). Tells (numbered_one cs n) connection) (sym at) (told_is wanted (numbered_one cs wanted) g connection held.0 (sym fine) shows);
    }

-- it is refused
pub refused : {Z : Type 0} (number : Option ℕ) (wanted last : ℕ) (cs : List (List Segment)) (gs : List (Gathering Z)) (g : Gathering Z) (fault : Fault) → AreEach cs gs
    → wanted ≡ unwrap_or number 1 → (wanted ≡ 0 → ⊥) → Some g ≡ slice_get gs (wanted - 1) → (number ≡ None → None ≡ slice_get gs 1)
    → Some fault ≡ refusal_in g → IsRefused number last cs fault
refused number wanted last cs gs g fault each e some found one is =
    let held = held_at cs gs (wanted - 1) g each found in
    inr (wanted, taken number wanted last cs gs g each e some found one, sym (refused_is (numbered_one cs wanted) g held.0) ∙ sym is)

-- none is named, and there is a second
pub several : {Z : Type 0} (number : Option ℕ) (last : ℕ) (cs : List (List Segment)) (gs : List (Gathering Z)) (g : Gathering Z) → AreEach cs gs
    → number ≡ None → Some g ≡ slice_get gs 1 → IsRefused number last cs (faults.Several g.packet)
several number last cs gs g each none found =
    inl (ap (λ (n : Option ℕ). chosen_of n last cs) none ∙ several_chosen last cs gs g each found)

-- none has this number
pub missed : {Z : Type 0} (number : Option ℕ) (wanted last : ℕ) (cs : List (List Segment)) (gs : List (Gathering Z)) → AreEach cs gs
    → wanted ≡ unwrap_or number 1 → (wanted ≡ 0 → ⊥) → None ≡ slice_get gs (wanted - 1) → IsRefused number last cs (faults.NoConnection last)
missed number wanted last cs gs each e some gone =
    inl (chosen_none number wanted last cs e some (held_none cs gs (wanted - 1) each gone))
