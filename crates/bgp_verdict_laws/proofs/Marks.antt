-- Texts that stand behind a mark.
use Rattle.std.proofs.Common.{◌≡◌, ◌++◌, ◌&&◌, ◌<◌, ℕ, Bool, true, false, List, [], ◌∷◌, Option, None, Some, IsTrue, ap, arith, codes, if◌then◌else◌, inl, inr, length, map, refl}
use Rattle.bgp_machine.specs.declared.fsm.Fsm.{Fsm}
use Rattle.bgp_machine.specs.declared.fsm.Fsm.TheVariants as states
use Rattle.bgp_parts.specs.UpdateParts.{shown_part}
use Rattle.bgp_update.specs.declared.subcodes.Subcodes.{Subcodes}
use Rattle.bgp_why_parts.specs.Cut.{cut}
use Rattle.bgp_why_parts.specs.Notifications.{notification_parts_text}
use Rattle.bgp_why_parts.specs.Opens.{open_parts_text}
use Rattle.bgp_why_parts.specs.OwnFaults.{as_piece, hold_piece, id_piece}
use Rattle.bgp_why_parts.specs.Updates.{update_parts_text}
use Rattle.bgp_why_parts.specs.Parts.{behind, shown, shown_update}
use Rattle.bgp_why_parts.specs.Pieces.{separated}
use Rattle.bgp_why_parts.specs.declared.own_faults.OwnFaults.{OwnFaults}
use Rattle.bgp_why.specs.Items.{has_update_error}
use Rattle.bgp_why.specs.Errors.{update_errors_text}
use Rattle.bgp_why.specs.Applying.{applied_piece, applied_text, disabled_text, may_disable, or_else, outcomes_text, refused_piece, these}
use Rattle.bgp_why.specs.Asked.{keepalive_text, link_text, update_text}
use Rattle.bgp_why.specs.Lacks.{lacks_text, resembles}
use Rattle.bgp_why.specs.declared.applying.Applying.{Applying}
use Rattle.bgp_why.specs.declared.asked.Received.TheVariants as messages
use Rattle.bgp_why.specs.declared.lacks.Lacks.{Lacks}
use Rattle.bgp_why.specs.declared.lacks.Lacks.TheVariants as lacked
use Rattle.bgp_verdict_laws.specs.Marks.{AsksAreMarked, HasOutcome, IsBehindIfAny, IsLackMarked, UpdateAsksAreMarked}

-- ---- what a message asks for

abbrev IsAsked : List ℕ → Type 0
IsAsked text = IsBehindIfAny (codes ": ") text

keepalive_marked : (state : Fsm) → IsAsked (keepalive_text state)
keepalive_marked states.Idle = inr (record { said = _; is_its = refl; some = omega arith })
keepalive_marked states.Connect = inr (record { said = _; is_its = refl; some = omega arith })
keepalive_marked states.Active = inr (record { said = _; is_its = refl; some = omega arith })
keepalive_marked states.OpenSent = inr (record { said = _; is_its = refl; some = omega arith })
keepalive_marked states.OpenConfirm = inl refl
keepalive_marked states.Established = inl refl

update_marked : (state : Fsm) → IsAsked (update_text state)
update_marked states.Idle = inr (record { said = _; is_its = refl; some = omega arith })
update_marked states.Connect = inr (record { said = _; is_its = refl; some = omega arith })
update_marked states.Active = inr (record { said = _; is_its = refl; some = omega arith })
update_marked states.OpenSent = inr (record { said = _; is_its = refl; some = omega arith })
update_marked states.OpenConfirm = inr (record { said = _; is_its = refl; some = omega arith })
update_marked states.Established = inl refl

pub asks_marked : AsksAreMarked
unfolding link_text
asks_marked is_free state messages.FaultyHeader = inl refl
asks_marked is_free state (messages.ValidOpen link) = inr (record { said = _; is_its = refl; some = omega arith })
asks_marked is_free state (messages.InvalidOpen reasons) = inr (record { said = _; is_its = refl; some = omega arith })
asks_marked is_free state messages.Update = update_marked state
asks_marked is_free state messages.Keepalive = keepalive_marked state
asks_marked is_free state messages.Notification = inr (record { said = _; is_its = refl; some = omega arith })

-- ---- what an UPDATE asks for

-- there is a piece
abbrev HasPiece : List (Option (List ℕ)) → Type 0
HasPiece [] = ⊥
HasPiece (None ∷ pieces) = HasPiece pieces
HasPiece (Some piece ∷ pieces) = Unit {0}

later : (piece : Option (List ℕ)) (pieces : List (Option (List ℕ))) → HasPiece pieces → HasPiece (piece ∷ pieces)
later None pieces has = has
later (Some piece) pieces has = tt

front : (pieces : List (Option (List ℕ))) → HasPiece pieces → (said : List ℕ) × (separated or_else (codes ": ") pieces ≡ codes ": " ++ said)
front [] has = absurd has
front (None ∷ pieces) has = front pieces has
front (Some piece ∷ pieces) has = (piece ++ separated or_else or_else pieces, refl)

-- the families that are certainly disabled may be
one_of_four : (a b c d : List ℕ) (r : Option (List ℕ)) (v4 v6 o4 o6 : Bool)
    → HasPiece ((if may_disable v4 o4 false && may_disable v6 o6 false then Some a else None) ∷ (if may_disable v4 o4 true && may_disable v6 o6 false then Some b else None)
    ∷ (if may_disable v4 o4 false && may_disable v6 o6 true then Some c else None) ∷ (if may_disable v4 o4 true && may_disable v6 o6 true then Some d else None) ∷ r ∷ [])
one_of_four a b c d r false false o4 o6 = tt
one_of_four a b c d r true false o4 o6 = tt
one_of_four a b c d r false true false o6 = tt
one_of_four a b c d r false true true o6 = tt
one_of_four a b c d r true true o4 o6 = tt

refused_has : (refused : Subcodes) (others : List ℕ) → (b : Bool) → IsTrue b → HasPiece ((if b then Some others else None) ∷ [])
refused_has refused others true is = tt
refused_has refused others false is = absurd (let e : false ≡ true = is in (let k : ⊥ = cc in k))

outcome_front : (applied : Option Applying) (refused : Subcodes) → HasOutcome applied refused → (said : List ℕ) × (outcomes_text applied refused ≡ codes ": " ++ said)
outcome_front (Some a) refused has =
    let text = applied_text a.as_withdrawal in
    front
    (applied_piece (Some a) (these false false) ∷ applied_piece (Some a) (these true false) ∷ applied_piece (Some a) (these false true) ∷ applied_piece (Some a) (these true true)
    ∷ refused_piece refused ∷ [])
    (one_of_four (text ++ disabled_text (these false false)) (text ++ disabled_text (these true false)) (text ++ disabled_text (these false true)) (text ++ disabled_text (these true true))
    (refused_piece refused) a.certain.v4 a.certain.v6 a.optional.v4 a.optional.v6)
outcome_front None refused (inl none) = absurd (let e : false ≡ true = none in (let k : ⊥ = cc in k))
outcome_front None refused (inr has) = front (refused_piece refused ∷ []) (refused_has refused (codes "to be refused with NOTIFICATION " ++ update_errors_text refused) (has_update_error refused) has)

some_behind : (text : List ℕ) (x : ℕ) (more : List ℕ) → 0 < length (text ++ x ∷ more)
some_behind [] x more = omega arith
some_behind (y ∷ text) x more = omega arith

pub update_asks_marked : UpdateAsksAreMarked
update_asks_marked applied refused [] has = record { said = codes "without fault"; is_its = refl; some = omega arith }
update_asks_marked applied refused (part ∷ parts) has =
    let (said, is) = outcome_front applied refused has in
    let rest = codes " [RFC 7606]" ++ shown_update (codes "; faulty: ") false (part ∷ parts) in
    record {
      said = said ++ rest;
      is_its = ap (λ (t : List ℕ). t ++ rest) is;
      some = some_behind said 32 _;
    }

-- ---- what a record lacks

abbrev IsLacked : List ℕ → Type 0
IsLacked text = IsBehindIfAny (codes "; ") text

this_behind : (text : List ℕ) → IsLacked (behind (codes "; this one: ") text)
this_behind [] = inl refl
this_behind (x ∷ text) = inr (record { said = _; is_its = refl; some = omega arith })

this_one : (text : List ℕ) → IsLacked (shown (codes "; this one: ") text)
unfolding shown
this_one text = this_behind (cut text)

none_may : (pieces : List (Option (List ℕ))) → IsLacked (separated (codes " and ") (codes "; none may have ") pieces)
none_may [] = inl refl
none_may (None ∷ pieces) = none_may pieces
none_may (Some piece ∷ pieces) = inr (record { said = _; is_its = refl; some = omega arith })

lacks_marked : {X : Type 0} (faults : Option OwnFaults) (lacks : Lacks X) → IsLacked (lacks_text (codes "; this one: ") (codes "; none may have ") faults lacks)
lacks_marked faults lacked.Nothing = inl refl
lacks_marked None (lacked.Open parts) = this_one (open_parts_text parts)
lacks_marked (Some faults) (lacked.Open parts) =
    none_may (as_piece faults.as_numbers ∷ id_piece faults.id ∷ hold_piece faults.hold ∷ [])
lacks_marked faults (lacked.Update parts) = this_one (update_parts_text true (map shown_part parts.items))
lacks_marked faults (lacked.Notification code parts) = this_one (notification_parts_text code parts)

if_so : (is_so : Bool) (text : List ℕ) → IsLacked text → IsLacked (if is_so then text else [])
if_so true text is = is
if_so false text is = inl refl

pub lack_is_marked : {X : Type 0} (lacks : Lacks X) → IsLackMarked lacks
lack_is_marked lacks faults item =
    if_so (resembles lacks item) (lacks_text (codes "; this one: ") (codes "; none may have ") faults lacks) (lacks_marked faults lacks)
