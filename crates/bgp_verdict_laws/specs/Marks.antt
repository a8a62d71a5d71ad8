-- What the object of a line leaves out of a text: the two octets that it begins with.
use Rattle.std.specs.Prelude.{◌≡◌, ◌⊎◌, ◌++◌, ◌<◌, ℕ, Bool, List, [], Option, IsTrue, codes}
use Rattle.std.specs.Prelude.{is_some, length}
use Rattle.bgp_machine.specs.declared.fsm.Fsm.{Fsm}
use Rattle.bgp_parts.specs.UpdateParts.{Part}
use Rattle.bgp_update.specs.declared.subcodes.Subcodes.{Subcodes}
use Rattle.bgp_why.specs.Items.{has_update_error}
use Rattle.bgp_why_parts.specs.declared.own_faults.OwnFaults.{OwnFaults}
use Rattle.bgp_why.specs.Applying.{update_asks}
use Rattle.bgp_why.specs.Asked.{asked_text}
use Rattle.bgp_why.specs.Lacks.{but_text}
use Rattle.bgp_why.specs.declared.applying.Applying.{Applying}
use Rattle.bgp_why.specs.declared.asked.Received.{Received}
use Rattle.bgp_why.specs.declared.items.Item.{Item}
use Rattle.bgp_why.specs.declared.lacks.Lacks.{Lacks}

-- it is this mark and what is said behind it
pub record IsBehind (mark text : List ℕ) : Type 0 where
  pub said : List ℕ
  pub is_its : text ≡ mark ++ said
  pub some : 0 < length said

-- or nothing
abbrev pub IsBehindIfAny : List ℕ → List ℕ → Type 0
IsBehindIfAny mark text = (text ≡ []) ⊎ IsBehind mark text

-- what a message asks for
abbrev pub AsksAreMarked : Type 0
AsksAreMarked =
    (is_free : Bool) (state : Fsm) (message : Received)
    → IsBehindIfAny (codes ": ") (asked_text is_free state message)

-- what an UPDATE asks for of which something may become: it is applied or refused
abbrev pub HasOutcome : Option Applying → Subcodes → Type 0
HasOutcome applied refused = IsTrue (is_some applied) ⊎ IsTrue (has_update_error refused)

abbrev pub UpdateAsksAreMarked : Type 0
UpdateAsksAreMarked =
    (applied : Option Applying) (refused : Subcodes) (parts : List Part)
    → HasOutcome applied refused → IsBehind (codes ": ") (update_asks applied refused parts)

-- what a record lacks of an item
abbrev pub IsLackMarked : {X : Type 0} → Lacks X → Type 0
IsLackMarked lacks =
    (faults : Option OwnFaults) (item : Item)
    → IsBehindIfAny (codes "; ") (but_text faults lacks item)
