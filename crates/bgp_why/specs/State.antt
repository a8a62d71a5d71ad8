-- The state that the records tell, and what was sent already.
use Rattle.std.specs.Prelude.{◌++◌, ◌==◌, ℕ, List, [], Option, None, Some, codes, if◌then◌else◌}
use Rattle.bgp_machine.specs.declared.fsm.Fsm.{Fsm}
use Rattle.bgp_machine.specs.State.{number_of}
use Rattle.bgp_why_parts.specs.NamesStates.{state_name}
use Rattle.std.specs.Fmt.{decimal}
use Rattle.bgp_why_parts.specs.Codes.{full_code_text}
use Rattle.bgp_why.specs.declared.place.Place.{Place}
use Rattle.bgp_why.specs.declared.state.SentAlready.{SentAlready}
use Rattle.bgp_why.specs.Place.{place_at}

-- the record that shows the change to it, if there is one
abbrev pub since_text : ℕ → Option Place → List ℕ
since_text first None = []
since_text first (Some place) = codes " since " ++ place_at first place

-- the state after the last change, Idle if there was none
unfoldable pub state_line : ℕ → Fsm → Option Place → List ℕ
state_line first state since =
    codes "  state: " ++ (state_name (number_of state) ++ (since_text first since ++ codes "\n"))

-- the NOTIFICATION that was sent before the impossible one, if one was
unfoldable pub sent_line : ℕ → SentAlready → List ℕ
sent_line first sent =
    codes "  note: it had sent NOTIFICATION " ++ (full_code_text sent.code sent.subcode
    ++ (codes " already, at " ++ (place_at first sent.place ++ codes "\n")))

abbrev pub already_line : ℕ → Option SentAlready → List ℕ
already_line first None = []
already_line first (Some sent) = sent_line first sent

-- an AS number, and whether it is AS_TRANS (RFC 6793, 9)
abbrev pub as_text : ℕ → List ℕ
as_text number = decimal number ++ (if number == 23456 then codes " (AS_TRANS)" else [])

-- the configuration that the lines below are about has any other AS number of the peer
unfoldable pub another_as_line : ℕ → List ℕ
another_as_line number =
    codes "  the lines below are for a router configured for a peer in another AS than "
    ++ (as_text number ++ codes "\n")
