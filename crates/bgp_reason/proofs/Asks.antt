-- What is asked about: an UPDATE that is written; a state at a time.
use Rattle.std.proofs.Common.{◌≡◌, ◌↔◌, ℕ, IsTrue, List, [], ◌++◌, append_assoc}
use Rattle.byteorder.specs.Endian.{big_bytes}
use Rattle.bgp_wire.specs.Header.{header_octets}
use Rattle.bgp_wire.specs.Message.{message_octets}
use Rattle.bgp_machine.specs.Laws.{empty_update}
use Rattle.bgp_machine.specs.declared.fsm.Fsm.{Fsm}
use Rattle.bgp_machine.specs.declared.fsm.Fsm.TheVariants as fsms
use Rattle.bgp_reason.specs.declared.kinds.States.{States}
use Rattle.bgp_reason.specs.Possible.{HasState}

pub empty_written : (old : List ℕ) → old ≡ [] → ((old ++ header_octets 2 23) ++ big_bytes 2 0) ++ big_bytes 2 0 ≡ empty_update
unfolding message_octets
empty_written old e = rw e (append_assoc (header_octets 2 23) (big_bytes 2 0) (big_bytes 2 0))

pub each_state : (P : Fsm → Type 0) (states : States) → (IsTrue states.idle ↔ P fsms.Idle) → (IsTrue states.connect ↔ P fsms.Connect) → (IsTrue states.active ↔ P fsms.Active)
    → (IsTrue states.open_sent ↔ P fsms.OpenSent) → (IsTrue states.open_confirm ↔ P fsms.OpenConfirm) → (IsTrue states.established ↔ P fsms.Established)
    → (fsm : Fsm) → HasState states fsm ↔ P fsm
each_state P states a b c d e f fsms.Idle = a
each_state P states a b c d e f fsms.Connect = b
each_state P states a b c d e f fsms.Active = c
each_state P states a b c d e f fsms.OpenSent = d
each_state P states a b c d e f fsms.OpenConfirm = e
each_state P states a b c d e f fsms.Established = f
