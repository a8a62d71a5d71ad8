-- Which NOTIFICATIONs are possible, case by case (RFC 4271, 4.5 and 6; RFC 9687, 4).
use Rattle.std.specs.Prelude.{◌≡◌, ◌⊎◌, ℕ, List, IsTrue, IsSome}
use Rattle.bgp_wire.specs.declared.header.HeaderFaults.{HeaderFaults}
use Rattle.bgp_wire.specs.Verdict.{Names as NamesHeaderError, IsEmpty as HasNoHeaderError}
use Rattle.bgp_open.specs.declared.subcodes.OpenSubcodes.{OpenSubcodes}
use Rattle.bgp_open.specs.OpenSubcodes.{Names as NamesOpenError, IsEmpty as HasNoOpenError}
use Rattle.bgp_update.specs.Subcodes.{HasSubcode}
use Rattle.bgp_reason.specs.declared.kinds.FsmErrors.{FsmErrors}
use Rattle.bgp_reason.specs.declared.kinds.Possible.{Possible}
use Rattle.bgp_reason.specs.Possible.{HasFsmError}

-- the subcode is in the set, with some data
abbrev pub HasHeaderSubcode : HeaderFaults → ℕ → Type 0
HasHeaderSubcode errors subcode =
    ((subcode ≡ 1) × IsTrue errors.marker)
    ⊎ ((subcode ≡ 2) × IsSome errors.length)
    ⊎ ((subcode ≡ 3) × IsSome errors.kind)

abbrev pub HasOpenSubcode : OpenSubcodes → ℕ → Type 0
HasOpenSubcode errors subcode =
    ((subcode ≡ 0) × IsTrue errors.unspecific)
    ⊎ ((subcode ≡ 1) × IsTrue errors.version)
    ⊎ ((subcode ≡ 2) × IsTrue errors.peer_as)
    ⊎ ((subcode ≡ 3) × IsTrue errors.identifier)
    ⊎ ((subcode ≡ 4) × IsTrue errors.parameter)
    ⊎ ((subcode ≡ 6) × IsTrue errors.hold)
    ⊎ ((subcode ≡ 7) × IsTrue errors.capability)
    ⊎ ((subcode ≡ 11) × IsTrue errors.role)

-- some subcode is in the set
abbrev pub HasSomeFsmError : FsmErrors → Type 0
HasSomeFsmError errors =
    IsTrue errors.unspecified ⊎ IsTrue errors.open_sent ⊎ IsTrue errors.open_confirm
    ⊎ IsTrue errors.established

module _ (possible : Possible) where
  -- one of this code is possible
  abbrev pub IsOfCode : ℕ → Type 0
  IsOfCode code =
      ((code ≡ 1) × (¬ HasNoHeaderError possible.header_errors))
      ⊎ ((code ≡ 2) × (¬ HasNoOpenError possible.open_errors))
      ⊎ ((code ≡ 3) × ((subcode : ℕ) × HasSubcode possible.update_errors subcode))
      ⊎ ((code ≡ 4) × IsSome possible.hold_timer_expired)
      ⊎ ((code ≡ 5) × HasSomeFsmError possible.fsm_errors)
      ⊎ ((code ≡ 6) × IsTrue possible.cease)
      ⊎ ((code ≡ 8) × IsTrue possible.send_hold_timer_expired)

  -- one of this code and this subcode is
  abbrev pub IsOfSubcode : ℕ → ℕ → Type 0
  IsOfSubcode code subcode =
      ((code ≡ 1) × HasHeaderSubcode possible.header_errors subcode)
      ⊎ ((code ≡ 2) × HasOpenSubcode possible.open_errors subcode)
      ⊎ ((code ≡ 3) × HasSubcode possible.update_errors subcode)
      ⊎ ((code ≡ 4) × (subcode ≡ 0) × IsSome possible.hold_timer_expired)
      ⊎ ((code ≡ 5) × HasFsmError possible.fsm_errors subcode)
      ⊎ ((code ≡ 6) × IsTrue possible.cease)
      ⊎ ((code ≡ 8) × (subcode ≡ 0) × IsTrue possible.send_hold_timer_expired)

  -- one of this code, this subcode and these data is
  abbrev pub IsOfData : ℕ → ℕ → List ℕ → Type 0
  IsOfData code subcode detail =
      ((code ≡ 1) × NamesHeaderError possible.header_errors subcode detail)
      ⊎ ((code ≡ 2) × NamesOpenError possible.open_errors subcode detail)
      ⊎ ((code ≡ 3) × HasSubcode possible.update_errors subcode)
      ⊎ ((code ≡ 4) × (subcode ≡ 0) × IsSome possible.hold_timer_expired)
      ⊎ ((code ≡ 5) × HasFsmError possible.fsm_errors subcode)
      ⊎ ((code ≡ 6) × IsTrue possible.cease)
      ⊎ ((code ≡ 8) × (subcode ≡ 0) × IsTrue possible.send_hold_timer_expired)
