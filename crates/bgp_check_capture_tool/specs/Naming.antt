-- How a line names the local system of a session in a capture: by its address, its AS number, and,
-- if the session has several stretches, which of its records it is about.
use Rattle.std.specs.Prelude.{◌≡◌, ◌+◌, ℕ, zero, suc, List, Option, None, Some, length}
use Rattle.bgp_prefix.specs.Shown.{ShownRecord}
use Rattle.bgp_prefix.specs.declared.address.Address.{Address}
use Rattle.bgp_why.specs.declared.endpoint.Endpoint.{Endpoint}
use Rattle.bgp_check_lines.specs.AsNumber.{HasAsNumber}
use Rattle.bgp_check_lines.specs.EndName.{EndName}

-- a capture tells no port
abbrev pub endpoint_of : Address → Endpoint
endpoint_of address = record { address = address; port = None }

-- the numbers of the first and of the last of so many records, before which so many stand
abbrev pub numbers_from : ℕ → ℕ → ℕ × ℕ
numbers_from before count = (before + 1, before + count)

-- They are told of the records of a stretch, before which so many stand and which this one leaves,
-- if one does, unless that is all of its session.
abbrev pub told_part : ℕ → ℕ → Option ShownRecord → Option (ℕ × ℕ)
told_part zero count None = None
told_part zero count (Some leaving) = Some (numbers_from 0 count)
told_part (suc before) count leaving = Some (numbers_from (suc before) count)

-- that of such a stretch: the AS number is that in the OPEN that was sent
pub record IsNameOf (local : Address) (before : ℕ) (stretch : List ShownRecord)
    (leaving : Option ShownRecord) (name : EndName) : Type 0 where
  pub is_end : name.end ≡ endpoint_of local
  pub has_number : HasAsNumber stretch name.as_number
  pub is_part : name.part ≡ told_part before (length stretch) leaving
