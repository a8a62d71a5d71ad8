-- The AS number of an end, by the OPEN that it sent.
use Rattle.std.specs.Prelude.{◌≡◌, ℕ, List, Option}
use Rattle.bgp_prefix.specs.Shown.{ShownRecord}
use Rattle.bgp_check.specs.Answered.{number_of}
use Rattle.bgp_parts.specs.Opens.{HasOwnOpen}

-- that in the first well-formed OPEN that it sent, if it sent one
abbrev pub HasAsNumber : List ShownRecord → Option ℕ → Type 0
HasAsNumber records number =
    (own : Option (List ℕ)) × HasOwnOpen records own × (number ≡ number_of own)
