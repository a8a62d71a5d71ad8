-- The longest front of records after which Established is told.
use Rattle.std.specs.Prelude.{◌≡◌, ◌⊎◌, ◌<◌, ◌≤◌, ℕ, List, length, take}
use Rattle.bgp_prefix.specs.Shown.{ShownRecord}
use Rattle.bgp_machine.specs.declared.fsm.Fsm.{Fsm}
use Rattle.bgp_machine.specs.declared.fsm.Fsm.TheVariants as fsms
use Rattle.bgp_judge.specs.Told.{told}

abbrev pub TellsEstablished : List ShownRecord → Type 0
TellsEstablished records = (told records).fsm ≡ fsms.Established

-- it has this length, or there is none
pub record IsLastTold (records : List ShownRecord) (count : ℕ) : Type 0 where
  pub is_front : count ≤ length records
  pub tells : (count ≡ 0) ⊎ TellsEstablished (take count records)
  pub is_last : (n : ℕ) → count < n → n ≤ length records → ¬ TellsEstablished (take n records)

-- one record more tells this state: so many are told then
abbrev pub last_with : ℕ → ℕ → Fsm → ℕ
last_with last count fsms.Established = count
last_with last count state = last
