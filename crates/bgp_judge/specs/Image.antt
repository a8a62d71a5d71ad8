-- The image of members under one record: what all of them become, and nothing else.
use Rattle.std.specs.Prelude.{◌≡◌, ◌⊎◌}
use Rattle.bgp_prefix.specs.Shown.{ShownRecord}
use Rattle.bgp_open.specs.declared.config.Config.{Config}
use Rattle.bgp_machine.specs.Run.{Silent}
use Rattle.bgp_judge.specs.Member.{Member, IsFree}
use Rattle.bgp_judge.specs.Next.{Next}

-- The first member covers the second, so that this one needn't be kept: they are one; or both have
-- nothing left to show, and steps that show nothing lead from the first to the second.
abbrev pub Covers : Config → Member → Member → Type 0
Covers config m other =
    (m ≡ other) ⊎ (IsFree m × IsFree other × Silent config m.state other.state)

-- The new members are the image of the old ones under the record. It adds no member: each new one
-- is what some old one becomes. And it loses none: what an old one becomes, a new one covers.
pub record IsImage (config : Config) (shown : ShownRecord) (IsOld IsNew : Member → Type 0)
    : Type 0 where
  pub sound : (m2 : Member) → IsNew m2 → (m : Member) × IsOld m × Next config shown m m2
  pub whole : (m m2 : Member) → IsOld m → Next config shown m m2
      → (m3 : Member) × IsNew m3 × Covers config m3 m2
