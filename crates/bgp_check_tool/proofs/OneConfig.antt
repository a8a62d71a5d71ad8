-- Two configurations with the same parts are one.
use Rattle.std.proofs.Common.{◌≡◌, subst}
use Rattle.std.specs.Coded.{le_prop}
use Rattle.bgp_open.specs.Config.{IsConfig, AreNumbers}
use Rattle.bgp_open.specs.declared.config.Config.{Config}
use Rattle.bgp_open.specs.declared.config.ConfigParts.{ConfigParts}

one_valid : (parts : ConfigParts) → IsProp (IsConfig parts)
one_valid parts = hlevel

one_fits : (parts : ConfigParts) → IsProp (AreNumbers parts)
one_fits parts = hlevel le_prop

abbrev with_facts : (parts : ConfigParts) → IsConfig parts → AreNumbers parts → Config
with_facts parts valid fits = record { parts = parts; valid = valid; fits = fits }

with_parts : (config : Config) (valid : IsConfig config.parts) (fits : AreNumbers config.parts) → config ≡ with_facts config.parts valid fits
with_parts config valid fits = λ i. with_facts config.parts (one_valid config.parts config.valid valid i) (one_fits config.parts config.fits fits i)

pub one_config : (a b : Config) → a.parts ≡ b.parts → a ≡ b
one_config a b same =
    subst (λ (parts : ConfigParts). (valid : IsConfig parts) (fits : AreNumbers parts) → a ≡ with_facts parts valid fits) same (with_parts a) b.valid b.fits
