-- What a peer does on an UPDATE that was written, and that it is clean (RFC 7606, 2).
use Rattle.std.specs.Prelude.{◌≡◌, ◌↔◌, ℕ, List, [], All}
use Rattle.bgp_wire.specs.Header.{limit_with}
use Rattle.bgp_wire.specs.Framing.{IsFrame}
use Rattle.bgp_prefix.specs.Prefix.{IsPrefix}
use Rattle.bgp_open.specs.declared.link.Link.{Link}
use Rattle.bgp_path.specs.Fit.{IsFit}
use Rattle.bgp_update.specs.Changes.{RouteChanges, routes_with}
use Rattle.bgp_update.specs.Clean.{IsClean}
use Rattle.bgp_open.specs.Families.{no_families}
use Rattle.bgp_update.specs.Laws.{IsReceiver}
use Rattle.bgp_update.specs.Outcome.{Outcome, Applied, IsOutcome}
use Rattle.bgp_update.specs.Plain.{all_plain}
use Rattle.bgp_update_writer.specs.Refusals.{IsFamilyUsed, IsSendable, IsTooLarge}
use Rattle.bgp_update_writer.specs.Update.{UpdateValue, Announces, Withdraws}
use Rattle.bgp_update_writer.specs.Written.{update_octets}

-- the prefixes, without identifiers, are put with the path, or removed
abbrev pub changes_of_update : UpdateValue → RouteChanges
changes_of_update (Announces family prefixes path) =
    record { remove = []; put = routes_with path (all_plain prefixes) }
changes_of_update (Withdraws family prefixes) =
    record { remove = all_plain prefixes; put = [] }

-- wherever what is sent over the link is received, the one outcome is to apply those changes, with
-- nothing disabled
abbrev pub IsJustApplied : Link → List ℕ → RouteChanges → Type 0
IsJustApplied link octets changes =
    (receiver : Link) → IsReceiver link receiver
    → (outcome : Outcome)
    → IsOutcome receiver octets outcome ↔ (outcome ≡ Applied changes no_families)

-- the numbers have no more octets than a message has for them, which holds of each `Update`
abbrev pub IsFitUpdate : UpdateValue → Type 0
IsFitUpdate (Announces family prefixes path) = All IsPrefix prefixes × IsFit path
IsFitUpdate (Withdraws family prefixes) = All IsPrefix prefixes

-- what is written is a clean UPDATE, which is applied as it is meant, and a whole frame of the
-- link's limit
abbrev pub WritesWhatIsApplied : Type 0
WritesWhatIsApplied =
    (link : Link) (value : UpdateValue)
    → IsFitUpdate value → IsFamilyUsed link value → IsSendable link value
    → ¬ IsTooLarge link value
    → IsClean link (update_octets link value)
    × IsJustApplied link (update_octets link value) (changes_of_update value)
    × IsFrame (limit_with link.extended) (update_octets link value)
