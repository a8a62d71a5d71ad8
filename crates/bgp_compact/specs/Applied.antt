-- An UPDATE that is received in Established and can only be applied (RFC 4271, 9; RFC 7606, 2).
use Rattle.std.specs.Prelude.{◌≡◌, ℕ, List, [], ◌∷◌, None, Some}
use Rattle.bgp_prefix.specs.Shown.{ShownRecord, Received}
use Rattle.bgp_open.specs.declared.config.Config.{Config}
use Rattle.bgp_open.specs.declared.link.Link.{Link}
use Rattle.bgp_open.specs.Families.{no_families}
use Rattle.bgp_update.specs.declared.outcomes.Changes.{Changes}
use Rattle.bgp_update.specs.declared.outcomes.Outcomes.{Outcomes}
use Rattle.bgp_update.specs.Allowed.{changes_value}
use Rattle.bgp_update.specs.Subcodes.{HasSubcode}
use Rattle.bgp_machine.specs.declared.state.Head.{Head}
use Rattle.bgp_machine.specs.declared.state.Head.TheVariants.{Established}
use Rattle.bgp_machine.specs.declared.state.HoldTimer.{HoldTimer}
use Rattle.bgp_machine.specs.declared.step.Routes.TheVariants as routes
use Rattle.bgp_machine.specs.declared.step.Step.{Step}
use Rattle.bgp_machine.specs.declared.want.Wants.TheVariants.{Nothing}
use Rattle.bgp_machine.specs.State.{renewed}
use Rattle.bgp_judge.specs.Openings.{ListsOpenings}
use Rattle.bgp_compact.specs.declared.words.Words.{Words}
use Rattle.bgp_compact.specs.Members.{left_of, no_falls}
use Rattle.bgp_compact.specs.Parts.{IsBase}

-- one outcome alone is allowed: these changes are made, and no family is disabled
pub record OnlyApplies {X : Type 0} (outcomes : Outcomes X) (changes : Changes X) : Type 0 where
  pub changes_are : outcomes.changes ≡ Some changes
  pub none_certain : outcomes.certain ≡ no_families
  pub none_optional : outcomes.optional ≡ no_families
  pub no_reset : (n : ℕ) → ¬ HasSubcode outcomes.reset n

-- the step that makes them
abbrev pub applies : Head → Step
applies head = record {
  wants = Nothing;
  change = None;
  after = record { head = head; routes = routes.Given no_families };
}

-- the members are in Established, and have nothing left to show
pub record AreFree (words : Words) (link : Link) (timer : HoldTimer) : Type 0 where
  pub base : IsBase words (record { head = words.head; sets = words.sets })
  pub head_is : words.head ≡ Established link timer
  pub wants_are : words.wants ≡ Nothing

-- They receive the UPDATE, and it opens that step alone.
pub record IsApplied {X : Type 0} (config : Config) (words : Words) (shown : ShownRecord)
    (head : Head) (changes : Changes X) : Type 0 where
  pub link : Link
  pub timer : HoldTimer
  pub free : AreFree words link timer
  pub second : ℕ
  pub octets : List ℕ
  pub received : shown ≡ Received second octets
  pub head_is : head ≡ Established link (renewed timer second)
  pub lists : ListsOpenings config (Established link timer) (Received second octets)
      (changes_value changes) (applies head ∷ [])

-- the words behind it: no member falls that shows it next
abbrev pub words_applied : Words → Head → Words
words_applied words head = record words { left = left_of words; head = head; falls = no_falls }
