-- Configurations' parts are the same where each field is; so is what `speak` is told, and what is
-- told of a recording.
use Rattle.std.proofs.Common.{rules, ◌≡◌, ◌∙◌, Bool, true, false, List, Option, Some, None, Result, Ok, Err, refl, sym, subst}
use Rattle.std.proofs.lemmas.Bool.{false≢true}
use Rattle.std.specs.Prelude.{◌↔◌, IfNone, IfSome, IsOkAnd, IsTrue}
use Rattle.std.specs.Option.{ok_or}
use Rattle.clap.specs.Words.{Row}
use Rattle.bgp_prefix.specs.declared.session.RouteRefresh.{RouteRefresh}
use Rattle.bgp_open.specs.Config.{IsConfig}
use Rattle.bgp_open.specs.declared.config.Config.{Config}
use Rattle.bgp_open.specs.declared.config.ConfigParts.{ConfigParts}
use Rattle.bgp_words.specs.Settings.{AreParts}
use Rattle.bgp_import.specs.declared.options.RecordingOptions.{RecordingOptions}
use Rattle.bgp_talk.specs.declared.options.Speaking.{Speaking}

pub same_parts : (p q : ConfigParts) → p.local_as ≡ q.local_as → p.peer_as ≡ q.peer_as → p.local_id ≡ q.local_id
    → p.hold ≡ q.hold → p.families ≡ q.families → p.as4 ≡ q.as4 → p.delay_open ≡ q.delay_open
    → p.large_hold ≡ q.large_hold → p.session ≡ q.session → p.offers ≡ q.offers → p ≡ q
same_parts p q local_as peer_as local_id hold families as4 delay_open large_hold session offers = search rules

pub same_speaking : (p q : Speaking) → p.start ≡ q.start → p.next_hop4 ≡ q.next_hop4 → p.next_hop6 ≡ q.next_hop6
    → p.announce ≡ q.announce → p.cleared ≡ q.cleared → p.turns ≡ q.turns → p.quiet ≡ q.quiet → p ≡ q
same_speaking p q start next_hop4 next_hop6 announce cleared turns quiet = search rules

-- two truths of one sentence
pub same_truth : {P : Type 0} (a b : Bool) → (IsTrue a ↔ P) → (IsTrue b ↔ P) → a ≡ b
same_truth true true one other = refl
same_truth false false one other = refl
same_truth true false one other = absurd (false≢true (other.1 (one.0 refl)))
same_truth false true one other = absurd (false≢true (one.1 (other.0 refl)))

pub same_recording : (p q : RecordingOptions) → p.port ≡ q.port → p.local_port ≡ q.local_port → p.connection ≡ q.connection
    → p.within ≡ q.within → p ≡ q
same_recording p q port local_port connection within = search rules

-- the configuration of parts that were read
pub config_read : {E : Type 0} (rows : List Row) (refresh : RouteRefresh) (parts : ConfigParts)
    → ((p : ConfigParts) → (parts ≡ p) ↔ AreParts p refresh rows)
    → (o : Option Config) → IfSome o (λ config. config.parts ≡ parts) → IfNone o (¬ IsConfig parts)
    → (e : E) (r : Result Config E) → r ≡ ok_or o e
    → (config : Config) → IsOkAnd r (λ it. it.parts ≡ config.parts) ↔ AreParts config.parts refresh rows
config_read rows refresh parts reads (Some made) some none e r same config =
    let there : r ≡ Ok made = same in (
      λ is. (reads config.parts).0 (sym some ∙ subst (λ (x : Result Config _). IsOkAnd x (λ it. it.parts ≡ config.parts)) there is),
      λ are. subst (λ (x : Result Config _). IsOkAnd x (λ it. it.parts ≡ config.parts)) (sym there) (some ∙ (reads config.parts).1 are),
    )
config_read rows refresh parts reads None some none e r same config =
    let there : r ≡ Err e = same in (
      λ is. absurd (subst (λ (x : Result Config _). IsOkAnd x (λ it. it.parts ≡ config.parts)) there is),
      λ are. absurd (none (subst IsConfig (sym ((reads config.parts).1 are)) config.valid)),
    )
