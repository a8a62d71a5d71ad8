-- The OPEN that settles a session's link: what the records tell of it.
use Rattle.std.specs.Prelude.{ℕ, List}
use Rattle.bgp_open.specs.declared.config.Config.{Config}
use Rattle.bgp_open.specs.OpenSubcodes.{IsValid}
use Rattle.bgp_machine.specs.declared.fsm.Fsm.{Fsm}
use Rattle.bgp_machine.specs.declared.fsm.Fsm.TheVariants as fsms
use Rattle.bgp_machine.specs.Heard.{Announces}

-- a state in which both OPENs have settled a link
abbrev pub HasLink : Fsm → Type 0
HasLink fsms.OpenConfirm = Unit {0}
HasLink fsms.Established = Unit {0}
HasLink fsm = ⊥

-- an OPEN that need not be refused
abbrev pub IsGoodOpen : Config → List ℕ → Type 0
IsGoodOpen config octets = Announces config 1 octets × IsValid config octets
