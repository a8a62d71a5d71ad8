use Rattle.std.proofs.Common.{◌∙◌, ◌++◌, [], ◌∷◌, subst, sym}
use Rattle.packets.specs.Packet.{recorded_of}
use Rattle.bgp_import.specs.Wrapped.{AreCounted}
use Rattle.bgp_import.specs.declared.wrapped.Wrapped.{Wrapped}
use Rattle.bgp_import.proofs.Counted.{counted}
use Rattle.bgp_import.proofs.wrapped.Wrapped.take.Goals as goal

pub returns-in-Some : goal.returns-in-Some
returns-in-Some c = λ packets h.
    subst (λ (w : Wrapped). AreCounted (packets ++ recorded_of c.args.packet.now ∷ []) w) (sym c.count.ensures)
    (counted packets (recorded_of c.args.packet.now) c.in-Some.wrapping c.args.self.now (sym c.wrapping_of.ensures ∙ c.in-Some.is) h)
