use Rattle.std.proofs.Common.{◌≡◌}
use Rattle.bgp_open.specs.declared.link.Link.{Link}
use Rattle.bgp_machine.specs.declared.state.HoldTimer.{HoldTimer}
use Rattle.bgp_machine.specs.declared.state.Head.TheVariants.{Established}
use Rattle.bgp_rib.specs.Routes.{Routes}
use Rattle.bgp_speaker.proofs.Greeting.{GoesOnAnnouncing}
use Rattle.bgp_speaker.proofs.draft.Draft.greet.Given as goal

abbrev pub invariant-loop-prefix : goal.invariant-loop-prefix
invariant-loop-prefix g l =
    record {
      stays : l.self.head ≡ l.fn.self.head;
      goes : (routes : Routes) (link : Link) (timer : HoldTimer) → l.fn.self.head ≡ Established link timer
          → GoesOnAnnouncing routes l.fn.speaker l.fn.t link l.fn.kept.keys l.prefix-iterator l.fn.self l.self;
    }
