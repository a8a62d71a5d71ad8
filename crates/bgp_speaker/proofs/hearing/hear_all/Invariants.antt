use Rattle.std.proofs.Common.{◌≡◌, false, length}
use Rattle.bgp_machine.specs.Heard.{received_limit}
use Rattle.bgp_machine.specs.State.{link_at}
use Rattle.bgp_rib.specs.Routes.{Routes}
use Rattle.bgp_speaker.specs.Core.{IsPlain}
use Rattle.bgp_speaker.specs.Drafts.{GoesOnHearing}
use Rattle.bgp_speaker.proofs.hearing.hear_all.Given as goal

abbrev pub invariant-loop-frames : goal.invariant-loop-frames
invariant-loop-frames g l =
    record {
      limit : l.frames.limit ≡ received_limit l.fn.speaker.config;
      unclosed : l.frames.is_closed ≡ false;
      plain : IsPlain (link_at l.draft.head);
      goes : (routes : Routes) → GoesOnHearing routes l.fn.speaker l.fn.kept.keys l.fn.t l.fn.frames.octets l.frames.octets l.fn.draft l.draft;
    }

abbrev pub decreases-loop-frames : goal.decreases-loop-frames
decreases-loop-frames g l = length l.frames.octets
