use Rattle.std.proofs.Common.{Some}
use Rattle.bgp_speaker.proofs.Drafting.{on_ok}
use Rattle.bgp_speaker.proofs.draft.Draft.take_picked.Goals as goal

pub returns : goal.returns
returns g c routes =
    on_ok c.act.result (c.act.ensures routes) (λ x.
    record { records = x.records; takes = (Some c.in-Some.row, c.in-Some.ensures.picks, x.takes); shows = x.shows })
