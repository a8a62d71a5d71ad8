use Rattle.std.proofs.Common.{◌∙◌, List, None, ap, map, option_map, subst, sym}
use Rattle.bgp_prefix.specs.Shown.{ShownRecord}
use Rattle.mrt.specs.Reader.{shown_of}
use Rattle.bgp_check.specs.Answered.{answer_value}
use Rattle.bgp_check.specs.WatchedEnd.{IsWatchedFor}
use Rattle.bgp_watch.specs.Front.{front_value}
use Rattle.bgp_check_tool.proofs.ending.reached_on.Goals as goal

pub reached_by-requires : goal.reached_by-requires
reached_by-requires g c = (
  None,
  subst (λ (rs : List ShownRecord). IsWatchedFor rs (answer_value c.args.answer.now) (option_map front_value c.args.before))
      (sym (ap (map shown_of) c.as_slice.ensures.value ∙ c.requires.records)) c.requires.watched,
)

pub returns : goal.returns
returns g c = rw (ap (map shown_of) c.as_slice.ensures.value ∙ c.requires.records) at c.reached_by.ensures.reached
