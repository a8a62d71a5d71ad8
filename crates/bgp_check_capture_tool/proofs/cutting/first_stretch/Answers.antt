use Rattle.std.proofs.Common.{◌+◌, List, drop, map, subst, sym}
use Rattle.mrt.specs.Reader.{shown_of}
use Rattle.mrt.specs.declared.record.Record.{Record}
use Rattle.bgp_check.specs.BeforeLeaving.{IsBeforeLeaving}
use Rattle.bgp_check_capture_tool.specs.Stretches.{IsFirst}
use Rattle.bgp_check_capture_tool.proofs.Fronts.{first_cut}
use Rattle.bgp_check_capture_tool.proofs.cutting.first_stretch.Goals as goal

pub returns : goal.returns
returns c =
    let n = c.before_leaving.result in
    let records = c.args.records.now in
    let before = subst (λ (rs : List Record). IsBeforeLeaving (map shown_of rs) n) c.split_at.ensures.back c.before_leaving.ensures in
    let cut = first_cut records n c.requires.some c.requires.leaving before in
    let first = subst (λ (rs : List Record). IsFirst (map shown_of records) (map shown_of rs) (map shown_of (drop (1 + n) records))) (sym c.split_at-2.ensures.front) cut in
    subst (λ (rs : List Record). IsFirst (map shown_of records) (map shown_of c.split_at-2.result.0.now) (map shown_of rs)) (sym c.split_at-2.ensures.back) first
