use Rattle.std.proofs.Common.{◌≡◌, map, sym, ap, subst, List}
use Rattle.bgp_machine.specs.Run.{End}
use Rattle.bgp_judge.specs.Ends.{ListsEnds, end_value}
use Rattle.bgp_judge.proofs.EndLists.{if_ok_weaker}
use Rattle.bgp_compact.specs.Parts.{ends_in}
use Rattle.bgp_compact.proofs.Endings.{lists_ends, lists_none}
use Rattle.bgp_compact.proofs.compact.CompactTrackerTracker.ends.Goals as goal

pub returns-in-Some : goal.returns-in-Some
returns-in-Some g c = λ config records s.
    if_ok_weaker c.ends_of.result (λ ends. map end_value ends.items ≡ ends_in c.in-Some.base c.args.self.now.table) (λ ends. ListsEnds config records (map end_value ends.items))
    (λ ends e. subst (λ (v : List End). ListsEnds config records v) (sym e)
    (lists_ends config c.args.self.now.words c.args.self.now.table c.in-Some.base records c.in-Some.ensures s.1))
    c.ends_of.ensures

pub returns-in-None : goal.returns-in-None
returns-in-None g c = λ config records s.
    subst (λ (v : List End). ListsEnds config records v) (sym (ap (map end_value) c.new.ensures.items))
    (lists_none config c.args.self.now.words c.args.self.now.table records c.in-None.ensures s.1)
