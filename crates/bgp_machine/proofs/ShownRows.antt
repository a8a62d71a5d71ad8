-- The steps of a state's rows are the steps that it takes by itself.
use Rattle.std.proofs.Common.{◌≡◌, ℕ, List, subst}
use Rattle.bgp_open.specs.declared.config.Config.{Config}
use Rattle.bgp_machine.specs.declared.rows.HiddenRow.{HiddenRow}
use Rattle.bgp_machine.specs.declared.state.Head.{Head}
use Rattle.bgp_machine.specs.declared.step.Step.{Step}
use Rattle.bgp_machine.specs.Listed.{ListsHidden, no_changes}
use Rattle.bgp_machine.specs.Rows.{HiddenShown, ListsRows, shown_rows}
use Rattle.bgp_machine.proofs.EachRow.{each_shown}
use Rattle.bgp_machine.proofs.RowByRow.{all_rows}

pub lists_hidden : (config : Config) (head : Head) (t : ℕ) (rows : List HiddenRow) (steps : List Step)
    → ListsRows (HiddenShown config head t) no_changes rows steps → rows ≡ shown_rows head → ListsHidden config head t steps
lists_hidden config head t rows steps l e =
    all_rows (HiddenShown config head t) _ no_changes (shown_rows head) _
    (λ row ws ch u h. (row, (h.0, h.1), h.2))
    (λ ws ch u h. (h.0, each_shown config head t h.0 ws ch u (h.1.0, h.1.1, h.2), (h.1.0, h.1.1, h.2)))
    (subst (λ (rs : List HiddenRow). ListsRows (HiddenShown config head t) no_changes rs steps) e l)
