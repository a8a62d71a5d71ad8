use Rattle.bgp_check_capture_tool.proofs.lines.put_silent.Goals as goal

pub returns : goal.returns
returns g c = rw c.endpoint_of.ensures at c.put_unnamed.ensures
