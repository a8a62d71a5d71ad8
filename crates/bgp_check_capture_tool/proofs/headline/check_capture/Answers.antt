use Rattle.bgp_check_capture_tool.proofs.headline.check_capture.Goals as goal

pub returns-clause-no : goal.returns-clause-no
returns-clause-no g c = record {
  octets = c.hold-held.result.octets.items;
  ending = c.hold-held.result.ending;
  held = c.hold-held.ensures.held;
  writes = c.check_capture_marking.ensures.no;
}

pub returns-clause-all : goal.returns-clause-all
returns-clause-all g c = record {
  octets = c.hold-held.result.octets.items;
  ending = c.hold-held.result.ending;
  held = c.hold-held.ensures.held;
  counted = c.hold-held.ensures.failures;
  checks = c.check_capture_marking.ensures.all.checks;
}
