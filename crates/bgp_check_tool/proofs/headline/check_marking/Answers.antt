use Rattle.bgp_check_tool.specs.Judging.{options_by}
use Rattle.bgp_import.specs.Reading.{looked_at}
use Rattle.bgp_check_tool.proofs.Printed.{all_as, all_true, all_unfinished, all_unfinished_as, all_yeses, all_yeses_as}
use Rattle.bgp_check_tool.proofs.headline.check_marking.Goals as goal

pub returns-clause-no : goal.returns-clause-no
returns-clause-no g c =
    let checks = c.check_recording.ensures.checks in
    let options = c.args.options.now in record {
      packets = checks.packets;
      short = checks.short;
      stopped = checks.stopped;
      read = checks.read;
      blocks = checks.blocks;
      told = checks.told;
      are_true = all_as checks.stopped options checks.packets (looked_at checks.packets checks.stopped) checks.blocks
          (all_true c.no_configuration_explains_a_no.ensures c.a_verdict_holds_under_its_configuration.ensures c.no_order_has_a_run.ensures.end (options_by checks.stopped options) checks.packets
          (looked_at checks.packets checks.stopped) checks.blocks checks.told);
      lacking = checks.lacking;
      tally = checks.tally;
      written = checks.written;
    }

pub returns-clause-yes : goal.returns-clause-yes
returns-clause-yes g c =
    let checks = c.check_recording.ensures.checks in
    let options = c.args.options.now in
    let last = looked_at checks.packets checks.stopped in record {
      packets = checks.packets;
      short = checks.short;
      stopped = checks.stopped;
      read = checks.read;
      blocks = checks.blocks;
      told = checks.told;
      are_true = all_yeses_as checks.stopped options checks.packets last checks.blocks (all_yeses (options_by checks.stopped options) checks.packets last checks.blocks checks.told);
      lacking = checks.lacking;
      tally = checks.tally;
      written = checks.written;
    }

pub returns-clause-unfinished : goal.returns-clause-unfinished
returns-clause-unfinished g c =
    let checks = c.check_recording.ensures.checks in
    let options = c.args.options.now in
    let last = looked_at checks.packets checks.stopped in record {
      packets = checks.packets;
      short = checks.short;
      stopped = checks.stopped;
      read = checks.read;
      blocks = checks.blocks;
      told = checks.told;
      are_true = all_unfinished_as checks.stopped options checks.packets last checks.blocks
          (all_unfinished c.no_order_is_whole.ensures.end (options_by checks.stopped options) checks.packets last checks.blocks checks.told);
      lacking = checks.lacking;
      tally = checks.tally;
      written = checks.written;
    }

pub returns-clause-all : goal.returns-clause-all
returns-clause-all g c = c.check_recording.ensures
