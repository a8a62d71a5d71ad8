use Rattle.bgp_check_tool.specs.Blocks.{AllRefused, block_of}
use Rattle.bgp_check_tool.proofs.OneMore.{is_told}
use Rattle.bgp_check_tool.proofs.Marked.{adds_nothing}
use Rattle.std.proofs.Common.{ap}
use Rattle.bgp_import.specs.declared.selection.Selection.{Selection}
use Rattle.bgp_check_tool.proofs.checking.put_listed.Goals as goal

pub returns-in-Connection-clause-puts : goal.returns-in-Connection-clause-puts
returns-in-Connection-clause-puts g c = λ packets told.
    let is = rw (c.in-Connection.is) at told in
    let session = c.selection_of.result.session in
    let opening = c.in-Connection.opening in
    let answer = c.check_connection-told.result in
    record {
      block = block_of session opening answer;
      told = is_told c.args.options.now packets c.args.last_packet c.args.packet c.in-Connection.addresses c.in-Connection.talk.now opening session answer
          (ap (λ (s : Selection). s.session) c.selection_of.ensures) is c.check_connection-told.ensures;
      wrote = c.put_block.ensures;
      tallied = c.add_connection.ensures.tallied;
      added = c.add_connection.ensures.added;
      marked = c.add_connection-in-Connection.ensures;
    }

pub returns-in-Refused-clause-puts : goal.returns-in-Refused-clause-puts
returns-in-Refused-clause-puts g c = λ packets told.
    let is = rw (c.in-Refused.is) at told in record {
      block = AllRefused c.in-Refused.addresses c.refused-refusal.result;
      told = record { ordered = is.ordered; fault = c.in-Refused.fault; refused = is.refused; is = c.refused-refusal.ensures };
      wrote = c.put_refused_between.ensures;
      tallied = c.add_refusal.ensures.tallied;
      added = c.add_refusal.ensures.added;
      marked = adds_nothing c.args.marks.now;
    }
