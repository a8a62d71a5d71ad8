use Rattle.std.proofs.Common.{inl, inr}
use Rattle.bgp_check_capture_tool.specs.Checking.{telling_of}
use Rattle.bgp_check_capture_tool.proofs.Printed.{all_true}
use Rattle.bgp_check_capture_tool.proofs.headline.check_capture_marking.Goals as goal

pub returns-clause-no : goal.returns-clause-no
returns-clause-no g c =
    let checks = c.check_held.ensures.checks in
    let options = c.args.options.now in record {
      text = checks.text;
      noes = elim checks.tells [
        | inl told ↦ let all = told.0 in inl record {
          named = all.named;
          offset = all.offset;
          refusal = all.refusal;
          plain = all.plain;
          has = all.has;
          blocks = all.blocks;
          told = all.told;
          noes = all_true c.no_configuration_explains_a_no.ensures c.what_is_judged_is_a_stretch.ensures c.a_no_names_its_record.ensures
              (telling_of options all.plain c.check_held.result.fault) options.printing.routes all.named all.blocks all.told;
          is_text = all.is_text;
        }
        | inr none ↦ inr none.0
      ];
      tally = checks.tally;
      written = checks.written;
    }

pub returns-clause-all : goal.returns-clause-all
returns-clause-all g c = c.check_held.ensures
