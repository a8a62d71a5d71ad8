use Rattle.std.proofs.Common.{◌∙◌, refl, sym, subst}
use Rattle.clap.specs.Words.{found_of, rows_of}
use Rattle.bgp_words.specs.Speak.{AreOptions}
use Rattle.bgp_talk.specs.declared.options.Speaking.{Speaking}
use Rattle.bgp_words.proofs.SameParts.{same_speaking, same_truth}
use Rattle.bgp_words.proofs.speak.speaking_of.Goals as goal

pub returns : goal.returns
returns c speaking =
    let rows = rows_of (found_of c.args.speak.now) in (
      λ same. subst (λ (s : Speaking). AreOptions s rows) same (record {
        start = (c.in_ok-start_of.ensures c.in_ok-start_of.field-0).0 refl;
        next_hop4 = (c.in_ok-next_hop4_of.ensures c.in_ok-next_hop4_of.field-0).0 refl;
        next_hop6 = (c.in_ok-next_hop6_of.ensures c.in_ok-next_hop6_of.field-0).0 refl;
        announce = (c.in_ok-prefix_of.ensures c.in_ok-prefix_of.field-0).0 refl;
        cleared = c.is_cleared.ensures;
        turns = (c.in_ok-turns_of.ensures c.in_ok-turns_of.field-0).0 refl;
        quiet = c.has_flag.ensures;
      }),
      λ are. same_speaking _ speaking ((c.in_ok-start_of.ensures speaking.start).1 are.start)
          ((c.in_ok-next_hop4_of.ensures speaking.next_hop4).1 are.next_hop4)
          ((c.in_ok-next_hop6_of.ensures speaking.next_hop6).1 are.next_hop6)
          ((c.in_ok-prefix_of.ensures speaking.announce).1 are.announce)
          (same_truth _ speaking.cleared c.is_cleared.ensures are.cleared)
          ((c.in_ok-turns_of.ensures speaking.turns).1 are.turns)
          (c.has_flag.ensures ∙ sym are.quiet),
    )
