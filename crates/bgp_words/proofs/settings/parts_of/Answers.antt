use Rattle.std.proofs.Common.{◌∙◌, refl, sym, ap, subst, not}
use Rattle.clap.specs.Words.{found_of, rows_of}
use Rattle.bgp_open.specs.declared.config.ConfigParts.{ConfigParts}
use Rattle.bgp_words.specs.Settings.{AreParts}
use Rattle.bgp_words.proofs.SameParts.{same_parts}
use Rattle.bgp_words.proofs.settings.parts_of.Goals as goal

pub returns : goal.returns
returns c parts =
    let rows = rows_of (found_of c.args.matches.now) in (
      λ same. subst (λ (p : ConfigParts). AreParts p c.args.refresh rows) same (record {
        local_as = (c.in_ok-positive_of.ensures c.in_ok-positive_of.field-0).0 refl;
        peer_as = (c.in_ok-positive_of-2.ensures c.in_ok-positive_of-2.field-0).0 refl;
        local_id = (c.in_ok-identifier_of.ensures c.in_ok-identifier_of.field-0).0 refl;
        hold = (c.in_ok-hold_of.ensures c.in_ok-hold_of.field-0).0 refl;
        families = (c.in_ok-families_of.ensures c.in_ok-families_of.field-0).0 refl;
        as4 = ap not c.has_flag.ensures;
        delay_open = c.has_flag-2.ensures;
        large_hold = (c.in_ok-positive_of-3.ensures c.in_ok-positive_of-3.field-0).0 refl;
        session = (c.in_ok-session_of.ensures c.in_ok-session_of.field-0).0 refl;
        offers = (c.in_ok-offers_of.ensures c.in_ok-offers_of.field-0).0 refl;
      }),
      λ are. same_parts _ parts ((c.in_ok-positive_of.ensures parts.local_as).1 are.local_as)
          ((c.in_ok-positive_of-2.ensures parts.peer_as).1 are.peer_as)
          ((c.in_ok-identifier_of.ensures parts.local_id).1 are.local_id)
          ((c.in_ok-hold_of.ensures parts.hold).1 are.hold)
          ((c.in_ok-families_of.ensures parts.families).1 are.families)
          (ap not c.has_flag.ensures ∙ sym are.as4) (c.has_flag-2.ensures ∙ sym are.delay_open)
          ((c.in_ok-positive_of-3.ensures parts.large_hold).1 are.large_hold)
          ((c.in_ok-session_of.ensures parts.session).1 are.session)
          ((c.in_ok-offers_of.ensures parts.offers).1 are.offers),
    )
