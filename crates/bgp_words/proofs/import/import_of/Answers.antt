use Rattle.std.proofs.Common.{refl, subst}
use Rattle.clap.specs.Words.{found_of, rows_of}
use Rattle.bgp_prefix.specs.declared.session.RouteRefresh.{RouteRefresh}
use Rattle.bgp_words.specs.Settings.{IsSession}
use Rattle.bgp_words.proofs.import.import_of.Goals as goal

pub returns-clause-ok : goal.returns-clause-ok
returns-clause-ok c = (
  refl,
  (
    subst (λ (offers : RouteRefresh). IsSession c.in_ok-session.session offers (rows_of (found_of c.args.import.now))) c.refresh_of-refresh.ensures
        ((c.in_ok-session.ensures c.in_ok-session.session).0 refl),
    c.is_of_one_family.ensures.0 c.if-not-is_of_one_family.false,
    (c.in_ok-recording.ensures c.in_ok-recording.recording).0 refl,
    c.are_apart.ensures.0 c.if-not-are_apart.false,
    c.in_ok-file.ensures.ok,
    c.in_ok-out.ensures.ok,
  ),
)
