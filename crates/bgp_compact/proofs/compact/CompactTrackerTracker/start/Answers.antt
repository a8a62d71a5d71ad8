use Rattle.std.proofs.Common.{refl, sym, subst, []}
use Rattle.bgp_rib.specs.Routes.{Routes}
use Rattle.bgp_compact.specs.declared.words.Words.{Words}
use Rattle.bgp_compact.specs.Standing.{Stands, fresh_words}
use Rattle.bgp_compact.proofs.Alive.{starts_so}
use Rattle.bgp_compact.proofs.compact.CompactTrackerTracker.start.Goals as goal

pub returns : goal.returns
returns g c = record {
  start = (
    refl,
    subst (λ (v : Words). Stands c.args.config.now v c.new.result []) (sym c.fresh_words.ensures)
        (subst (λ (v : Routes). Stands c.args.config.now fresh_words v []) (sym c.new.ensures.routes) (starts_so c.args.config.now c.changes_leave_routes.ensures.none)),
  );
  memory = refl;
}
