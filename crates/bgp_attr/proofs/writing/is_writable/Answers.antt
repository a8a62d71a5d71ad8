use Rattle.std.proofs.Common.{All, get_or, subst, sym}
use Rattle.bgp_path.specs.Path.{PathValue}
use Rattle.bgp_attr.specs.Types.{all_types}
use Rattle.bgp_attr.specs.Writing.{HasShortValue}
use Rattle.bgp_attr.proofs.Written.{every}
use Rattle.bgp_attr.proofs.writing.is_writable.Goals as goal

pub returns : goal.returns
returns g c =
    let short = λ (v : PathValue). All (HasShortValue c.args.side v) all_types in record {
      writable = (
        λ e. every (HasShortValue c.args.side c.args.path.now) (subst short c.parts.ensures.value (c.are_short.ensures.0 e)),
        λ each. c.are_short.ensures.1 (subst short (sym c.parts.ensures.value) (λ k d lt. each (get_or all_types k d))),
      );
    }
