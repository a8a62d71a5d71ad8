-- A route whose path fits a message has numbers of 64 bits, and no segment of its path is empty.
use Rattle.std.proofs.Common.{◌<◌, ◌^◌, ℕ, Option, None, Some, IfSome, arith}
use Rattle.std.proofs.lemmas.List.Elements.{All-weaker}
use Rattle.bgp_path.specs.AsPath.{IsPathSegment, PathSegment}
use Rattle.bgp_path.specs.Fit.{IsFit}
use Rattle.bgp_path.specs.Path.{PathValue}
use Rattle.bgp_path.specs.declared.path.Aggregator.{Aggregator}
use Rattle.bgp_update.specs.declared.destination.Destination.{Destination}
use Rattle.bgp_verdict_laws.specs.Laws.{IsFilled}
use Rattle.bgp_verdict_laws.specs.Numbers.{Fits, FitsAggregator, FitsIfAny, FitsPath, FitsSegment}
use Rattle.bgp_check_laws.specs.Ranges.{IsRoute}

small : (n : ℕ) → n < 2 ^ 32 → Fits n
small n below = omega (arith, below)

pub if_any : (number : Option ℕ) → IfSome number (λ n. n < 2 ^ 32) → FitsIfAny number
if_any None below = tt
if_any (Some number) below = small number below

aggregator_fits : (a : Option Aggregator) → IfSome a (λ a. (a.as_number < 2 ^ 32) × (a.address < 2 ^ 32)) → FitsAggregator a
aggregator_fits None below = tt
aggregator_fits (Some a) below = small a.as_number below.0

segment_fits : (segment : PathSegment) → IsPathSegment segment → FitsSegment segment
segment_fits segment is = All-weaker (λ n. n < 2 ^ 32) Fits small segment.numbers is.fits

segment_filled : (segment : PathSegment) → IsPathSegment segment → IsFilled segment
segment_filled segment is = is.some

path_fits : (p : PathValue) → IsFit p → FitsPath p
path_fits p is = (
  All-weaker IsPathSegment FitsSegment segment_fits p.as_path is.segments,
  if_any p.multi_exit_disc is.multi_exit_disc,
  if_any p.local_pref is.local_pref,
  aggregator_fits p.aggregator is.aggregator,
)

pub route_is : (destination : Destination) (p : PathValue) → FitsIfAny destination.path → IsFit p → IsRoute (destination, p)
route_is destination p fits is = record {
  filled = All-weaker IsPathSegment IsFilled segment_filled p.as_path is.segments;
  path_id = fits;
  numbers = path_fits p is;
}
