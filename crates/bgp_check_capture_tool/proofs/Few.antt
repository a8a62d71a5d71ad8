-- The numbers of the judged records of a stretch, whose session has fewer than so many records.
use Rattle.std.proofs.Common.{◌+◌, ◌<◌, ℕ, List, Option, ap, arith, length, subst, sym}
use Rattle.std.specs.List.{AllByRecursion}
use Rattle.std.below.core.specs.declared.int.usize.TheConstants.{MAX}
use Rattle.bgp_prefix.specs.Shown.{ShownRecord}
use Rattle.bgp_check.proofs.Places.{few_places}
use Rattle.bgp_check_capture_tool.specs.StretchEnd.{IsStretchEnd, StretchEnd, View}
use Rattle.bgp_check_capture_tool.specs.declared.part.Part.{Part}

pub few_numbers : (view : View) (before : ℕ) (stretch : List ShownRecord) (leaving : Option ShownRecord) (end : StretchEnd) → before + length stretch < MAX
    → IsStretchEnd view before stretch leaving end → AllByRecursion (λ place. end.part.before + place < MAX) end.told.places
few_numbers view before stretch leaving end few is =
    subst (λ (n : ℕ). AllByRecursion (λ place. n + place < MAX) end.told.places) (sym (ap (λ (part : Part). part.before) is.is_part))
    (few_places (λ place. before + place < MAX) view.session stretch leaving end.told is.is_told (λ place less. omega (arith, less, few)))
