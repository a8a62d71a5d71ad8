-- The lines of a reason are such as `check` puts.
use Rattle.std.proofs.Common.{List, [], ◌∷◌, All, map}
use Rattle.std.proofs.lemmas.List.Elements.{All-cons, All-head, All-nil, All-tail}
use Rattle.bgp_json_verdicts.specs.Lines.{ReasonValue, Reasons}
use Rattle.bgp_why_laws.specs.Visible as reasons
use Rattle.bgp_check_laws.specs.Ranges.{IsOfReason}
use Rattle.bgp_check_laws.specs.Reasons.{IsPutReason, ReasonsAreLines}

are_determined : (lines : List ReasonValue) → All IsPutReason lines → All IsOfReason (map Reasons lines)
are_determined [] all = All-nil IsOfReason
are_determined (reason ∷ lines) all =
    let is = All-head IsPutReason reason lines all in
    All-cons IsOfReason (Reasons reason) (map Reasons lines) (is.put.determined, is.fits) (are_determined lines (All-tail IsPutReason reason lines all))

are_visible : (lines : List ReasonValue) → All IsPutReason lines → All reasons.HasVisibleTexts (map Reasons lines)
are_visible [] all = All-nil reasons.HasVisibleTexts
are_visible (reason ∷ lines) all =
    All-cons reasons.HasVisibleTexts (Reasons reason) (map Reasons lines) (All-head IsPutReason reason lines all).put.visible
    (are_visible lines (All-tail IsPutReason reason lines all))

pub reasons_are_lines : ReasonsAreLines
reasons_are_lines lines all = record { determined = are_determined lines all; visible = are_visible lines all }
