-- Of records that are written the first ROUTE-REFRESH is refused, where they are.
use Rattle.std.proofs.Common.{◌∙◌, ℕ, List, ◌∷◌, ◌++◌, length, ap, None}
use Rattle.std.proofs.lemmas.Grind.{flat_map-append}
use Rattle.mrt.specs.declared.fault.FaultKind.TheVariants as kinds
use Rattle.mrt.specs.Rules.{Refused}
use Rattle.mrt.specs.Capture.{last_of}
use Rattle.mrt.specs.Written.{record_octets, capture_octets}
use Rattle.mrt.specs.RefreshLaws.{FirstRefreshIsRefused}
use Rattle.mrt.proofs.WrittenRecord.{judged_written, says_refused}
use Rattle.mrt.proofs.WrittenCapture.{pieces_for, octets_joined, are_read}

pub first_refresh_is_refused : FirstRefreshIsRefused
first_refresh_is_refused session pa la before shown behind refused can order writable fits is =
    let pieces = pieces_for session pa la before in
    let rest = record_octets session pa la shown ++ capture_octets session pa la behind in
    let octets = octets_joined session pa la before in
    let read = are_read session pa la None 0 before tt can order in
    let last = last_of None pieces in record {
      pieces = pieces;
      rest = rest;
      text = record {
        whole = flat_map-append (record_octets session pa la) before (shown ∷ behind) ∙ ap (λ (o : List ℕ). o ++ rest) octets;
        each = read.pieces;
        last = judged_written session pa la last shown (Refused kinds.RouteRefresh) (capture_octets session pa la behind) writable fits (says_refused session last shown refused is);
        stops = tt;
      };
      shown = read.shown;
      place = ap length octets;
    }
