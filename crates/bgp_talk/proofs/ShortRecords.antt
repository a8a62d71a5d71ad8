-- What a core shows fits the records of a capture.
use Rattle.std.proofs.Common.{◌≡◌, ℕ, List, [], ◌∷◌, ◌++◌, length, max, refl, arith}
use Rattle.std.specs.List.{AllByRecursion}
use Rattle.byteorder.specs.Endian.{big_bytes}
use Rattle.bgp_prefix.specs.Shown.{ShownRecord, Received, Sent, Changed}
use Rattle.bgp_open.specs.declared.config.Config.{Config}
use Rattle.bgp_machine.specs.Heard.{received_limit}
use Rattle.bgp_speaker.proofs.EachShown.{IsShownAt, chooses_shown, no_less}
use Rattle.bgp_talk.specs.CoreFacts.{IsShort, EachRecordIsShort}

short_at : (config : Config) (t : ℕ) (shown : ShownRecord) → IsShownAt (received_limit config) t shown → IsShort config shown
short_at config t (Received second octets) is = is.1.fits
short_at config t (Sent second octets) is = is.1.fits
short_at config t (Changed second old new) is =
    let four : length (big_bytes 2 old ++ big_bytes 2 new) ≡ 4 = refl in
    let least = no_less (received_limit config) in omega (arith, four, least)

each_short : (config : Config) (t : ℕ) (records : List ShownRecord) → AllByRecursion (IsShownAt (received_limit config) t) records
    → AllByRecursion (IsShort config) records
each_short config t [] each = tt
each_short config t (shown ∷ records) each = (short_at config t shown each.0, each_short config t records each.1)

pub each_record_short : EachRecordIsShort
each_record_short a b input second records c =
    each_short a.speaker.config (max a.second second) records (chooses_shown a b input second records c)
