-- What code has for a counted text.
use Rattle.bgp_values.specs.CapabilityValue.{Counted}
use Rattle.bgp_values.specs.declared.counted.CountedText.{CountedText}

abbrev pub counted_of : CountedText → Counted
counted_of counted = record { text = counted.text.now; rest = counted.rest.now }
