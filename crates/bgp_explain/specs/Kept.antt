-- What a record shows that is kept with a message of its own.
use Rattle.bgp_prefix.specs.Shown.{ShownRecord, Received, Sent, Changed}
use Rattle.bgp_explain.specs.declared.kept.KeptRecord.{KeptRecord}
use Rattle.bgp_explain.specs.declared.kept.KeptRecord.TheVariants as kept

abbrev pub shown_by : {X : Type 0} → KeptRecord X → ShownRecord
shown_by (kept.In second octets) = Received second octets.items
shown_by (kept.Out second octets) = Sent second octets.items
shown_by (kept.Change second old new) = Changed second old new
