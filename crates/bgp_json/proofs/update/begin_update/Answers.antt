use Rattle.bgp_json_values.proofs.Chains.{then}
use Rattle.bgp_json.proofs.update.begin_update.Goals as goal

pub returns-in-InStream : goal.returns-in-InStream
returns-in-InStream g c = rw c.in-InStream.is c.begin_at.ensures

pub returns-in_ok-begin-in-InRecord : goal.returns-in_ok-begin-in-InRecord
returns-in_ok-begin-in-InRecord g c = then c.in_ok-begin-in-InRecord.ensures c.put_place.ensures
