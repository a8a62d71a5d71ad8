use Rattle.std.proofs.lemmas.List.Elements.{All-nil}
use Rattle.bgp_values.proofs.opens.Opens.new.Goals as goal

pub returns : goal.returns
returns c = record { last_received = All-nil _; last_sent = All-nil _ }
