use Rattle.bgp_prefix.proofs.PrintedIsRead.{address_read, prefix_read}
use Rattle.bgp_prefix.proofs.laws.printed_texts_are_read.Goals as goal

pub returns : goal.returns
returns c = record { address = address_read; prefix = prefix_read }
