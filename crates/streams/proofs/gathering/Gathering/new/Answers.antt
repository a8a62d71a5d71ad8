use Rattle.std.proofs.Common.{refl}
use Rattle.streams.specs.declared.passed.Side.TheVariants.{Local, Peer}
use Rattle.streams.specs.Refusals.{first_fault}
use Rattle.streams.proofs.gathering.Gathering.new.Goals as goal

pub returns-clause-holds : goal.returns-clause-holds
unfolding first_fault
returns-clause-holds g c = record {
  sound = record { sent = (c.new.ensures Local).sound; received = (c.new-2.ensures Peer).sound };
  opener = refl;
  local_start = refl;
  peer_start = refl;
  last_second = refl;
  has_octets = refl;
  has_others = refl;
  end = refl;
  fault = refl;
  sent = λ _. c.new.ensures Local;
  received = λ _. c.new-2.ensures Peer;
}
