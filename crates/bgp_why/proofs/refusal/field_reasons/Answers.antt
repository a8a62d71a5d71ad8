use Rattle.std.proofs.Common.{refl}
use Rattle.bgp_open.specs.Open.{open_of}
use Rattle.bgp_open.specs.OpenSubcodes.{peer_as_of}
use Rattle.bgp_why.proofs.Refused.{told_if}
use Rattle.bgp_why.proofs.refusal.field_reasons.Goals as goal

pub returns : goal.returns
returns c =
    let config = c.args.config.now in
    let octets = c.args.octets.now in
    let peer = rw c.requires at c.peer_as.ensures in
    let id = rw c.requires at c.id.ensures in
    let hold = rw c.requires at c.hold.ensures in
    record {
      other_parameter = c.is_refused_by.ensures;
      peer_as = rw c.then_some.ensures (told_if config octets 2 c.peer_as.result (peer_as_of config (open_of octets)) c.is_refused_by-2.result c.is_refused_by-2.ensures peer);
      identifier = rw c.then_some-2.ensures (told_if config octets 3 c.id.result (open_of octets).id c.is_refused_by-3.result c.is_refused_by-3.ensures id);
      hold = rw c.then_some-3.ensures (told_if config octets 6 c.hold.result (open_of octets).hold c.is_refused_by-4.result c.is_refused_by-4.ensures hold);
      configured_as = refl;
    }
