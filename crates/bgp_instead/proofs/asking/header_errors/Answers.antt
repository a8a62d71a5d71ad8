use Rattle.std.proofs.Common.{◌≤◌, length, ap}
use Rattle.byteorder.specs.Endian.{big_bytes}
use Rattle.bgp_wire.specs.Header.{header_of, length_of, type_of}
use Rattle.bgp_instead.specs.Places.{Could}
use Rattle.bgp_instead.specs.Sendable.{CouldNotify}
use Rattle.bgp_instead.proofs.Asks.{field_so, none_some}
use Rattle.bgp_instead.proofs.asking.header_errors.Goals as goal

pub returns-in_default : goal.returns-in_default
returns-in_default g c = λ of. record {
  marker = c.in_ok-marker.ensures of;
  bad_length = λ whole. absurd (none_some c.header_at.result c.in_default.is (c.header_at.ensures.whole.1 whole));
  bad_type = λ whole. absurd (none_some c.header_at.result c.in_default.is (c.header_at.ensures.whole.1 whole));
}

pub returns : goal.returns
returns g c = λ of.
    let last = c.args.last.now in
    let header = c.in-Some.header.now in record {
      marker = c.in_ok-marker.ensures of;
      bad_length = field_so c.in_ok-bad_length.field-0 (length_of header) (length_of (header_of last)) (19 ≤ length last) (λ v. CouldNotify (Could of) 1 2 (big_bytes 2 v))
          (ap length_of c.in-Some.ensures.some) c.in_ok-bad_length.ensures.some (c.in_ok-bad_length.ensures.could of) (c.in_ok-bad_length.ensures.none of);
      bad_type = field_so c.in_ok-bad_type.field-0 (type_of header) (type_of (header_of last)) (19 ≤ length last) (λ v. CouldNotify (Could of) 1 3 (big_bytes 1 v))
          (ap type_of c.in-Some.ensures.some) c.in_ok-bad_type.ensures.some (c.in_ok-bad_type.ensures.could of) (c.in_ok-bad_type.ensures.none of);
    }
