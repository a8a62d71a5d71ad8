use Rattle.std.proofs.Common.{None, subst, sym}
use Rattle.bgp_open.specs.declared.config.Config.{Config}
use Rattle.mrt_sessions.specs.ReadsAs.{ReadsAs, addresses_in}
use Rattle.mrt_sessions.specs.Sessions.{records_between}
use Rattle.bgp_check_text.specs.OfCapture.{session_of}
use Rattle.bgp_check_text.proofs.laws.a_capture_is_read_alike.Goals as goal

pub returns : goal.returns
returns c = λ config octets named offset is_plain records skips options such told.
    c.reads_are_spelled.ensures (session_of options) octets named offset is_plain records such told.1.0
    (subst (λ (its : Config). ReadsAs (session_of options) None (records_between (addresses_in its.parts.session) named) records) (sym told.0.is_config) told.1.1)
