-- Records that a capture can hold have messages that can be read.
use Rattle.std.proofs.Common.{List, [], ◌∷◌}
use Rattle.std.specs.List.{AllByRecursion}
use Rattle.bgp_prefix.specs.Shown.{ShownRecord, Received, Sent, Changed}
use Rattle.bgp_wire.specs.Header.{limit_with}
use Rattle.bgp_wire.specs.declared.header.Limit.{Limit}
use Rattle.bgp_open.specs.declared.config.Config.{Config}
use Rattle.bgp_explain.specs.Why.{AreCaptured}
use Rattle.bgp_explain.proofs.Captured.{frame_or_faulty}
use Rattle.bgp_check_text.specs.Shown.{CanBeTold}

pub are_captured : (config : Config) (sent : Limit) (records : List ShownRecord) → AllByRecursion (CanBeTold config.parts.session sent) records → AreCaptured config records
are_captured config sent [] all = tt
are_captured config sent (Received second octets ∷ records) all =
    (frame_or_faulty (limit_with config.parts.session.extended) octets all.0.0.0 all.0.0.3, are_captured config sent records all.1)
are_captured config sent (Sent second octets ∷ records) all = are_captured config sent records all.1
are_captured config sent (Changed second old new ∷ records) all = are_captured config sent records all.1
