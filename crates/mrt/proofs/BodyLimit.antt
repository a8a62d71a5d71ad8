-- How long a body may be that is read, whatever the session.
use Rattle.std.proofs.Common.{◌≤◌, Bool, true, false, arith}
use Rattle.std.specs.Prelude.{if◌then◌else◌}
use Rattle.bgp_prefix.specs.declared.session.Session.{Session}
use Rattle.mrt.specs.Rules.{body_limit}

at_least : (extended : Bool) → 8192 ≤ (if extended then 65583 else 8192)
at_least true = omega arith
at_least false = omega arith

at_most : (extended : Bool) → (if extended then 65583 else 8192) ≤ 65583
at_most true = omega arith
at_most false = omega arith

pub plain_fits : (session : Session) → 8192 ≤ body_limit session
unfolding body_limit
plain_fits session = at_least session.extended

pub is_bounded : (session : Session) → body_limit session ≤ 65583
unfolding body_limit
is_bounded session = at_most session.extended
