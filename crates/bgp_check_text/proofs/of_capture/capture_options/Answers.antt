use Rattle.std.proofs.Common.{◌∙◌, map, refl, subst, sym}
use Rattle.bgp_prefix.specs.declared.session.Session.{Session}
use Rattle.mrt.specs.Reader.{shown_of}
use Rattle.mrt_sessions.specs.Located.{located}
use Rattle.bgp_check_text.specs.OfCapture.{IsReadAlike}
use Rattle.bgp_check_text.proofs.SameAt.{not_true}
use Rattle.bgp_check_text.proofs.SameOptions.{one_session}
use Rattle.bgp_check_text.proofs.of_capture.capture_options.Goals as goal

pub returns-then-not-is_read_alike : goal.returns-then-not-is_read_alike
returns-then-not-is_read_alike c = λ options are alike.
    let named = map located c.args.named.now in
    let records = map shown_of c.args.records.now in
    let one = one_session c.args.config records c.args.skips_refresh c.has_refresh-no_refresh.result options are c.has_refresh-no_refresh.ensures in
    let its = subst (λ (s : Session). IsReadAlike s c.args.is_plain named records) (one ∙ sym c.session_by-session.ensures) alike in
    not_true c.is_read_alike.result (c.is_read_alike.ensures.1 its) c.if-not-is_read_alike.true

pub returns : goal.returns
returns c = (
  record { is_config = refl; skips = refl; refuses = c.has_refresh-no_refresh.ensures; asks = refl },
  subst (λ (s : Session). IsReadAlike s c.args.is_plain (map located c.args.named.now) (map shown_of c.args.records.now)) c.session_by-session.ensures
      (c.is_read_alike.ensures.0 c.if-not-is_read_alike.false),
)
