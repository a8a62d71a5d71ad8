use Rattle.std.proofs.Common.{refl}
use Rattle.bgp_words.proofs.decode.capture_of.Goals as goal

pub returns-clause-ok : goal.returns-clause-ok
returns-clause-ok c = (
  refl,
  (
    c.in_ok-file.ensures.ok,
    c.requires,
    (c.in_ok-peer.ensures c.in_ok-peer.peer).0 refl,
    (c.in_ok-local.ensures c.in_ok-local.local).0 refl,
    c.refresh_of.ensures,
    c.has_flag.ensures,
    (c.in_ok-recording.ensures c.in_ok-recording.recording).0 refl,
    (c.in_ok-form.ensures c.in_ok-form.form).0 refl,
  ),
)
