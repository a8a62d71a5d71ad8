use Rattle.std.proofs.Common.{◌≡◌, ◌∙◌, ◌++◌, List, ℕ, None, inl, inr, ap, subst, sym, true, Bool, false}
use Rattle.bgp_prefix.specs.Shown.{Sent}
use Rattle.bgp_prefix.specs.declared.session.Session.{Session}
use Rattle.mrt.specs.MemSink.{SinkState}
use Rattle.mrt.specs.Written.{IsAllowed}
use Rattle.bgp_why.specs.Deed.{IsDeed}
use Rattle.bgp_check_text.specs.Shown.{session_for}
use Rattle.bgp_check_text.proofs.sending.sent_deed.Goals as goal

not_true : (b : Bool) → b ≡ true → b ≡ false → ⊥
not_true true is other = let k : ⊥ = cc in k
not_true false is other = let k : ⊥ = cc in k

pub returns-then-not-is_allowed : goal.returns-then-not-is_allowed
returns-then-not-is_allowed g c =
    let shown = Sent c.args.second c.args.octets.now in
    inr (
      λ told. not_true c.is_allowed.result (c.is_allowed.ensures.1 (subst (λ (s : Session). IsAllowed s None shown) (sym c.session_for-its.ensures) told)) c.if-not-is_allowed.true,
      c.new.ensures.items,
    )

pub returns-in-Ok : goal.returns-in-Ok
returns-in-Ok g c =
    let shown = Sent c.args.second c.args.octets.now in
    let told = subst (λ (s : Session). IsAllowed s None shown) c.session_for-its.ensures (c.is_allowed.ensures.0 c.if-not-is_allowed.false) in
    let (text, says, took) = c.in-Ok.ensures in
    let written : text ≡ c.into_octets.result.items = sym (c.into_octets.ensures ∙ took.behind ∙ ap (λ (s : SinkState). s.octets ++ text) c.new-sink.ensures) in
    let deed = subst (λ (s : Session). IsDeed s c.args.peer.now c.args.form shown text) c.session_for-its.ensures says in
    inl (told, subst (λ (t : List ℕ). IsDeed (session_for c.args.session.now c.args.sent shown) c.args.peer.now c.args.form shown t) written deed)
