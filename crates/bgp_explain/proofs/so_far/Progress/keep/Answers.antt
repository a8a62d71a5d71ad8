use Rattle.std.proofs.Common.{◌≡◌, ◌∙◌, ◌+◌, ◌++◌, ◌∷◌, [], ℕ, IfSome, ap, inl, length, refl, subst, sym}
use Rattle.mrt.specs.Reader.{shown_of}
use Rattle.bgp_machine.specs.declared.fsm.Fsm.{Fsm}
use Rattle.bgp_reason.specs.declared.told.Told.{Told}
use Rattle.bgp_reason.specs.Told.{told, told_with}
use Rattle.bgp_tool.specs.declared.seen.Seen.{Seen}
use Rattle.bgp_tool.specs.Seen.{seen_with}
use Rattle.bgp_tool.proofs.SeenSoFar.{seen_more}
use Rattle.bgp_explain.specs.declared.tally.Tally.{Tally}
use Rattle.bgp_explain.specs.Tally.{tally_of, tally_with}
use Rattle.bgp_explain.specs.Fractions.{IsNameAfter}
use Rattle.bgp_explain.proofs.Keeping.{tally_more, told_more}
use Rattle.bgp_explain.proofs.MomentsKept.{by_record}
use Rattle.bgp_explain.proofs.so_far.Progress.keep.Goals as goal

pub returns-clause-told : goal.returns-clause-told
returns-clause-told g c = λ records is begins.
    let shown = shown_of c.args.shown.now in
    let law = c.records_tell_one_by_one.ensures in
    let state = ap (λ (t : Told). t.state) is.told ∙ law.state records in
    let told_then : c.with-self-3.result ≡ told (records ++ shown ∷ []) =
    c.with-self-3.ensures ∙ ap (λ (n : ℕ). told_with (n + 1) shown c.args.self.now.told) is.count ∙ ap (λ (t : Told). told_with (length records + 1) shown t) is.told ∙ sym (law.one_more records shown) in
    let after = ap (λ (t : Told). t.state) told_then ∙ law.state (records ++ shown ∷ []) in
    told_more law.one_more records shown c.args.config.now c.args.self.now _ is
    (c.with-self-4.ensures.are c.args.config.now records (ap (λ (n : ℕ). n + 1) is.count) is.sending.link told_then is.moments)
    (c.with-self-5.ensures records state after begins is.sending)
    (c.with-self.ensures ∙ ap (λ (t : Tally). tally_with t c.args.self.now.told.state shown) is.tally ∙ ap (λ (f : Fsm). tally_with (tally_of records) f shown) state ∙ tally_more records shown)
    (c.with-self-2.ensures ∙ ap (λ (s : Seen). seen_with s shown) is.seen ∙ seen_more records shown)
    refl c.with-self-3.ensures
    (λ octets has. c.message_after.ensures octets (subst (λ o. IfSome o (λ message. message.items ≡ octets)) (sym c.take.ensures.value) has))

pub returns-clause-names : goal.returns-clause-names
returns-clause-names g c =
    let number = c.args.self.now.count + 1 in
    let before = c.args.self.now.told in
    let tells = by_record number (shown_of c.args.shown.now) before in record {
      told_by = subst (λ (t : Told). IsNameAfter number before.told_by t.told_by) (sym c.with-self-3.ensures) tells.0;
      last_received = subst (λ (t : Told). IsNameAfter number before.last_received t.last_received) (sym c.with-self-3.ensures) tells.1;
      notification = c.with-self-4.ensures.named;
      impossible = inl refl;
    }
