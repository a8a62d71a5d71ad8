-- Something may always follow; and a message just where a run ends.
use Rattle.std.proofs.Common.{◌≡◌, ◌<◌, ◌^◌, inl, inr, ℕ, List, [], ◌∷◌, ◌++◌, Option, None, Some, refl, sym, subst, append-nil, arith}
use Rattle.bgp_prefix.specs.Shown.{ShownRecord, Received, Sent, Changed}
use Rattle.bgp_wire.specs.Message.{message_octets}
use Rattle.bgp_open.specs.declared.config.Config.{Config}
use Rattle.bgp_open.specs.declared.link.Link.{Link}
use Rattle.bgp_machine.specs.declared.fsm.Fsm.{Fsm}
use Rattle.bgp_machine.specs.declared.want.Want.{Want}
use Rattle.bgp_machine.specs.Lists.{Each}
use Rattle.bgp_machine.specs.Owed.{CanBeMet, EachOwedCanBeMet}
use Rattle.bgp_machine.specs.Run.{End, IsComplete, Run, end_of}
use Rattle.bgp_machine.specs.Shows.{PaysAll}
use Rattle.bgp_machine.specs.State.{SessionState, fresh_state, number_of}
use Rattle.bgp_machine.proofs.JoinedRuns.{no_steps}
use Rattle.bgp_judge.specs.Member.{Member, fresh_member, link_for}
use Rattle.bgp_judge.proofs.OneRecordMore.{runs_free}
use Rattle.bgp_reason.specs.Following.{MayFollow}
use Rattle.bgp_reason.specs.Possible.{IsCapturable}
use Rattle.bgp_reason.specs.Reasons.{MessageWhereARunEnds, NoHasAReason, OwedWhereUnfinished, SomethingMayFollow}
use Rattle.bgp_reason.specs.Sending.{sending_link}
use Rattle.bgp_reason.proofs.Explaining.{Explains, explained_from, explains_met, follows_from, follows_to, free_run, lead}
use Rattle.bgp_reason.proofs.OneForAll.{alive_heard, hears_on}

at_once : 0 < 2 ^ 32
at_once = omega arith

abbrev Something : Config → List ShownRecord → Type 0
Something config records = (shown : ShownRecord) × IsCapturable config records shown × MayFollow config records shown

-- a KEEPALIVE, as a capture can hold it
alive_capturable : (config : Config) (records : List ShownRecord) → IsCapturable config records (Received 0 (message_octets 4 []))
alive_capturable config records = (at_once, alive_heard config (sending_link config records))

something : EachOwedCanBeMet → (config : Config) (records : List ShownRecord) (state : SessionState) (link : Option Link) (wants : List Want) (change : Option (Fsm × Fsm))
    → Explains config records (record { state = state; link = link; wants = wants; change = change }) → Each (CanBeMet config link) wants → Something config records
something law config records state link [] None ex met =
    let m : Member = record { state = state; link = link; wants = []; change = None } in (
      Received 0 (message_octets 4 []),
      alive_capturable config records,
      hears_on law config records 0 (message_octets 4 []) m state ex (refl, refl) (no_steps config state) (alive_heard config (sending_link config records)),
    )
something law config records state link [] (Some c) ex met =
    let m : Member = record { state = state; link = link; wants = []; change = Some c } in
    let n : Member = record { state = state; link = None; wants = []; change = None } in (
      Changed 0 (number_of c.0) (number_of c.1),
      at_once,
      follows_to law config records (Changed 0 (number_of c.0) (number_of c.1)) m n ex (inl (record { pays = (refl, refl, refl, refl); state = refl; link = refl })),
    )
something law config records state link (want ∷ wants) change ex met =
    let m : Member = record { state = state; link = link; wants = want ∷ wants; change = change } in
    let n : Member = record { state = state; link = link_for wants link; wants = wants; change = change } in (
      Sent 0 met.0.0,
      at_once,
      follows_to law config records (Sent 0 met.0.0) m n ex (inl (record { pays = (met.0.2, refl, refl); state = refl; link = refl })),
    )

pub something_follows : EachOwedCanBeMet → SomethingMayFollow
something_follows law config records begins =
    let z = explained_from config records begins in
    something law config records z.0.state z.0.link z.0.wants z.0.change z.1 (explains_met law config records z.0 z.1)

pub no_reason : EachOwedCanBeMet → NoHasAReason
no_reason law config records possible shown are begins can never =
    let other = something_follows law config records begins in
    (λ among. never ((are shown can).1 among), (other.0, (are other.0 other.1).0 other.2))

-- ---- where a run ends

pub ends : (config : Config) (records : List ShownRecord) (t : ℕ) (octets : List ℕ) → MayFollow config records (Received t octets) → (e : End) × IsComplete config records e
ends config records t octets may =
    let z = follows_from config records (Received t octets) may in
    elim z.3 [
      | inl c ↦ absurd c.pays
      | inr s ↦ (end_of z.0.state, (z.0.state, free_run config records z.0 z.2 s.free, refl))
    ]

no_parts : (paid later : List ShownRecord) → paid ++ later ≡ [] → (paid ≡ []) × (later ≡ [])
no_parts [] later e = (refl, e)
no_parts (x ∷ paid) later e = absurd (let k : x ∷ (paid ++ later) ≡ [] = e in cc)

nothing_paid : (config : Config) (link : Option Link) (wants : List Want) (change : Option (Fsm × Fsm)) (paid : List ShownRecord) → paid ≡ []
    → PaysAll config link wants change paid → (wants ≡ []) × (change ≡ None)
nothing_paid config link wants change paid e p = subst (PaysAll config link wants change) e p

pub received_at_end : EachOwedCanBeMet → (config : Config) (records : List ShownRecord) (e : End) → IsComplete config records e
    → MayFollow config records (Received 0 (message_octets 4 []))
received_at_end law config records e complete =
    let s = complete.0 in
    let run : Run config fresh_state (records ++ []) s = subst (λ (v : List ShownRecord). Run config fresh_state v s) (sym (append-nil records)) complete.1 in
    let z = lead config fresh_member records [] s (runs_free config fresh_member (records ++ []) s (refl, refl) run) in
    let parts = no_parts z.2.paid z.2.later z.2.parts in
    hears_on law config records 0 (message_octets 4 []) z.0 s z.1 (nothing_paid config z.0.link z.0.wants z.0.change z.2.paid parts.0 z.2.pays)
    (subst (λ (v : List ShownRecord). Run config z.0.state v s) parts.1 z.2.run) (alive_heard config (sending_link config records))

pub message_ends : EachOwedCanBeMet → MessageWhereARunEnds
message_ends law config records possible are = (
  λ message. ends config records 0 (message_octets 4 []) ((are (Received 0 (message_octets 4 [])) (alive_capturable config records)).1 message),
  λ end'. (are (Received 0 (message_octets 4 [])) (alive_capturable config records)).0 (received_at_end law config records end'.0 end'.1),
)

pub owed_unfinished : EachOwedCanBeMet → OwedWhereUnfinished
owed_unfinished law config records possible are begins =
    let both = message_ends law config records possible are in (
      λ none. (begins, λ e complete. none (both.1 (e, complete))),
      λ verdict message. let k = both.0 message in verdict.1 k.0 k.1,
    )
