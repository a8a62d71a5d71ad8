-- The link on which the local system sends is kept record by record.
use Rattle.std.proofs.Common.{◌≡◌, ◌∙◌, ◌++◌, ◌∷◌, [], List, ℕ, Option, None, Some, refl, sym, ap, subst}
use Rattle.bgp_prefix.specs.Shown.{ShownRecord}
use Rattle.bgp_open.specs.declared.config.Config.{Config}
use Rattle.bgp_open.specs.declared.link.Link.{Link}
use Rattle.bgp_machine.specs.declared.fsm.Fsm.{Fsm}
use Rattle.bgp_machine.specs.declared.fsm.Fsm.TheVariants as fsms
use Rattle.bgp_machine.specs.Run.{Begins}
use Rattle.bgp_judge.specs.Told.{Told, fresh_told, link_told, told, told_from, told_next}
use Rattle.bgp_judge.proofs.Telling.{told_one_more}
use Rattle.bgp_reason.specs.Sending.{link_from, link_in, link_next, sending_link}
use Rattle.bgp_explain.specs.Sending.{IsOffered, link_by}
use Rattle.bgp_explain.specs.Settled.{HasLink, IsGoodOpen}
use Rattle.bgp_explain.proofs.OpenedBy.{opened_by}

pub offered_then : (config : Config) (records : List ShownRecord) (shown : ShownRecord) (offered : Option Link)
    → IsOffered config (told_next (told records) shown).peer_open offered → IsOffered config (told (records ++ shown ∷ [])).peer_open offered
offered_then config records shown offered is =
    subst (λ (t : Told). IsOffered config t.peer_open offered) (sym (told_one_more records shown)) is

link_joined : (config : Config) (t : Told) (before : Option Link) (xs : List ShownRecord) (r : ShownRecord)
    → link_from config t before (xs ++ r ∷ []) ≡ link_next config (told_next (told_from t xs) r) (link_from config t before xs)
link_joined config t before [] r = refl
link_joined config t before (x ∷ xs) r = link_joined config (told_next t x) (link_next config (told_next t x) before) xs r

link_more : (config : Config) (records : List ShownRecord) (r : ShownRecord)
    → sending_link config (records ++ r ∷ []) ≡ link_next config (told (records ++ r ∷ [])) (sending_link config records)
link_more config records r =
    link_joined config fresh_told None records r
    ∙ ap (λ (t : Told). link_next config t (sending_link config records)) (sym (told_one_more records r))

-- what was offered is the link, where there is one
the_link : (config : Config) (octets : List ℕ) (offered : Option Link) (link : Link) → IsGoodOpen config octets → IsOffered config octets offered
    → ((l : Link) → IsOffered config octets (Some l) → l ≡ link) → offered ≡ Some link
the_link config octets None link good is same = absurd (is good)
the_link config octets (Some l) link good is same = ap (λ (x : Link). Some x) (same l is)

by_state : (config : Config) (t : Told) (f : Fsm) (before offered : Option Link) → t.fsm ≡ f → (HasLink f → offered ≡ Some (link_told config t))
    → link_by f before offered ≡ link_in f before (link_told config t)
by_state config t fsms.Idle before offered e is = refl
by_state config t fsms.Connect before offered e is = refl
by_state config t fsms.Active before offered e is = refl
by_state config t fsms.OpenSent before offered e is = refl
by_state config t fsms.OpenConfirm before offered e is = is tt
by_state config t fsms.Established before offered e is = is tt

pub link_kept : (config : Config) (records : List ShownRecord) (shown : ShownRecord) (after : Fsm) (link offered : Option Link)
    → after ≡ (told (records ++ shown ∷ [])).fsm → Begins config (records ++ shown ∷ []) → link ≡ sending_link config records
    → IsOffered config (told (records ++ shown ∷ [])).peer_open offered → link_by after link offered ≡ sending_link config (records ++ shown ∷ [])
link_kept config records shown after link offered e begins is offers =
    let T = told (records ++ shown ∷ []) in
    ap (λ (f : Fsm). link_by f link offered) e ∙ ap (λ (l : Option Link). link_by T.fsm l offered) is
    ∙ by_state config T T.fsm (sending_link config records) offered refl
    (λ has. the_link config T.peer_open offered (link_told config T) (opened_by config (records ++ shown ∷ []) begins has) offers (λ l k. k))
    ∙ sym (link_more config records shown)
