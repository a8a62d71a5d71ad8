-- Where no OPEN is sent: whatever begins a run under some configuration of an end does under a widest one, the one that takes the peer's OPEN, or the one for which it has each fault.
use Rattle.std.proofs.Common.{◌≡◌, ◌⊎◌, ℕ, List, [], ◌∷◌, Option, None, Some, inl, inr, sym, ◌∙◌}
use Rattle.bgp_prefix.specs.Shown.{ShownRecord}
use Rattle.bgp_prefix.specs.declared.session.Session.{Session}
use Rattle.bgp_open.specs.Open.{open_of}
use Rattle.bgp_open.specs.OpenFault.{IsReadable}
use Rattle.bgp_open.specs.OpenSubcodes.{IsBadIdentifier, IsBadPeerAs, IsValid}
use Rattle.bgp_open.specs.declared.config.Config.{Config}
use Rattle.bgp_machine.specs.Lists.{Each, Has}
use Rattle.bgp_machine.specs.Owed.{EachOwedCanBeMet}
use Rattle.bgp_machine.specs.Run.{Begins, IsComplete}
use Rattle.bgp_judge.specs.Member.{Member, fresh_member}
use Rattle.bgp_check.specs.Configurations.{IsOf}
use Rattle.bgp_parts.specs.Opens.{HasPeersOpen, SendsNoOpen}
use Rattle.bgp_check.specs.Stretch.{IsStretch}
use Rattle.bgp_check.specs.Wider.{WiderBegins, WiderIsComplete}
use Rattle.bgp_check.specs.Widest.{IsWidest}
use Rattle.bgp_check.specs.Without.{AreWidestWithout, FaultsIt, TakesIt, WithoutBegins, WithoutIsComplete}
use Rattle.bgp_check.proofs.Accepted.{TakeIt, each_pays_without, takes_too}
use Rattle.bgp_check.proofs.AnotherRuns.{LeadsToo, RefuseIt, begins_too, complete_too, leads_too}
use Rattle.bgp_check.proofs.EachHeard.{valid_or_not}
use Rattle.bgp_check.proofs.Explaining.{Leads, explained, explained_end}
use Rattle.bgp_check.proofs.Refused.{FaultsToo, not_valid}
use Rattle.bgp_check.proofs.Similar.{IsSimilar}
use Rattle.bgp_check.proofs.WidestRuns.{between, between_is_wider, found, some_of}

-- an OPEN that has each fault which depends on a configuration has those that it has under another
each_fault : (one other : Config) (octets : List ℕ)
    → (IsReadable octets → IsBadPeerAs other (open_of octets) × IsBadIdentifier other (open_of octets)) → FaultsToo one other octets
each_fault one other octets bad subcode detail fault = elim fault [
  | inr may ↦ inr may
  | inl must ↦ elim must [
    | inl version ↦ inl (inl version)
    | inr m ↦ elim m [
      | inl malformed ↦ inl (inr (inl malformed))
      | inr r ↦ elim r.1 [
        | inl parameter ↦ inl (inr (inr (r.0, inl parameter)))
        | inr p ↦ elim p [
          | inl peer ↦ inl (inr (inr (r.0, inr (inl (peer.0, (bad r.0).0)))))
          | inr i ↦ elim i [
            | inl identifier ↦ inl (inr (inr (r.0, inr (inr (inl (identifier.0, (bad r.0).1))))))
            | inr hold ↦ inl (inr (inr (r.0, inr (inr (inr hold)))))
          ]
        ]
      ]
    ]
  ]
]

-- where it is valid, it has no fault but those of every OPEN
no_fault : (one other : Config) (octets : List ℕ) → IsValid one octets → FaultsToo one other octets
no_fault one other octets valid subcode detail fault = elim fault [ inl must ↦ absurd (valid subcode detail must) | inr may ↦ inr may ]

takes_or_not : (config : Config) (peers : Option (List ℕ)) → TakesIt config peers ⊎ (¬ TakesIt config peers)
takes_or_not config None = inr (λ h. h)
takes_or_not config (Some octets) = valid_or_not config octets

take_it : (one other : Config) (peers : Option (List ℕ)) → TakesIt one peers → TakesIt other peers → TakeIt one other peers
take_it one other None x y = x
take_it one other (Some octets) x y = record { first = x; second = y; faults = no_fault one other octets x }

refuse_it : (one other : Config) (peers : Option (List ℕ)) → ¬ TakesIt one peers → FaultsIt other peers → RefuseIt one other peers
refuse_it one other None x y = tt
refuse_it one other (Some octets) x y =
    record { first = x; second = not_valid other octets (λ readable. (y readable).0); faults = each_fault one other octets y }

-- ---- from one to the other

similar_between : (config x : Config) → x.parts.session ≡ config.parts.session → IsSimilar (between config x) x
similar_between config x e = λ i. record x.parts { session = e i }

takes_between : (config x : Config) (peers : Option (List ℕ)) → TakesIt config peers → TakesIt (between config x) peers
takes_between config x None h = h
takes_between config x (Some octets) h = h

never_between : (config x : Config) (peers : Option (List ℕ)) → ¬ TakesIt config peers → ¬ TakesIt (between config x) peers
never_between config x None never h = h
never_between config x (Some octets) never h = never h

abbrev Way : Config → Config → Option (List ℕ) → Type 0
Way config x peers =
    (TakesIt config peers × TakesIt x peers) ⊎ ((¬ TakesIt config peers) × FaultsIt x peers)

without_leads : (session : Session) (config x : Config) (peers : Option (List ℕ)) (records : List ShownRecord) (last : Member)
    → IsOf session None config → IsOf session None x → Way config x peers → IsStretch records → Each SendsNoOpen records
    → HasPeersOpen records peers → Leads (between config x) fresh_member records last
    → LeadsToo x fresh_member records last
without_leads session config x peers [] last e f way stretch none first leads = absurd stretch
without_leads session config x peers (r ∷ records) last e f way stretch none first leads =
    let similar = similar_between config x (f.0 ∙ sym e.0) in
    elim way [
      | inl takes ↦ takes_too (between config x) x similar peers (take_it (between config x) x peers (takes_between config x peers takes.0) takes.1)
          fresh_member last (r ∷ records) none (inl tt) stretch.1 first leads
      | inr never ↦ leads_too (between config x) x similar peers (refuse_it (between config x) x peers (never_between config x peers never.0) never.1)
          fresh_member last (r ∷ records) (each_pays_without (between config x) x (r ∷ records) none) stretch.1 first leads
    ]

-- ---- the laws

module _ (session : Session) (peers : Option (List ℕ)) (widest : List Config) (are : AreWidestWithout session peers widest) (Fact : Config → Type 0)
    (pass : (config x : Config) → IsOf session None config → IsOf session None x → IsWidest x → Way config x peers → Fact config → Fact x) where
  under_widest : (config : Config) → IsOf session None config → Fact config → Has Fact widest
  under_widest config is fact = elim (takes_or_not config peers) [
    | inl takes ↦ found (λ (a : Config). TakesIt a peers) (λ (a : Config). IsOf session None a × IsWidest a) Fact widest
        (are.takes config is takes) are.each (λ a it x. pass config a is x.0 x.1 (inl (takes, it)) fact)
    | inr never ↦ found (λ (b : Config). FaultsIt b peers) (λ (b : Config). IsOf session None b × IsWidest b) Fact widest
        are.faults are.each (λ b it x. pass config b is x.0 x.1 (inr (never, it)) fact)
  ]

  under_some : Has Fact widest → (config : Config) × IsOf session None config × Fact config
  under_some h = let k = some_of Fact (λ (c : Config). IsOf session None c × IsWidest c) widest h are.each in (k.0, k.1.0, k.2)

pub begins : EachOwedCanBeMet → WiderBegins → WithoutBegins
begins law wider session peers widest records are stretch none first =
    let Fact = λ (c : Config). Begins c records in
    let pass = λ (config x : Config) (e : IsOf session None config) (f : IsOf session None x) (w : IsWidest x) (way : Way config x peers) (b : Begins config records).
    let m = explained (between config x) records (wider config (between config x) records (between_is_wider config x w) b) in
    begins_too law x records m.0 (without_leads session config x peers records m.0 e f way stretch none first m.1) in
    (λ x. under_widest session peers widest are Fact pass x.0 x.1 x.2, under_some session peers widest are Fact pass)

pub complete : WiderIsComplete → WithoutIsComplete
complete wider session peers widest records end are stretch none first =
    let Fact = λ (c : Config). IsComplete c records end in
    let pass = λ (config x : Config) (e : IsOf session None config) (f : IsOf session None x) (w : IsWidest x) (way : Way config x peers) (b : IsComplete config records end).
    let m = explained_end (between config x) records end (wider config (between config x) records end (between_is_wider config x w) b) in
    complete_too x records end m.0 m.2 m.3 (without_leads session config x peers records m.0 e f way stretch none first m.1) in
    (λ x. under_widest session peers widest are Fact pass x.0 x.1 x.2, under_some session peers widest are Fact pass)
