-- A stretch that something explains under one configuration is explained under another whose peer's AS number is none of the peer's either.
use Rattle.std.proofs.Common.{◌≡◌, ℕ, List, [], ◌∷◌, Option, None, Some, inl, inr, refl, sym, ap, subst, ◌∙◌}
use Rattle.bgp_prefix.specs.Shown.{ShownRecord, Received, Sent, Changed}
use Rattle.bgp_wire.specs.Header.{header_of}
use Rattle.bgp_wire.specs.declared.header.Limit.TheVariants.{Plain}
use Rattle.bgp_open.specs.declared.config.Config.{Config}
use Rattle.bgp_open.specs.declared.subcodes.OpenSubcodes.{OpenSubcodes}
use Rattle.bgp_machine.specs.declared.state.Head.TheVariants.{Idle}
use Rattle.bgp_machine.specs.Heard.{Announces, received_limit}
use Rattle.bgp_machine.specs.Lists.{Each}
use Rattle.bgp_machine.specs.Owed.{EachOwedCanBeMet}
use Rattle.bgp_machine.specs.Run.{Begins, End, IsComplete, end_of}
use Rattle.bgp_judge.specs.Member.{Member, IsFree, fresh_member}
use Rattle.bgp_check.specs.Alike.{AreAlike}
use Rattle.bgp_check.specs.Another.{AnotherBegins, AnotherIsComplete, IsAnother, WantsAnother}
use Rattle.bgp_parts.specs.Opens.{HasPeersOpen, IsOpenMessage}
use Rattle.bgp_check.specs.Stretch.{AtMostTheLastLeaves, IsStretch}
use Rattle.bgp_check.proofs.Down.{NearMember, down_next, refused_next, same_if_free}
use Rattle.bgp_check.proofs.Explaining.{Leads, explained, explained_end, explains, explains_end}
use Rattle.bgp_check.proofs.OpenHeaders.{sound_too}
use Rattle.bgp_check.proofs.OtherParts.{alike_by, pays_alike}
use Rattle.bgp_check.proofs.Refused.{IsWithin, RefuseBoth, refuse_both, refusing}
use Rattle.bgp_check.proofs.Similar.{IsSimilar, PaysToo, announces_similar, next_similar, similar_by}

-- under the other configuration the records lead somewhere too: there, where nothing is owed
pub record LeadsToo (other : Config) (m : Member) (records : List ShownRecord) (last : Member) : Type 0 where
  pub member : Member
  pub leads : Leads other m records member
  pub same : IsFree last → member ≡ last

pub down_leads : (one other : Config) → IsSimilar one other → (e1 e2 : OpenSubcodes) → IsWithin e1 e2 → (m n last : Member) (records : List ShownRecord)
    → Each (PaysToo one other) records → NearMember e1 e2 m n → m.state.head ≡ Idle → AtMostTheLastLeaves records → Leads one m records last
    → LeadsToo other n records last
down_leads one other a e1 e2 within m n last [] pays near idle stay leads =
    record { member = n; leads = refl; same = λ free. same_if_free e1 e2 last n (subst (λ (v : Member). NearMember e1 e2 v n) leads near) free }
down_leads one other a e1 e2 within m n last (r ∷ []) pays near idle stay leads =
    let k = down_next one other a e1 e2 within r pays.0 m n leads.0 near idle leads.1 in
    record {
      member = k.member;
      leads = (k.member, k.next, refl);
      same = λ free. same_if_free e1 e2 last k.member (subst (λ (v : Member). NearMember e1 e2 v k.member) leads.2 k.near) free;
    }
down_leads one other a e1 e2 within m n last (r ∷ next ∷ records) pays near idle stay leads =
    let k = down_next one other a e1 e2 within r pays.0 m n leads.0 near idle leads.1 in
    let z = down_leads one other a e1 e2 within leads.0 k.member last (next ∷ records) pays.1 k.near (k.stays stay.0) stay.1 leads.2 in
    record { member = z.member; leads = (k.member, k.next, z.leads); same = z.same }

-- of the records after the first
abbrev pub Behind : List ShownRecord → Type 0
Behind [] = Unit {0}
Behind (r ∷ records) = AtMostTheLastLeaves records

pub behind : (records : List ShownRecord) → AtMostTheLastLeaves records → Behind records
behind [] stay = tt
behind (r ∷ []) stay = tt
behind (r ∷ next ∷ records) stay = stay.1

pub announced : (config : Config) (octets : List ℕ) → IsOpenMessage octets → Announces config 1 octets
announced config octets o = record {
  header = o.header;
  sound = sound_too Plain (received_limit config) (header_of octets) o.type_field o.sound;
  type_field = o.type_field;
}

pub announces : (config : Config) (octets : List ℕ) → Announces config 1 octets → IsOpenMessage octets
announces config octets a = record {
  header = a.header;
  sound = sound_too (received_limit config) Plain (header_of octets) a.type_field a.sound;
  type_field = a.type_field;
}

-- both have to refuse the OPEN, if there is one
abbrev pub RefuseIt : Config → Config → Option (List ℕ) → Type 0
RefuseIt one other None = Unit {0}
RefuseIt one other (Some octets) = RefuseBoth one other octets

pub leads_too : (one other : Config) → IsSimilar one other → (peers : Option (List ℕ)) → RefuseIt one other peers → (m last : Member)
    (records : List ShownRecord) → Each (PaysToo one other) records → Behind records → HasPeersOpen records peers
    → Leads one m records last → LeadsToo other m records last
leads_too one other a peers refuse m last [] pays stay first leads = record { member = last; leads = leads; same = λ free. refl }
leads_too one other a peers refuse m last (Received t octets ∷ records) pays stay first leads = elim first [
  | inl is ↦ (
      let announcing = announced one octets is.0 in
      let both = subst (λ (v : Option (List ℕ)). RefuseIt one other v) is.1 refuse in
      let e = refusing one other octets announcing (announces_similar one other a 1 octets announcing) both in
      let k = refused_next one other a t octets e.0 e.1 e.2 m leads.0 leads.1 in
      let z = down_leads one other a e.0 e.1 e.2.within leads.0 k.0 last records pays.1 k.2 k.3 stay leads.2 in
      record { member = z.member; leads = (k.0, k.1, z.leads); same = z.same }
      )
  | inr later ↦ (
      let z = leads_too one other a peers refuse leads.0 last records pays.1 (behind records stay) later.1 leads.2 in
      record {
        member = z.member;
        leads = (leads.0, next_similar one other a (Received t octets) (λ is. later.0 (announces one octets is)) pays.0 m leads.0 leads.1, z.leads);
        same = z.same;
      }
      )
]
leads_too one other a peers refuse m last (Sent t octets ∷ records) pays stay first leads =
    let z = leads_too one other a peers refuse leads.0 last records pays.1 (behind records stay) first leads.2 in
    record { member = z.member; leads = (leads.0, next_similar one other a (Sent t octets) (λ h. h) pays.0 m leads.0 leads.1, z.leads); same = z.same }
leads_too one other a peers refuse m last (Changed t old new ∷ records) pays stay first leads =
    let z = leads_too one other a peers refuse leads.0 last records pays.1 (behind records stay) first leads.2 in
    record { member = z.member; leads = (leads.0, next_similar one other a (Changed t old new) (λ h. h) pays.0 m leads.0 leads.1, z.leads); same = z.same }

-- ---- where the records lead somewhere too, they begin a run, and end so

pub begins_too : EachOwedCanBeMet → (other : Config) (records : List ShownRecord) (last : Member) → LeadsToo other fresh_member records last
    → Begins other records
begins_too law other records last z = explains law other records z.member z.leads

pub complete_too : (other : Config) (records : List ShownRecord) (end : End) (last : Member) → IsFree last → end_of last.state ≡ end
    → LeadsToo other fresh_member records last → IsComplete other records end
complete_too other records end last free ends z =
    let same = z.same free in
    explains_end other records end z.member z.leads (subst (λ (v : Member). IsFree v) (sym same) free)
    (ap (λ (v : Member). end_of v.state) same ∙ ends)

-- ---- another peer's AS number

similar : (peers : Option (List ℕ)) (one other : Config) → IsAnother peers one other → IsSimilar one other
similar peers one other a =
    similar_by one other one.parts.local_as other.parts.peer_as one.parts.local_id one.parts.hold one.parts.families one.parts.as4 one.parts.offers a.same

alike : (peers : Option (List ℕ)) (one other : Config) → IsAnother peers one other → AreAlike one other
alike peers one other a = alike_by one other other.parts.peer_as one.parts.delay_open one.parts.large_hold a.same

each_pays : (one other : Config) → AreAlike one other → (records : List ShownRecord) → Each (PaysToo one other) records
each_pays one other same [] = tt
each_pays one other same (r ∷ records) =
    (λ link wants change left still p. pays_alike one other same link r wants change left still p, each_pays one other same records)

refuse_it : (peers : Option (List ℕ)) (one other : Config) → IsAnother peers one other → WantsAnother one peers → WantsAnother other peers → RefuseIt one other peers
refuse_it None one other a w w2 = tt
refuse_it (Some octets) one other a w w2 = refuse_both one other octets a w w2

another_leads : (one other : Config) (records : List ShownRecord) (peers : Option (List ℕ)) (last : Member) → IsAnother peers one other → IsStretch records
    → HasPeersOpen records peers → WantsAnother one peers → WantsAnother other peers → Leads one fresh_member records last
    → LeadsToo other fresh_member records last
another_leads one other [] peers last a stretch first w w2 leads = absurd stretch
another_leads one other (r ∷ records) peers last a stretch first w w2 leads =
    leads_too one other (similar peers one other a) peers (refuse_it peers one other a w w2) fresh_member last (r ∷ records)
    (each_pays one other (alike peers one other a) (r ∷ records)) stretch.1 first leads

pub begins : EachOwedCanBeMet → AnotherBegins
begins law one other records peers a stretch first w w2 b =
    let m = explained one records b in
    begins_too law other records m.0 (another_leads one other records peers m.0 a stretch first w w2 m.1)

pub complete : AnotherIsComplete
complete one other records peers end a stretch first w w2 c =
    let m = explained_end one records end c in
    complete_too other records end m.0 m.2 m.3 (another_leads one other records peers m.0 a stretch first w w2 m.1)
